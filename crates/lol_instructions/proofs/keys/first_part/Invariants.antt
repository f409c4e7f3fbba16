use Rattle.std.proofs.Common.{◌≡◌, drop, map}
use Rattle.lol_instructions.specs.CompiledKeys.{compiled_key_test}
use Rattle.lol_instructions.specs.Keys.{first_read, read_part}
use Rattle.lol_instructions.proofs.keys.first_part.Given as goal

-- no test so far gives anything
abbrev pub invariant-loop-test : goal.invariant-loop-test
invariant-loop-test l =
    first_read read_part (map compiled_key_test (drop l.test-index l.tests)) ≡ first_read read_part (map compiled_key_test l.tests)
