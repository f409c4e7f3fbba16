use Rattle.std.proofs.Common.{◌≡◌, drop, map}
use Rattle.lol_instructions.specs.CompiledKeys.{compiled_key_test}
use Rattle.lol_instructions.specs.Keys.{first_read, read_name}
use Rattle.lol_instructions.proofs.compiled_predicate.CompiledPredicate.name_key.Given as goal

-- no test so far is of a name
abbrev pub invariant-loop-test : goal.invariant-loop-test
invariant-loop-test l =
    first_read read_name (map compiled_key_test (drop l.test-index l.test-items)) ≡ first_read read_name (map compiled_key_test l.test-items)
