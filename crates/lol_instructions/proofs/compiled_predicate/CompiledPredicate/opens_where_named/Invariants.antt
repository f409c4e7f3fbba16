use Rattle.std.proofs.Common.{◌≡◌, drop, map}
use Rattle.lol_instructions.specs.CompiledKeys.{compiled_key_test}
use Rattle.lol_instructions.specs.Keys.{opens_where_named}
use Rattle.lol_instructions.specs.OpenKeyLaws.{opens_after}
use Rattle.lol_instructions.proofs.compiled_predicate.CompiledPredicate.opens_where_named.Given as goal

-- what is left decides
abbrev pub invariant-loop-test : goal.invariant-loop-test
invariant-loop-test l =
    opens_after l.is_named l.opens (map compiled_key_test (drop l.test-index l.test-items)) ≡ opens_where_named (map compiled_key_test l.test-items)
