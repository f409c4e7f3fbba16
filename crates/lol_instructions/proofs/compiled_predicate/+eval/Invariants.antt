use Rattle.std.proofs.Common.{◌≡◌, true, drop}
use Rattle.std.specs.List.{list_any, list_all}
use Rattle.lol_instructions.specs.Compiled.{sight}
use Rattle.lol_instructions.specs.CompiledRowLaws.{passes, passes_predicate}
use Rattle.lol_instructions.proofs.compiled_predicate.+eval.Given as goal

abbrev pub invariant-CompiledPredicate::eval-loop-i : goal.invariant-CompiledPredicate::eval-loop-i
invariant-CompiledPredicate::eval-loop-i l = list_all (passes (sight l.state l.local_name) l.matcher) (drop l.i l.self.tests.items) ≡ true

abbrev pub invariant-some_hold-loop-predicate : goal.invariant-some_hold-loop-predicate
invariant-some_hold-loop-predicate l =
    list_any (passes_predicate (sight l.state l.local_name) l.matcher) l.predicates
    ≡ list_any (passes_predicate (sight l.state l.local_name) l.matcher) (drop l.predicate-index l.predicates)
