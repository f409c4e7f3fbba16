use Rattle.std.proofs.Common.{◌≡◌, map, Bor}
use Rattle.lol_css.specs.declared.selector.SimpleSelector.{SimpleSelector}
use Rattle.lol_program.specs.Predicates.{test_shown}
use Rattle.lol_program.proofs.Tests.{test_in}
use Rattle.lol_program.proofs.predicate.Predicate.from_compound.Given as goal

abbrev pub invariant-loop-part : goal.invariant-loop-part
invariant-loop-part l = map test_shown l.tests.items ≡ map test_in (map (λ (part : Bor SimpleSelector). part.now) l.yielded)
