use Rattle.std.proofs.Common.{◌∙◌, sym, ap, ◌∷◌, [], length, length-append, arith}
use Rattle.std.proofs.lemmas.Grind.{common_steps}
use Rattle.lol_stack.specs.TypedCounts.{cut_to}
use Rattle.lol_stack.specs.TypedListLaws.{cut_to-above}
use Rattle.lol_stack.proofs.counters.TypedChildCounterMap.pop_to.Goals as goal

pub loop-preserved : goal.loop-preserved
loop-preserved c =
    let popped = c.loop-test.ensures in
    let left = c.pop_above.new.self in
    record {
      kept = sym (ap (cut_to c.args.index) popped.1 ∙ cut_to-above c.args.index left popped.0 popped.2) ∙ c.loop.invariant.kept;
      fewer = omega (arith, ap length popped.1, length-append left (popped.0 ∷ []));
    }

pub returns-clause-dropped : goal.returns-clause-dropped
returns-clause-dropped c = grind (arith, common_steps)
