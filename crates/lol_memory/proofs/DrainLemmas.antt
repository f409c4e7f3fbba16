-- What runs of calls of `next` give.
use Rattle.std.proofs.Common.{[], ◌∷◌, length, refl, ap, subst, ◌∙◌}
use Rattle.std.specs.Iterator.Runs.{YieldsInOrder}
use Rattle.std.proofs.iter.runs.Sources.{from_front, as_is}
use Rattle.lol_memory.specs.declared.limited_vec.Drain.{Drain}
use Rattle.lol_memory.specs.Drain.{drain_rest, DrainSteps, DrainKeeps, DrainKeepsAlong}

module _ {T : Type 0} where
  pub drain_runs : YieldsInOrder (DrainSteps {T = T}) drain_rest
  drain_runs p s = as_is p (drain_rest p.from) (from_front (DrainSteps {T = T}) (λ x. x) drain_rest (λ s t h. ap length h.0) (λ s x t h. h.0) p s)

  pub drain_keeps_along : (first : Drain T) → DrainKeepsAlong first
  drain_keeps_along first [] later run = subst (DrainKeeps first) run (refl, refl)
  drain_keeps_along first (item ∷ items) later run =
      let step = run.1.1 in
      let rest = drain_keeps_along run.0 items later run.2 in
      (rest.0 ∙ step.0, rest.1 ∙ step.1)
