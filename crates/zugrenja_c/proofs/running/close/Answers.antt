-- each call of the handler keeps one more
use Rattle.std.proofs.Common.{rules, ◌≡◌, ℕ, List, refl}
use Rattle.std.specs.Prelude.{Option}
use Rattle.std.proofs.lemmas.Fn.{chained_keeps}
use Rattle.lol_matcher.specs.declared.open_element.OpenElement.{OpenElement}
use Rattle.zugrenja_c.specs.Tags.{HasClosed}
use Rattle.zugrenja_c.proofs.running.close.Goals as goal

pub returns-clause-closed : goal.returns-clause-closed
returns-clause-closed c room none =
    let all = chained_keeps _ (λ (xs : List (OpenElement ℕ)) q. (q.0.ghost_name ≡ c.handler-1.given) × HasClosed room xs q.0.now) (λ xs q x v j k. search (rules, j, k)) _ _ _ (refl, none) c.end_with.ensures.called in
    search (rules, all.0, all.1)
