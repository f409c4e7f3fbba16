use Rattle.std.proofs.Common.{rules, ◌≡◌, ◌++◌, ◌∷◌, [], List, ℕ, map, reverse, sym, ap, ◌∙◌, Bor}
use Rattle.std.specs.Prelude.{decimal}
use Rattle.std.specs.List.{flat_map}
use Rattle.std.proofs.lemmas.Iterator.Adapters.{YieldsList-from_rev_slice}
use Rattle.std.proofs.lemmas.Iterator.Consumers.{YieldsList-end}
use Rattle.std.proofs.lemmas.List.{append_assoc, reverse-append}
use Rattle.std.proofs.lemmas.List.Folds.{flat_map-map}
use Rattle.lol_script.specs.Output.{comma_list}
use Rattle.lol_script.proofs.Commas.{listed_is}
use Rattle.lol_script.proofs.output.push_outermost_first.Goals as goal

pub returns : goal.returns
returns c =
    let t0 = c.args.text.now.items in
    let o = c.in-Some.outermost.now in
    let inner = c.in-Some.inner.now in
    let now = λ (n : Bor ℕ). n.now in
    let comma = λ (n : ℕ). 44 ∷ decimal n in
    let all = YieldsList-end (YieldsList-from_rev_slice inner (cc)) c.loop-number.yielded _ c.loop-number.yielded_by _ _ c.in-None.is c.next.ensures.steps in
    let fields : flat_map (λ (n : Bor ℕ). comma n.now) c.loop-number.yielded ≡ flat_map comma (reverse inner) = sym (flat_map-map comma now c.loop-number.yielded) ∙ ap (flat_map comma) all.0 in
    let split : c.args.witness.now ≡ inner ++ o ∷ [] = search rules in
    let turned : reverse c.args.witness.now ≡ o ∷ reverse inner = ap reverse split ∙ reverse-append inner (o ∷ []) in
    c.loop-number.invariant ∙ ((λ i. c.in_ok-push_number.ensures i ++ fields i)
    ∙ (append_assoc t0 (decimal o) (flat_map comma (reverse inner))
    ∙ ap (λ (l : List ℕ). t0 ++ l) (sym (ap (λ (l : List ℕ). comma_list (map decimal l)) turned ∙ listed_is decimal o (reverse inner)))))
