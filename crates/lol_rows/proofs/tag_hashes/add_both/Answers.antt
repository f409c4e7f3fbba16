use Rattle.std.proofs.Common.{◌++◌, [], ◌∷◌, ap, append_assoc, refl, ◌∙◌}
use Rattle.lol_rows.proofs.PairLemmas.{all_added, same_among, some_added}
use Rattle.lol_rows.proofs.tag_hashes.add_both.Goals as goal

pub returns-in_err-push : goal.returns-in_err-push
returns-in_err-push c =
    let old = c.args.hashes.now.items in
    let added = c.args.unnamed ∷ c.args.named ∷ [] in
    some_added c.from_residual.result old c.push.new.self.items old added added c.from_residual.ensures.0 (same_among c.push.new.self.items old c.in_err-push.ensures.items) refl

pub returns-in_err-push-2 : goal.returns-in_err-push-2
returns-in_err-push-2 c =
    let old = c.args.hashes.now.items in
    let first = old ++ c.args.unnamed ∷ [] in
    some_added c.from_residual-in_err-push-2.result old c.push-2.new.self.items first (c.args.named ∷ []) (c.args.unnamed ∷ c.args.named ∷ []) c.from_residual-in_err-push-2.ensures.0
    (same_among c.push-2.new.self.items first (c.in_err-push-2.ensures.items ∙ c.in_ok-push.ensures.items)) (append_assoc old (c.args.unnamed ∷ []) (c.args.named ∷ []))

pub returns : goal.returns
returns c =
    let old = c.args.hashes.now.items in
    all_added old c.push-2.new.self.items (c.args.unnamed ∷ c.args.named ∷ [])
    (c.in_ok-push-2.ensures.items ∙ ap (λ l. l ++ c.args.named ∷ []) c.in_ok-push.ensures.items ∙ append_assoc old (c.args.unnamed ∷ []) (c.args.named ∷ []))
