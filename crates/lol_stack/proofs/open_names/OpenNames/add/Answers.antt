use Rattle.std.proofs.Common.{◌∙◌, sym, ap, subst, Some, ◌++◌, ◌∷◌, []}
use Rattle.lol_stack.specs.NameMaps.{IsPutAt}
use Rattle.lol_stack.specs.declared.open_names.Depths.TheVariants.{One}
use Rattle.lol_stack.specs.OpenDepths.{depths_if}
use Rattle.lol_stack.proofs.OpenNameLemmas.{put-twice, read-put, read-kept}
use Rattle.lol_stack.proofs.Refusals.{on_err_then, on_ok_then}
use Rattle.lol_stack.proofs.open_names.OpenNames.add.Goals as goal

pub returns-in-Ok-clause-err : goal.returns-in-Ok-clause-err
returns-in-Ok-clause-err c q =
    let name = c.args.name.now in
    let stands = c.replace-depths.ensures.stands name c.in-Ok.ensures.place in
    let was = ap depths_if (c.replace-depths.ensures.was name c.in-Ok.ensures.place) in
    let put =
    put-twice c.args.self.now.map c.replace-depths.new.self c.replace.new.self name _ (Some c.push-added.new.self)
    (c.replace-depths.ensures.is name c.in-Ok.ensures.place) (c.replace.ensures.is name stands)
    in
    on_err_then c.push-added.result c.push-added.ensures.err
    (λ same. read-kept depths_if c.args.self.now.map c.replace.new.self name (Some c.push-added.new.self) put (same ∙ sym was) q)

pub returns-in_ok-key-in-Err-clause-ok : goal.returns-in_ok-key-in-Err-clause-ok
returns-in_ok-key-in-Err-clause-ok c q =
    let none = ap depths_if c.in-Err.ensures.missing in
    let name = c.args.name.now in
    on_ok_then c.insert.result c.insert.ensures.ok
    (λ put.
    read-put depths_if (λ xs. xs ++ c.args.depth ∷ []) c.args.self.now.map c.insert.new.self name (Some (One c.args.depth))
    (subst (λ k. IsPutAt k (Some (One c.args.depth)) c.args.self.now.map c.insert.new.self) c.in_ok-key-in-Err.ensures.same put)
    (ap (λ xs. xs ++ c.args.depth ∷ []) (sym none)) q)

pub returns-in-Ok-clause-ok : goal.returns-in-Ok-clause-ok
returns-in-Ok-clause-ok c q =
    let name = c.args.name.now in
    let stands = c.replace-depths.ensures.stands name c.in-Ok.ensures.place in
    let was = ap depths_if (c.replace-depths.ensures.was name c.in-Ok.ensures.place) in
    let put =
    put-twice c.args.self.now.map c.replace-depths.new.self c.replace.new.self name _ (Some c.push-added.new.self)
    (c.replace-depths.ensures.is name c.in-Ok.ensures.place) (c.replace.ensures.is name stands)
    in
    on_ok_then c.push-added.result c.push-added.ensures.ok
    (λ added.
    read-put depths_if (λ xs. xs ++ c.args.depth ∷ []) c.args.self.now.map c.replace.new.self name (Some c.push-added.new.self) put
    (added ∙ ap (λ xs. xs ++ c.args.depth ∷ []) (sym was)) q)

pub returns-in_ok-key-in-Err-clause-err : goal.returns-in_ok-key-in-Err-clause-err
returns-in_ok-key-in-Err-clause-err c q = on_err_then c.insert.result (c.insert.ensures.err q) (ap depths_if)
