use Rattle.std.proofs.Common.{◌+◌, List, [], ◌∷◌, ◌++◌, sym, subst, take}
use Rattle.std.proofs.lemmas.Slice.Zip.{all_zipped_more}
use Rattle.lol_css.specs.declared.selector.ComplexSelector.{ComplexSelector}
use Rattle.lol_program.specs.AstPaths.{FitsPath, AllFit}
use Rattle.lol_program.specs.Asts.{trees_of}
use Rattle.lol_program.specs.declared.node_id.IdForNode.{IdForNode}
use Rattle.lol_program.proofs.PathLists.{one_more, AllIn-at}
use Rattle.lol_program.proofs.ast.Ast.reserve_ids.Goals as goal

pub reserve_id-requires-clause-stands : goal.reserve_id-requires-clause-stands
reserve_id-requires-clause-stands c =
    rw (c.deref-in-loop-item.ensures.value, c.deref.ensures.value)
    (AllIn-at (trees_of c.args.self.now) c.args.items.now c.loop-item.item-index c.item-item.result c.loop-item-test.true c.item-item.is c.requires)

pub loop-item-preserved : goal.loop-item-preserved
loop-item-preserved c =
    let id = c.args.match_id in
    let trees = trees_of c.args.self.now in
    let items = c.args.items.now in
    let i = c.loop-item.item-index in
    let x = c.item-item.result in
    let reserved = c.in_ok-id.id in
    let fits = rw (c.deref-in-loop-item.ensures.value, c.deref.ensures.value) at c.in_ok-id.ensures.fits in
    let more = all_zipped_more (FitsPath id trees) (take i items) c.loop-item.ids.items x reserved c.loop-item.invariant (c.in_ok-id.ensures.given, fits) in
    subst (AllFit id trees (take (i + 1) items)) (sym {A = List IdForNode} c.in_ok-push.ensures.items)
    (subst (λ (l : List ComplexSelector). AllFit id trees l (c.loop-item.ids.items ++ reserved ∷ [])) (sym (one_more items i x c.loop-item-test.true c.item-item.is)) more)
