use Rattle.std.proofs.Common.{◌++◌, List, [], ◌∷◌, length, map, inl, inr, ⊎_elim, arith, refl, sym, ap, subst, ◌∙◌, append_assoc, append-nil, true≢false, IsOk}
use Rattle.std.proofs.lemmas.List.{map-append}
use Rattle.lol_css.specs.declared.selector.ComplexSelector.{ComplexSelector}
use Rattle.lol_program.specs.Paths.{Path}
use Rattle.lol_program.specs.AstPaths.{path_shown, AllFit}
use Rattle.lol_program.specs.IdsForNodes.{pairs_with}
use Rattle.lol_program.specs.Sets.{Joins}
use Rattle.lol_program.specs.Asts.{trees_of, nodes_of, pairs_of}
use Rattle.lol_program.proofs.Joining.{Joins-none, Joins-both}
use Rattle.lol_program.proofs.PathLists.{all_of, all_of-append, all_of-one, pairs_for}
use Rattle.lol_program.proofs.Reserved.{first_fits, none_left}
use Rattle.lol_program.proofs.ast.Ast.add_id.Goals as goal

pub loop-item-init : goal.loop-item-init
loop-item-init c =
    let zip = c.zip-item-items.result in
    let is = c.into_iter-item-iterator.ensures.into_iter_gives in
    let paths = ap (λ z. z.a.rest.now) is ∙ ap (λ a. a.rest.now) c.zip-item-items.ensures.first ∙ c.iter.ensures.rest in
    let ids = ap (λ z. z.b.rest.items) is ∙ c.zip-item-items.ensures.second.0 in
    let count = ap (λ z. z.b.rest.len) is ∙ c.zip-item-items.ensures.second.1 ∙ c.in_ok-ids.ids.ok.0 in
    let trees = trees_of c.args.self.now in
    record {
      all = paths;
      left = count ∙ ap length (sym ids);
      pairs = Joins-none (pairs_of c.args.self.now) (pairs_of c.args.self.now) (λ x. (λ h. h, λ h. h));
      nodes = Joins-none (nodes_of c.args.self.now) (nodes_of c.args.self.now) (λ x. (λ h. h, λ h. h));
      fit = subst (λ l. AllFit c.args.match_id trees l c.into_iter-item-iterator.result.b.rest.items) (sym paths) (subst (AllFit c.args.match_id trees c.args.items.now) (sym ids) c.in_ok-ids.ensures);
      rows = refl;
    }

pub add_path-requires : goal.add_path-requires
add_path-requires c reserved =
    (first_fits c.args.match_id (trees_of c.loop-item.self) _ _ _ _ c.in-Some.item.now c.in-Some.id c.in-Some.ensures.steps.0 c.in-Some.ensures.steps.1.0 c.loop-item.invariant.fit).0.1

pub unreachable-requires : goal.unreachable-requires
unreachable-requires c =
    let fits = first_fits c.args.match_id (trees_of c.loop-item.self) _ _ _ _ c.in-Some.item.now c.in-Some.id c.in-Some.ensures.steps.0 c.in-Some.ensures.steps.1.0 c.loop-item.invariant.fit in
    true≢false (sym (subst IsOk c.in_default.is (c.add_path.ensures.no_memory fits.0.1)))

pub loop-item-preserved : goal.loop-item-preserved
loop-item-preserved c =
    let id = c.args.match_id in
    let old = c.args.self.now in
    let mid = c.loop-item.self in
    let new = c.add_path.new.self in
    let x = c.in-Some.item.now in
    let steps = c.in-Some.ensures.steps in
    let left = c.next.new.self.a.rest.now in
    let done = map (λ turn. turn.0.now) c.loop-item.yielded in
    let more = map-append (λ turn. turn.0.now) c.loop-item.yielded ((c.in-Some.item, c.in-Some.id) ∷ []) in
    let fits = first_fits id (trees_of mid) _ _ _ _ x c.in-Some.id steps.0 steps.1.0 c.loop-item.invariant.fit in
    let pairs = subst (λ given. Joins (pairs_of mid) (pairs_of new) (pairs_with given (path_shown x))) fits.0.0 c.in-Ok.ensures.pairs in
    record {
      all = ap (λ (l : List ComplexSelector). l ++ left) more ∙ append_assoc done (x ∷ []) left ∙ ap (λ (l : List ComplexSelector). done ++ l) (sym steps.0) ∙ c.loop-item.invariant.all;
      left = omega (arith, steps.1.1, c.loop-item.invariant.left, ap length steps.1.0);
      pairs = subst (Joins (pairs_of old) (pairs_of new)) (sym (ap (pairs_for id) more ∙ map-append (λ (path : ComplexSelector). (path_shown path, id)) done (x ∷ []))) (Joins-both (pairs_of old) (pairs_of mid) (pairs_of new) _ _ c.loop-item.invariant.pairs pairs);
      nodes = subst (Joins (nodes_of old) (nodes_of new)) (sym (ap all_of more ∙ all_of-append done (x ∷ []) ∙ ap (λ (l : List Path). all_of done ++ l) (all_of-one x))) (Joins-both (nodes_of old) (nodes_of mid) (nodes_of new) _ _ c.loop-item.invariant.nodes c.in-Ok.ensures.nodes);
      fit = c.add_path.ensures.keeps_fit id left c.next.new.self.b.rest.items fits.0.0 fits.1;
      rows = c.add_path.ensures.rows ∙ c.loop-item.invariant.rows;
    }

pub returns-clause-pairs : goal.returns-clause-pairs
returns-clause-pairs c =
    let done = map (λ turn. turn.0.now) c.loop-item.yielded in
    let none = none_left c.args.match_id (trees_of c.loop-item.self) _ _ c.loop-item.invariant.fit (⊎_elim (λ h. inl h.1.0) (λ h. inr (sym c.loop-item.invariant.left ∙ h.1.0)) c.in-None.ensures.steps) in
    let all = sym (append-nil done) ∙ ap (λ (l : List ComplexSelector). done ++ l) (sym none) ∙ c.loop-item.invariant.all in
    subst (λ (l : List ComplexSelector). Joins (pairs_of c.args.self.now) (pairs_of c.loop-item.self) (pairs_for c.args.match_id l)) all c.loop-item.invariant.pairs

pub returns-clause-nodes : goal.returns-clause-nodes
returns-clause-nodes c =
    let done = map (λ turn. turn.0.now) c.loop-item.yielded in
    let none = none_left c.args.match_id (trees_of c.loop-item.self) _ _ c.loop-item.invariant.fit (⊎_elim (λ h. inl h.1.0) (λ h. inr (sym c.loop-item.invariant.left ∙ h.1.0)) c.in-None.ensures.steps) in
    let all = sym (append-nil done) ∙ ap (λ (l : List ComplexSelector). done ++ l) (sym none) ∙ c.loop-item.invariant.all in
    subst (λ (l : List ComplexSelector). Joins (nodes_of c.args.self.now) (nodes_of c.loop-item.self) (all_of l)) all c.loop-item.invariant.nodes
