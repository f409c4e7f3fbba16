use Rattle.std.proofs.Common.{arith, List, sym, ap, subst, ◌∙◌}
use Rattle.std.proofs.lemmas.Result.{on_ok_weaker, on_err_weaker}
use Rattle.lol_program.specs.Sets.{Joins, IsBetween}
use Rattle.lol_program.specs.Asts.{nodes_of, pairs_of}
use Rattle.lol_program.proofs.Joining.{SameMembers-both, Joins-after_same, Joins-again, IsBetween-joined, IsBetween-both}
use Rattle.lol_program.proofs.PathLists.{all_of, all_of-one, pairs_for, one_item, on_err}
use Rattle.lol_program.proofs.Selectors.{pairs_are, beginnings_are}
use Rattle.lol_css.specs.declared.selector.ComplexSelector.{ComplexSelector}
use Rattle.lol_css.specs.declared.selector.SelectorList.{SelectorList}
use Rattle.lol_css.specs.declared.selector.SimpleSelector.TheViews.{out-SelectorList}
use Rattle.lol_program.proofs.ast.Ast.add_selector.Goals as goal

abbrev items_in : SelectorList → List ComplexSelector
items_in list = (out-SelectorList list).items.items

pub returns-in-len1-clause-pairs : goal.returns-in-len1-clause-pairs
returns-in-len1-clause-pairs c =
    let id = c.args.match_id in
    let only = one_item c.as_slice.result.now c.item-item.result (omega (arith, c.in-len1.len_at_least)) (omega (arith, c.in-len1.len_below)) c.item-item.is in
    let all = ap (pairs_for id) (sym only) ∙ pairs_are c.args.selector.now c.as_slice.result.now (c.as_slice.ensures.value ∙ ap items_in c.list.ensures) id in
    on_ok_weaker c.add_path.result (λ j. subst (Joins (pairs_of c.args.self.now) (pairs_of c.add_path.new.self)) all j) c.add_path.ensures.pairs

pub returns-in-len1-clause-nodes : goal.returns-in-len1-clause-nodes
returns-in-len1-clause-nodes c =
    let only = one_item c.as_slice.result.now c.item-item.result (omega (arith, c.in-len1.len_at_least)) (omega (arith, c.in-len1.len_below)) c.item-item.is in
    let all = sym (all_of-one c.item-item.result) ∙ ap all_of (sym only) ∙ beginnings_are c.args.selector.now c.as_slice.result.now (c.as_slice.ensures.value ∙ ap items_in c.list.ensures) c.args.match_id in
    on_ok_weaker c.add_path.result (λ j. subst (Joins (nodes_of c.args.self.now) (nodes_of c.add_path.new.self)) all j) c.add_path.ensures.nodes

pub returns-in-len1-clause-refused_nodes : goal.returns-in-len1-clause-refused_nodes
returns-in-len1-clause-refused_nodes c =
    let only = one_item c.as_slice.result.now c.item-item.result (omega (arith, c.in-len1.len_at_least)) (omega (arith, c.in-len1.len_below)) c.item-item.is in
    let all = sym (all_of-one c.item-item.result) ∙ ap all_of (sym only) ∙ beginnings_are c.args.selector.now c.as_slice.result.now (c.as_slice.ensures.value ∙ ap items_in c.list.ensures) c.args.match_id in
    on_err_weaker c.add_path.result (λ b. subst (IsBetween (nodes_of c.args.self.now) (nodes_of c.add_path.new.self)) all b) c.add_path.ensures.refused_nodes

pub returns-in_err-add_nodes-in_default-clause-refused_nodes : goal.returns-in_err-add_nodes-in_default-clause-refused_nodes
returns-in_err-add_nodes-in_default-clause-refused_nodes c =
    let all = beginnings_are c.args.selector.now c.as_slice.result.now (c.as_slice.ensures.value ∙ ap items_in c.list.ensures) c.args.match_id in
    on_err c.from_residual.result (subst (IsBetween (nodes_of c.args.self.now) (nodes_of c.add_nodes.new.self)) all c.in_err-add_nodes-in_default.ensures.refused_nodes)

pub returns-in_ok-add_nodes-in_default-clause-pairs : goal.returns-in_ok-add_nodes-in_default-clause-pairs
returns-in_ok-add_nodes-in_default-clause-pairs c =
    let all = pairs_are c.args.selector.now c.as_slice.result.now (c.as_slice.ensures.value ∙ ap items_in c.list.ensures) c.args.match_id in
    on_ok_weaker c.add_id.result
    (λ j. subst (Joins (pairs_of c.args.self.now) (pairs_of c.add_id.new.self)) all (Joins-after_same (pairs_of c.args.self.now) (pairs_of c.add_nodes.new.self) (pairs_of c.add_id.new.self) _ c.add_nodes.ensures.pairs j))
    c.add_id.ensures.pairs

pub returns-in_ok-add_nodes-in_default-clause-nodes : goal.returns-in_ok-add_nodes-in_default-clause-nodes
returns-in_ok-add_nodes-in_default-clause-nodes c =
    let old = nodes_of c.args.self.now in
    let mid = nodes_of c.add_nodes.new.self in
    let new = nodes_of c.add_id.new.self in
    let all = beginnings_are c.args.selector.now c.as_slice.result.now (c.as_slice.ensures.value ∙ ap items_in c.list.ensures) c.args.match_id in
    on_ok_weaker c.add_id.result (λ j. Joins-again old mid new _ (subst (Joins old mid) all c.in_ok-add_nodes-in_default.ensures.nodes) (subst (Joins mid new) all j)) c.add_id.ensures.nodes

pub returns-in_ok-add_nodes-in_default-clause-refused_pairs : goal.returns-in_ok-add_nodes-in_default-clause-refused_pairs
returns-in_ok-add_nodes-in_default-clause-refused_pairs c =
    on_err_weaker c.add_id.result (λ s. SameMembers-both (pairs_of c.args.self.now) (pairs_of c.add_nodes.new.self) (pairs_of c.add_id.new.self) c.add_nodes.ensures.pairs s) c.add_id.ensures.refused_pairs

pub returns-in_ok-add_nodes-in_default-clause-refused_nodes : goal.returns-in_ok-add_nodes-in_default-clause-refused_nodes
returns-in_ok-add_nodes-in_default-clause-refused_nodes c =
    let old = nodes_of c.args.self.now in
    let mid = nodes_of c.add_nodes.new.self in
    let new = nodes_of c.add_id.new.self in
    let all = beginnings_are c.args.selector.now c.as_slice.result.now (c.as_slice.ensures.value ∙ ap items_in c.list.ensures) c.args.match_id in
    on_err_weaker c.add_id.result
    (λ b. IsBetween-both old mid new _ (IsBetween-joined old mid _ (subst (Joins old mid) all c.in_ok-add_nodes-in_default.ensures.nodes)) (subst (IsBetween mid new) all b))
    c.add_id.ensures.refused_nodes
