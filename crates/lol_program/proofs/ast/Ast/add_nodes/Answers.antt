use Rattle.std.proofs.Common.{◌+◌, take, List, arith, subst, sym, ◌∙◌}
use Rattle.std.specs.Prelude.{Contains}
use Rattle.lol_program.specs.Paths.{Path, beginnings}
use Rattle.lol_program.specs.AstPaths.{path_shown, AllIn}
use Rattle.lol_program.specs.Sets.{Joins}
use Rattle.lol_program.specs.Asts.{trees_of, nodes_of, pairs_of}
use Rattle.lol_css.specs.declared.selector.ComplexSelector.{ComplexSelector}
use Rattle.std.proofs.lemmas.List.Elements.{Contains-append_right}
use Rattle.lol_program.proofs.Joining.{SameMembers-both, SameMembers-from, Joins-both, IsBetween-joined, IsBetween-more, IsBetween-both}
use Rattle.lol_program.proofs.PathLists.{all_of, all_of-more, all_taken, part_of_all, AllIn-more, on_err}
use Rattle.lol_program.proofs.ast.Ast.add_nodes.Goals as goal

pub returns-in_err-add_path-clause-pairs : goal.returns-in_err-add_path-clause-pairs
returns-in_err-add_path-clause-pairs c =
    SameMembers-both (pairs_of c.args.self.now) (pairs_of c.loop-item.self) (pairs_of c.add_path.new.self) c.loop-item.invariant.pairs c.in_err-add_path.ensures.refused_pairs

pub returns-in_err-add_path-clause-refused_nodes : goal.returns-in_err-add_path-clause-refused_nodes
returns-in_err-add_path-clause-refused_nodes c =
    let paths = c.args.items.now in
    let i = c.loop-item.item-index in
    let x = c.item-item.result in
    let old = nodes_of c.args.self.now in
    let mid = nodes_of c.loop-item.self in
    let new = nodes_of c.add_path.new.self in
    let all = all_of-more paths i x c.loop-item-test.true c.item-item.is in
    on_err c.from_residual.result
    (IsBetween-both old mid new (all_of paths)
    (IsBetween-more old mid _ (all_of paths) (λ path h. part_of_all paths i path h) (IsBetween-joined old mid _ c.loop-item.invariant.nodes))
    (IsBetween-more mid new _ (all_of paths) (λ path h. part_of_all paths (i + 1) path (subst (λ (l : List Path). Contains l path) (sym all) (Contains-append_right (all_of (take i paths)) (beginnings (path_shown x)) path h))) c.in_err-add_path.ensures.refused_nodes))

pub loop-item-preserved : goal.loop-item-preserved
loop-item-preserved c =
    let paths = c.args.items.now in
    let i = c.loop-item.item-index in
    let x = c.item-item.result in
    let all = all_of-more paths i x c.loop-item-test.true c.item-item.is in
    record {
      pairs = SameMembers-both (pairs_of c.args.self.now) (pairs_of c.loop-item.self) (pairs_of c.add_path.new.self) c.loop-item.invariant.pairs (SameMembers-from (pairs_of c.loop-item.self) (pairs_of c.add_path.new.self) c.in_ok-add_path.ensures.pairs);
      nodes = subst (Joins (nodes_of c.args.self.now) (nodes_of c.add_path.new.self)) (sym all) (Joins-both (nodes_of c.args.self.now) (nodes_of c.loop-item.self) (nodes_of c.add_path.new.self) _ _ c.loop-item.invariant.nodes c.in_ok-add_path.ensures.nodes);
      stand = AllIn-more (trees_of c.add_path.new.self) paths i x c.loop-item-test.true c.item-item.is (c.add_path.ensures.keeps _ c.loop-item.invariant.stand) c.in_ok-add_path.ensures.stands;
      rows = c.add_path.ensures.rows ∙ c.loop-item.invariant.rows;
    }

pub returns-clause-nodes : goal.returns-clause-nodes
returns-clause-nodes c =
    subst (λ (l : List ComplexSelector). Joins (nodes_of c.args.self.now) (nodes_of c.loop-item.self) (all_of l)) (all_taken c.args.items.now c.loop-item.item-index (omega arith)) c.loop-item.invariant.nodes

pub returns-clause-stands : goal.returns-clause-stands
returns-clause-stands c = subst (AllIn (trees_of c.loop-item.self)) (all_taken c.args.items.now c.loop-item.item-index (omega arith)) c.loop-item.invariant.stand
