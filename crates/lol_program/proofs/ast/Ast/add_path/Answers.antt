use Rattle.lol_css.specs.declared.selector.SimpleSelector.TheViews.{out-ComplexSelector}
use Rattle.std.proofs.Common.{◌≡◌, List, Some, arith, subst}
use Rattle.std.proofs.lemmas.Result.{on_ok_weaker, on_err_weaker}
use Rattle.lol_css.specs.declared.selector.Combinator.{Combinator}
use Rattle.lol_program.specs.IdsForNodes.{id_in, Fits}
use Rattle.lol_program.specs.Views.{forest_of, steps_of, tests_of_compound}
use Rattle.lol_program.specs.Growth.{Adds, AddsFirst}
use Rattle.lol_program.specs.Indexed.{IsIndexed}
use Rattle.std.specs.declared.hash.DefaultHasher.{DefaultHasher}
use Rattle.lol_program.specs.declared.node_id.IdForNode.{IdForNode}
use Rattle.lol_css.specs.declared.selector.Compound as css
use Rattle.lol_program.proofs.Reserved.{fits_stay, all_stay}
use Rattle.lol_program.proofs.Adding.{added_pairs, added_nodes, first_pairs, first_nodes, keeps_either, keeps_all}
use Rattle.lol_program.proofs.Placed.{differ_after}
use Rattle.lol_program.proofs.Standing.{KeepsWith, adds_stands}
use Rattle.lol_program.proofs.ast.Ast.add_path.Goals as goal

pub invariant_of-self : goal.invariant_of-self
invariant_of-self c =
    record {
      counted = omega (arith, c.add_path.ensures.count, c.args.self.now.counted);
      siblings = differ_after c.add_path.result (id_in c.args.id) (tests_of_compound (out-ComplexSelector c.args.item.now).first) (steps_of c.deref.result.now) (forest_of c.args.self.now.root.items) (forest_of c.add_path.new.nodes.items) c.add_path.ensures.added c.add_path.ensures.partly c.args.self.now.siblings;
      indexed = subst (λ (list : DefaultHasher). IsIndexed c.add_path.new.node_index list (forest_of c.add_path.new.nodes.items)) c.root_list.ensures c.add_path.ensures.indexed;
    }

pub returns-clause-pairs : goal.returns-clause-pairs
returns-clause-pairs c =
    let old = forest_of c.args.self.now.root.items in
    let new = forest_of c.add_path.new.nodes.items in
    let first = tests_of_compound (out-ComplexSelector c.args.item.now).first in
    let id = id_in c.args.id in
    on_ok_weaker c.add_path.result (λ h. added_pairs first (steps_of (out-ComplexSelector c.args.item.now).rest.items) old new id (subst (λ (r : List (Combinator × css.Compound)). Adds id first (steps_of r) old new) c.deref.ensures.value h)) c.add_path.ensures.added

pub returns-clause-nodes : goal.returns-clause-nodes
returns-clause-nodes c =
    let old = forest_of c.args.self.now.root.items in
    let new = forest_of c.add_path.new.nodes.items in
    let first = tests_of_compound (out-ComplexSelector c.args.item.now).first in
    let id = id_in c.args.id in
    on_ok_weaker c.add_path.result (λ h. added_nodes first (steps_of (out-ComplexSelector c.args.item.now).rest.items) old new id (subst (λ (r : List (Combinator × css.Compound)). Adds id first (steps_of r) old new) c.deref.ensures.value h)) c.add_path.ensures.added

pub returns-clause-stands : goal.returns-clause-stands
returns-clause-stands c =
    let old = forest_of c.args.self.now.root.items in
    let new = forest_of c.add_path.new.nodes.items in
    let first = tests_of_compound (out-ComplexSelector c.args.item.now).first in
    let id = id_in c.args.id in
    on_ok_weaker c.add_path.result (λ h. adds_stands id first (steps_of (out-ComplexSelector c.args.item.now).rest.items) old new (subst (λ (r : List (Combinator × css.Compound)). Adds id first (steps_of r) old new) c.deref.ensures.value h)) c.add_path.ensures.added

pub returns-clause-refused_pairs : goal.returns-clause-refused_pairs
returns-clause-refused_pairs c =
    let old = forest_of c.args.self.now.root.items in
    let new = forest_of c.add_path.new.nodes.items in
    let first = tests_of_compound (out-ComplexSelector c.args.item.now).first in
    on_err_weaker c.add_path.result (λ h. first_pairs first (steps_of c.deref.result.now) old new h.0 h.1) c.add_path.ensures.partly

pub returns-clause-refused_nodes : goal.returns-clause-refused_nodes
returns-clause-refused_nodes c =
    let old = forest_of c.args.self.now.root.items in
    let new = forest_of c.add_path.new.nodes.items in
    let first = tests_of_compound (out-ComplexSelector c.args.item.now).first in
    on_err_weaker c.add_path.result (λ h. first_nodes first (steps_of (out-ComplexSelector c.args.item.now).rest.items) old new h.0 (subst (λ (r : List (Combinator × css.Compound)). AddsFirst h.0 first (steps_of r) old new) c.deref.ensures.value h.1)) c.add_path.ensures.partly

pub returns-clause-keeps : goal.returns-clause-keeps
returns-clause-keeps c =
    let old = forest_of c.args.self.now.root.items in
    let new = forest_of c.add_path.new.nodes.items in
    let first = tests_of_compound (out-ComplexSelector c.args.item.now).first in
    keeps_all old new (keeps_either first (steps_of c.deref.result.now) old new (λ ids. Unit {0}) (id_in c.args.id) (λ id e xs ys with h. tt) c.add_path.result c.add_path.ensures.added c.add_path.ensures.partly)

pub returns-clause-keeps_fit : goal.returns-clause-keeps_fit
returns-clause-keeps_fit c match_id items ids is fit =
    let old = forest_of c.args.self.now.root.items in
    let new = forest_of c.add_path.new.nodes.items in
    let first = tests_of_compound (out-ComplexSelector c.args.item.now).first in
    let rest = steps_of c.deref.result.now in
    let keeps : (given : IdForNode) → id_in given ≡ Some match_id → KeepsWith (Fits given) old new =
    λ given e. keeps_either first rest old new (Fits given) (id_in c.args.id) (fits_stay given (id_in c.args.id) match_id e is) c.add_path.result c.add_path.ensures.added c.add_path.ensures.partly in
    all_stay match_id old new keeps items ids fit
