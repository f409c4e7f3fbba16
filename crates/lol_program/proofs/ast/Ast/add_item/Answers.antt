use Rattle.std.proofs.Common.{◌∷◌, [], subst}
use Rattle.std.proofs.lemmas.Result.{on_ok_weaker, on_err_weaker}
use Rattle.lol_program.specs.Paths.{Path, beginnings}
use Rattle.lol_program.specs.Sets.{Joins, IsBetween}
use Rattle.lol_program.specs.Asts.{nodes_of, pairs_of}
use Rattle.lol_program.proofs.Items.{shown-path_of}
use Rattle.lol_program.proofs.ast.Ast.add_item.Goals as goal

pub returns-clause-pairs : goal.returns-clause-pairs
returns-clause-pairs c =
    on_ok_weaker c.add_path.result (λ j. subst (λ (path : Path). Joins (pairs_of c.args.self.now) (pairs_of c.add_path.new.self) ((path, c.args.match_id) ∷ [])) (shown-path_of c.args.item.now) j) c.add_path.ensures.pairs

pub returns-clause-nodes : goal.returns-clause-nodes
returns-clause-nodes c =
    on_ok_weaker c.add_path.result (λ j. subst (λ (path : Path). Joins (nodes_of c.args.self.now) (nodes_of c.add_path.new.self) (beginnings path)) (shown-path_of c.args.item.now) j) c.add_path.ensures.nodes

pub returns-clause-refused_nodes : goal.returns-clause-refused_nodes
returns-clause-refused_nodes c =
    on_err_weaker c.add_path.result (λ b. subst (λ (path : Path). IsBetween (nodes_of c.args.self.now) (nodes_of c.add_path.new.self) (beginnings path)) (shown-path_of c.args.item.now) b) c.add_path.ensures.refused_nodes
