use Rattle.std.proofs.Common.{sym, ◌∙◌}
use Rattle.lol_program.specs.Paths.{First}
use Rattle.lol_program.specs.Asts.{trees_of, nodes_of}
use Rattle.lol_program.specs.NodeListLaws.{size-nodes}
use Rattle.lol_program.specs.NodeOnceLaws.{nodes_distinct, AllPairs-from_Distinct}
use Rattle.lol_program.proofs.ast.Ast.cumulative_node_count.Goals as goal

pub returns-clause-count : goal.returns-clause-count
returns-clause-count c = c.args.self.now.counted ∙ sym (size-nodes First (trees_of c.args.self.now))

pub returns-clause-each_once : goal.returns-clause-each_once
returns-clause-each_once c = AllPairs-from_Distinct (nodes_of c.args.self.now) (nodes_distinct (trees_of c.args.self.now) c.args.self.now.siblings)
