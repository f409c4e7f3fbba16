use Rattle.std.proofs.Common.{rules}
use Rattle.lol_program.proofs.ast.Ast.with_rows_from.Goals as goal

pub returns-then-cumulative_node_count-fewest-clause-rows : goal.returns-then-cumulative_node_count-fewest-clause-rows
returns-then-cumulative_node_count-fewest-clause-rows c = search rules
