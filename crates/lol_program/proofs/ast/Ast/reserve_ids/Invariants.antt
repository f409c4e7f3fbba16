use Rattle.std.proofs.Common.{take}
use Rattle.lol_program.specs.AstPaths.{AllFit}
use Rattle.lol_program.specs.Asts.{trees_of}
use Rattle.lol_program.proofs.ast.Ast.reserve_ids.Given as goal

abbrev pub invariant-loop-item : goal.invariant-loop-item
invariant-loop-item l = AllFit l.match_id (trees_of l.self) (take l.item-index l.items) l.ids.items
