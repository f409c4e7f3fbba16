use Rattle.std.proofs.Common.{◌≡◌, map, take}
use Rattle.std.specs.Prelude.{flat_map}
use Rattle.lol_program.specs.Paths.{beginnings}
use Rattle.lol_program.specs.AstPaths.{path_shown, AllIn}
use Rattle.lol_program.specs.Sets.{Joins, SameMembers}
use Rattle.lol_program.specs.Asts.{trees_of, nodes_of, pairs_of, is_with_rows}
use Rattle.lol_program.proofs.ast.Ast.add_nodes.Given as goal

abbrev pub invariant-loop-item : goal.invariant-loop-item
invariant-loop-item l = record {
  pairs : SameMembers (pairs_of l.fn.self) (pairs_of l.self);
  nodes : Joins (nodes_of l.fn.self) (nodes_of l.self) (flat_map beginnings (map path_shown (take l.item-index l.items)));
  stand : AllIn (trees_of l.self) (take l.item-index l.items);
  rows : is_with_rows l.self ≡ is_with_rows l.fn.self;
}
