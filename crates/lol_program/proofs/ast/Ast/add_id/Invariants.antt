use Rattle.std.proofs.Common.{◌≡◌, ◌++◌, length, map}
use Rattle.std.specs.Prelude.{flat_map}
use Rattle.lol_program.specs.Paths.{beginnings}
use Rattle.lol_program.specs.AstPaths.{path_shown, AllFit}
use Rattle.lol_program.specs.Sets.{Joins}
use Rattle.lol_program.specs.Asts.{trees_of, nodes_of, pairs_of, is_with_rows}
use Rattle.lol_program.proofs.ast.Ast.add_id.Given as goal

abbrev pub invariant-loop-item : goal.invariant-loop-item
invariant-loop-item l =
    let done = map (λ turn. turn.0.now) l.yielded in record {
      all : done ++ l.item-iterator.a.rest.now ≡ l.items;
      left : l.item-iterator.b.rest.len ≡ length l.item-iterator.b.rest.items;
      pairs : Joins (pairs_of l.fn.self) (pairs_of l.self) (map (λ path. (path_shown path, l.match_id)) done);
      nodes : Joins (nodes_of l.fn.self) (nodes_of l.self) (flat_map beginnings (map path_shown done));
      fit : AllFit l.match_id (trees_of l.self) l.item-iterator.a.rest.now l.item-iterator.b.rest.items;
      rows : is_with_rows l.self ≡ is_with_rows l.fn.self;
    }
