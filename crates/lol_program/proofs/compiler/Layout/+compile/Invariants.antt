use Rattle.std.proofs.Common.{◌≡◌, ◌+◌, ◌*◌, ◌||◌, drop, length}
use Rattle.lol_program.specs.Views.{node_of, forest_of}
use Rattle.lol_program.specs.Forest.{none, link, size}
use Rattle.lol_program.specs.Layouts.{any_by_type}
use Rattle.lol_program.proofs.LayingLemmas.{IsHalfLaid}
use Rattle.lol_program.proofs.compiler.Layout.+compile.Given as goal

abbrev pub decreases-compile_list : goal.decreases-compile_list
decreases-compile_list l = 3 * size (forest_of l.nodes.now) + 2

abbrev pub decreases-compile_nodes : goal.decreases-compile_nodes
decreases-compile_nodes l = 3 * size (forest_of l.nodes.now) + 1

abbrev pub decreases-compile_node : goal.decreases-compile_node
decreases-compile_node l = 3 * size (link (node_of l.node.now) none)

abbrev pub invariant-compile_nodes-loop-node : goal.invariant-compile_nodes-loop-node
invariant-compile_nodes-loop-node l = record {
  as_before : drop l.node-index l.nodes ≡ drop l.node-index l.fn.nodes;
  by_type : (l.self.enable_nth_of_type || any_by_type (forest_of (drop l.node-index l.fn.nodes))) ≡ (l.fn.self.enable_nth_of_type || any_by_type (forest_of l.fn.nodes));
  half : IsHalfLaid (forest_of l.fn.nodes) l.fn.self.free_space_start (l.fn.self.free_space_start + length l.fn.nodes) l.fn.self.instructions.items (forest_of (drop l.node-index l.fn.nodes)) l.address l.self.free_space_start l.self.instructions.items;
}
