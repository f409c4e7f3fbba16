use Rattle.std.proofs.Common.{◌≡◌, drop}
use Rattle.lol_base.specs.LocalNames.{Name}
use Rattle.lol_stack.specs.OpenDepths.{depths_of}
use Rattle.lol_stack.specs.Stacks.{without_depths}
use Rattle.lol_stack.proofs.stack.StackNames.close.Given as goal

abbrev pub invariant-loop-item : goal.invariant-loop-item
invariant-loop-item g l =
    ((q : Name) → without_depths (drop l.item-index l.inside) q (depths_of l.self.open_names q) ≡ without_depths l.inside q (depths_of l.initial.self.open_names q))
    × (l.self.typed_child_counters ≡ l.initial.self.typed_child_counters)
