use Rattle.std.proofs.Common.{◌≡◌, ◌≤◌, List, length, map}
use Rattle.lol_instructions.specs.Tests.{Element}
use Rattle.lol_program.specs.Paths.{Path, Selectors}
use Rattle.lol_program.specs.ProgramViews.{program_shown}
use Rattle.lol_machine.specs.Machines.{item_shown, items_shown}
use Rattle.lol_reasons.specs.Matched.{HasMatched}
use Rattle.lol_reasons.proofs.Climbs.{Climbs}
use Rattle.lol_reasons.proofs.node_table.NodeTable.witness_of.Given as goal

abbrev pub decreases-loop-above : goal.decreases-loop-above
decreases-loop-above g l = l.left

-- the walk stands on some element around, whose number was told last
abbrev pub invariant-loop-above : goal.invariant-loop-above
invariant-loop-above g l =
    record {
      within : l.left ≤ length l.outer;
      climbs :
          (s : Selectors) (paths : List Path) (path : Path) (e : Element) (around : List Element)
          → HasMatched s paths (program_shown l.program) l.address path (items_shown l.outer) l.numbers e around → l.number ≡ e.number
          → Climbs paths (program_shown l.program) path e around (map item_shown l.outer) l.numbers l.node l.left l.witness.items;
    }
