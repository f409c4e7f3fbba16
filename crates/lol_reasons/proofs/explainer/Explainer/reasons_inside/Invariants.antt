use Rattle.std.proofs.Common.{◌≡◌, List, map, take}
use Rattle.lol_instructions.specs.Tests.{Element}
use Rattle.lol_program.specs.Paths.{Path, Selectors}
use Rattle.lol_program.specs.ProgramViews.{program_shown}
use Rattle.lol_machine.specs.Machines.{items_shown}
use Rattle.lol_reasons.specs.Explanations.{Text}
use Rattle.lol_reasons.specs.Matched.{IsAround}
use Rattle.lol_reasons.specs.Numbered.{HasMatchedItems, reason_shown}
use Rattle.lol_reasons.proofs.Telling.{told_under}
use Rattle.lol_reasons.proofs.explainer.Explainer.reasons_inside.Given as goal

-- the reasons for the numbers before were told
abbrev pub invariant-loop-own_id : goal.invariant-loop-own_id
invariant-loop-own_id g l =
    (texts : List Text) (s : Selectors) (paths : List Path) (e : Element) (around : List Element)
    → HasMatchedItems texts l.self s l.matched e around → IsAround s paths (program_shown l.program) (items_shown l.outer) l.numbers around
    → l.number ≡ e.number → map reason_shown l.told.items ≡ told_under texts e around (take l.own_id-index l.matched)
