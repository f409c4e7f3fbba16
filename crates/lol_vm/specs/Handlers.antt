-- Handlers that a run calls with its reports.
use Rattle.std.specs.Prelude.{◌≡◌, Bool, List, map}
use Rattle.lol_program.specs.Paths.{Selectors}
use Rattle.lol_stack.specs.Calls.{IsCalledAtEach}
use Rattle.lol_machine.specs.Answers.{answers}
use Rattle.lol_machine.specs.Events.{Event}
use Rattle.lol_vm.specs.TagEvents.{answer_of}
use Rattle.lol_vm.specs.declared.events.TagReport.{TagReport}

-- The handler was called with a report of each event, in order, and they are the answers.
pub record IsCalledWithAnswers {F : Type 0} (step : F → TagReport → Unit {0} → F → Type 0) (s : Selectors) (esi : Bool) (events : List Event) (f g : F) : Type 0 where
  pub reports : List TagReport
  pub answered : map answer_of reports ≡ answers s esi events
  pub called : IsCalledAtEach step f reports g
