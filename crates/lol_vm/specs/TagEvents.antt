-- What the values of a run stand for.
use Rattle.std.specs.Prelude.{map}
use Rattle.lol_base.specs.StartTags.{RangesAreInside}
use Rattle.lol_instructions.specs.Tries.{names_counted, attributes_counted}
use Rattle.lol_machine.specs.Answers as answers
use Rattle.lol_machine.specs.Answers.{Answer}
use Rattle.lol_machine.specs.Events as events
use Rattle.lol_machine.specs.Views.{match_of, tag_of}
use Rattle.lol_vm.specs.declared.events.TagEvent.{TagEvent}
use Rattle.lol_vm.specs.declared.events.TagEvent.TheVariants.{Start, End}
use Rattle.lol_vm.specs.declared.events.TagReport.{TagReport}
use Rattle.lol_vm.specs.declared.events.TagReport.TheVariants.{Started, Dropped, Ended}

-- The event that a value stands for.
abbrev pub event_of : TagEvent → events.Event
event_of (Start ns finish name aux) = events.Start (tag_of name.now ns aux finish)
event_of (End name) = events.End name.now

-- each name range and each value range of a start tag lies inside its input
abbrev pub HasRangesInside : TagEvent → Type 0
HasRangesInside (Start ns finish name aux) = RangesAreInside aux
HasRangesInside (End name) = Unit {0}

-- The answer that a report gives.
abbrev pub answer_of : TagReport → Answer
answer_of (Started asked matched tries) = answers.Started (map match_of matched.items) asked (names_counted tries) (attributes_counted tries)
answer_of Dropped = answers.Dropped
answer_of (Ended closed) = answers.Ended closed.items
