use Rattle.std.specs.Prelude.{All}
use Rattle.lol_vm.specs.TagEvents.{HasRangesInside}
use Rattle.lol_vectors.proofs.tag_words.events_of.Given as goal

abbrev pub invariant-loop-tag : goal.invariant-loop-tag
invariant-loop-tag l = All HasRangesInside l.events.items
