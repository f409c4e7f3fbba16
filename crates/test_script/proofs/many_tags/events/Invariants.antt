use Rattle.std.specs.Prelude.{All}
use Rattle.lol_vm.specs.TagEvents.{HasRangesInside}
use Rattle.test_script.proofs.many_tags.events.Given as goal

abbrev pub invariant-loop-place : goal.invariant-loop-place
invariant-loop-place l = All HasRangesInside l.events.items
