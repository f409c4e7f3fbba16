use Rattle.lol_machine.specs.Vms.{ChargesSlots}
use Rattle.lol_examples.proofs.links.count_in_tags.Given as goal

abbrev pub invariant-loop-tag : goal.invariant-loop-tag
invariant-loop-tag l = ChargesSlots l.initial.vm l.vm l.initial.limiter l.limiter
