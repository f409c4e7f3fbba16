use Rattle.std.proofs.Common.{false, ◌≡◌, ◌++◌, drop, map}
use Rattle.lol_machine.specs.Answers.{answers, answers_from}
use Rattle.lol_vm.specs.TagEvents.{event_of}
use Rattle.lol_vectors.specs.PlainNodes.{selectors_shown}
use Rattle.lol_vectors.specs.Plain.{document_shown, answer_shown}
use Rattle.lol_vectors.proofs.plain.answers_of.Given as goal

abbrev pub invariant-loop-number : goal.invariant-loop-number
invariant-loop-number l =
    answers (selectors_shown false l.nodes) l.enable_esi_tags (map event_of l.events)
    ≡ map answer_shown l.told.items ++ answers_from (selectors_shown false l.nodes) l.enable_esi_tags (document_shown l.number l.document) (map event_of (drop l.number l.events))
