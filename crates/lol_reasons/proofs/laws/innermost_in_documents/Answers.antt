use Rattle.lol_machine.specs.Documents.{element_of}
use Rattle.lol_machine.specs.Answers.{document}
use Rattle.lol_reasons.proofs.WitnessLemmas.{none_is_nearer}
use Rattle.lol_reasons.proofs.laws.innermost_in_documents.Goals as goal

pub returns : goal.returns
returns c s esi events tag path v w found witness =
    let d = document s esi events in
    none_is_nearer path (element_of d tag) d.open_elements (c.documents_are_ordered.ensures s esi events).numbers v w found witness
