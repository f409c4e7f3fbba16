use Rattle.lol_reasons.proofs.Growing.{grown, memory_only}
use Rattle.lol_reasons.specs.Numbered.{item_added}
use Rattle.lol_reasons.proofs.texts.Numbering.add_item.Goals as goal

pub returns-clause-added : goal.returns-clause-added
returns-clause-added c = λ added holds.
    grown added (item_added c.args.named c.args.item.now) c.in-Some.own_id c.args.self.now _ c.in-Some.ensures.next holds c.in_ok-add_item.ensures.pairs c.in_ok-add_item.ensures.nodes c.in_ok-add.ensures

pub returns-in_err-add_item-clause-too_many : goal.returns-in_err-add_item-clause-too_many
returns-in_err-add_item-clause-too_many c = λ is. absurd (memory_only _ c.from_residual.ensures.1 is)

pub returns-in_err-add-clause-too_many : goal.returns-in_err-add-clause-too_many
returns-in_err-add-clause-too_many c = λ is. absurd (memory_only _ c.from_residual-in_err-add.ensures.1 is)
