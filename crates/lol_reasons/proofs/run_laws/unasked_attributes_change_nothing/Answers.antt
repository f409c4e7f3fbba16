use Rattle.lol_reasons.proofs.Unasked as proved
use Rattle.lol_reasons.proofs.run_laws.unasked_attributes_change_nothing.Goals as goal

pub returns : goal.returns
returns c = proved.unasked_attributes_change_nothing
