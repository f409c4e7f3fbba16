use Rattle.lol_base.specs.Names.{esi_names}
use Rattle.lol_vectors.proofs.plain_document.is_esi.Goals as goal

pub returns : goal.returns
unfolding esi_names
returns c = c.is_spelled_among.ensures
