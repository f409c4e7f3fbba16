use Rattle.lol_base.specs.Names.{void_names}
use Rattle.lol_vectors.proofs.plain_document.is_void.Goals as goal

pub returns : goal.returns
unfolding void_names
returns c = c.is_among.ensures
