use Rattle.std.proofs.Common.{rules}
use Rattle.lol_base.specs.Names.{void_names, esi_names}
use Rattle.lol_vectors.proofs.worked_answers.operators.Goals as goal

pub returns : goal.returns
unfolding void_names esi_names
returns c = search rules
