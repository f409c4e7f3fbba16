use Rattle.lol_base.proofs.Steps.{has_index-decides}
use Rattle.lol_base.proofs.laws.index_test_decides.Goals as goal

pub returns : goal.returns
returns c = has_index-decides
