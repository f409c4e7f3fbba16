use Rattle.lol_reasons.proofs.OneId as proved
use Rattle.lol_reasons.proofs.run_laws.one_ids_paths_decide.Goals as goal

pub returns : goal.returns
returns c = proved.one_ids_paths_decide
