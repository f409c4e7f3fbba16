use Rattle.lol_reasons.proofs.ToldRuns as proved
use Rattle.lol_reasons.proofs.run_laws.asked_runs_answer_alike.Goals as goal

pub returns-clause-alike : goal.returns-clause-alike
returns-clause-alike c = proved.asked_runs_answer_alike

pub returns-clause-goes_on : goal.returns-clause-goes_on
returns-clause-goes_on c = proved.told_goes_on
