use Rattle.lol_reasons.proofs.Reasons.{runs_are_explained, reasons_stay}
use Rattle.lol_reasons.proofs.laws.reasons_explain_runs.Goals as goal

pub returns : goal.returns
returns c = record { explained = runs_are_explained; stay = reasons_stay }
