use Rattle.lol_reasons.proofs.Reasons.{reasons_give_report, each_has_one_reason, reasons_are_exact}
use Rattle.lol_reasons.proofs.laws.reasons_explain_reports.Goals as goal

pub returns : goal.returns
returns c = record { report = reasons_give_report; one = each_has_one_reason; exact = reasons_are_exact }
