use Rattle.lol_matcher.proofs.Plainly.{items_answer}
use Rattle.lol_matcher.proofs.laws.items_answer_as_texts.Goals as goal

pub returns : goal.returns
returns c =
    let numbers = c.numbers_change_reports_alone.ensures in
    items_answer numbers.alike numbers.nodes c.texts_add_pairs.ensures c.reasons_explain_reports.ensures.report
