use Rattle.std.proofs.Common.{◌∙◌, sym, rules}
use Rattle.lol_base.proofs.CodeLemmas.{same_by_code, same_by_spelling}
use Rattle.lol_base.proofs.local_name.LocalNamePartialEq.eq.Goals as goal

pub returns-then-code : goal.returns-then-code
returns-then-code c =
    same_by_code c.args.self.now c.args.other.now _
    (sym c.code_or_last-code.ensures ∙ (c.if-code-code_or_last.false ∙ c.code_or_last.ensures)) (λ last. c.if-code.true (c.code_or_last-code.ensures ∙ last))
    (search rules)

pub returns-else-code : goal.returns-else-code
returns-else-code c =
    same_by_spelling c.args.self.now c.args.other.now c.spelled.result.now c.spelled-else-code.result.now c.eq_ignore_ascii_case.result
    (sym c.code_or_last-code.ensures ∙ (c.if-code-code_or_last.false ∙ c.code_or_last.ensures)) (sym c.code_or_last-code.ensures ∙ c.if-code.false)
    c.spelled.ensures c.spelled-else-code.ensures c.eq_ignore_ascii_case.ensures.test
