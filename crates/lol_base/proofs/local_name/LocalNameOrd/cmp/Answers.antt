use Rattle.std.proofs.Common.{◌∙◌, sym, inl, inr}
use Rattle.lol_base.proofs.CodeLemmas.{equal_if, equal_is, cmp_by_spelling, cmp_by_code}
use Rattle.lol_base.proofs.local_name.LocalNameOrd.cmp.Goals as goal

pub returns-then-code : goal.returns-then-code
returns-then-code c =
    let one = equal_if c.code_or_last-code.result c.code_or_last.result c.cmp-by_code.result c.cmp-by_code.ensures (sym c.eq.ensures ∙ c.if-eq.true) in
    c.cmp_ignore_ascii_case.ensures
    ∙ cmp_by_spelling c.args.self.now c.args.other.now c.spelled.result.now c.spelled-then-code.result.now
    (sym c.code_or_last-code.ensures ∙ (one ∙ c.code_or_last.ensures)) (sym c.code_or_last-code.ensures ∙ c.if-code.true) c.spelled.ensures c.spelled-then-code.ensures

pub returns-else-eq : goal.returns-else-eq
returns-else-eq c =
    let by_code = rw (c.code_or_last-code.ensures, c.code_or_last.ensures) at c.cmp-by_code.ensures in
    by_code
    ∙ cmp_by_code c.args.self.now c.args.other.now (λ same last.
    elim c.else-eq.either [
      | inl h ↦ h.1 (c.code_or_last-code.ensures ∙ last)
      | inr other ↦
          equal_is c.code_or_last-code.result c.code_or_last.result c.cmp-by_code.result c.cmp-by_code.ensures (sym c.eq.ensures ∙ other)
          (c.code_or_last-code.ensures ∙ (same ∙ sym c.code_or_last.ensures))
    ])
