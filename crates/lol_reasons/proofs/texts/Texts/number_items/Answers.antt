use Rattle.std.proofs.Common.{◌<◌, ◌+◌, length, arith, ap, map, sym, ◌∙◌, subst}
use Rattle.std.proofs.lemmas.List.{take_all}
use Rattle.lol_reasons.proofs.Growing.{fewer_texts, same_error, texts_step}
use Rattle.lol_reasons.specs.Explanations.{added_by}
use Rattle.lol_reasons.specs.Numbered.{HoldsItems, text_shown}
use Rattle.lol_reasons.specs.declared.texts.Text.{Text}
use Rattle.std.specs.Prelude.{List}
use Rattle.lol_reasons.proofs.texts.Texts.number_items.Goals as goal

pub loop-number-preserved : goal.loop-number-preserved
loop-number-preserved c = record {
  holds =
      subst (λ l. HoldsItems l c.add_text.new.self)
      (sym (texts_step text_shown c.deref-text-items.result.now c.loop-number.number c.text-item.result c.loop-number-test.true c.text-item.is))
      (c.in_ok-add_text.ensures.added _ c.loop-number.invariant.holds);
  rows = c.in_ok-add_text.ensures.rows ∙ c.loop-number.invariant.rows;
}

pub returns-clause-numbered : goal.returns-clause-numbered
returns-clause-numbered c =
    subst (λ (l : List Text). HoldsItems (added_by (map text_shown l)) c.loop-number.numbering)
    (take_all c.loop-number.number c.deref-text-items.result.now c.loop-number-test.false ∙ c.deref-text-items.ensures.value) c.loop-number.invariant.holds

pub returns-clause-rows : goal.returns-clause-rows
returns-clause-rows c = c.loop-number.invariant.rows

pub returns-in_err-add_text-clause-too_many : goal.returns-in_err-add_text-clause-too_many
returns-in_err-add_text-clause-too_many c = λ is.
    let n = c.loop-number.number in
    let texts = c.deref-text-items.result.now in
    let many = c.in_err-add_text.ensures.too_many (same_error _ c.in_err-add_text.field-0.0 c.from_residual.ensures.1 is) _ c.loop-number.invariant.holds in
    let step = texts_step text_shown texts n c.text-item.result c.loop-number-test.true c.text-item.is in
    subst (λ (l : List Text). 4294967296 < length (added_by (map text_shown l))) c.deref-text-items.ensures.value
    (omega (arith, many, ap length step, fewer_texts text_shown 0 (n + 1) texts))
