use Rattle.std.proofs.Common.{◌≡◌, ◌+◌, ◌-◌, ◌∷◌, sym, ◌∙◌, arith, length, take, drop}
use Rattle.std.proofs.lemmas.List.{take_all, length-drop}
use Rattle.lol_instructions.specs.Tests.{words}
use Rattle.lol_instructions.proofs.AttributeValues.{none_more, words_at, words_none}
use Rattle.lol_instructions.proofs.attribute_value.first_word.Goals as goal

pub loop-at-init : goal.loop-at-init
loop-at-init c = λ k low high. absurd (omega (arith, high))

pub loop-at-preserved : goal.loop-at-preserved
loop-at-preserved c = none_more c.args.value.now 0 c.loop-at.at c.loop-at.invariant (sym c.if-is_white_space.ensures)

pub returns-then-is_white_space : goal.returns-then-is_white_space
returns-then-is_white_space c =
    let value = c.args.value.now in
    let at = c.loop-at.at in
    let first : at - 0 ≡ at = omega arith in
    let rest : take (length value - (at + 1)) (drop (at + 1) value) ≡ drop (at + 1) value = take_all (length value - (at + 1)) (drop (at + 1) value) (omega (arith, length-drop (at + 1) value)) in
    words_at value 0 at (omega arith) c.loop-at-test.true c.loop-at.invariant (sym c.if-is_white_space.ensures) ∙ λ i. take (first i) value ∷ words (sym rest i)

pub returns : goal.returns
returns c = words_none c.args.value.now 0 (omega arith) (λ k low high. c.loop-at.invariant k low (omega (arith, high, c.loop-at-test.false)))
