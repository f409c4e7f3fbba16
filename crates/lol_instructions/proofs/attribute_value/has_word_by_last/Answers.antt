use Rattle.std.proofs.Common.{sym, ◌∙◌}
use Rattle.std.proofs.lemmas.Bool.{false≢true}
use Rattle.lol_instructions.proofs.WordOffsets.{IsSearched-init, IsSearched-next, IsSearched-found, IsSearched-all}
use Rattle.lol_instructions.proofs.attribute_value.has_word_by_last.Goals as goal

pub loop-end-init : goal.loop-end-init
loop-end-init c = IsSearched-init c.args.case c.args.value.now c.args.operand.now c.requires.some

pub returns-then-is_word_before : goal.returns-then-is_word_before
returns-then-is_word_before c =
    let word = c.is_word_before.ensures.0 c.if-is_word_before.true in
    sym (IsSearched-found c.args.case c.args.value.now c.args.operand.now c.requires.some c.loop-end.from c.in-Some.end c.loop-end.invariant c.in-Some.ensures c.requires.black word)

pub loop-end-preserved : goal.loop-end-preserved
loop-end-preserved c =
    IsSearched-next c.args.case c.args.value.now c.args.operand.now c.requires.some c.loop-end.from c.in-Some.end c.loop-end.invariant c.in-Some.ensures
    (λ word. false≢true (sym c.if-is_word_before.false ∙ c.is_word_before.ensures.1 word))

pub returns : goal.returns
returns c = sym (IsSearched-all c.args.case c.args.value.now c.args.operand.now c.requires.some c.loop-end.from c.loop-end.invariant c.in_default.ensures)
