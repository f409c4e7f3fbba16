use Rattle.std.proofs.lemmas.List.{take_rest}
use Rattle.lol_instructions.proofs.AttributeValues.{letter_none, letter_found}
use Rattle.lol_instructions.proofs.attribute_value.after_letter.Goals as goal

pub returns-in_err-offset : goal.returns-in_err-offset
returns-in_err-offset c = rw c.from_residual.ensures (λ rest. letter_none c.args.letter c.args.value.now rest c.in_err-offset.ensures)

pub returns : goal.returns
returns c = letter_found c.args.letter c.in_ok-offset.offset c.args.value.now _ c.in_ok-offset.ensures (take_rest c.args.value.now _)
