use Rattle.std.proofs.lemmas.List.{take_rest}
use Rattle.lol_instructions.proofs.AttributeValues.{no_letter_left, letter_left}
use Rattle.lol_instructions.proofs.attribute_value.letter_end.Goals as goal

pub returns-in_err-offset : goal.returns-in_err-offset
returns-in_err-offset c =
    let none = rw (take_rest c.args.value.now c.args.from) at c.in_err-offset.ensures in
    rw c.from_residual.ensures (no_letter_left c.args.case c.args.value.now c.args.letter c.args.from none c.requires)

pub returns : goal.returns
returns c =
    let found = rw (take_rest c.args.value.now c.args.from) at c.in_ok-offset.ensures in
    letter_left c.args.case c.args.value.now c.args.letter c.args.from c.in_ok-offset.offset found c.requires
