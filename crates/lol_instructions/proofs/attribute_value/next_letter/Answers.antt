use Rattle.lol_instructions.proofs.AttributeValues.{caseless_letter}
use Rattle.lol_instructions.proofs.attribute_value.next_letter.Goals as goal

pub returns-in-AsciiCaseInsensitive : goal.returns-in-AsciiCaseInsensitive
returns-in-AsciiCaseInsensitive c =
    rw c.in-AsciiCaseInsensitive.is (caseless_letter c.args.letter _ _ c.args.value.now _ c.to_ascii_lowercase.ensures.value c.to_ascii_uppercase.ensures.value c.memchr2.ensures)
