-- Marks of attribute tests: one of 64 bits for each test, so that a test whose bit isn't set can't hold.
use Rattle.std.specs.Prelude.{◌≡◌, ℕ, ◌+◌, ◌-◌, ◌*◌, ◌%◌, Bool, true, false, ◌==◌, List, length, slice_index}
use Rattle.std.specs.Int.{bit_at}
use Rattle.lol_base.specs.Names.{lowercased}
use Rattle.lol_instructions.specs.Tests.{Element, AttributeTest, HasId, HasClass, HasAttribute, Compares, attribute_holds}
use Rattle.lol_instructions.specs.Attributes.{TagAttributes, tag_attributes}
use Rattle.lol_instructions.specs.declared.marks.Marks.{Marks}

-- a number from the length and the first and last byte, in which the case of ASCII letters doesn't count
abbrev pub mark_sum : List ℕ → ℕ
mark_sum bytes = slice_index bytes 0 % 32 * 5 + slice_index bytes (length bytes - 1) % 32 * 3 + length bytes % 64

-- the bit of a test
abbrev pub mark_of : AttributeTest → ℕ
mark_of (HasAttribute name) = mark_sum name % 64
mark_of (HasId id) = (mark_sum id + 21) % 64
mark_of (HasClass name) = (mark_sum name + 42) % 64
mark_of (Compares name operator operand case) = mark_sum (lowercased name) % 64

abbrev pub is_marked : Marks → ℕ → Bool
is_marked marks bit = bit_at marks.bits bit == 1

-- no test of that bit holds at an element that has these attributes
abbrev pub NoneHolds : ℕ → TagAttributes → Type 0
NoneHolds bit seen = (test : AttributeTest) (e : Element) → tag_attributes e.tag ≡ seen → mark_of test ≡ bit → attribute_holds test e ≡ false

-- each test that holds at such an element is marked
abbrev pub AreMarked : Marks → TagAttributes → Type 0
AreMarked marks seen = (test : AttributeTest) (e : Element) → tag_attributes e.tag ≡ seen → attribute_holds test e ≡ true → is_marked marks (mark_of test) ≡ true

-- some bit is marked of which no test holds
abbrev pub LacksOne : Marks → TagAttributes → Type 0
LacksOne needs seen = (bit : ℕ) × (is_marked needs bit ≡ true) × NoneHolds bit seen

-- what was marked still is
abbrev pub KeepsMarks : Marks → Marks → Type 0
KeepsMarks old new = (bit : ℕ) → is_marked old bit ≡ true → is_marked new bit ≡ true
