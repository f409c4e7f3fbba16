-- Words of a value by their offsets, as they are searched for. No public clause speaks of them.
use Rattle.std.specs.Prelude.{◌≡◌, ℕ, ◌-◌, ◌<◌, ◌≤◌, Bool, true, false, ◌==◌, ◌⊎◌, List, length, slice_index, slice_range}
use Rattle.std.specs.Char.{to_ascii_lowercase}
use Rattle.lol_base.specs.declared.comparison.AttrSelectorOperator.TheVariants.{Equal}
use Rattle.lol_base.specs.declared.comparison.CaseSensitivity.{CaseSensitivity}
use Rattle.lol_base.specs.declared.comparison.CaseSensitivity.TheVariants.{CaseSensitive, AsciiCaseInsensitive}
use Rattle.lol_instructions.specs.Tests.{is_white}
use Rattle.lol_instructions.specs.Attributes.{value_holds}

-- whether a byte is this letter
abbrev pub is_letter_of : CaseSensitivity → ℕ → ℕ → Bool
is_letter_of CaseSensitive letter b = b == letter
is_letter_of AsciiCaseInsensitive letter b = to_ascii_lowercase letter == to_ascii_lowercase b

-- the value begins at an offset, or white space stands before it
abbrev pub IsWordStart : List ℕ → ℕ → Type 0
IsWordStart value start = (start ≡ 0) ⊎ (is_white (slice_index value (start - 1)) ≡ true)

-- the value ends at an offset, or white space stands there
abbrev pub IsWordEnd : List ℕ → ℕ → Type 0
IsWordEnd value end = (end ≡ length value) ⊎ (is_white (slice_index value end) ≡ true)

-- an operand without white space is the word of a value that ends at this offset
pub record IsWordBefore (case : CaseSensitivity) (value operand : List ℕ) (end : ℕ) : Type 0 where
  pub fits : length operand ≤ end
  pub begins : IsWordStart value (end - length operand)
  pub ends : IsWordEnd value end
  pub same : value_holds Equal case (slice_range value (end - length operand) end) operand ≡ true

-- no byte from one offset up to another is the letter
abbrev pub NoLetter : CaseSensitivity → List ℕ → ℕ → ℕ → ℕ → Type 0
NoLetter case value letter from to = (k : ℕ) → from ≤ k → k < to → is_letter_of case letter (slice_index value k) ≡ false

-- a letter's first offset from `from` on is before `end`
pub record IsLetterEnd (case : CaseSensitivity) (value : List ℕ) (letter from end : ℕ) : Type 0 where
  pub after : from < end
  pub within : end ≤ length value
  pub before : NoLetter case value letter from (end - 1)
