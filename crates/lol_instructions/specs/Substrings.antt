-- A step of the search for an operand without ASCII case. No public clause speaks of it.
use Rattle.std.specs.Prelude.{◌≡◌, ℕ, ◌<◌, Bool, false, ◌||◌, ◌==◌, List, ◌∷◌, length, Option, MatchOption}
use Rattle.std.specs.List.{starts_with}
use Rattle.lol_base.specs.Names.{lowercased}
use Rattle.lol_instructions.specs.Tests.{stands_in}

abbrev pub stands_in_caseless : List ℕ → List ℕ → Bool
stands_in_caseless value operand = stands_in (lowercased value) (lowercased operand)

-- What is left of a value after the first offset of an operand's first letter: there the rest of the operand follows, or the operand stands in
-- what is left, or it doesn't stand in the value.
abbrev pub IsAfterLetter : ℕ → List ℕ → Option (List ℕ) → Type 0
IsAfterLetter first value after =
    MatchOption after
    ((rest : List ℕ) → stands_in_caseless value (first ∷ rest) ≡ false)
    (λ left. (length left < length value)
    × ((rest : List ℕ) → stands_in_caseless value (first ∷ rest) ≡ (starts_with ◌==◌ (lowercased left) (lowercased rest) || stands_in_caseless left (first ∷ rest))))
