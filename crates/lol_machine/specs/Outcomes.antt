-- What comes of things that are run one after the other, each of which has a value by names and a truth with attributes.
use Rattle.std.specs.Prelude.{Bool, true, false, if◌then◌else◌, List, [], ◌∷◌}
use Rattle.lol_instructions.specs.Compounds.{is_open}
use Rattle.lol_instructions.specs.declared.name_value.NameValue.{NameValue}
use Rattle.lol_instructions.specs.declared.name_value.NameValue.TheVariants.{True, False, Open}

abbrev pub is_true : NameValue → Bool
is_true True = true
is_true False = false
is_true Open = false

-- `give` is what a thing gives to what was gathered before it.
module _ {A C : Type 0} (give : A → C → C) where
  abbrev pub give_if : Bool → A → C → C
  give_if true x c = give x c
  give_if false x c = c

  -- What those give that hold.
  abbrev pub given_with_attributes : (A → Bool) → C → List A → C
  given_with_attributes holds c [] = c
  given_with_attributes holds c (x ∷ xs) = given_with_attributes holds (give_if (holds x) x c) xs

  -- What those give whose value by names is true, up to the first whose value is open.
  abbrev pub given_by_names : (A → NameValue) → C → List A → C
  given_by_names value c [] = c
  given_by_names value c (x ∷ xs) =
      if is_open (value x) then c else given_by_names value (give_if (is_true (value x)) x c) xs
