-- Lines of answers, as they are written part by part.
use Rattle.std.specs.Prelude.{◌≡◌, ℕ, Bool, false, true, IfOk, List, [], ◌∷◌, ◌++◌, map, Option, Some, None, codes, decimal, if◌then◌else◌}
use Rattle.lol_script.specs.declared.output.Written.{Written}
use Rattle.lol_base.specs.CodePoints.{tab}
use Rattle.lol_instructions.specs.Tries.{names_counted, attributes_counted}
use Rattle.lol_instructions.specs.declared.tries.Tries.{Tries}
use Rattle.lol_machine.specs.Answers.{Match}
use Rattle.lol_script.specs.Output.{comma_list, shown_match, tries_field}

-- the field of the tries, if they are shown
abbrev pub tries_shown : Option Tries → List ℕ
tries_shown None = []
tries_shown (Some tries) = tries_field true (names_counted tries) (attributes_counted tries)

-- what stands behind the list of a start tag's line
abbrev pub end_of_start : Bool → Option Tries → List ℕ
end_of_start asked tries = (if asked then tab ∷ codes "asked" else []) ++ tries_shown tries

-- the line of a start tag that is reported under these
abbrev pub started_text : List Match → Bool → Option Tries → List ℕ
started_text matched asked tries = codes "start" ++ (tab ∷ comma_list (map shown_match matched) ++ end_of_start asked tries)

-- Behind a text these numbers are listed, some or none.
abbrev pub HasListed : List ℕ → Bool → List ℕ → List ℕ → Type 0
HasListed before has_some [] text = (has_some ≡ false) × (text ≡ before)
HasListed before has_some (number ∷ numbers) text = (has_some ≡ true) × (text ≡ before ++ comma_list (map decimal (number ∷ numbers)))

-- The same, unless memory was refused for one.
abbrev pub IsListing : List ℕ → List ℕ → Written → Type 0
IsListing before numbers written = IfOk written.listed (λ has_some. HasListed before has_some numbers written.text.items)
