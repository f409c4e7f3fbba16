-- Reasons as C gets them.
use Rattle.std.specs.Prelude.{ℕ, ◌+◌, ◌≡◌, true, false, List, [], ◌∷◌, length, map, reverse, IsSomeAnd}
use Rattle.std.specs.List.{flat_map}
use Rattle.lol_matcher.specs.Explaining.{AreNumbered, reasons_told}
use Rattle.lol_matcher.specs.Told.{Matching}
use Rattle.lol_reasons.specs.Explanations.{Reason}
use Rattle.lol_reasons.specs.Numbered.{texts_in}
use Rattle.lol_reasons.specs.declared.texts.Texts.{Texts}
use Rattle.lol_script.specs.Output as script
use Rattle.lol_script.specs.Output.{shown_reason}
use Rattle.zugrenja_c.specs.Numbers.{overwritten}
use Rattle.zugrenja_c.specs.Runs.{Run}
use Rattle.zugrenja_c.specs.declared.reasons.ReasonPlace.{ReasonPlace}
use Rattle.zugrenja_c.specs.declared.reasons.ReasonTable.{ReasonTable}

-- the numbers of reasons, reason after reason, the outermost first
abbrev pub numbers_of : List Reason → List ℕ
numbers_of reasons = flat_map (λ reason. reverse reason.witness) reasons

-- a reason as C gets it, whose numbers begin there
abbrev pub placed_at : ℕ → Reason → ReasonPlace
placed_at start reason =
    record { text = reason.text; item = reason.item; numbers_start = start; numbers_len = length reason.witness; id = reason.id }

-- reasons as C gets them, where the numbers of the first begin there, and those of each other where the last one's end
abbrev pub placed_from : ℕ → List Reason → List ReasonPlace
placed_from start [] = []
placed_from start (reason ∷ reasons) = placed_at start reason ∷ placed_from (start + length reason.witness) reasons

-- a table has these reasons and their numbers
pub record HasReasons (reasons : List Reason) (table : ReasonTable) : Type 0 where
  pub places : table.places.items ≡ placed_from 0 reasons
  pub numbers : table.numbers.items ≡ numbers_of reasons

-- the lines of reasons, with the number of the text in each
abbrev pub lines_of_reasons : List Reason → List ℕ
lines_of_reasons reasons = script.lines_of (map (λ reason. shown_reason reason.text reason) reasons)

-- These are the reasons for the last event that was heard, by the texts; there are none after a refusal.
pub record AreReasonsBy (texts : Texts) (m : Matching ℕ) (reasons : List Reason) : Type 0 where
  pub exact : m.failed ≡ false → AreNumbered m.told → reasons ≡ reasons_told (texts_in texts) m.told
  pub none : m.failed ≡ true → reasons ≡ []

-- a matcher explains, and these are its reasons
abbrev pub AreReasons : Run → List Reason → Type 0
AreReasons r reasons = IsSomeAnd r.texts (λ texts. AreReasonsBy texts r.matcher reasons)

-- The reasons are written, and their numbers, each as far as there is room, and how many there are.
pub record WritesReasons (r : Run) (old_reasons new_reasons : List ReasonPlace) (old_numbers new_numbers : List ℕ) (reasons_count numbers_count : ℕ) : Type 0 where
  pub told : List Reason
  pub are : AreReasons r told
  pub reasons : new_reasons ≡ overwritten (placed_from 0 told) old_reasons
  pub numbers : new_numbers ≡ overwritten (numbers_of told) old_numbers
  pub counted : (reasons_count ≡ length told) × (numbers_count ≡ length (numbers_of told))

-- The lines of the reasons are written as far as there is room, and their length.
pub record WritesLines (r : Run) (old new : List ℕ) (written : ℕ) : Type 0 where
  pub told : List Reason
  pub are : AreReasons r told
  pub text : new ≡ overwritten (lines_of_reasons told) old
  pub counted : written ≡ length (lines_of_reasons told)
