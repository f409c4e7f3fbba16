-- Why the last event is reported, where a matcher has the items of texts under their numbers.
use Rattle.std.specs.Prelude.{ℕ, ◌≡◌, ◌<◌, ◌^◌, false, List, [], length, map, filter_map, slice_get}
use Rattle.std.specs.Option.{option_map}
use Rattle.lol_base.specs.Ascending.{ascending_once}
use Rattle.lol_memory.specs.declared.match_info.MatchInfo.{MatchInfo}
use Rattle.lol_reasons.specs.Explanations.{Reason, Text, added_by, explanations}
use Rattle.lol_reasons.specs.Numbered.{HoldsItems}
use Rattle.lol_reasons.specs.ReasonLaws.{ids_of_reasons}
use Rattle.lol_reasons.specs.declared.explainer.Explainer.{Explainer}
use Rattle.lol_machine.specs.Views.{selectors}
use Rattle.lol_matcher.specs.Last.{last_or}
use Rattle.lol_matcher.specs.Told.{Matching, Told, heard}

-- The reasons for the last of the events that were heard; there are none before the first.
abbrev pub reasons_told : List Text → Told → List Reason
reasons_told texts told = last_or [] (explanations (selectors told.ast) told.esi (added_by texts) (heard told))

-- Fewer events were heard than a word counts, so that each has its number.
abbrev pub AreNumbered : Told → Type 0
AreNumbered told = length (heard told) < 2 ^ 64

-- the numbers of the items in a report
abbrev pub numbers_in : List MatchInfo → List ℕ
numbers_in matched = map (λ info. info.match_id) matched

-- The ids that items were added under, by their numbers.
abbrev pub ids_under : List (ℕ × ℕ × ℕ) → List ℕ → List ℕ
ids_under items numbers = filter_map (λ n. option_map (λ item. item.0) (slice_get items n)) numbers

-- the ids of the reasons for the last event, ascending and each once: what it is reported under
abbrev pub ids_with_reasons : List Text → Told → List ℕ
ids_with_reasons texts told = ascending_once (ids_of_reasons (reasons_told texts told))

-- This holds of all texts whose items a matcher has, each under its number, as an explainer knows them, until a tag is refused.
abbrev pub ForTexts : {T : Type 0} → Explainer → Matching T → (List Text → Type 0) → Type 0
ForTexts explainer m holds =
    m.failed ≡ false → (texts : List Text) → HoldsItems (added_by texts) (record { ast = m.told.ast; explainer = explainer }) → holds texts
