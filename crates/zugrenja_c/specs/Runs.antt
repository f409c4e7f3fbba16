-- A matcher that is told of tags.
use Rattle.std.specs.Prelude.{ℕ, ◌≡◌, true, false, if◌then◌else◌, List, [], map, Option, Some, None, vec_capacity}
use Rattle.lol_matcher.specs.Explaining.{ids_with_reasons}
use Rattle.lol_matcher.specs.Told.{Matching}
use Rattle.lol_reasons.specs.Explanations.{added_by}
use Rattle.lol_reasons.specs.Numbered.{HoldsItems, texts_in}
use Rattle.lol_reasons.specs.declared.texts.Texts.{Texts}
use Rattle.lol_machine.specs.ReportRoom.{HoldsEachReport}
use Rattle.lol_machine.specs.Views.{selectors}
use Rattle.zugrenja_c.specs.declared.running.Explained.{Explained}

-- A matcher and, if it explains, the texts whose items are its selectors, each under its number.
pub record Run : Type 0 where
  pub matcher : Matching ℕ
  pub texts : Option Texts

-- what the last tag was reported under: by the ids of the texts exactly those of the reasons
abbrev pub ids_by_texts : Option Texts → Matching ℕ → List ℕ
ids_by_texts None m = map (λ info. info.match_id) m.matched
ids_by_texts (Some texts) m = if m.failed then [] else ids_with_reasons (texts_in texts) m.told

abbrev pub ids_matched : Run → List ℕ
ids_matched r = ids_by_texts r.texts r.matcher

-- the texts of what explains
abbrev pub texts_of : Option Explained → Option Texts
texts_of None = None
texts_of (Some explained) = Some explained.texts

-- What explains knows the items, and has a list with room, of what the last tag was reported under.
pub record Lists (m : Matching ℕ) (explained : Explained) : Type 0 where
  pub holds : HoldsItems (added_by (texts_in explained.texts)) (record { ast = m.told.ast; explainer = explained.explainer })
  pub room : HoldsEachReport (selectors m.told.ast) (vec_capacity explained.ids)
  pub ids : explained.ids.items ≡ ids_by_texts (Some explained.texts) m

abbrev pub IsExplained : Matching ℕ → Option Explained → Type 0
IsExplained m None = Unit {0}
IsExplained m (Some explained) = Lists m explained
