-- Start tags that are answered with their reasons.
use Rattle.std.specs.Prelude.{ℕ, ◌≡◌, false, Bool, List, [], ◌∷◌, ◌++◌, get_or, map, Option, Some, None, Vec, vec_capacity}
use Rattle.lol_base.specs.CodePoints.{line_feed}
use Rattle.lol_instructions.specs.Tries.{names_counted, attributes_counted}
use Rattle.lol_instructions.specs.declared.tries.Tries.{Tries}
use Rattle.lol_matcher.specs.Explaining.{AreNumbered, reasons_told}
use Rattle.lol_matcher.specs.Plain.{matches_for}
use Rattle.lol_matcher.specs.Told.{Matching}
use Rattle.lol_program.specs.declared.ast.Ast.{Ast}
use Rattle.lol_reasons.specs.Explanations.{Reason, added_by}
use Rattle.lol_reasons.specs.Numbered.{HoldsItems}
use Rattle.lol_machine.specs.Answers.{Match, Started}
use Rattle.lol_machine.specs.ReportRoom.{HoldsEachReport}
use Rattle.lol_machine.specs.Views.{match_of, selectors}
use Rattle.lol_script.specs.AnswerTexts.{started_text}
use Rattle.lol_script.specs.Output.{lines_of, shown_answer, shown_reason}
use Rattle.lol_script.specs.Scripts.{Script, texts_in}
use Rattle.lol_script.specs.declared.explained.Explained.{Explained}

-- In this tree the items of a script stand under their numbers, and the code explains what a matcher of it reports.
pub record Explains (code : Explained) (s : Script) (ast : Ast) : Type 0 where
  pub holds : HoldsItems (added_by (texts_in s)) (record { ast = ast; explainer = code.explainer })
  pub lines : code.lines.items ≡ map (λ line. line.number) s.selects
  pub room : HoldsEachReport (selectors ast) (vec_capacity code.ids)

-- the lines of reasons, by the numbers of the lines of texts
abbrev pub lines_by : List ℕ → List Reason → List (List ℕ)
lines_by lines reasons = map (λ reason. shown_reason (get_or lines reason.text 0) reason) reasons

-- the line of a start tag that is reported for these reasons, and after it theirs
abbrev pub explained_text : Explained → List Reason → Bool → Bool → Option Tries → List ℕ
explained_text code reasons with_content asked tries =
    (started_text (matches_for with_content reasons) asked tries ++ line_feed ∷ []) ++ lines_of (lines_by code.lines.items reasons)

module _ (m : Matching (Unit {0})) (shows asked : Bool) (old new : List ℕ) where
  -- the line of the last start tag, by what it is reported under
  abbrev line_under : List Match → List ℕ
  line_under matched = shown_answer shows (Started matched asked (names_counted m.tries) (attributes_counted m.tries))

  -- The line of the last start tag was written, and those of its reasons if they are shown.
  abbrev pub IsReasoned : Option Explained → Option Explained → Type 0
  IsReasoned None explained = (explained ≡ None) × (new ≡ old ++ lines_of (line_under (map match_of m.matched) ∷ []))
  IsReasoned (Some code) None = ⊥
  IsReasoned (Some code) (Some later) =
      (s : Script) → Explains code s m.told.ast → m.failed ≡ false → AreNumbered m.told
      → Explains later s m.told.ast
      × (new ≡ old ++ lines_of (line_under (matches_for m.opened (reasons_told (texts_in s) m.told)) ∷ lines_by code.lines.items (reasons_told (texts_in s) m.told)))
