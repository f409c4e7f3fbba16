-- What selectors that have the items of texts under their numbers answer, by the texts' own selectors.
use Rattle.std.specs.Prelude.{◌≡◌, Bool, List, map, flat_map}
use Rattle.lol_base.specs.Ascending.{ascending_once}
use Rattle.lol_base.specs.StartTags.{StartTag}
use Rattle.lol_reasons.specs.AskedRuns.{AreTold}
use Rattle.lol_program.specs.Asts.{is_with_rows}
use Rattle.lol_program.specs.Conditions.{pairs_under}
use Rattle.lol_program.specs.Nodes.{selectors_of}
use Rattle.lol_program.specs.Paths.{Selectors}
use Rattle.lol_reasons.specs.Explanations.{Reason, Text, added_by, explanations, reasons_at}
use Rattle.lol_reasons.specs.Numbered.{HoldsItems}
use Rattle.lol_reasons.specs.NumberingLaws.{reporting}
use Rattle.lol_reasons.specs.ReasonLaws.{ids_of_reasons}
use Rattle.lol_reasons.specs.declared.texts.Numbering.{Numbering}
use Rattle.lol_machine.specs.Answers.{Match, answer, document}
use Rattle.lol_machine.specs.Events.{Event, Start, has_content}
use Rattle.lol_machine.specs.Refusals.{Allowance}
use Rattle.lol_machine.specs.Views.{selectors}
use Rattle.lol_machine.specs.Vms.{is_asked_for}
use Rattle.lol_matcher.specs.Refusing.{refusal_after}

-- The selectors of texts, each item under the id of its text.
abbrev pub plain_selectors : List Text → Selectors
plain_selectors texts = selectors_of (flat_map (λ t. pairs_under t.id t.items) texts)

-- what an element is reported under that has these reasons: their ids, ascending and each once
abbrev pub matches_for : Bool → List Reason → List Match
matches_for content reasons = map (λ id. record { id = id; with_content = content }) (ascending_once (ids_of_reasons reasons))

-- After events the texts' own selectors have the same document and the same reasons. They ask for the attributes of a start tag, refuse it
-- and answer it alike, tries included; but they report it under the ids of its reasons.
pub record AnswersAsTexts (texts : List Text) (plain s : Selectors) (esi : Bool) (events : List Event) : Type 0 where
  pub documents : document plain esi events ≡ document s esi events
  pub explained : explanations plain esi (added_by texts) events ≡ explanations s esi (added_by texts) events
  pub asked : (tag : StartTag) → is_asked_for plain esi events tag ≡ is_asked_for s esi events tag
  pub refused : (a : Allowance) (tag : StartTag) → refusal_after plain esi a events tag ≡ refusal_after s esi a events tag
  pub answered : (tag : StartTag)
      → answer plain esi (document plain esi events) (Start tag)
      ≡ reporting (matches_for (has_content esi tag) (reasons_at s (added_by texts) (document s esi events) (Start tag)))
      (answer s esi (document s esi events) (Start tag))

-- The law: a tree that has the items of texts under their numbers answers as the texts, both with rows or both without.
abbrev pub ItemsAnswerAsTexts : Type 0
ItemsAnswerAsTexts =
    (texts : List Text) (numbering : Numbering) → HoldsItems (added_by texts) numbering → (esi : Bool) (events : List Event)
    → AnswersAsTexts texts (record (plain_selectors texts) { by_keys = is_with_rows numbering.ast }) (selectors numbering.ast) esi events

-- The law: what was told is explained as the events are.
abbrev pub ToldIsExplainedAlike : Type 0
ToldIsExplainedAlike =
    (texts : List Text) (numbering : Numbering) → HoldsItems (added_by texts) numbering → (esi : Bool) (events told : List Event)
    → AreTold (selectors numbering.ast) esi events told
    → explanations (selectors numbering.ast) esi (added_by texts) told ≡ explanations (selectors numbering.ast) esi (added_by texts) events
