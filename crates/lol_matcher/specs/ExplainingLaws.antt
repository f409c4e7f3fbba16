-- The reasons for the last event, and the ids of items.
use Rattle.std.proofs.Common.{ℕ, ◌≡◌, Bool, true, false, List, [], ◌∷◌, ◌++◌, map, Option, Some, None, refl, sym, ap, ◌∙◌}
use Rattle.std.specs.Prelude.{filter_map, slice_get, if◌then◌else◌}
use Rattle.std.specs.List.{cons_option}
use Rattle.std.specs.Option.{option_map}
use Rattle.lol_instructions.specs.Tests.{Element}
use Rattle.lol_memory.specs.declared.match_info.MatchInfo.{MatchInfo}
use Rattle.lol_program.specs.Paths.{Selectors}
use Rattle.lol_machine.specs.Answers.{after, document, document_from, matching_ids}
use Rattle.lol_machine.specs.Documents.{Document, empty}
use Rattle.lol_machine.specs.Events.{Event}
use Rattle.lol_machine.specs.Laws.{ids_of}
use Rattle.lol_machine.specs.Views.{match_of}
use Rattle.lol_reasons.specs.Explanations.{Added, Reason, Text, added_by, explanations, explanations_from, reasons, reasons_at}
use Rattle.lol_reasons.specs.Numbered.{HasItemsOf}
use Rattle.lol_reasons.specs.NumberingLaws.{NumbersNameWhatMatches}
use Rattle.lol_reasons.specs.ReasonLaws.{EachHasOneReason, ids_of_reasons, source_of_added, source_of_reason}
use Rattle.lol_matcher.specs.Explaining.{ids_under, numbers_in}
use Rattle.lol_matcher.specs.Last.{last_or}
use Rattle.lol_matcher.specs.LastLaws.{last_push}

-- 1. Reports

pub ids_match : (matched : List MatchInfo) → numbers_in matched ≡ ids_of (map match_of matched)
ids_match [] = refl
ids_match (info ∷ matched) = ap (λ ids. info.match_id ∷ ids) (ids_match matched)

pub ids_are_those : (content : Bool) (ids : List ℕ) → ids_of (map (λ id. record { id = id; with_content = content }) ids) ≡ ids
ids_are_those content [] = refl
ids_are_those content (id ∷ ids) = ap (λ l. id ∷ l) (ids_are_those content ids)

-- 2. The last event

module _ (s : Selectors) (esi : Bool) (added : List Added) where
  explained_push : (d : Document) (before : List Event) (event : Event)
      → explanations_from s esi added d (before ++ event ∷ []) ≡ explanations_from s esi added d before ++ reasons_at s added (document_from s esi d before) event ∷ []
  explained_push d [] event = refl
  explained_push d (e ∷ before) event = ap (λ more. reasons_at s added d e ∷ more) (explained_push (after s esi d e) before event)

  pub last_reasons : (before : List Event) (event : Event) → last_or [] (explanations s esi added (before ++ event ∷ [])) ≡ reasons_at s added (document s esi before) event
  last_reasons before event = ap (last_or []) (explained_push empty before event) ∙ last_push [] (explanations s esi added before) (reasons_at s added (document s esi before) event)

pub dropped_reasons : (drop : Bool) (rs : List Reason) → drop ≡ true → (if drop then [] else rs) ≡ []
dropped_reasons true rs is = refl
dropped_reasons false rs is = cc

pub kept_reasons : (drop : Bool) (rs : List Reason) → drop ≡ false → (if drop then [] else rs) ≡ rs
kept_reasons true rs is = cc
kept_reasons false rs is = refl

-- 3. The ids of the items that match are those of the reasons

ids_named : (items : List (ℕ × ℕ × ℕ)) (numbers : List ℕ) → ids_under items numbers ≡ map (λ (item : ℕ × ℕ × ℕ). item.0) (filter_map (slice_get items) numbers)
ids_named items [] = refl
ids_named items (n ∷ numbers) = by_item (slice_get items n) (ids_named items numbers)
  where
    by_item : (o : Option (ℕ × ℕ × ℕ)) → ids_under items numbers ≡ map (λ (item : ℕ × ℕ × ℕ). item.0) (filter_map (slice_get items) numbers)
        → cons_option (option_map (λ (item : ℕ × ℕ × ℕ). item.0) o) (ids_under items numbers)
        ≡ map (λ (item : ℕ × ℕ × ℕ). item.0) (cons_option o (filter_map (slice_get items) numbers))
    by_item None later = later
    by_item (Some item) later = ap (λ ids. item.0 ∷ ids) later

ids_placed : (rs : List Reason) → map (λ (item : ℕ × ℕ × ℕ). item.0) (map source_of_reason rs) ≡ ids_of_reasons rs
ids_placed [] = refl
ids_placed (r ∷ rs) = ap (λ ids. r.id ∷ ids) (ids_placed rs)

pub numbers_give_ids : NumbersNameWhatMatches → EachHasOneReason → (ts : List Text) (s : Selectors) → HasItemsOf ts s → (e : Element) (outer : List Element)
    → ids_under (map source_of_added (added_by ts)) (matching_ids s.pairs e outer) ≡ ids_of_reasons (reasons (added_by ts) e outer)
numbers_give_ids named one ts s has e outer =
    ids_named (map source_of_added (added_by ts)) (matching_ids s.pairs e outer)
    ∙ (ap (map (λ (item : ℕ × ℕ × ℕ). item.0)) (named ts s has e outer ∙ sym (one (added_by ts) e outer)) ∙ ids_placed (reasons (added_by ts) e outer))
