-- Reasons, and the report that they give.
use Rattle.std.proofs.Common.{◌≡◌, ℕ, ◌+◌, Bool, true, false, cond, List, [], ◌∷◌, ◌++◌, map, filter, Option, Some, None, inl, inr, refl, sym, ap, ◌∙◌, subst}
use Rattle.lol_base.specs.Ascending.{ascending_once}
use Rattle.std.specs.Prelude.{is_some, flat_map}
use Rattle.std.specs.Option.{option_map}
use Rattle.std.specs.List.{cons_option}
use Rattle.std.proofs.lemmas.List.{map-append}
use Rattle.lol_base.specs.MemberLaws.{Among, among_from_contains, contains_from_among}
use Rattle.lol_instructions.specs.Tests.{Element}
use Rattle.lol_program.specs.Paths.{Path, Selectors}
use Rattle.lol_program.specs.Conditions.{paths_of, pairs_under}
use Rattle.lol_machine.specs.Matching.{matches}
use Rattle.lol_program.specs.Sets.{SameMembers}
use Rattle.lol_machine.specs.Events.{Event, Start, End, has_content}
use Rattle.lol_machine.specs.Documents.{Document, empty, element_of}
use Rattle.lol_machine.specs.Answers.{Started, Dropped, report, asks, is_dropped, name_tries, attribute_tries, matching_ids, answer, after, answers_from, document_from}
use Rattle.lol_machine.specs.Laws.{ids_of}
use Rattle.lol_machine.specs.ReportLaws.{matching_ids-same}
use Rattle.lol_reasons.specs.Witnesses.{innermost_witness}
use Rattle.lol_reasons.specs.Explanations.{Text, Added, added_items, added_from, pairs_added, Reason, reason_by, reasons, reasons_at, explanations_from}
use Rattle.lol_reasons.specs.ReasonLaws.{PairsAreAdded, ReasonsGiveReport, EachHasOneReason, ReasonsAreExact, IsReasonOf, ids_of_reasons, source_of_reason, source_of_added, RunsAreExplained, ReasonsStay, ids_reported}
use Rattle.lol_reasons.proofs.WitnessLemmas.{innermost_where_matches}

-- 1. Pairs

items_pairs : (id text item : ℕ) (paths : List Path) → pairs_added (added_items id text item paths) ≡ map (λ path. (path, id)) paths
items_pairs id text item [] = refl
items_pairs id text item (path ∷ paths) = ap (λ more. (path, id) ∷ more) (items_pairs id text (item + 1) paths)

pairs_from : (text : ℕ) (texts : List Text) → pairs_added (added_from text texts) ≡ flat_map (λ t. pairs_under t.id t.items) texts
pairs_from text [] = refl
pairs_from text (t ∷ texts) =
    map-append (λ (a : Added). (a.path, a.id)) (added_items t.id text 0 (paths_of t.items)) (added_from (text + 1) texts)
    ∙ (λ i. items_pairs t.id text 0 (paths_of t.items) i ++ pairs_from (text + 1) texts i)

pub pairs_are_added : PairsAreAdded
pairs_are_added texts = pairs_from 0 texts

-- 2. Ids

module _ (e : Element) (outer : List Element) where
  ids_kept : (added : List Added) → ids_of_reasons (reasons added e outer) ≡ map (λ (p : Path × ℕ). p.1) (filter (λ (p : Path × ℕ). matches p.0 e outer) (pairs_added added))
  ids_kept [] = refl
  ids_kept (a ∷ added) = by_test (innermost_witness a.path e outer) (matches a.path e outer) (innermost_where_matches a.path e outer) (ids_kept added)
    where
      by_test : (o : Option (List ℕ)) (b : Bool) → is_some o ≡ b
          → ids_of_reasons (reasons added e outer) ≡ map (λ (p : Path × ℕ). p.1) (filter (λ (p : Path × ℕ). matches p.0 e outer) (pairs_added added))
          → ids_of_reasons (cons_option (option_map (reason_by a) o) (reasons added e outer))
          ≡ map (λ (p : Path × ℕ). p.1) (cond b ((a.path, a.id) ∷ filter (λ (p : Path × ℕ). matches p.0 e outer) (pairs_added added)) (filter (λ (p : Path × ℕ). matches p.0 e outer) (pairs_added added)))
      by_test None true h = cc
      by_test None false h = λ more. more
      by_test (Some w) true h = λ more. ap (λ ids. a.id ∷ ids) more
      by_test (Some w) false h = cc

reasons_give_ids : (added : List Added) (e : Element) (outer : List Element) → ascending_once (ids_of_reasons (reasons added e outer)) ≡ matching_ids (pairs_added added) e outer
reasons_give_ids added e outer = ap ascending_once (ids_kept e outer added)

pub ids_of_matches : (ids : List ℕ) (content : Bool) → ids_of (map (λ (id : ℕ). record { id = id; with_content = content }) ids) ≡ ids
ids_of_matches [] content = refl
ids_of_matches (id ∷ ids) content = ap (λ more. id ∷ more) (ids_of_matches ids content)

pub reasons_give_report : ReasonsGiveReport
reasons_give_report s added same esi e outer =
    reasons_give_ids added e outer
    ∙ matching_ids-same e outer (pairs_added added) s.pairs
    (λ p h. among_from_contains s.pairs p ((same p).0 (contains_from_among (pairs_added added) p h)))
    (λ p h. among_from_contains (pairs_added added) p ((same p).1 (contains_from_among s.pairs p h)))
    ∙ sym (ids_of_matches (matching_ids s.pairs e outer) (has_content esi e.tag))

-- 3. One for each item

module _ (e : Element) (outer : List Element) where
  each_kept : (added : List Added) → map source_of_reason (reasons added e outer) ≡ map source_of_added (filter (λ (a : Added). matches a.path e outer) added)
  each_kept [] = refl
  each_kept (a ∷ added) = by_test (innermost_witness a.path e outer) (matches a.path e outer) (innermost_where_matches a.path e outer) (each_kept added)
    where
      by_test : (o : Option (List ℕ)) (b : Bool) → is_some o ≡ b
          → map source_of_reason (reasons added e outer) ≡ map source_of_added (filter (λ (a : Added). matches a.path e outer) added)
          → map source_of_reason (cons_option (option_map (reason_by a) o) (reasons added e outer))
          ≡ map source_of_added (cond b (a ∷ filter (λ (a : Added). matches a.path e outer) added) (filter (λ (a : Added). matches a.path e outer) added))
      by_test None true h = cc
      by_test None false h = λ more. more
      by_test (Some w) true h = λ more. ap (λ indexes. source_of_added a ∷ indexes) more
      by_test (Some w) false h = cc

pub each_has_one_reason : EachHasOneReason
each_has_one_reason added e outer = each_kept e outer added

-- 4. Each reason

record Given (added : List Added) (e : Element) (outer : List Element) (r : Reason) : Type 0 where
  by : Added
  within : Among added by
  is : IsReasonOf e outer r by

module _ (e : Element) (outer : List Element) (r : Reason) where
  given : (added : List Added) → Among (reasons added e outer) r → Given added e outer r
  given [] h = absurd h
  given (a ∷ added) h = by_test (innermost_witness a.path e outer) refl h (given added)
    where
      wider : Given added e outer r → Given (a ∷ added) e outer r
      wider g = record { by = g.by; within = inr g.within; is = g.is }

      by_test : (o : Option (List ℕ)) → innermost_witness a.path e outer ≡ o
          → Among (cons_option (option_map (reason_by a) o) (reasons added e outer)) r
          → (Among (reasons added e outer) r → Given added e outer r) → Given (a ∷ added) e outer r
      by_test None is h later = wider (later h)
      by_test (Some w) is (inl same) later =
          record { by = a; within = inl refl; is = (ap (λ (x : Reason). x.id) (sym same), ap (λ (x : Reason). x.text) (sym same), ap (λ (x : Reason). x.item) (sym same), is ∙ ap (λ (x : Reason). Some x.witness) same) }
      by_test (Some w) is (inr h) later = wider (later h)

  kept : (added : List Added) (a : Added) → Among added a → IsReasonOf e outer r a → Among (reasons added e outer) r
  kept [] a h is = absurd h
  kept (b ∷ added) a h is = by_membership h (innermost_witness b.path e outer) refl (kept added a)
    where
      by_membership : Among (b ∷ added) a → (o : Option (List ℕ)) → innermost_witness b.path e outer ≡ o → (Among added a → IsReasonOf e outer r a → Among (reasons added e outer) r)
          → Among (cons_option (option_map (reason_by b) o) (reasons added e outer)) r
      by_membership (inl same) o at later =
          let found : o ≡ Some r.witness = sym at ∙ ap (λ (x : Added). innermost_witness x.path e outer) same ∙ is.3 in
          subst (λ q. Among (cons_option (option_map (reason_by b) q) (reasons added e outer)) r) (sym found)
          (inl (λ i. record { id = (ap (λ (x : Added). x.id) same ∙ sym is.0) i; text = (ap (λ (x : Added). x.text) same ∙ sym is.1) i; item = (ap (λ (x : Added). x.item) same ∙ sym is.2) i; witness = r.witness }))
      by_membership (inr h) None at later = later h is
      by_membership (inr h) (Some w) at later = inr (later h is)

pub reasons_are_exact : ReasonsAreExact
reasons_are_exact added e outer r = (
  λ h. let g = given e outer r added (among_from_contains (reasons added e outer) r h) in (g.by, contains_from_among added g.by g.within, g.is),
  λ h. contains_from_among (reasons added e outer) r (kept e outer r added h.0 (among_from_contains added h.0 h.1) h.2),
)

-- 5. Runs

told : (s : Selectors) (added : List Added) → SameMembers s.pairs (pairs_added added) → (esi : Bool) (d : Document) (event : Event)
    → ascending_once (ids_of_reasons (reasons_at s added d event)) ≡ ids_reported (answer s esi d event)
told s added same esi d (End name) = refl
told s added same esi d (Start tag) = by_test (is_dropped s e d.open_elements)
  where
    e : Element
    e = element_of d tag

    by_test : (b : Bool) → ascending_once (ids_of_reasons (cond b [] (reasons added e d.open_elements)))
        ≡ ids_reported (cond b Dropped (Started (report s esi e d.open_elements) (asks s e d.open_elements) (name_tries s e d.open_elements) (attribute_tries s e d.open_elements)))
    by_test true = refl
    by_test false = reasons_give_report s added same esi e d.open_elements

all_told : (s : Selectors) (added : List Added) → SameMembers s.pairs (pairs_added added) → (esi : Bool) (d : Document) (events : List Event)
    → map (λ rs. ascending_once (ids_of_reasons rs)) (explanations_from s esi added d events) ≡ map ids_reported (answers_from s esi d events)
all_told s added same esi d [] = refl
all_told s added same esi d (event ∷ events) = λ i. told s added same esi d event i ∷ all_told s added same esi (after s esi d event) events i

pub runs_are_explained : RunsAreExplained
runs_are_explained s added same esi events = all_told s added same esi empty events

stay_from : (s : Selectors) (added : List Added) (esi : Bool) (d : Document) (events later : List Event)
    → explanations_from s esi added d (events ++ later) ≡ explanations_from s esi added d events ++ explanations_from s esi added (document_from s esi d events) later
stay_from s added esi d [] later = refl
stay_from s added esi d (event ∷ events) later = ap (λ more. reasons_at s added d event ∷ more) (stay_from s added esi (after s esi d event) events later)

pub reasons_stay : ReasonsStay
reasons_stay s added esi events later = stay_from s added esi empty events later
