-- Which start tags report an id.
use Rattle.std.proofs.Common.{◌≡◌, ℕ, Bool, true, false, List, [], ◌∷◌, map, Contains, inl, inr, refl, sym, ap, ◌∙◌, subst, ◌==◌, ◌&&◌, not}
use Rattle.std.specs.List.{list_any}
use Rattle.std.proofs.lemmas.Bool.Decides.{Decides-eqb}
use Rattle.lol_base.specs.StartTags.{StartTag}
use Rattle.lol_instructions.specs.Tests.{Element}
use Rattle.lol_program.specs.Paths.{Path, Selectors}
use Rattle.lol_base.specs.MemberLaws.{Among, among_from_contains, contains_from_among, among_map, map_among, any_among, among_any}
use Rattle.lol_machine.specs.Events.{Event, Start, End, has_content}
use Rattle.lol_machine.specs.Documents.{Document, empty, element_of, after_start}
use Rattle.lol_machine.specs.Answers.{Match, Dropped, is_dropped, report, matching_ids, after, answers_from}
use Rattle.lol_machine.specs.ReportLaws.{among_matching_ids, matching_ids_among}
use Rattle.lol_base.specs.BoolLaws.{same_bool}
use Rattle.lol_reasons.specs.RunLaws.{reports_id, SamePathsUnder, OneIdsPathsDecide}
use Rattle.lol_machine.specs.AnswerLaws.{started_if}

module _ (s t : Selectors) (id : ℕ) (same : SamePathsUnder id s t) (esi : Bool) where
  abbrev is_id : Match → Bool
  is_id m = m.id == id

  module _ (e : Element) (outer : List Element) where
    abbrev as_match : ℕ → Match
    as_match n = record { id = n; with_content = has_content esi e.tag }

    goes_over : (r q : Selectors) → ((path : Path) → Contains r.pairs (path, id) → Contains q.pairs (path, id)) → list_any is_id (report r esi e outer) ≡ true → list_any is_id (report q esi e outer) ≡ true
    goes_over r q over h =
        let found = among_any is_id (report r esi e outer) h in
        let at = among_map as_match (matching_ids r.pairs e outer) found.0 found.1 in
        let is : at.0 ≡ id = ap (λ (x : Match). x.id) at.2 ∙ (Decides-eqb found.0.id id).0 found.2 in
        let m = among_matching_ids e outer r.pairs id (subst (Among (matching_ids r.pairs e outer)) is at.1) in
        let there = matching_ids_among e outer q.pairs m.0 id (among_from_contains q.pairs (m.0, id) (over m.0 (contains_from_among r.pairs (m.0, id) m.1))) m.2 in
        any_among is_id (report q esi e outer) (as_match id) (map_among as_match (matching_ids q.pairs e outer) id there) ((Decides-eqb id id).1 refl)

    reported_alike : list_any is_id (report s esi e outer) ≡ list_any is_id (report t esi e outer)
    reported_alike = same_bool _ _ (goes_over s t (λ path. (same path).0)) (goes_over t s (λ path. (same path).1))

  abbrev NoneDropped : Selectors → Document → List Event → Type 0
  NoneDropped r d events = Among (answers_from r esi d events) Dropped → ⊥

  -- the first start tag of a run in which none is dropped
  not_dropped : (r : Selectors) (d : Document) (tag : StartTag) (events : List Event) → NoneDropped r d (Start tag ∷ events) → is_dropped r (element_of d tag) d.open_elements ≡ false
  not_dropped r d tag events none = by_test (is_dropped r (element_of d tag) d.open_elements) (λ h. none (inl h))
    where
      by_test : (b : Bool) → (started_if r esi (element_of d tag) d.open_elements b ≡ Dropped → ⊥) → b ≡ false
      by_test true h = absurd (h refl)
      by_test false h = refl

  abbrev told : Selectors → Document → StartTag → Bool → Bool
  told r d tag dropped = reports_id id (started_if r esi (element_of d tag) d.open_elements dropped)

  told_alike : (d : Document) (events : List Event) → NoneDropped s d events → NoneDropped t d events → map (reports_id id) (answers_from s esi d events) ≡ map (reports_id id) (answers_from t esi d events)
  told_alike d [] first second = refl
  told_alike d (End name ∷ events) first second =
      ap (λ more. false ∷ more) (told_alike (after s esi d (End name)) events (λ a. first (inr a)) (λ a. second (inr a)))
  told_alike d (Start tag ∷ events) first second =
      let e = element_of d tag in
      let here = not_dropped s d tag events first in
      let there = not_dropped t d tag events second in
      let now : told s d tag (is_dropped s e d.open_elements) ≡ told t d tag (is_dropped t e d.open_elements) =
      ap (told s d tag) here ∙ (reported_alike e d.open_elements ∙ sym (ap (told t d tag) there)) in
      let next : after s esi d (Start tag) ≡ after t esi d (Start tag) = λ i. after_start d tag (has_content esi tag && not ((here ∙ sym there) i)) in
      let later = told_alike (after s esi d (Start tag)) events (λ a. first (inr a)) (λ a. second (inr (subst (λ x. Among (answers_from t esi x events) Dropped) next a))) in
      (λ i. now i ∷ later i) ∙ ap (λ x. told t d tag (is_dropped t e d.open_elements) ∷ map (reports_id id) (answers_from t esi x events)) next

pub one_ids_paths_decide : OneIdsPathsDecide
one_ids_paths_decide s t id same esi events first second =
    told_alike s t id same esi empty events (λ a. first (contains_from_among (answers_from s esi empty events) Dropped a)) (λ a. second (contains_from_among (answers_from t esi empty events) Dropped a))
