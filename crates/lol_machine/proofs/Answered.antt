-- What a start tag is answered, by what is run for it.
use Rattle.lol_machine.proofs.Common.{◌≡◌, ℕ, true, List, ◌↔◌, Contains, Range, Element, is_html, Selectors, Path, ascending_once, matching_ids, asks, ascending_is_determined, ascending_ascends, pairs_from_ascends, matching_ids_ascend, among_ascending, ascending_among, all_addresses, AreClosed, IsProgramOf, HoldOnce, context_of, among_from_contains, contains_from_among, starts_open, ◌∙◌}
use Rattle.lol_program.specs.Programs.{Program}
use Rattle.lol_machine.proofs.Counted.{Tried}
use Rattle.lol_machine.proofs.KeysLoseNothing.{NotAtOnce, asks_tried}
use Rattle.lol_machine.proofs.Gathered.{runs_give_reports}
use Rattle.lol_machine.proofs.Stops.{left_by_names, stopped_starts_are_whole}

-- a list with the members of a report, put in order, is the report
pub in_order : (ids : List ℕ) (s : Selectors) (e : Element) (outer : List Element) → ((id : ℕ) → Contains ids id ↔ Contains (matching_ids s.pairs e outer) id) → ascending_once ids ≡ matching_ids s.pairs e outer
in_order ids s e outer same =
    ascending_is_determined (ascending_once ids) (matching_ids s.pairs e outer) (pairs_from_ascends (ascending_once ids) (ascending_ascends ids)) (matching_ids_ascend e outer s.pairs)
    (λ id. (
      λ h. (same id).0 (contains_from_among ids id (among_ascending ids id (among_from_contains (ascending_once ids) id h))),
      λ h. contains_from_among (ascending_once ids) id (ascending_among ids id (among_from_contains ids id ((same id).1 h))),
    ))

-- what it asks of a tag of HTML that isn't asked for at once, and reports, is what the definition says
pub record AnswersStart (s : Selectors) (p : Program) (ranges : List (Range ℕ)) (e : Element) (outer : List Element) : Type 0 where
  pub asked : is_html e.tag.namespace ≡ true → NotAtOnce s e outer → starts_open p e (left_by_names p e ranges) ≡ asks s e outer
  pub matched : ascending_once (context_of p true e (all_addresses ranges)).ids ≡ matching_ids s.pairs e outer

pub starts_answer : (s : Selectors) (paths : List Path) (p : Program) (ranges : List (Range ℕ)) (e : Element) (outer : List Element) → AreClosed s → IsProgramOf s paths p → HoldOnce paths ranges (Tried s e outer)
    → AnswersStart s p ranges e outer
starts_answer s paths p ranges e outer closed program held = record {
  asked = λ html later. (stopped_starts_are_whole s paths p ranges e outer true closed program held).asks ∙ asks_tried s e outer html later;
  matched = in_order (context_of p true e (all_addresses ranges)).ids s e outer (runs_give_reports s paths p ranges e outer closed program held).ids;
}
