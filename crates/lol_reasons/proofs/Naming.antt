-- The items that the numbers of a report name.
use Rattle.std.proofs.Common.{◌≡◌, ℕ, zero, suc, ◌+◌, Bool, true, false, cond, List, [], ◌∷◌, map, filter, Some, refl, ap, ◌∙◌, arith}
use Rattle.std.specs.Prelude.{filter_map, slice_get}
use Rattle.std.specs.List.{cons_option}
use Rattle.lol_instructions.specs.Tests.{Element}
use Rattle.lol_program.specs.Programs.{IsAt}
use Rattle.lol_machine.specs.Matching.{matches}
use Rattle.lol_reasons.specs.Explanations.{Added, added_by}
use Rattle.lol_reasons.specs.NumberingLaws.{NumbersNameWhatMatches}
use Rattle.lol_reasons.specs.ReasonLaws.{source_of_added}
use Rattle.lol_reasons.proofs.ClimbingLemmas.{at_map}
use Rattle.lol_reasons.proofs.Numbers.{matched_from}
use Rattle.lol_reasons.proofs.Telling.{matched_are}

module _ (e : Element) (outer : List Element) where
  abbrev that_match : List Added → List Added
  that_match added = filter (λ a. matches a.path e outer) added

  named_from : (items : List (ℕ × ℕ × ℕ)) (n : ℕ) (added : List Added) → ((index : ℕ) (a : Added) → IsAt added index a → slice_get items (n + index) ≡ Some (source_of_added a))
      → filter_map (slice_get items) (matched_from e outer n added) ≡ map source_of_added (that_match added)
  named_from items n [] at = refl
  named_from items n (a ∷ added) at =
      by_test (matches a.path e outer) (named_from items (n + 1) added (λ index b is. ap (slice_get items) (omega arith) ∙ at (suc index) b is))
    where
      first : slice_get items n ≡ Some (source_of_added a)
      first = ap (slice_get items) (omega arith) ∙ at zero a refl

      by_test : (b : Bool) → filter_map (slice_get items) (matched_from e outer (n + 1) added) ≡ map source_of_added (that_match added)
          → filter_map (slice_get items) (cond b (n ∷ matched_from e outer (n + 1) added) (matched_from e outer (n + 1) added))
          ≡ map source_of_added (cond b (a ∷ that_match added) (that_match added))
      by_test true later = λ i. cons_option (first i) (later i)
      by_test false later = later

pub numbers_name_what_matches : NumbersNameWhatMatches
numbers_name_what_matches texts s has e outer =
    let items = map source_of_added (added_by texts) in
    ap (filter_map (slice_get items)) (matched_are texts s has e outer)
    ∙ named_from e outer items 0 (added_by texts) (λ index a is. ap (slice_get items) (omega arith) ∙ at_map source_of_added (added_by texts) index a is)
