-- The reasons that a report of numbers tells.
use Rattle.std.proofs.Common.{◌≡◌, ℕ, ◌+◌, ◌-◌, ◌<◌, Bool, true, false, List, [], ◌∷◌, ◌++◌, length, map, take, get_or, Option, Some, None, Contains, refl, sym, ap, ◌∙◌, subst, arith, append-nil}
use Rattle.std.specs.Prelude.{filter_map, is_some, min, slice_get}
use Rattle.std.specs.List.{cons_option}
use Rattle.std.specs.Option.{option_map}
use Rattle.std.proofs.lemmas.List.{length-map, length-reverse, length-take-le, take_all, take_more}
use Rattle.std.proofs.lemmas.List.Elements.{filter_map-append}
use Rattle.lol_base.specs.LocalNames.{Name}
use Rattle.lol_base.specs.MemberLaws.{Among, among_from_contains, contains_from_among}
use Rattle.lol_base.specs.PlaceLaws.{some_is}
use Rattle.lol_instructions.specs.Tests.{Element}
use Rattle.lol_program.specs.Paths.{Path, Selectors}
use Rattle.lol_program.specs.Programs.{IsAt, Program}
use Rattle.lol_stack.specs.declared.stack_item.StackItemOf.{StackItemOf}
use Rattle.lol_machine.specs.Answers.{matching_ids}
use Rattle.lol_machine.specs.Matching.{matches}
use Rattle.lol_machine.specs.ReportLaws.{matching_ids-same}
use Rattle.lol_machine.specs.Machines.{item_shown, items_shown}
use Rattle.lol_reasons.specs.Explanations.{Added, Reason, Text, added_by, reason_by, reason_of, reasons}
use Rattle.lol_reasons.specs.Matched.{IsAlone, IsAround}
use Rattle.lol_reasons.specs.MachinesShow.{items_around}
use Rattle.lol_reasons.specs.Numbered.{HasItemsOf, item_shown as text_item, numbered_from}
use Rattle.lol_reasons.specs.Witnesses.{innermost_witness}
use Rattle.lol_reasons.specs.ReasonLaws.{source_of_added}
use Rattle.lol_reasons.specs.declared.explainer.ItemOfText.{ItemOfText}
use Rattle.lol_reasons.proofs.ClimbingLemmas.{at_map, same_lengths}
use Rattle.lol_reasons.proofs.Numbers.{matched_are_ids, matched_at, matched_from, each_told, numbered_at, at_numbered}
use Rattle.lol_reasons.proofs.WitnessLemmas.{innermost_where_matches}

-- 1. The item under a number

module _ (ts : List Text) (s : Selectors) (has : HasItemsOf ts s) where
  abbrev added : List Added
  added = added_by ts

  pub item_alone : (k : ℕ) (a : Added) → IsAt added k a → IsAlone s a.path k
  item_alone k a at = record {
    added = (has (a.path, k)).0 (contains_from_among (numbered_from 0 added) (a.path, k) (subst (λ n. Among (numbered_from 0 added) (a.path, n)) (omega arith) (at_numbered 0 added k a at)));
    only = λ other h.
        let found = numbered_at 0 added other k (among_from_contains (numbered_from 0 added) (other, k) ((has (other, k)).1 h)) in
        let same : found.by ≡ a = some_is (sym found.at ∙ ap (slice_get added) (omega (arith, found.is)) ∙ at) in
        sym found.same ∙ ap (λ (x : Added). x.path) same;
  }

  module _ (e : Element) (outer : List Element) where
    pub matched_are : matching_ids s.pairs e outer ≡ matched_from e outer 0 added
    matched_are =
        sym (matching_ids-same e outer (numbered_from 0 added) s.pairs
        (λ p h. among_from_contains s.pairs p ((has p).0 (contains_from_among (numbered_from 0 added) p h)))
        (λ p h. among_from_contains (numbered_from 0 added) p ((has p).1 (contains_from_among s.pairs p h))))
        ∙ matched_are_ids e outer 0 added

    pub record MatchedItem (k : ℕ) : Type 0 where
      pub by : Added
      pub at : IsAt added k by
      pub fits : matches by.path e outer ≡ true

    pub matched_item : (k : ℕ) → Contains (matching_ids s.pairs e outer) k → MatchedItem k
    matched_item k h =
        let m = matched_at e outer 0 added k (subst (λ l. Among l k) matched_are (among_from_contains (matching_ids s.pairs e outer) k h)) in
        record { by = m.by; at = ap (slice_get added) (omega (arith, m.is)) ∙ m.at; fits = m.fits }

-- 2. The reason under a number

module _ (ts : List Text) (e : Element) (outer : List Element) where
  abbrev pub reason_by_item : Option Added → Option Reason
  reason_by_item None = None
  reason_by_item (Some a) = reason_of e outer a

  abbrev pub reason_under : ℕ → Option Reason
  reason_under k = reason_by_item (slice_get (added_by ts) k)

  abbrev pub told_under : (ks : List ℕ) → List Reason
  told_under ks = filter_map reason_under ks

  has_none : (a : Added) → matches a.path e outer ≡ false → reason_of e outer a ≡ None
  has_none a fails = by_option (innermost_witness a.path e outer) (innermost_where_matches a.path e outer ∙ fails)
    where
      by_option : (o : Option (List ℕ)) → is_some o ≡ false → option_map (reason_by a) o ≡ None
      by_option None h = refl
      by_option (Some w) h = cc

  pub all_told : (s : Selectors) → HasItemsOf ts s → told_under (matching_ids s.pairs e outer) ≡ reasons (added_by ts) e outer
  all_told s has =
      ap told_under (matched_are ts s has e outer)
      ∙ each_told e outer (reason_of e outer) reason_under has_none 0 (added_by ts) (λ index a at. ap reason_under (omega arith) ∙ ap reason_by_item at)

  told_more : (ks : List ℕ) (i k : ℕ) → i < length ks → k ≡ get_or ks i k → told_under (take (i + 1) ks) ≡ told_under (take i ks) ++ cons_option (reason_under k) []
  told_more ks i k within at = ap told_under (take_more ks i k within ∙ ap (λ n. take i ks ++ n ∷ []) (sym at)) ∙ filter_map-append reason_under (take i ks) (k ∷ [])

  -- the number was looked at, and had this reason or none
  pub told_none : (ks : List ℕ) (i k : ℕ) (told : List Reason) → i < length ks → k ≡ get_or ks i k → told ≡ told_under (take i ks) → reason_under k ≡ None → told ≡ told_under (take (i + 1) ks)
  told_none ks i k told within at is none = is ∙ sym (told_more ks i k within at ∙ ap (λ o. told_under (take i ks) ++ cons_option o []) none ∙ append-nil (told_under (take i ks)))

  pub told_some : (ks : List ℕ) (i k : ℕ) (told : List Reason) (r : Reason) → i < length ks → k ≡ get_or ks i k → told ≡ told_under (take i ks) → reason_under k ≡ Some r
      → told ++ r ∷ [] ≡ told_under (take (i + 1) ks)
  told_some ks i k told r within at is some = ap (λ l. l ++ r ∷ []) is ∙ sym (told_more ks i k within at ∙ ap (λ o. told_under (take i ks) ++ cons_option o []) some)

-- an item that is known under a number tells what was added
pub same_reason : (items : List ItemOfText) (added : List Added) (k : ℕ) (i : ItemOfText) (a : Added) (w : List ℕ) → map text_item items ≡ map source_of_added added
    → slice_get items k ≡ Some i → slice_get added k ≡ Some a → reason_by a w ≡ record { id = i.id; text = i.text; item = i.item; witness = w }
same_reason items added k i a w known i_at a_at =
    let same : source_of_added a ≡ text_item i = some_is (sym (at_map source_of_added added k a a_at) ∙ sym (ap (λ l. slice_get l k) known) ∙ at_map text_item items k i i_at) in
    ap (λ (p : ℕ × ℕ × ℕ). record { id = p.0; text = p.1; item = p.2; witness = w }) same

-- 3. The items around

module _ {E : Type 0} where
  around_are_first : (opened : Bool) (items : List (StackItemOf Name E)) (n : ℕ) → length (items_around opened items) ≡ n → items_around opened items ≡ take (min n (length items)) items
  around_are_first true items n many =
      ap (λ k. take k items) (omega (arith, many, length-take-le (length items - 1) items (omega arith)))
  around_are_first false items n many = sym (take_all (min n (length items)) items (omega (arith, many)))

  pub around_is : (opened : Bool) (s : Selectors) (paths : List Path) (p : Program) (items : List (StackItemOf Name E)) (numbers : List ℕ) (outer : List Element)
      → IsAround s paths p (items_shown (items_around opened items)) numbers outer → IsAround s paths p (items_shown (take (min (length numbers) (length items)) items)) numbers outer
  around_is opened s paths p items numbers outer h = subst (λ l. IsAround s paths p (items_shown l) numbers outer) (around_are_first opened items (length numbers) many) h
    where
      many : length (items_around opened items) ≡ length numbers
      many = omega (
        arith,
        same_lengths paths p (items_shown (items_around opened items)) outer h.are_items,
        ap length h.are_numbers,
        length-map outer (λ (a : Element). a.number),
        length-reverse numbers,
        length-reverse (map item_shown (items_around opened items)),
        length-map (items_around opened items) item_shown,
      )
