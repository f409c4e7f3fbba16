-- The reasons for the last event.
use Rattle.std.proofs.Common.{◌≡◌, ℕ, suc, ◌+◌, ◌-◌, ◌<◌, ◌≤◌, ◌^◌, Bool, true, false, true≢false, List, [], ◌∷◌, ◌++◌, length, map, Option, Some, None, inl, inr, refl, sym, ap, ◌∙◌, subst, arith, length-append}
use Rattle.std.specs.Cmp.{unsigned_Decides}
use Rattle.std.specs.Prelude.{◌==◌, reverse, take, filter, filter_map, slice_get, not, ◌&&◌, ◌⊎◌, if◌then◌else◌, Vec}
use Rattle.std.specs.Global.{Global}
use Rattle.std.proofs.lemmas.List.{length-map, length-reverse, reverse-append, reverse-reverse, take-map, take_at}
use Rattle.lol_base.specs.StartTags.{StartTag}
use Rattle.lol_base.specs.declared.namespace.Namespace.{Namespace}
use Rattle.lol_instructions.specs.Tests.{Element}
use Rattle.lol_memory.specs.declared.match_info.MatchInfo.{MatchInfo}
use Rattle.lol_program.specs.Paths.{Selectors}
use Rattle.lol_base.specs.LocalNames.{Name}
use Rattle.lol_stack.specs.Stacks.{element_data_of}
use Rattle.lol_stack.specs.declared.stack_item.StackItemOf.{StackItemOf}
use Rattle.lol_reasons.specs.MachinesShow.{items_around}
use Rattle.lol_matcher.specs.declared.open_element.OpenElement.{OpenElement}
use Rattle.lol_machine.specs.Answers.{Ended, Match, answers_from, after, document, document_from, is_dropped, matching_ids, report}
use Rattle.lol_machine.specs.Documents.{Document, empty, element_of}
use Rattle.lol_machine.specs.Events.{Event, Start, End, has_content}
use Rattle.lol_machine.specs.Laws.{ids_of}
use Rattle.lol_machine.specs.Standing.{Descend, IsOrdered}
use Rattle.lol_machine.specs.Views.{match_of, selectors}
use Rattle.lol_reasons.specs.AskedRuns.{bare_tag}
use Rattle.lol_instructions.specs.declared.tries.Tries.{Tries}
use Rattle.lol_reasons.specs.Explanations.{Added, Reason, Text, added_by, explanations, explanations_from, reasons, reasons_at}
use Rattle.lol_reasons.specs.Numbered.{HasItemsOf}
use Rattle.lol_reasons.specs.NumberingLaws.{NumbersNameWhatMatches}
use Rattle.lol_reasons.specs.ReasonLaws.{EachHasOneReason, ids_of_reasons, source_of_added, source_of_reason}
use Rattle.lol_matcher.specs.Explaining.{AreNumbered, ids_under, numbers_in, reasons_told}
use Rattle.lol_matcher.specs.ExplainingLaws.{dropped_reasons, ids_are_those, ids_match, kept_reasons, last_reasons, numbers_give_ids}
use Rattle.lol_matcher.specs.Last.{IsLast, last_or, matches_in}
use Rattle.lol_matcher.specs.LastLaws.{dropped_answer, kept_answer, last_is, last_opened, opens_if}
use Rattle.lol_matcher.specs.Told.{Told, elements_of, heard, in_word, numbers_open, with_dropped}
use Rattle.lol_matcher.proofs.Numbers.{number_is, open_after_start}

-- 0. Lists

pub none_in : {A : Type 0} (xs : List A) → (length xs == 0) ≡ true → xs ≡ []
none_in [] is = refl
none_in (x ∷ xs) is = let none : suc (length xs) ≡ 0 = (unsigned_Decides (suc (length xs)) 0).0 is in absurd (omega arith)

pub some_in : {A : Type 0} (xs : List A) → (length xs == 0) ≡ false → xs ≡ [] → ⊥
some_in xs is none = true≢false (sym (ap (λ l. length l == 0) none) ∙ is)

-- 1. The last event

snoc : {A : Type 0} (xs : List A) → (xs ≡ []) ⊎ ((front : List A) × (x : A) × (xs ≡ front ++ x ∷ []))
snoc [] = inl refl
snoc {A} (x ∷ xs) = after_first (snoc xs)
  where
    after_first : (xs ≡ []) ⊎ ((front : List A) × (y : A) × (xs ≡ front ++ y ∷ [])) → (x ∷ xs ≡ []) ⊎ ((front : List A) × (y : A) × (x ∷ xs ≡ front ++ y ∷ []))
    after_first (inl none) = inr ([], x, ap (λ l. x ∷ l) none)
    after_first (inr last) = inr (x ∷ last.0, last.1, ap (λ l. x ∷ l) last.2)

-- The last event is a start tag that was reported under these.
pub record WasReported (told : Told) (matched : List MatchInfo) (opened : Bool) : Type 0 where
  pub free : told.asked ≡ None
  pub before : List Event
  pub tag : StartTag
  pub last : told.events ≡ before ++ Start tag ∷ []
  pub kept : is_dropped (selectors told.ast) (element_of (document (selectors told.ast) told.esi before) tag) (document (selectors told.ast) told.esi before).open_elements ≡ false
  pub report_is :
      map match_of matched
      ≡ report (selectors told.ast) told.esi (element_of (document (selectors told.ast) told.esi before) tag) (document (selectors told.ast) told.esi before).open_elements
  pub content : opened ≡ has_content told.esi tag

-- or it has no report and no reasons
abbrev pub IsEither : Told → List MatchInfo → Bool → Type 0
IsEither told matched opened = WasReported told matched opened ⊎ ((matched ≡ []) × ((texts : List Text) → reasons_told texts told ≡ []))

none_shown : (matched : List MatchInfo) → map match_of matched ≡ [] → matched ≡ []
none_shown [] is = refl
none_shown (info ∷ matched) is = cc

module _ (told : Told) (matched : List MatchInfo) (tries : Tries) (opened : Bool) (is : IsLast (selectors told.ast) told matched tries opened) where
  abbrev s : Selectors
  s = selectors told.ast

  abbrev esi : Bool
  esi = told.esi

  heard_first : heard told ≡ [] → IsEither told matched opened
  heard_first none = inr (
    none_shown matched (is.reported ∙ ap (λ events. matches_in (last_or (Ended []) (answers_from s esi empty events))) none),
    λ texts. ap (λ events. last_or [] (explanations s esi (added_by texts) events)) none,
  )

  module _ (before : List Event) where
    abbrev d : Document
    d = document s esi before

    heard_end : (name : List ℕ) → heard told ≡ before ++ End name ∷ [] → IsEither told matched opened
    heard_end name last = inr (
      none_shown matched (is.reported ∙ ap matches_in (last_is s esi (heard told) before (End name) last)),
      λ texts. ap (λ events. last_or [] (explanations s esi (added_by texts) events)) last ∙ last_reasons s esi (added_by texts) before (End name),
    )

    heard_dropped : (tag : StartTag) → heard told ≡ before ++ Start tag ∷ [] → is_dropped s (element_of d tag) d.open_elements ≡ true → IsEither told matched opened
    heard_dropped tag last drops = inr (
      none_shown matched (is.reported ∙ (ap matches_in (last_is s esi (heard told) before (Start tag) last) ∙ ap matches_in (dropped_answer (is_dropped s (element_of d tag) d.open_elements) _ drops))),
      λ texts. ap (λ events. last_or [] (explanations s esi (added_by texts) events)) last ∙ (last_reasons s esi (added_by texts) before (Start tag) ∙ dropped_reasons (is_dropped s (element_of d tag) d.open_elements) _ drops),
    )

    heard_start : told.asked ≡ None → (tag : StartTag) → told.events ≡ before ++ Start tag ∷ [] → heard told ≡ before ++ Start tag ∷ [] → (drop : Bool) → is_dropped s (element_of d tag) d.open_elements ≡ drop → IsEither told matched opened
    heard_start free tag last heard_is true drops = heard_dropped tag heard_is drops
    heard_start free tag last heard_is false drops = inl (record {
      free = free;
      before = before;
      tag = tag;
      last = last;
      kept = drops;
      report_is = is.reported ∙ (ap matches_in (last_is s esi (heard told) before (Start tag) heard_is) ∙ ap matches_in (kept_answer (is_dropped s (element_of d tag) d.open_elements) _ drops));
      content = is.opens ∙ (last_opened s esi (heard told) before (Start tag) heard_is ∙ opens_if (has_content esi tag) _ drops);
    })

  by_event : told.asked ≡ None → (told.events ≡ []) ⊎ ((front : List Event) × (x : Event) × (told.events ≡ front ++ x ∷ [])) → IsEither told matched opened
  by_event free (inl none) = heard_first (ap (with_dropped told.events) free ∙ none)
  by_event free (inr last) = by_kind last.1 last.2
    where
      by_kind : (event : Event) → told.events ≡ last.0 ++ event ∷ [] → IsEither told matched opened
      by_kind (Start tag) at = heard_start last.0 free tag at (ap (with_dropped told.events) free ∙ at) (is_dropped s (element_of (document s esi last.0) tag) (document s esi last.0).open_elements) refl
      by_kind (End name) at = heard_end last.0 name (ap (with_dropped told.events) free ∙ at)

  -- a tag that waits is heard as dropped
  pub last_case : (asked : Option (List ℕ × Namespace)) → told.asked ≡ asked
      → ((a : List ℕ × Namespace) → asked ≡ Some a → is_dropped s (element_of (document s esi told.events) (bare_tag a.0 a.1)) (document s esi told.events).open_elements ≡ true) → IsEither told matched opened
  last_case None at drops = by_event at (snoc told.events)
  last_case (Some a) at drops = heard_dropped told.events (bare_tag a.0 a.1) (ap (with_dropped told.events) at) (drops a refl)

-- 2. The reasons of one that is reported

filter_none : (named : NumbersNameWhatMatches) (one : EachHasOneReason) (texts : List Text) (s : Selectors) → HasItemsOf texts s → (e : Element) (outer : List Element) → matching_ids s.pairs e outer ≡ [] → reasons (added_by texts) e outer ≡ []
filter_none named one texts s has e outer none =
    no_sources (reasons (added_by texts) e outer) (one (added_by texts) e outer ∙ (sym (named texts s has e outer) ∙ ap (filter_map (slice_get (map source_of_added (added_by texts)))) none))
  where
    no_sources : (rs : List Reason) → map source_of_reason rs ≡ [] → rs ≡ []
    no_sources [] is = refl
    no_sources (r ∷ rs) is = cc

module _ (told : Told) (matched : List MatchInfo) (opened : Bool) (is : WasReported told matched opened) where
  abbrev around_it : Document
  around_it = document (selectors told.ast) told.esi is.before

  abbrev e : Element
  e = element_of around_it is.tag

  pub heard_is : heard told ≡ is.before ++ Start is.tag ∷ []
  heard_is = ap (with_dropped told.events) is.free ∙ is.last

  pub reasons_are : (texts : List Text) → reasons_told texts told ≡ reasons (added_by texts) e around_it.open_elements
  reasons_are texts =
      ap (λ events. last_or [] (explanations (selectors told.ast) told.esi (added_by texts) events)) heard_is
      ∙ (last_reasons (selectors told.ast) told.esi (added_by texts) is.before (Start is.tag) ∙ kept_reasons (is_dropped (selectors told.ast) e around_it.open_elements) _ is.kept)

  pub ids_are : numbers_in matched ≡ ids_of (report (selectors told.ast) told.esi e around_it.open_elements)
  ids_are = ids_match matched ∙ ap ids_of is.report_is

  matching : numbers_in matched ≡ matching_ids (selectors told.ast).pairs e around_it.open_elements
  matching = ids_are ∙ ids_are_those (has_content told.esi is.tag) (matching_ids (selectors told.ast).pairs e around_it.open_elements)

  pub none_reported : NumbersNameWhatMatches → EachHasOneReason → (texts : List Text) → HasItemsOf texts (selectors told.ast) → matched ≡ [] → reasons_told texts told ≡ []
  none_reported named one texts has none =
      reasons_are texts ∙ filter_none named one texts (selectors told.ast) has e around_it.open_elements (sym matching ∙ ap numbers_in none)

  pub ids_told : NumbersNameWhatMatches → EachHasOneReason → (texts : List Text) → HasItemsOf texts (selectors told.ast) → (items : List (ℕ × ℕ × ℕ)) → items ≡ map source_of_added (added_by texts)
      → ids_under items (numbers_in matched) ≡ ids_of_reasons (reasons_told texts told)
  ids_told named one texts has items known =
      (λ i. ids_under (known i) (matching i))
      ∙ (numbers_give_ids named one texts (selectors told.ast) has e around_it.open_elements ∙ ap ids_of_reasons (sym (reasons_are texts)))

  -- 3. The numbers around it

  opened_is : (has_content told.esi is.tag && not (is_dropped (selectors told.ast) e around_it.open_elements)) ≡ opened
  opened_is = opens_if (has_content told.esi is.tag) _ is.kept ∙ sym is.content

  elements_are : elements_of told ≡ (if opened then e ∷ around_it.open_elements else around_it.open_elements)
  elements_are = ap (λ events. (document (selectors told.ast) told.esi events).open_elements) heard_is ∙ open_after_start (selectors told.ast) told.esi is.before is.tag opened opened_is

  all : length (heard told) ≡ length is.before + 1
  all = ap length heard_is ∙ length-append is.before (Start is.tag ∷ [])

  pub number_told : AreNumbered told → (count : ℕ) → count ≡ in_word (length told.events) → count - 1 ≡ e.number
  number_told few count counted =
      let events : length told.events ≡ length (heard told) = ap length (is.last ∙ sym heard_is) in
      let at = number_is (selectors told.ast) told.esi is.before is.tag in
      omega (arith, few, counted, events, all, at)

  in_words : (bound : ℕ) (elements : List Element) → bound ≤ 2 ^ 64 - 1 → Descend bound elements → map (λ (e : Element). in_word e.number) elements ≡ map (λ (e : Element). e.number) elements
  in_words bound [] within falls = refl
  in_words bound (x ∷ elements) within falls =
      let below = falls.0 in
      let first : in_word x.number ≡ x.number = omega (arith, within, below) in
      let rest = in_words x.number elements (omega (arith, within, below)) falls.1 in
      λ i. first i ∷ rest i

  numbers_without : (opened : Bool) (numbers : List ℕ) → numbers ≡ numbers_open (if opened then e ∷ around_it.open_elements else around_it.open_elements)
      → (if opened then take (length numbers - 1) numbers else numbers) ≡ numbers_open around_it.open_elements
  numbers_without false numbers same = same
  numbers_without true numbers same =
      let outer = map (λ (e : Element). in_word e.number) around_it.open_elements in
      let split : numbers ≡ reverse outer ++ in_word e.number ∷ [] = same ∙ reverse-append (in_word e.number ∷ []) outer in
      let many : length numbers - 1 ≡ length (reverse outer) = omega (arith, ap length split, length-append (reverse outer) (in_word e.number ∷ [])) in
      (λ i. take (many i) (split i)) ∙ take_at (reverse outer) (in_word e.number ∷ []) (length (reverse outer)) refl

  pub numbers_told : AreNumbered told → (most : ℕ) → IsOrdered around_it most → (numbers : List ℕ) → numbers ≡ numbers_open (elements_of told)
      → map (λ (e : Element). e.number) around_it.open_elements ≡ reverse (if opened then take (length numbers - 1) numbers else numbers)
  numbers_told few most ordered numbers same =
      let at = number_is (selectors told.ast) told.esi is.before is.tag in
      let words = in_words around_it.events around_it.open_elements (omega (arith, few, all, at)) ordered.numbers in
      sym words
      ∙ (sym (reverse-reverse (map (λ (e : Element). in_word e.number) around_it.open_elements))
      ∙ ap reverse (sym (numbers_without opened numbers (same ∙ ap numbers_open elements_are))))

-- the numbers of the items around it
pub around_are : {T : Type 0} (opened : Bool) (items : List (StackItemOf Name (OpenElement T))) (numbers : List ℕ) → numbers ≡ map (λ (e : OpenElement T). e.number) (element_data_of items)
    → map (λ (item : StackItemOf Name (OpenElement T)). item.element_data.number) (items_around opened items) ≡ (if opened then take (length numbers - 1) numbers else numbers)
around_are {T} opened items numbers is = by_opened opened
  where
    all : map (λ (item : StackItemOf Name (OpenElement T)). item.element_data.number) items ≡ numbers
    all = same items ∙ sym is
      where
        same : (items : List (StackItemOf Name (OpenElement T))) → map (λ (item : StackItemOf Name (OpenElement T)). item.element_data.number) items ≡ map (λ (e : OpenElement T). e.number) (element_data_of items)
        same [] = refl
        same (item ∷ items) = ap (λ numbers. item.element_data.number ∷ numbers) (same items)

    by_opened : (opened : Bool) → map (λ (item : StackItemOf Name (OpenElement T)). item.element_data.number) (items_around opened items) ≡ (if opened then take (length numbers - 1) numbers else numbers)
    by_opened false = all
    by_opened true =
        let many : length items ≡ length numbers = sym (length-map items (λ (item : StackItemOf Name (OpenElement T)). item.element_data.number)) ∙ ap length all in
        sym (take-map (λ (item : StackItemOf Name (OpenElement T)). item.element_data.number) (length items - 1) items)
        ∙ (λ i. take (many i - 1) (all i))
