-- A machine that runs over events, one event on.
use Rattle.std.proofs.Common.{◌≡◌, ℕ, ◌+◌, ◌*◌, ◌≤◌, ◌<◌, ◌^◌, Bool, true, false, List, [], ◌∷◌, ◌++◌, length, drop, Option, Some, None, refl, sym, ap, ◌∙◌, subst, arith}
use Rattle.std.specs.Prelude.{max, ◌&&◌, not}
use Rattle.std.proofs.lemmas.List.{length-drop}
use Rattle.lol_base.specs.StartTags.{StartTag}
use Rattle.lol_memory.specs.Limiter.{Limiter}
use Rattle.lol_memory.specs.Slots.{slots}
use Rattle.lol_program.specs.Paths.{Selectors}
use Rattle.lol_instructions.specs.Counters.{full_count}
use Rattle.lol_stack.specs.Stacks.{last_count, list_in}
use Rattle.lol_machine.specs.Answers.{after, document, is_dropped}
use Rattle.lol_machine.specs.AnswerLaws.{document_push, longest_push}
use Rattle.lol_machine.specs.Documents.{Document, empty, element_of, children_of, index_of, outer_part, after_start, after_end}
use Rattle.lol_machine.specs.Events.{Event, Start, End, has_content}
use Rattle.lol_machine.specs.Refusals.{greatest_count, longest}
use Rattle.lol_machine.specs.Standing.{DocumentsAreOrdered}
use Rattle.lol_machine.specs.VmLaws.{SlotsAreOfDepth, StandingCounts}
use Rattle.lol_machine.specs.Vms.{Vm, Stands, stack_in, slots_charged, slot_bytes}
use Rattle.lol_matcher.specs.Keeping.{Runs, IsCharged}
use Rattle.lol_machine.specs.Openings.{children_after, position_before, room_for, no_room_for}
use Rattle.lol_matcher.proofs.Refusals.{IsChargedFor}

-- 1. Documents, one event on

module _ (s : Selectors) (esi : Bool) where
  pub later_document : (events : List Event) (event : Event) → document s esi (events ++ event ∷ []) ≡ after s esi (document s esi events) event
  later_document events event = document_push s esi empty events event

  pub later_longest : (events : List Event) (event : Event) → longest s esi (events ++ event ∷ []) ≡ max (longest s esi events) (length (after s esi (document s esi events) event).open_elements)
  later_longest events event = longest_push s esi empty events event

-- 2. A machine that runs

module _ {E : Type 0} (depths : SlotsAreOfDepth E) (counts : StandingCounts E) (ordered : DocumentsAreOrdered) (s : Selectors) (esi : Bool) where
  pub charged_for : (events : List Event) (vm : Vm E) (now : Limiter) → Runs s esi events vm now → IsChargedFor (document s esi events) (longest s esi events) (list_in (stack_in vm)) now
  charged_for events vm now runs = record {
    enough = (ordered s esi events).enough;
    some = runs.some;
    word = runs.word;
    many = (counts s esi vm events runs.stands).0;
    charged = depths s esi vm events runs.stands;
    usage = runs.charged;
    within = runs.within;
  }

  -- a counter that isn't full has room for the next child, and a full one hasn't
  module _ (events : List Event) (vm : Vm E) (now : Limiter) (runs : Runs s esi events vm now) (tag : StartTag) where
    pub has_place : (last_count (stack_in vm) ≡ full_count → ⊥) → (element_of (document s esi events) tag).position ≤ greatest_count
    has_place = room_for (document s esi events) (last_count (stack_in vm)) tag ((counts s esi vm events runs.stands).1 tag) runs.countable

    pub has_no_place : last_count (stack_in vm) ≡ full_count → greatest_count < (element_of (document s esi events) tag).position
    has_no_place = no_room_for (document s esi events) (last_count (stack_in vm)) tag ((counts s esi vm events runs.stands).1 tag)

  -- the same before a tag that was counted and not opened
  module _ (events : List Event) (tag : StartTag) (vm : Vm E) (now : Limiter) (runs : Runs s esi (events ++ Start tag ∷ []) vm now) (dropped : is_dropped s (element_of (document s esi events) tag) (document s esi events).open_elements ≡ true) where
    abbrev d : Document
    d = document s esi events

    opens_nothing : (content drop : Bool) → drop ≡ true → (content && not drop) ≡ false
    opens_nothing true drop is = ap not is
    opens_nothing false drop is = refl

    with_child : document s esi (events ++ Start tag ∷ []) ≡ after_start d tag false
    with_child = later_document s esi events (Start tag) ∙ ap (after_start d tag) (opens_nothing (has_content esi tag) _ dropped)

    same_longest : longest s esi (events ++ Start tag ∷ []) ≡ longest s esi events
    same_longest =
        let enough = (ordered s esi events).enough in
        let same : max (longest s esi events) (length d.open_elements) ≡ longest s esi events = omega (arith, enough) in
        later_longest s esi events (Start tag) ∙ (ap (λ b. max (longest s esi events) (length (after_start d tag b).open_elements)) (opens_nothing (has_content esi tag) _ dropped) ∙ same)

    pub charged_before : IsChargedFor d (longest s esi events) (list_in (stack_in vm)) now
    charged_before = record {
      enough = (ordered s esi events).enough;
      some = runs.some;
      word = runs.word;
      many = (counts s esi vm (events ++ Start tag ∷ []) runs.stands).0 ∙ ap (λ (d : Document). length d.open_elements) with_child;
      charged = depths s esi vm (events ++ Start tag ∷ []) runs.stands ∙ ap (slots (slot_bytes vm)) same_longest;
      usage = runs.charged;
      within = runs.within;
    }

    countable_with : (parent : Option ℕ) → children_of parent (after_start d tag false).children ≤ greatest_count
    countable_with parent = subst (λ (d : Document). children_of parent d.children ≤ greatest_count) with_child (runs.countable parent)

    pub countable_before : (parent : Option ℕ) → children_of parent d.children ≤ greatest_count
    countable_before parent =
        let c = children_after d tag false parent in
        let more = countable_with parent in
        omega (arith, c, more)

    pub room_before : (element_of d tag).position ≤ greatest_count
    room_before = position_before d tag false countable_with

  -- one event on
  module _ (events : List Event) (event : Event) (old new : Vm E) (now later : Limiter) (some : 1 ≤ slot_bytes old) (word : now.maximum < 2 ^ 64) (stands : Stands s esi new (events ++ event ∷ [])) (bytes : slot_bytes new ≡ slot_bytes old)
      (maximum : later.maximum ≡ now.maximum) (charged : IsCharged new later)
      (fits : slots (slot_bytes old) (max (longest s esi events) (length (after s esi (document s esi events) event).open_elements)) * slot_bytes old ≤ now.maximum)
      (countable : (parent : Option ℕ) → children_of parent (after s esi (document s esi events) event).children ≤ greatest_count) where
    pub runs_on : Runs s esi (events ++ event ∷ []) new later
    runs_on =
        let most = max (longest s esi events) (length (after s esi (document s esi events) event).open_elements) in
        let slots_are : slots_charged new ≡ slots (slot_bytes old) most = depths s esi new (events ++ event ∷ []) stands ∙ (λ i. slots (bytes i) (later_longest s esi events event i)) in
        let usage : later.usage ≡ slots (slot_bytes old) most * slot_bytes old = charged ∙ (λ i. slots_are i * bytes i) in
        record {
          stands = stands;
          some = subst (λ n. 1 ≤ n) (sym bytes) some;
          word = subst (λ n. n < 2 ^ 64) (sym maximum) word;
          charged = charged;
          within = subst (λ n. later.usage ≤ n) (sym maximum) (subst (λ n. n ≤ now.maximum) (sym usage) fits);
          countable = λ parent. subst (λ (d : Document). children_of parent d.children ≤ greatest_count) (sym (later_document s esi events event)) (countable parent);
        }

  -- 3. End tags

  outer_is_shorter : (index : Option ℕ) (d : Document) → length (outer_part index d.open_elements) ≤ length d.open_elements
  outer_is_shorter None d = omega arith
  outer_is_shorter (Some index) d = let shorter = length-drop (index + 1) d.open_elements in omega (arith, shorter)

  pub runs_after_end : (events : List Event) (name : List ℕ) (old new : Vm E) (now : Limiter) → Runs s esi events old now → Stands s esi new (events ++ End name ∷ []) → slot_bytes new ≡ slot_bytes old → IsCharged new now
      → Runs s esi (events ++ End name ∷ []) new now
  runs_after_end events name old new now runs stands bytes charged =
      let d = document s esi events in
      let enough = (ordered s esi events).enough in
      let shorter = outer_is_shorter (index_of name d.open_elements) d in
      let same : longest s esi events ≡ max (longest s esi events) (length (after_end d name).open_elements) = omega (arith, enough, shorter) in
      let usage : now.usage ≡ slots (slot_bytes old) (longest s esi events) * slot_bytes old = runs.charged ∙ ap (λ n. n * slot_bytes old) (depths s esi old events runs.stands) in
      runs_on events (End name) old new now now runs.some runs.word stands bytes refl charged
      (subst (λ n. slots (slot_bytes old) n * slot_bytes old ≤ now.maximum) same (subst (λ n. n ≤ now.maximum) usage runs.within))
      (λ parent. runs.countable parent)
