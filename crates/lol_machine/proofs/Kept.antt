-- A program and a stack that stand for events, one event on.
use Rattle.lol_machine.proofs.Common.{◌≡◌, ℕ, zero, suc, ◌+◌, ◌-◌, ◌<◌, ◌≤◌, Bool, true, false, cond, not, List, [], ◌∷◌, ◌++◌, length, map, take, drop, position, Option, Some, None, refl, sym, ap, ◌∙◌, subst, arith, nat_le, max, ◌&&◌, if◌then◌else◌, option_map, nat_tests, length-drop, lowercased, Name, LimitedVec, StartTag, Element, Path, Selectors, Event, Start, has_content, Document, empty, element_of, parent_of, same_parent, children_of, typed_children_of, index_of, outer_part, after_start, document, asks, longest, full_count, and-false, IsProgramOf, OpenItem, AreItems, HasRanges, Matches, jumps_of, hereditary_jumps_of, Context, AreTypedIf, StandsOn, StandsFor, IsOrdered, unfinished, item_shown, items_shown, children_shown, items_in, list_in, slots_in, item_bytes_in, root_count, active_in, typed_in, last_count, counted_in, IsSame, IsPushed, IsClosed, IsEnded, IsEndedAt, StackItemOf, StackOf, StackNames, local_name}
use Rattle.std.proofs.lemmas.List.{drop-map}
use Rattle.std.specs.Str.{bytes_eq}
use Rattle.lol_base.specs.ListLaws.{position-map}
use Rattle.lol_memory.specs.Slots.{slots, slots_after}
use Rattle.lol_memory.specs.SlotLaws.{slots_grow, slots_pushed}
use Rattle.lol_program.specs.Programs.{Program}
use Rattle.lol_stack.specs.ClimbLaws.{cutting_stands, none_stand, stand_lower}
use Rattle.lol_stack.specs.SoundLaws.{closing_keeps_sound, counting_keeps_sound, opening_keeps_sound, same_is_sound}
use Rattle.lol_stack.specs.SoundStacks.{IsSound}
use Rattle.lol_stack.specs.TypedCounts.{TypedCount, cut_to}
use Rattle.lol_stack.specs.TypedFunctions.{cutting_drops_above}
use Rattle.lol_stack.specs.TypedLaws.{StandUpTo}
use Rattle.lol_machine.specs.AnswerLaws.{document_push, longest_push}
use Rattle.lol_machine.specs.Documents.{Child}
use Rattle.lol_machine.proofs.Children.{count_of, none_above, not_parent, other_children, other_typed, typed_drop, typed_same}
use Rattle.lol_machine.proofs.StackCounting.{counted_are, is_counted, many_are, shown_push}
use Rattle.lol_machine.proofs.StackEnds.{closes_innermost, found_within, is_named, shown_cut}
use Rattle.lol_machine.proofs.Stops.{asks_by_names}

-- 1. Items

module _ (paths : List Path) (p : Program) where
  pub items_length : (items : List OpenItem) (elements : List Element) → AreItems paths p items elements → length items ≡ length elements
  items_length [] [] h = refl
  items_length [] (e ∷ outer) h = absurd h
  items_length (item ∷ items) [] h = absurd h
  items_length (item ∷ items) (e ∷ outer) h = ap suc (items_length items outer h.1)

  items_drop : (n : ℕ) (items : List OpenItem) (elements : List Element) → AreItems paths p items elements → AreItems paths p (drop n items) (drop n elements)
  items_drop zero items elements h = h
  items_drop (suc n) [] [] h = tt
  items_drop (suc n) [] (e ∷ outer) h = absurd h
  items_drop (suc n) (item ∷ items) [] h = absurd h
  items_drop (suc n) (item ∷ items) (e ∷ outer) h = items_drop n items outer h.1

  same_names : (items : List OpenItem) (elements : List Element) → AreItems paths p items elements → map (λ (item : OpenItem). item.name) items ≡ map (λ (e : Element). lowercased e.tag.name) elements
  same_names [] [] h = refl
  same_names [] (e ∷ outer) h = absurd h
  same_names (item ∷ items) [] h = absurd h
  same_names (item ∷ items) (e ∷ outer) h = λ i. h.0.name i ∷ same_names items outer h.1 i

  same_index : (name : List ℕ) (items : List OpenItem) (elements : List Element) → AreItems paths p items elements → position (λ (item : OpenItem). bytes_eq item.name (lowercased name)) items ≡ index_of name elements
  same_index name items elements h =
      sym (position-map (λ n. bytes_eq n (lowercased name)) (λ (item : OpenItem). item.name) items)
      ∙ (ap (position (λ n. bytes_eq n (lowercased name))) (same_names items elements h)
      ∙ position-map (λ n. bytes_eq n (lowercased name)) (λ (e : Element). lowercased e.tag.name) elements)

-- 2. Counters by type

module _ (cs : List Child) (elements : List Element) where
  at_most : (l highest k : ℕ) → l ≤ highest → cond (nat_le l highest) k 0 ≡ k
  at_most l highest k h = grind (arith, nat_tests)

  -- the elements from one on are closed
  typed_cut : (n depth : ℕ) → length (drop n elements) ≡ depth → (kept : Option (List TypedCount)) (by_type : Bool) → AreTypedIf kept by_type cs elements
      → AreTypedIf (option_map (cut_to depth) kept) by_type cs (drop n elements)
  typed_cut n depth left None by_type are = are
  typed_cut n depth left (Some ts) by_type are = (
    are.0,
    subst (λ top. StandUpTo top (cut_to depth ts)) (sym left) (cutting_stands ts (length elements) depth are.1),
    typed_same ts (cut_to depth ts) cs (drop n elements) (λ l name within. cutting_drops_above ts depth (length elements) are.1.climb l (lowercased name) ∙ at_most l depth (count_of ts l name) (omega (arith, within, left)))
        (typed_drop ts cs n elements are.2),
  )

  -- an element is opened that has no children yet
  typed_opened : (e : Element) → ((name : List ℕ) → typed_children_of (Some e.number) name cs ≡ 0) → (kept : Option (List TypedCount)) (by_type : Bool) → AreTypedIf kept by_type cs elements
      → AreTypedIf kept by_type cs (e ∷ elements)
  typed_opened e fresh None by_type are = are
  typed_opened e fresh (Some ts) by_type are = (
    are.0,
    stand_lower (length elements) (suc (length elements)) ts (omega arith) are.1,
    (λ name. none_above (length elements) (suc (length elements)) (lowercased name) ts are.1.climb (omega arith) ∙ sym (fresh name), are.2),
  )

none_typed : (by_type : Bool) → AreTypedIf (if by_type then Some [] else None) by_type [] []
none_typed true = (refl, none_stand 0, λ name. refl)
none_typed false = refl

-- 3. Stacks and programs that stand on documents

-- a new stack, which counts by type where the program asks for it
pub record IsNew {E : Type 0} (s : StackOf Name StackNames E) (by_type : Bool) (item_bytes : ℕ) : Type 0 where
  pub items : list_in s ≡ record { items = []; slots = 0; item_bytes = item_bytes }
  pub root : root_count s ≡ 0
  pub active : active_in s ≡ []
  pub typed : typed_in s ≡ (if by_type then Some [] else None)

-- an element that has what was gathered, and no children yet
pub record IsItemOf {E : Type 0} (item : StackItemOf Name E) (name : List ℕ) (context : Context) : Type 0 where
  pub named : item.local_name ≡ local_name name
  pub jumps : context.jumps ≡ item.jumps
  pub hereditary_jumps : context.hereditary_jumps ≡ item.hereditary_jumps
  pub children : item.child_counter ≡ 0

drop_shorter : {A : Type 0} (n : ℕ) (xs : List A) → length (drop n xs) ≤ length xs
drop_shorter n xs = omega (arith, length-drop n xs)

module _ {E : Type 0} (s : Selectors) (paths : List Path) (p : Program) where
  pub new_stands : (stack : StackOf Name StackNames E) (item_bytes : ℕ) → IsProgramOf s paths p → IsNew stack p.by_type item_bytes → IsSound stack → StandsOn s paths p stack empty 0
  new_stands stack item_bytes program new sound = record {
    program = program;
    sound = sound;
    items = subst (λ (v : LimitedVec (StackItemOf Name E)). AreItems paths p (items_shown v.items) []) (sym new.items) tt;
    counted = record {
      root = new.root;
      children = ap (λ (v : LimitedVec (StackItemOf Name E)). children_shown v.items) new.items;
      typed = subst (λ o. AreTypedIf o p.by_type [] []) (sym new.typed) (none_typed p.by_type);
    };
    charged = ap (λ (v : LimitedVec (StackItemOf Name E)). v.slots) new.items;
  }

  pub same_stands : (old new : StackOf Name StackNames E) (d : Document) (most : ℕ) → IsSame old new → StandsOn s paths p old d most → StandsOn s paths p new d most
  same_stands old new d most same stands = record {
    program = stands.program;
    sound = same_is_sound old new stands.sound same;
    items = subst (λ (v : LimitedVec (StackItemOf Name E)). AreItems paths p (items_shown v.items) d.open_elements) (sym same.items) stands.items;
    counted = record {
      root = same.root ∙ stands.counted.root;
      children = ap (λ (v : LimitedVec (StackItemOf Name E)). children_shown v.items) same.items ∙ stands.counted.children;
      typed = subst (λ o. AreTypedIf o p.by_type d.children d.open_elements) (sym same.typed) stands.counted.typed;
    };
    charged = subst (λ (v : LimitedVec (StackItemOf Name E)). v.slots ≡ slots v.item_bytes most) (sym same.items) stands.charged;
  }

  -- a start tag was counted, and its element is opened with what was gathered
  module _ (d : Document) (longest_so_far : ℕ) (ordered : IsOrdered d longest_so_far) (tag : StartTag) (old new : StackOf Name StackNames E) (item : StackItemOf Name E) (context : Context)
      (here : StandsOn s paths p old (after_start d tag false) (max longest_so_far (length d.open_elements))) (push : IsPushed old item new) (is : IsItemOf item tag.name context) where
    abbrev e : Element
    e = element_of d tag

    fresh_parent : same_parent (Some d.events) (parent_of d.open_elements) ≡ false
    fresh_parent = not_parent d.events d.events d.open_elements ordered.numbers (omega arith)

    no_children : children_of (Some d.events) (after_start d tag true).children ≡ 0
    no_children = other_children (Some d.events) d.open_elements tag.name d.children fresh_parent ∙ (ordered.fresh d.events (omega arith)).0

    none_typed_yet : (name : List ℕ) → typed_children_of (Some d.events) name (after_start d tag true).children ≡ 0
    none_typed_yet name = other_typed (Some d.events) d.open_elements tag.name name d.children fresh_parent ∙ (ordered.fresh d.events (omega arith)).1 name

    items_now : items_in new ≡ items_in old ++ item ∷ []
    items_now = ap (λ (v : LimitedVec (StackItemOf Name E)). v.items) push.items

    slots_now : slots_in new ≡ slots (item_bytes_in new) (max longest_so_far (suc (length d.open_elements)))
    slots_now =
        let bytes = item_bytes_in old in
        let so_far = max longest_so_far (length d.open_elements) in
        let sizes : max so_far (length d.open_elements + 1) ≡ max longest_so_far (suc (length d.open_elements)) = omega arith in
        ap (λ (v : LimitedVec (StackItemOf Name E)). v.slots) push.items
        ∙ (slots_pushed old.items item
        ∙ ((λ i. slots_after bytes (here.charged i) (many_are old p.by_type (after_start d tag false) here.counted i))
        ∙ (slots_grow bytes (length d.open_elements) so_far (omega arith)
        ∙ (ap (slots bytes) sizes ∙ sym (ap (λ (v : LimitedVec (StackItemOf Name E)). slots v.item_bytes (max longest_so_far (suc (length d.open_elements)))) push.items)))))

    pub opened_stands : HasRanges jumps_of paths p (Matches e d.open_elements) context.jumps → HasRanges hereditary_jumps_of paths p (Matches e d.open_elements) context.hereditary_jumps
        → StandsOn s paths p new (after_start d tag true) (max longest_so_far (suc (length d.open_elements)))
    opened_stands jumps hereditary = record {
      program = here.program;
      sound = opening_keeps_sound old new item here.sound push;
      items = subst (λ shown. AreItems paths p shown (e ∷ d.open_elements)) (sym (ap items_shown items_now ∙ shown_push item_shown (items_in old) item)) (
        record {
          name = ap (λ (n : Name). n.lowercased) is.named;
          jumps = subst (HasRanges jumps_of paths p (Matches e d.open_elements)) is.jumps jumps;
          hereditary_jumps = subst (HasRanges hereditary_jumps_of paths p (Matches e d.open_elements)) is.hereditary_jumps hereditary;
        },
        here.items,
      );
      counted = record {
        root = push.root ∙ here.counted.root;
        children = ap children_shown items_now
            ∙ (shown_push (λ (x : StackItemOf Name E). x.child_counter) (items_in old) item ∙ (λ i. (is.children ∙ sym no_children) i ∷ here.counted.children i));
        typed = subst (λ o. AreTypedIf o p.by_type (after_start d tag true).children (e ∷ d.open_elements)) (sym push.typed)
            (typed_opened (after_start d tag true).children d.open_elements e none_typed_yet (typed_in old) p.by_type here.counted.typed);
      };
      charged = slots_now;
    }

  module _ (stack : StackOf Name StackNames E) (d : Document) (most : ℕ) (ordered : IsOrdered d most) (stands : StandsOn s paths p stack d most) where
    same_slots : (n : ℕ) → n ≤ length d.open_elements → slots_in stack ≡ slots (item_bytes_in stack) (max most n)
    same_slots n h = let within = ordered.enough in let sizes : most ≡ max most n = omega (arith, h, within) in stands.charged ∙ ap (slots (item_bytes_in stack)) sizes

    -- a start tag is counted
    pub counted_stands : (tag : StartTag) → last_count stack < full_count → StandsOn s paths p (counted_in stack (local_name tag.name)) (after_start d tag false) (max most (length d.open_elements))
    counted_stands tag room =
        let counted = is_counted stack (local_name tag.name) in
        record {
          program = stands.program;
          sound = counting_keeps_sound stack (local_name tag.name) stands.sound;
          items = subst (λ shown. AreItems paths p shown d.open_elements) (sym counted.items) stands.items;
          counted = counted_are stack p.by_type d tag stands.counted ordered.numbers room;
          charged = counted.slots ∙ (same_slots (length d.open_elements) (omega arith) ∙ ap (λ b. slots b (max most (length d.open_elements))) (sym counted.item_bytes));
        }

    -- so many elements are closed, from the innermost on
    closed_stands : (new : StackOf Name StackNames E) (n depth : ℕ) → n + depth ≡ length (items_in stack) → IsClosed depth stack new
        → StandsOn s paths p new (record { events = d.events + 1; children = d.children; open_elements = drop n d.open_elements }) (max most (length (drop n d.open_elements)))
    closed_stands new n depth sizes closed =
        let items : items_in new ≡ take depth (items_in stack) = ap (λ (v : LimitedVec (StackItemOf Name E)). v.items) closed.items in
        let left : length (drop n d.open_elements) ≡ depth = length-drop n d.open_elements ∙ omega (arith, sizes, many_are stack p.by_type d stands.counted) in
        record {
          program = stands.program;
          sound = closing_keeps_sound depth stack new (omega (arith, sizes)) stands.sound closed;
          items = subst (λ shown. AreItems paths p shown (drop n d.open_elements)) (shown_cut item_shown (items_in stack) n depth sizes ∙ sym (ap items_shown items))
              (items_drop paths p n (items_shown (items_in stack)) d.open_elements stands.items);
          counted = record {
            root = closed.root ∙ stands.counted.root;
            children = ap children_shown items
                ∙ (sym (shown_cut (λ (x : StackItemOf Name E). x.child_counter) (items_in stack) n depth sizes)
                ∙ (ap (drop n) stands.counted.children ∙ drop-map (λ (e : Element). children_of (Some e.number) d.children) n d.open_elements));
            typed = subst (λ o. AreTypedIf o p.by_type d.children (drop n d.open_elements)) (sym closed.typed)
                (typed_cut d.children d.open_elements n depth left (typed_in stack) p.by_type stands.counted.typed);
          };
          charged = ap (λ (v : LimitedVec (StackItemOf Name E)). v.slots) closed.items
              ∙ (same_slots (length (drop n d.open_elements)) (drop_shorter n d.open_elements)
              ∙ sym (ap (λ (v : LimitedVec (StackItemOf Name E)). slots v.item_bytes (max most (length (drop n d.open_elements)))) closed.items));
        }

    -- none is closed
    unclosed_stands : (new : StackOf Name StackNames E) → IsSame stack new
        → StandsOn s paths p new (record { events = d.events + 1; children = d.children; open_elements = d.open_elements }) (max most (length d.open_elements))
    unclosed_stands new same =
        let sizes : most ≡ max most (length d.open_elements) = let enough = ordered.enough in omega (arith, enough) in
        let here = subst (StandsOn s paths p new d) sizes (same_stands stack new d most same stands) in
        record {
          program = here.program;
          sound = here.sound;
          items = here.items;
          counted = record { root = here.counted.root; children = here.counted.children; typed = here.counted.typed };
          charged = here.charged;
        }

    -- an end tag closes the innermost element of its name and all inside it
    module _ (new : StackOf Name StackNames E) (name : List ℕ) where
      abbrev shown : List OpenItem
      shown = items_shown (items_in stack)

      abbrev Ended : Option ℕ → Type 0
      Ended o = StandsOn s paths p new (record { events = d.events + 1; children = d.children; open_elements = outer_part o d.open_elements }) (max most (length (outer_part o d.open_elements)))

      by_depth : (o : Option ℕ) → ((k : ℕ) → o ≡ Some k → k < length shown) → IsEndedAt (option_map (λ k. length (items_in stack) - (k + 1)) o) stack new → Ended o
      by_depth None within same = unclosed_stands new same
      by_depth (Some k) within closed =
          let below = within k refl in
          let many = items_length paths p shown d.open_elements stands.items ∙ sym (many_are stack p.by_type d stands.counted) in
          closed_stands new (k + 1) (length (items_in stack) - (k + 1)) (omega (arith, below, many)) closed

      pub ended_stands : IsEnded stack (local_name name) new → Ended (index_of name d.open_elements)
      ended_stands ended =
          subst Ended (same_index paths p name shown d.open_elements stands.items)
          (by_depth (position (is_named name) shown) (λ k is. found_within (is_named name) shown k is) (subst (λ o. IsEndedAt o stack new) (closes_innermost name stack stands.sound) ended))

-- 4. Standing for one event more is standing on its document

module _ {E : Type 0} (s : Selectors) (esi : Bool) (events : List Event) (event : Event) (d : Document) (is : document s esi (events ++ event ∷ []) ≡ d) (paths : List Path) (p : Program) (stack : StackOf Name StackNames E) where
  longest_as : longest s esi (events ++ event ∷ []) ≡ max (longest s esi events) (length d.open_elements)
  longest_as = longest_push s esi empty events event ∙ ap (λ (d : Document). max (longest s esi events) (length d.open_elements)) (sym (document_push s esi empty events event) ∙ is)

  pub for_on : StandsOn s paths p stack d (max (longest s esi events) (length d.open_elements)) → StandsFor s esi paths p stack (events ++ event ∷ [])
  for_on h = subst (λ n. StandsOn s paths p stack (document s esi (events ++ event ∷ [])) n) (sym longest_as) (subst (λ d'. StandsOn s paths p stack d' (max (longest s esi events) (length d.open_elements))) (sym is) h)

  pub on_for : StandsFor s esi paths p stack (events ++ event ∷ []) → StandsOn s paths p stack d (max (longest s esi events) (length d.open_elements))
  on_for h = subst (λ d'. StandsOn s paths p stack d' (max (longest s esi events) (length d.open_elements))) is (subst (λ n. StandsOn s paths p stack (document s esi (events ++ event ∷ [])) n) longest_as h)

-- the document after the event of a request as dropped
pub after_unfinished : (s : Selectors) (esi : Bool) (events : List Event) (tag : StartTag) → asks s (element_of (document s esi events) tag) (document s esi events).open_elements ≡ true
    → document s esi (events ++ Start (unfinished tag) ∷ []) ≡ after_start (document s esi events) tag false
after_unfinished s esi events tag asked =
    let d = document s esi events in
    let still = asks_by_names (element_of d tag) tag.attributes tag.self_closing false d.open_elements s ∙ asked in
    document_push s esi empty events (Start (unfinished tag)) ∙ ap (after_start d (unfinished tag)) ((λ i. has_content esi (unfinished tag) && not (still i && true)) ∙ and-false (has_content esi (unfinished tag)))
