-- Stacks that count children.
use Rattle.lol_machine.proofs.Common.{◌≡◌, ℕ, ◌+◌, ◌-◌, ◌<◌, ◌≤◌, Bool, true, false, cond, List, [], ◌∷◌, ◌++◌, length, map, reverse, Option, Some, None, refl, sym, ap, ◌∙◌, subst, arith, ◌&&◌, ◌==◌, count_by, slice_get, slice_set, unwrap_or, if◌then◌else◌, option_map, length-map, length-reverse, map-append, reverse-append, Decides-eqb, and_parts, same_bool, count_by-cons, same_name, lowercased, Name, local_name, same_local_name, StartTag, full_count, Element, document, Document, after_start, parent_of, same_parent, children_of, typed_children_of, AreTyped, AreTypedIf, CountersArePositions, Descend, HasCounted, items_in, typed_in, last_count, count_or, counted_in, counted_if, counted_item, with_typed, count_by_type, root_count, slots_in, item_bytes_in, item_shown, items_shown, children_shown, StackItemOf, StackOf, StackNames}
use Rattle.std.proofs.Common.{length-append}
use Rattle.std.proofs.lemmas.Slice.Eq.{bytes_eq-Decides}
use Rattle.lol_stack.specs.ClimbLaws.{counting_stands}
use Rattle.lol_stack.specs.TypedCounts.{TypedCount, count_at, counted_by_type}
use Rattle.lol_stack.specs.TypedFunctions.{counting_adds_one, counts_at_their_level}
use Rattle.lol_stack.specs.TypedLaws.{StandUpTo}
use Rattle.lol_machine.proofs.Children.{AddsOne, count_of, counted_last, counted_root, counts, kid, last_counted, own_name, root_counted, typed_counted, typed_here}
use Rattle.lol_machine.specs.Documents.{Child}
use Rattle.lol_machine.specs.VmLaws.{StandingCounts}

-- 1. The last of a list

pub record Ends {A : Type 0} (xs : List A) : Type 0 where
  pub front : List A
  pub last : A
  pub whole : xs ≡ front ++ last ∷ []

pub ends : {A : Type 0} (x : A) (xs : List A) → Ends (x ∷ xs)
ends x [] = record { front = []; last = x; whole = refl }
ends x (y ∷ xs) = let rest = ends y xs in record { front = x ∷ rest.front; last = rest.last; whole = ap (λ more. x ∷ more) rest.whole }

last_index : {A : Type 0} (front : List A) (x : A) → length (front ++ x ∷ []) - 1 ≡ length front
last_index front x = ap (λ n. n - 1) (length-append front (x ∷ [])) ∙ omega arith

pub last_at : {A : Type 0} (front : List A) (x : A) → slice_get (front ++ x ∷ []) (length (front ++ x ∷ []) - 1) ≡ Some x
last_at {A = A} front x = ap (slice_get (front ++ x ∷ [])) (last_index front x) ∙ at_end front
  where
    at_end : (front : List A) → slice_get (front ++ x ∷ []) (length front) ≡ Some x
    at_end [] = refl
    at_end (y ∷ front) = at_end front

pub last_set : {A : Type 0} (front : List A) (x y : A) → slice_set (front ++ x ∷ []) (length (front ++ x ∷ []) - 1) y ≡ front ++ y ∷ []
last_set {A = A} front x y = ap (λ k. slice_set (front ++ x ∷ []) k y) (last_index front x) ∙ set_end front
  where
    set_end : (front : List A) → slice_set (front ++ x ∷ []) (length front) y ≡ front ++ y ∷ []
    set_end [] = refl
    set_end (z ∷ front) = ap (λ more. z ∷ more) (set_end front)

-- lists of a stack, the last element first
pub shown_push : {A B : Type 0} (f : A → B) (xs : List A) (x : A) → reverse (map f (xs ++ x ∷ [])) ≡ f x ∷ reverse (map f xs)
shown_push f xs x = ap reverse (map-append f xs (x ∷ [])) ∙ reverse-append (map f xs) (f x ∷ [])

pub shown_length : {A B : Type 0} (f : A → B) (xs : List A) → length (reverse (map f xs)) ≡ length xs
shown_length f xs = length-reverse (map f xs) ∙ length-map xs f

-- 2. Children of a name are children

pub fewer : {A : Type 0} (p r : A → Bool) → ((x : A) → p x ≡ true → r x ≡ true) → (xs : List A) → count_by p xs ≤ count_by r xs
fewer p r h [] = omega arith
fewer p r h (x ∷ xs) =
    let own = count_by-cons p x xs in
    let other = count_by-cons r x xs in
    let later = fewer p r h xs in
    by_test (p x) (r x) (h x) own other later
  where
    by_test : (a b : Bool) → (a ≡ true → b ≡ true) → count_by p (x ∷ xs) ≡ cond a 1 0 + count_by p xs → count_by r (x ∷ xs) ≡ cond b 1 0 + count_by r xs → count_by p xs ≤ count_by r xs
        → count_by p (x ∷ xs) ≤ count_by r (x ∷ xs)
    by_test true true imp own other later = omega (arith, own, other, later)
    by_test true false imp own other later = let never = imp refl in cc
    by_test false true imp own other later = omega (arith, own, other, later)
    by_test false false imp own other later = omega (arith, own, other, later)

typed_fewer : (parent : Option ℕ) (name : List ℕ) (cs : List Child) → typed_children_of parent name cs ≤ children_of parent cs
typed_fewer parent name cs =
    fewer (λ (c : Child). same_parent parent c.parent && same_name name c.name) (λ (c : Child). same_parent parent c.parent)
    (λ c h. (and_parts (same_parent parent c.parent) (same_name name c.name) h).0) cs

-- 3. Counting a child

-- what a stack with one child more shows
pub record CountsChild {E : Type 0} (s new : StackOf Name StackNames E) (name : Name) : Type 0 where
  pub root : root_count new ≡ counted_root (children_shown (items_in s)) (root_count s)
  pub children : children_shown (items_in new) ≡ counted_last (children_shown (items_in s))
  pub items : items_shown (items_in new) ≡ items_shown (items_in s)
  pub typed : typed_in new ≡ option_map (λ ts. counted_by_type ts (length (items_in s)) name) (typed_in s)
  pub slots : slots_in new ≡ slots_in s
  pub item_bytes : item_bytes_in new ≡ item_bytes_in s

abbrev or_root : List ℕ → ℕ → ℕ
or_root [] root = root
or_root (c ∷ children) root = c

module _ {E : Type 0} where
  children_end : (items front : List (StackItemOf Name E)) (last : StackItemOf Name E) → items ≡ front ++ last ∷ [] → children_shown items ≡ last.child_counter ∷ children_shown front
  children_end items front last whole = ap children_shown whole ∙ shown_push (λ (x : StackItemOf Name E). x.child_counter) front last

  module _ (s : StackOf Name StackNames E) (name : Name) where
    abbrev typed_first : StackOf Name StackNames E
    typed_first = with_typed s (option_map (λ ts. counted_by_type ts (length (items_in s)) name) (typed_in s))

    by_last : (o : Option (StackItemOf Name E)) → root_count (counted_if typed_first o) ≡ counted_root (children_shown (items_in s)) (root_count s)
        → children_shown (items_in (counted_if typed_first o)) ≡ counted_last (children_shown (items_in s)) → items_shown (items_in (counted_if typed_first o)) ≡ items_shown (items_in s)
        → CountsChild s (counted_if typed_first o) name
    by_last None root children items = record { root = root; children = children; items = items; typed = refl; slots = refl; item_bytes = refl }
    by_last (Some item) root children items = record { root = root; children = children; items = items; typed = refl; slots = refl; item_bytes = refl }

    counting : (items : List (StackItemOf Name E)) → items_in s ≡ items → CountsChild s (counted_in s name) name
    counting [] none =
        let none_last : slice_get (items_in s) (length (items_in s) - 1) ≡ None = ap (λ xs. slice_get xs (length xs - 1)) none in
        let no_children : children_shown (items_in s) ≡ [] = ap children_shown none in
        subst (λ o. CountsChild s (counted_if typed_first o) name) (sym none_last)
        (by_last None (sym (ap (λ cs. counted_root cs (root_count s)) no_children)) (no_children ∙ sym (ap counted_last no_children)) refl)
    counting (x ∷ xs) some =
        let end = ends x xs in
        let whole : items_in s ≡ end.front ++ end.last ∷ [] = some ∙ end.whole in
        let here : slice_get (items_in s) (length (items_in s) - 1) ≡ Some end.last = ap (λ ys. slice_get ys (length ys - 1)) whole ∙ last_at end.front end.last in
        let set : slice_set (items_in s) (length (items_in s) - 1) (counted_item end.last) ≡ end.front ++ counted_item end.last ∷ [] =
        ap (λ ys. slice_set ys (length ys - 1) (counted_item end.last)) whole ∙ last_set end.front end.last (counted_item end.last) in
        let children = children_end (items_in s) end.front end.last whole in
        subst (λ o. CountsChild s (counted_if typed_first o) name) (sym here)
        (by_last (Some end.last) (sym (ap (λ cs. counted_root cs (root_count s)) children))
        (children_end _ end.front (counted_item end.last) set ∙ sym (ap counted_last children))
        (ap items_shown set ∙ (shown_push item_shown end.front (counted_item end.last) ∙ (sym (shown_push item_shown end.front end.last) ∙ sym (ap items_shown whole)))))

    pub is_counted : CountsChild s (counted_in s name) name
    is_counted = counting (items_in s) refl

  -- 4. What is seen

  seen_children : (s : StackOf Name StackNames E) (items : List (StackItemOf Name E)) → items_in s ≡ items → last_count s ≡ or_root (children_shown (items_in s)) (root_count s)
  seen_children s [] none =
      ap (λ xs. count_or s.root_child_counter (slice_get xs (length xs - 1))) none ∙ sym (ap (λ xs. or_root (children_shown xs) (root_count s)) none)
  seen_children s (x ∷ xs) some =
      let end = ends x xs in
      let whole : items_in s ≡ end.front ++ end.last ∷ [] = some ∙ end.whole in
      ap (λ ys. count_or s.root_child_counter (slice_get ys (length ys - 1))) whole
      ∙ (ap (count_or s.root_child_counter) (last_at end.front end.last) ∙ sym (ap (λ cs. or_root cs (root_count s)) (children_end (items_in s) end.front end.last whole)))

  -- the last count is one more
  counts_one : (s : StackOf Name StackNames E) (name : Name) → last_count (counted_in s name) ≡ last_count s + 1
  counts_one s name =
      let now = counted_in s name in
      seen_children now (items_in now) refl
      ∙ ((λ i. or_root ((is_counted s name).children i) ((is_counted s name).root i))
      ∙ (more (children_shown (items_in s)) (root_count s) ∙ sym (ap (λ n. n + 1) (seen_children s (items_in s) refl))))
    where
      more : (counts : List ℕ) (root : ℕ) → or_root (counted_last counts) (counted_root counts root) ≡ or_root counts root + 1
      more [] root = refl
      more (c ∷ counts) root = refl

  module _ (s : StackOf Name StackNames E) (by_type : Bool) (d : Document) (are : HasCounted s by_type d) where
    -- it is that of the parent of what comes now
    pub last_is : last_count s ≡ children_of (parent_of d.open_elements) d.children
    last_is = seen_children s (items_in s) refl ∙ ((λ i. or_root (are.children i) (are.root i)) ∙ by_parent d.open_elements)
      where
        by_parent : (outer : List Element) → or_root (counts d.children outer) (children_of None d.children) ≡ children_of (parent_of outer) d.children
        by_parent [] = refl
        by_parent (e ∷ outer) = refl

    -- as many items as elements are open
    pub many_are : length (items_in s) ≡ length d.open_elements
    many_are =
        sym (shown_length (λ (x : StackItemOf Name E). x.child_counter) (items_in s))
        ∙ (ap length are.children ∙ length-map d.open_elements (λ (e : Element). children_of (Some e.number) d.children))

-- 5. Counts by type

name_either_way : (a b : List ℕ) → same_local_name (local_name a) (local_name b) ≡ same_name b a
name_either_way a b =
    same_bool _ _
    (λ h. (bytes_eq-Decides (lowercased b) (lowercased a)).1 (sym ((bytes_eq-Decides (lowercased a) (lowercased b)).0 h)))
    (λ h. (bytes_eq-Decides (lowercased a) (lowercased b)).1 (sym ((bytes_eq-Decides (lowercased b) (lowercased a)).0 h)))

level_either_way : (a b : ℕ) → (a == b) ≡ (b == a)
level_either_way a b = same_bool _ _ (λ h. (Decides-eqb b a).1 (sym ((Decides-eqb a b).0 h))) (λ h. (Decides-eqb a b).1 (sym ((Decides-eqb b a).0 h)))

one_if : (b : Bool) (n : ℕ) → n + (if b then 1 else 0) ≡ cond b (n + 1) n
one_if true n = refl
one_if false n = omega arith

module _ (cs : List Child) (outer : List Element) (name : List ℕ) (room : children_of (parent_of outer) cs < full_count) where
  -- one more is counted where the parent's counter isn't full
  adds_one : (ts : List TypedCount) → AreTyped ts cs outer → AddsOne (length outer) name ts (counted_by_type ts (length outer) (local_name name))
  adds_one ts h l n =
      let top = length outer in
      counting_adds_one ts top (local_name name) (omega (arith, typed_here ts cs outer name h, typed_fewer (parent_of outer) name cs, room)) l (lowercased n)
      ∙ ((λ i. count_of ts l n + (if (level_either_way top l i && name_either_way name n i) then 1 else 0)) ∙ one_if ((l == top) && same_name n name) (count_of ts l n))

  still_stand : (ts : List TypedCount) → StandUpTo (length outer) ts → StandUpTo (length outer) (counted_by_type ts (length outer) (local_name name))
  still_stand ts stand = counting_stands ts (length outer) (length outer) (local_name name) stand (omega arith)

  typed_are : (bound : ℕ) → Descend bound outer → (kept : Option (List TypedCount)) (by_type : Bool) → AreTypedIf kept by_type cs outer
      → AreTypedIf (option_map (λ ts. counted_by_type ts (length outer) (local_name name)) kept) by_type (kid outer name ∷ cs) outer
  typed_are bound numbers None by_type are = are
  typed_are bound numbers (Some ts) by_type are =
      (are.0, still_stand ts are.1, typed_counted name ts (counted_by_type ts (length outer) (local_name name)) cs bound outer (adds_one ts are.2) numbers are.2)

  -- what is seen of it
  typed_seen : (kept : Option (List TypedCount)) (by_type : Bool) → AreTypedIf kept by_type cs outer
      → count_by_type (option_map (λ ts. counted_by_type ts (length outer) (local_name name)) kept) (length outer) (local_name name)
      ≡ (if by_type then Some (typed_children_of (parent_of outer) name cs + 1) else None)
  typed_seen None by_type are = sym (ap (λ b. if b then Some (typed_children_of (parent_of outer) name cs + 1) else None) are)
  typed_seen (Some ts) by_type are =
      let more = counted_by_type ts (length outer) (local_name name) in
      let n = typed_children_of (parent_of outer) name cs in
      let is = counts_at_their_level more (length outer) (local_name name) ((still_stand ts are.1).rise (local_name name))
      ∙ (own_name name ts more (length outer) (adds_one ts are.2) ∙ ap (λ k. k + 1) (typed_here ts cs outer name are.2)) in
      by_count (count_at more (length outer) (local_name name)) n is ∙ sym (ap (λ b. if b then Some (n + 1) else None) are.0)
    where
      by_count : (o : Option ℕ) (n : ℕ) → unwrap_or o 0 ≡ n + 1 → o ≡ Some (n + 1)
      by_count None n is = absurd (omega (arith, is))
      by_count (Some k) n is = ap Some is

-- 6. A stack that has counted the children of a document's elements

module _ {E : Type 0} (s : StackOf Name StackNames E) (by_type : Bool) (d : Document) (tag : StartTag) (are : HasCounted s by_type d) where
  abbrev name : Name
  name = local_name tag.name

  -- the children by type, counted at the level of the document's elements
  typed_counts : typed_in (counted_in s name) ≡ option_map (λ ts. counted_by_type ts (length d.open_elements) name) (typed_in s)
  typed_counts = (is_counted s name).typed ∙ ap (λ top. option_map (λ ts. counted_by_type ts top name) (typed_in s)) (many_are s by_type d are)

  room_by_parent : last_count s < full_count → children_of (parent_of d.open_elements) d.children < full_count
  room_by_parent room = omega (arith, last_is s by_type d are, room)

  pub counted_are : Descend d.events d.open_elements → last_count s < full_count → HasCounted (counted_in s name) by_type (after_start d tag false)
  counted_are numbers room =
      let counted = is_counted s name in
      record {
        root = counted.root ∙ ((λ i. counted_root (are.children i) (are.root i)) ∙ root_counted tag.name d.children d.open_elements);
        children = counted.children ∙ (ap counted_last are.children ∙ last_counted tag.name d.children d.events d.open_elements numbers);
        typed = subst (λ o. AreTypedIf o by_type (kid d.open_elements tag.name ∷ d.children) d.open_elements) (sym typed_counts)
            (typed_are d.children d.open_elements tag.name (room_by_parent room) d.events numbers (typed_in s) by_type are.typed);
      }

pub counters_are_positions : {E : Type 0} → CountersArePositions E
counters_are_positions stack by_type d tag are =
    let name = local_name tag.name in
    let now = counted_in stack name in
    let many = sym (shown_length item_shown (items_in now)) ∙ (ap length (is_counted stack name).items ∙ (shown_length item_shown (items_in stack) ∙ many_are stack by_type d are)) in (
      counts_one stack name ∙ ap (λ n. n + 1) (last_is stack by_type d are),
      λ room. (λ i. count_by_type (typed_counts stack by_type d tag are i) (many i) name)
          ∙ typed_seen d.children d.open_elements tag.name (room_by_parent stack by_type d tag are room) (typed_in stack) by_type are.typed,
    )

-- a machine that stands for events has counted their children
pub standing_counts : {E : Type 0} → StandingCounts E
standing_counts s esi vm events stands =
    let by_type = vm.program.enable_nth_of_type in
    let d = document s esi events in
    let counted = stands.standing.counted in
    (many_are vm.stack by_type d counted, λ tag. sym (ap (λ n. n + 1) (last_is vm.stack by_type d counted)))
