-- Documents as tags come, and the children that were counted.
use Rattle.lol_machine.proofs.Common.{◌≡◌, ℕ, zero, suc, ◌+◌, ◌<◌, ◌≤◌, Bool, true, false, cond, List, [], ◌∷◌, length, map, drop, Option, Some, None, refl, sym, ap, ◌∙◌, subst, arith, ◌&&◌, not, ◌==◌, Decides-eqb, same_name, lowercased, StartTag, Element, Selectors, count_by-cons, Event, Start, End, has_content, Document, empty, element_of, parent_of, same_parent, children_of, typed_children_of, index_of, outer_part, after_start, after_end, document_from, after, is_dropped, longest_from, not_true, AreTyped, Descend, IsOrdered, DocumentsAreOrdered}
use Rattle.std.proofs.lemmas.Slice.Eq.{bytes_eq-Decides}
use Rattle.lol_stack.specs.TypedCounts.{TypedCount}
use Rattle.lol_stack.specs.TypedLaws.{Climb, levels_in, typed_of}
use Rattle.lol_stack.specs.ClimbLaws.{climb_top}
use Rattle.std.specs.Str.{bytes_eq}
use Rattle.lol_machine.specs.Documents.{Child}

-- 1. Numbers and parents

same_number : (n : ℕ) → (n == n) ≡ true
same_number n = (Decides-eqb n n).1 refl

pub numbers_differ : (m n : ℕ) → (m ≡ n → ⊥) → (m == n) ≡ false
numbers_differ m n h = not_true (m == n) (λ e. h ((Decides-eqb m n).0 e))

abbrev pub kid : List Element → List ℕ → Child
kid outer name = record { parent = parent_of outer; name = name }

pub children-cons : (parent : Option ℕ) (c : Child) (cs : List Child) → children_of parent (c ∷ cs) ≡ cond (same_parent parent c.parent) 1 0 + children_of parent cs
children-cons parent c cs = count_by-cons (λ (c : Child). same_parent parent c.parent) c cs

typed-cons : (parent : Option ℕ) (name : List ℕ) (c : Child) (cs : List Child) → typed_children_of parent name (c ∷ cs) ≡ cond (same_parent parent c.parent && same_name name c.name) 1 0 + typed_children_of parent name cs
typed-cons parent name c cs = count_by-cons (λ (c : Child). same_parent parent c.parent && same_name name c.name) c cs

pub not_parent : (bound n : ℕ) (outer : List Element) → Descend bound outer → bound ≤ n → same_parent (Some n) (parent_of outer) ≡ false
not_parent bound n [] h above = refl
not_parent bound n (e ∷ outer) h above = numbers_differ n e.number (λ is. omega (arith, h.0, above, is))

-- who isn't the parent has as many children as before
pub other_children : (parent : Option ℕ) (outer : List Element) (name : List ℕ) (cs : List Child) → same_parent parent (parent_of outer) ≡ false → children_of parent (kid outer name ∷ cs) ≡ children_of parent cs
other_children parent outer name cs h =
    let e : children_of parent (kid outer name ∷ cs) ≡ cond (same_parent parent (parent_of outer)) 1 0 + children_of parent cs = children-cons parent (kid outer name) cs in
    e ∙ (ap (λ b. cond b 1 0 + children_of parent cs) h ∙ omega arith)

pub other_typed : (parent : Option ℕ) (outer : List Element) (name n : List ℕ) (cs : List Child) → same_parent parent (parent_of outer) ≡ false → typed_children_of parent n (kid outer name ∷ cs) ≡ typed_children_of parent n cs
other_typed parent outer name n cs h =
    typed-cons parent n (kid outer name) cs ∙ (ap (λ b. cond (b && same_name n name) 1 0 + typed_children_of parent n cs) h ∙ omega arith)

pub own_children : (parent : Option ℕ) (outer : List Element) (name : List ℕ) (cs : List Child) → same_parent parent (parent_of outer) ≡ true → children_of parent (kid outer name ∷ cs) ≡ children_of parent cs + 1
own_children parent outer name cs h =
    children-cons parent (kid outer name) cs ∙ (ap (λ b. cond b 1 0 + children_of parent cs) h ∙ omega arith)

own_typed : (parent : Option ℕ) (outer : List Element) (name n : List ℕ) (cs : List Child) → same_parent parent (parent_of outer) ≡ true → typed_children_of parent n (kid outer name ∷ cs) ≡ cond (same_name n name) (typed_children_of parent n cs + 1) (typed_children_of parent n cs)
own_typed parent outer name n cs h =
    typed-cons parent n (kid outer name) cs ∙ (ap (λ b. cond (b && same_name n name) 1 0 + typed_children_of parent n cs) h ∙ by_test (same_name n name) (typed_children_of parent n cs))
  where
    by_test : (b : Bool) (k : ℕ) → cond b 1 0 + k ≡ cond b (k + 1) k
    by_test true k = omega arith
    by_test false k = omega arith

-- 2. Documents

descend_lower : (a b : ℕ) (outer : List Element) → a ≤ b → Descend a outer → Descend b outer
descend_lower a b [] h d = tt
descend_lower a b (e ∷ outer) h d = (omega (arith, h, d.0), d.1)

descend_drop : (n bound : ℕ) (outer : List Element) → Descend bound outer → Descend bound (drop n outer)
descend_drop zero bound outer d = d
descend_drop (suc n) bound [] d = tt
descend_drop (suc n) bound (e ∷ outer) d = let below = d.0 in descend_drop n bound outer (descend_lower e.number bound outer (omega (arith, below)) d.1)

-- how many elements an end tag closes, by the index of the innermost of its name
abbrev pub closed_count : Option ℕ → ℕ
closed_count None = 0
closed_count (Some index) = index + 1

pub outer_is : (o : Option ℕ) (xs : List Element) → outer_part o xs ≡ drop (closed_count o) xs
outer_is None xs = refl
outer_is (Some k) xs = refl

pub ordered_start : (d : Document) (most : ℕ) (tag : StartTag) (opens : Bool) → IsOrdered d most → IsOrdered (after_start d tag opens) (length (after_start d tag opens).open_elements)
ordered_start d most tag opens h = record {
  numbers = numbers opens;
  fresh = λ n above. (
    other_children (Some n) d.open_elements tag.name d.children (not_parent d.events n d.open_elements h.numbers (omega (arith, above))) ∙ (h.fresh n (omega (arith, above))).0,
    λ name. other_typed (Some n) d.open_elements tag.name name d.children (not_parent d.events n d.open_elements h.numbers (omega (arith, above))) ∙ (h.fresh n (omega (arith, above))).1 name,
  );
  enough = omega arith;
}
  where
    numbers : (b : Bool) → Descend (d.events + 1) (cond b (element_of d tag ∷ d.open_elements) d.open_elements)
    numbers true = (omega arith, h.numbers)
    numbers false = descend_lower d.events (d.events + 1) d.open_elements (omega arith) h.numbers

pub ordered_end : (d : Document) (most : ℕ) (name : List ℕ) → IsOrdered d most → IsOrdered (after_end d name) (length (after_end d name).open_elements)
ordered_end d most name h =
    let index = index_of name d.open_elements in
    record {
      numbers = descend_lower d.events (d.events + 1) (outer_part index d.open_elements) (omega arith)
          (subst (Descend d.events) (sym (outer_is index d.open_elements)) (descend_drop (closed_count index) d.events d.open_elements h.numbers));
      fresh = λ n above. h.fresh n (omega (arith, above));
      enough = omega arith;
    }

module _ (s : Selectors) (esi : Bool) where
  ordered_after : (d : Document) (most : ℕ) (event : Event) → IsOrdered d most → IsOrdered (after s esi d event) (length (after s esi d event).open_elements)
  ordered_after d most (Start tag) h = ordered_start d most tag (has_content esi tag && not (is_dropped s (element_of d tag) d.open_elements)) h
  ordered_after d most (End name) h = ordered_end d most name h

  ordered_from : (d : Document) (events : List Event) → IsOrdered d (length d.open_elements) → IsOrdered (document_from s esi d events) (longest_from s esi d events)
  ordered_from d [] h = h
  ordered_from d (event ∷ events) h =
      let later = ordered_from (after s esi d event) events (ordered_after d (length d.open_elements) event h) in
      let enough = later.enough in
      record { numbers = later.numbers; fresh = later.fresh; enough = omega (arith, enough) }

pub documents_are_ordered : DocumentsAreOrdered
documents_are_ordered s esi events = ordered_from s esi empty events (record { numbers = tt; fresh = λ n above. (refl, λ name. refl); enough = omega arith })

-- 3. Counters

abbrev pub counts : List Child → List Element → List ℕ
counts cs outer = map (λ (e : Element). children_of (Some e.number) cs) outer

-- elements further out than the parent have as many children as before
outer_counts : (e : Element) (around : List Element) (name : List ℕ) (cs : List Child) (outer : List Element) → Descend e.number outer → counts (kid (e ∷ around) name ∷ cs) outer ≡ counts cs outer
outer_counts e around name cs [] d = refl
outer_counts e around name cs (x ∷ outer) d =
    let below = d.0 in
    λ i. other_children (Some x.number) (e ∷ around) name cs (numbers_differ x.number e.number (λ is. omega (arith, below, is))) i
    ∷ outer_counts e around name cs outer (descend_lower x.number e.number outer (omega (arith, below)) d.1) i

abbrev pub counted_root : List ℕ → ℕ → ℕ
counted_root [] root = root + 1
counted_root (c ∷ children) root = root

abbrev pub counted_last : List ℕ → List ℕ
counted_last [] = []
counted_last (c ∷ children) = (c + 1) ∷ children

module _ (name : List ℕ) (cs : List Child) where
  pub root_counted : (outer : List Element) → counted_root (counts cs outer) (children_of None cs) ≡ children_of None (kid outer name ∷ cs)
  root_counted [] = sym (own_children None [] name cs refl)
  root_counted (e ∷ outer) = sym (other_children None (e ∷ outer) name cs refl)

  pub last_counted : (bound : ℕ) (outer : List Element) → Descend bound outer → counted_last (counts cs outer) ≡ counts (kid outer name ∷ cs) outer
  last_counted bound [] d = refl
  last_counted bound (e ∷ outer) d =
      λ i. sym (own_children (Some e.number) (e ∷ outer) name cs (same_number e.number)) i ∷ sym (outer_counts e outer name cs outer d.1) i

-- 4. Counters by type

-- what was counted of a name at a level
abbrev pub count_of : List TypedCount → ℕ → List ℕ → ℕ
count_of ts level name = typed_of ts level (lowercased name)

-- nothing above the level that counters stand up to
pub none_above : (top l : ℕ) (q : List ℕ) (ts : List TypedCount) → Climb top (levels_in ts) → top < l → typed_of ts l q ≡ 0
none_above top l q [] climb high = refl
none_above top l q (t ∷ ts) climb high =
    let low = climb_top top t.level (levels_in ts) climb in
    let here = ap (λ b. cond (b && bytes_eq t.name.lowercased q) t.count 0) (numbers_differ t.level l (λ is. omega (arith, low, high, is))) in
    let later = none_above top l q ts climb.1 high in
    omega (arith, here, later)

-- one more of a name was counted at a level
abbrev pub AddsOne : ℕ → List ℕ → List TypedCount → List TypedCount → Type 0
AddsOne level name old new =
    (l : ℕ) (n : List ℕ) → count_of new l n ≡ cond ((l == level) && same_name n name) (count_of old l n + 1) (count_of old l n)

module _ (name : List ℕ) (old new : List TypedCount) (level : ℕ) (adds : AddsOne level name old new) where
  other_level : (l : ℕ) (n : List ℕ) → (l ≡ level → ⊥) → count_of new l n ≡ count_of old l n
  other_level l n differ = adds l n ∙ ap (λ b. cond (b && same_name n name) (count_of old l n + 1) (count_of old l n)) (numbers_differ l level differ)

  own_level : (n : List ℕ) → count_of new level n ≡ cond (same_name n name) (count_of old level n + 1) (count_of old level n)
  own_level n = adds level n ∙ ap (λ b. cond (b && same_name n name) (count_of old level n + 1) (count_of old level n)) (same_number level)

  pub own_name : count_of new level name ≡ count_of old level name + 1
  own_name = own_level name ∙ ap (λ b. cond b (count_of old level name + 1) (count_of old level name)) ((bytes_eq-Decides (lowercased name) (lowercased name)).1 refl)

  typed_outer : (e : Element) (around : List Element) (cs : List Child) (outer : List Element) → length outer < level → Descend e.number outer → AreTyped old cs outer → AreTyped new (kid (e ∷ around) name ∷ cs) outer
  typed_outer e around cs [] short d h = λ n. other_level 0 n (λ is. omega (arith, short, is)) ∙ (h n ∙ sym (other_typed None (e ∷ around) name n cs refl))
  typed_outer e around cs (x ∷ outer) short d h =
      let below = d.0 in (
        λ n. other_level (suc (length outer)) n (λ is. omega (arith, short, is)) ∙ (h.0 n ∙ sym (other_typed (Some x.number) (e ∷ around) name n cs (numbers_differ x.number e.number (λ is. omega (arith, below, is))))),
        typed_outer e around cs outer (omega (arith, short)) (descend_lower x.number e.number outer (omega (arith, below)) d.1) h.1,
      )

pub typed_counted : (name : List ℕ) (old new : List TypedCount) (cs : List Child) (bound : ℕ) (outer : List Element) → AddsOne (length outer) name old new → Descend bound outer → AreTyped old cs outer → AreTyped new (kid outer name ∷ cs) outer
typed_counted name old new cs bound [] adds d h = λ n. own_level name old new 0 adds n ∙ (ap (λ k. cond (same_name n name) (k + 1) k) (h n) ∙ sym (own_typed None [] name n cs refl))
typed_counted name old new cs bound (e ∷ outer) adds d h = (
  λ n. own_level name old new (suc (length outer)) adds n ∙ (ap (λ k. cond (same_name n name) (k + 1) k) (h.0 n) ∙ sym (own_typed (Some e.number) (e ∷ outer) name n cs (same_number e.number))),
  typed_outer name old new (suc (length outer)) adds e outer cs outer (omega arith) d.1 h.1,
)

pub typed_drop : (ts : List TypedCount) (cs : List Child) (n : ℕ) (outer : List Element) → AreTyped ts cs outer → AreTyped ts cs (drop n outer)
typed_drop ts cs zero outer h = h
typed_drop ts cs (suc n) [] h = h
typed_drop ts cs (suc n) (e ∷ outer) h = typed_drop ts cs n outer h.1

pub typed_same : (old new : List TypedCount) (cs : List Child) (outer : List Element) → ((l : ℕ) (n : List ℕ) → l ≤ length outer → count_of new l n ≡ count_of old l n) → AreTyped old cs outer → AreTyped new cs outer
typed_same old new cs [] same h = λ n. same 0 n (omega arith) ∙ h n
typed_same old new cs (e ∷ outer) same h = (λ n. same (suc (length outer)) n (omega arith) ∙ h.0 n, typed_same old new cs outer (λ l n within. same l n (omega (arith, within))) h.1)

-- what was counted of the parent's children
pub typed_here : (ts : List TypedCount) (cs : List Child) (outer : List Element) (name : List ℕ) → AreTyped ts cs outer → count_of ts (length outer) name ≡ typed_children_of (parent_of outer) name cs
typed_here ts cs [] name h = h name
typed_here ts cs (e ∷ outer) name h = h.0 name
