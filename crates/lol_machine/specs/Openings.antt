-- Start tags whose element can be counted, and whether it is opened.
use Rattle.std.proofs.Common.{◌≡◌, ℕ, ◌+◌, ◌≤◌, ◌<◌, Bool, true, false, cond, not, List, Option, Some, None, refl, sym, ap, ◌∙◌, arith, true≢false, ◌↔◌, ◌&&◌, nat_lt}
use Rattle.std.proofs.lemmas.Bool.Decides.{Decides-eqb, nat_tests}
use Rattle.lol_base.specs.BoolLaws.{and_parts, and-false}
use Rattle.lol_base.specs.MemberLaws.{count_by-cons}
use Rattle.lol_base.specs.StartTags.{StartTag}
use Rattle.lol_instructions.specs.Counters.{full_count}
use Rattle.lol_program.specs.Paths.{Selectors}
use Rattle.lol_stack.specs.Stacks.{last_count}
use Rattle.lol_machine.specs.Documents.{Child, Document, after_start, children_of, element_of, parent_of, same_parent}
use Rattle.lol_machine.specs.Events.{Event, has_content}
use Rattle.lol_machine.specs.Answers.{opens}
use Rattle.lol_machine.specs.Refusals.{greatest_count}
use Rattle.lol_machine.specs.Standing.{unfinished}
use Rattle.lol_machine.specs.Vms.{Vm, has_failed, is_asked_for, stack_in}

-- 1. Room for one more child

-- a counter isn't full where no such refusal was answered
pub has_room : {E : Type 0} (vm : Vm E) → has_failed vm ≡ false → (IsFull : Type 0) → IsFull ↔ ((has_failed vm ≡ false) × (last_count (stack_in vm) ≡ full_count)) → (IsFull → ⊥) → last_count (stack_in vm) ≡ full_count → ⊥
has_room vm unfailed IsFull exact other full = other (exact.1 (unfailed, full))

module _ (d : Document) (count : ℕ) (tag : StartTag) (position : (element_of d tag).position ≡ count + 1) where
  -- where it isn't, the next child can be counted
  pub room_for : ((parent : Option ℕ) → children_of parent d.children ≤ greatest_count) → (count ≡ full_count → ⊥) → (element_of d tag).position ≤ greatest_count
  room_for countable room = by_test (nat_lt count full_count) refl
    where
      few : (element_of d tag).position ≤ greatest_count + 1
      few = let c = countable (parent_of d.open_elements) in omega (arith, c)

      by_test : (b : Bool) → nat_lt count full_count ≡ b → (element_of d tag).position ≤ greatest_count
      by_test true less = grind (arith, nat_tests, less, position)
      by_test false less = absurd (room (grind (arith, nat_tests, less, position, few)))

  pub no_room_for : count ≡ full_count → greatest_count < (element_of d tag).position
  no_room_for full = omega (arith, position, full)

-- 2. Whether a start tag opens an element

module _ (s : Selectors) (esi : Bool) (events : List Event) (tag : StartTag) where
  pub has_content_if : opens s esi events tag ≡ true → has_content esi tag ≡ true
  has_content_if h = (and_parts (has_content esi tag) (not (is_asked_for s esi events tag && not tag.finish)) h).0

  pub opens_unasked : has_content esi tag ≡ true → is_asked_for s esi events tag ≡ false → opens s esi events tag ≡ true
  opens_unasked has none = λ i. has i && not (none i && not tag.finish)

  pub opens_handed : has_content esi tag ≡ true → tag.finish ≡ true → opens s esi events tag ≡ true
  opens_handed has is = (λ i. has i && not (is_asked_for s esi events tag && not (is i))) ∙ (λ i. not (and-false (is_asked_for s esi events tag) i))

  -- its rest is asked for, and doesn't come
  pub is_left : is_asked_for s esi events tag ≡ true → tag.finish ≡ false → (is_asked_for s esi events tag && not tag.finish) ≡ true
  is_left is none = λ i. is i && not (none i)

  pub opens_nothing : is_asked_for s esi events tag ≡ true → tag.finish ≡ false → opens s esi events tag ≡ true → ⊥
  opens_nothing is none opening = true≢false (sym opening ∙ ((λ i. has_content esi tag && not (is_left is none i)) ∙ and-false (has_content esi tag)))

pub unfinished_is : (tag : StartTag) → tag.finish ≡ false → unfinished tag ≡ tag
unfinished_is tag none = λ i. record { name = tag.name; namespace = tag.namespace; attributes = tag.attributes; self_closing = tag.self_closing; finish = sym none i }

-- 3. Children, once a start tag is counted

parent_is : (a b : Option ℕ) → same_parent a b ≡ true → a ≡ b
parent_is None None same = refl
parent_is None (Some n) same = cc
parent_is (Some m) None same = cc
parent_is (Some m) (Some n) same = ap Some ((Decides-eqb m n).0 same)

own_parent : (a : Option ℕ) → same_parent a a ≡ true
own_parent None = refl
own_parent (Some n) = (Decides-eqb n n).1 refl

module _ (d : Document) (tag : StartTag) (opening : Bool) where
  pub children_after : (parent : Option ℕ) → children_of parent (after_start d tag opening).children ≡ cond (same_parent parent (parent_of d.open_elements)) 1 0 + children_of parent d.children
  children_after parent = count_by-cons (λ (c : Child). same_parent parent c.parent) (record { parent = parent_of d.open_elements; name = tag.name }) d.children

  -- as many children as before, or one more of the parent
  pub countable_after : ((parent : Option ℕ) → children_of parent d.children ≤ greatest_count) → (element_of d tag).position ≤ greatest_count
      → (parent : Option ℕ) → children_of parent (after_start d tag opening).children ≤ greatest_count
  countable_after countable few parent = by_parent (same_parent parent (parent_of d.open_elements)) refl
    where
      by_parent : (b : Bool) → same_parent parent (parent_of d.open_elements) ≡ b → children_of parent (after_start d tag opening).children ≤ greatest_count
      by_parent true same =
          let own = ap (λ p. children_of p d.children) (parent_is parent (parent_of d.open_elements) same) in
          let c = children_after parent ∙ ap (λ b. cond b 1 0 + children_of parent d.children) same in
          omega (arith, own, c, few)
      by_parent false same =
          let c = children_after parent ∙ ap (λ b. cond b 1 0 + children_of parent d.children) same in
          let before = countable parent in
          omega (arith, c, before)

  -- whose counters had room
  pub position_before : ((parent : Option ℕ) → children_of parent (after_start d tag opening).children ≤ greatest_count) → (element_of d tag).position ≤ greatest_count
  position_before countable =
      let parent = parent_of d.open_elements in
      let c = children_after parent ∙ ap (λ b. cond b 1 0 + children_of parent d.children) (own_parent parent) in
      let most = countable parent in
      omega (arith, c, most)
