-- A walk from a node that matched to the nodes above it, over the open elements.
use Rattle.std.proofs.Common.{◌≡◌, ℕ, zero, suc, ◌+◌, ◌<◌, ◌≤◌, true, List, [], ◌∷◌, ◌++◌, length, map, reverse, take, get_or, Option, Some, None, refl, sym, ap, ◌∙◌, subst, arith, append_assoc}
use Rattle.std.proofs.lemmas.List.{take_more, take_all, reverse-append, length-reverse, length-take-le}
use Rattle.lol_base.specs.BoolLaws.{and_parts}
use Rattle.lol_base.specs.ListLaws.{get_or-any}
use Rattle.lol_base.specs.PlaceLaws.{some_is, head_is, tail_is}
use Rattle.lol_css.specs.declared.selector.Combinator.{Combinator}
use Rattle.lol_css.specs.declared.selector.Combinator.TheVariants.{Child, Descendant}
use Rattle.lol_instructions.specs.Tests.{Element}
use Rattle.lol_instructions.specs.Compounds.{Compound, all_hold}
use Rattle.lol_program.specs.Paths.{Path, First, Then, Selectors}
use Rattle.lol_program.specs.Programs.{Program, IsAt, IsProgramOf, AreClosed}
use Rattle.lol_program.specs.ProgramViews.{program_shown}
use Rattle.lol_program.specs.declared.program.Program as program
use Rattle.lol_machine.specs.Machines.{OpenItem, AreItems}
use Rattle.lol_machine.specs.Matching.{matches, step_reaches}
use Rattle.lol_reasons.specs.Climbing.{StandsUnder, reached_by}
use Rattle.lol_reasons.specs.Matched.{HasMatched}
use Rattle.lol_reasons.specs.Witnesses.{innermost_witness, known_witness, step_gives}
use Rattle.lol_reasons.specs.declared.witness.NodeAbove.{NodeAbove}
use Rattle.lol_reasons.proofs.WitnessLemmas.{innermost_is_known}
use Rattle.lol_reasons.proofs.ClimbingLemmas.{Reached, nearest_reached, same_lengths}

-- 1. Lists whose last items come first

module _ {A : Type 0} where
  reverse_more : (xs : List A) (k : ℕ) (d : A) → k < length xs → reverse (take (k + 1) xs) ≡ get_or xs k d ∷ reverse (take k xs)
  reverse_more xs k d within = ap reverse (take_more xs k d within) ∙ reverse-append (take k xs) (get_or xs k d ∷ [])

  -- a list from its left-th item on, seen from there: what is before x is at the length of what is after it
  pub record Cut (xs : List A) (left : ℕ) (x : A) (post : List A) : Type 0 where
    pub rest : reverse (take (length post) xs) ≡ post
    pub at : (d : A) → get_or xs (length post) d ≡ x
    pub below : length post < left

  pub cut : (xs : List A) (left : ℕ) (pre : List A) (x : A) (post : List A) → left ≤ length xs → reverse (take left xs) ≡ pre ++ x ∷ post → Cut xs left x post
  cut xs zero [] x post within h = cc
  cut xs zero (y ∷ pre) x post within h = cc
  cut xs (suc k) [] x post within h =
      let next : suc k ≡ k + 1 = omega arith in
      let more : get_or xs k x ∷ reverse (take k xs) ≡ x ∷ post = sym (reverse_more xs k x (omega (arith, within))) ∙ ap (λ n. reverse (take n xs)) (sym next) ∙ h in
      let first = head_is (get_or xs k x) x (reverse (take k xs)) post more in
      let others = tail_is (get_or xs k x) x (reverse (take k xs)) post more in
      let as_many : length post ≡ k = ap length (sym others) ∙ length-reverse (take k xs) ∙ length-take-le k xs (omega (arith, within)) in
      record {
        rest = ap (λ n. reverse (take n xs)) as_many ∙ others;
        at = λ d. ap (λ n. get_or xs n d) as_many ∙ get_or-any xs k d x (omega (arith, within)) ∙ first;
        below = omega (arith, as_many);
      }
  cut xs (suc k) (y ∷ pre) x post within h =
      let next : suc k ≡ k + 1 = omega arith in
      let more : get_or xs k x ∷ reverse (take k xs) ≡ y ∷ (pre ++ x ∷ post) = sym (reverse_more xs k x (omega (arith, within))) ∙ ap (λ n. reverse (take n xs)) (sym next) ∙ h in
      let inner = cut xs k pre x post (omega (arith, within)) (tail_is (get_or xs k x) y (reverse (take k xs)) (pre ++ x ∷ post) more) in
      record { rest = inner.rest; at = inner.at; below = omega (arith, inner.below) }

-- 2. The walk

abbrev numbers_of : List Element → List ℕ
numbers_of elements = map (λ e. e.number) elements

numbers_append : (xs ys : List Element) → numbers_of (xs ++ ys) ≡ numbers_of xs ++ numbers_of ys
numbers_append [] ys = refl
numbers_append (x ∷ xs) ys = ap (λ l. x.number ∷ l) (numbers_append xs ys)

numbers_length : (xs : List Element) → length (numbers_of xs) ≡ length xs
numbers_length [] = refl
numbers_length (x ∷ xs) = ap suc (numbers_length xs)

abbrev pub give_for : Path → Element → List Element → List ℕ
give_for front a around = known_witness matches front a around

-- What the walk keeps: the node where it stands matched the element where it stands, and the numbers so far go on with that element's.
pub record Climbs (paths : List Path) (p : Program) (path0 : Path) (e0 : Element) (outer0 : List Element) (items : List OpenItem) (numbers : List ℕ)
    (address left : ℕ) (witness : List ℕ) : Type 0 where
  pub path : Path
  pub element : Element
  pub around : List Element
  pub before : List ℕ
  pub at : IsAt paths address path
  pub are_items : AreItems paths p (reverse (take left items)) around
  pub are_numbers : map (λ a. a.number) around ≡ reverse (take left numbers)
  pub fits : matches path element around ≡ true
  pub known : known_witness matches path0 e0 outer0 ≡ before ++ known_witness matches path element around
  pub told : witness ≡ before ++ element.number ∷ []

pub begins : (s : Selectors) (paths : List Path) (p : Program) (address : ℕ) (path : Path) (items : List OpenItem) (numbers : List ℕ) (e : Element) (around : List Element) (number left : ℕ)
    (witness : List ℕ) → HasMatched s paths p address path (reverse items) numbers e around → length items ≤ left → length numbers ≤ left → number ≡ e.number → witness ≡ number ∷ []
    → Climbs paths p path e around items numbers address left witness
begins s paths p address path items numbers e around number left witness h all all' same told = record {
  path = path;
  element = e;
  around = around;
  before = [];
  at = h.at;
  are_items = subst (λ l. AreItems paths p (reverse l) around) (sym (take_all left items all)) h.around.are_items;
  are_numbers = h.around.are_numbers ∙ ap reverse (sym (take_all left numbers all'));
  fits = h.matched;
  known = refl;
  told = told ∙ ap (λ n. n ∷ []) same;
}

module _ (s : Selectors) (paths : List Path) (code_program : program.Program) (closed : AreClosed s) (is : IsProgramOf s paths (program_shown code_program)) where
  abbrev p : Program
  p = program_shown code_program

  reached : (front : Path) (step : Combinator) (c : Compound) (address : ℕ) (items : List OpenItem) (around : List Element) → IsAt paths address (Then front step c) → AreItems paths p items around
      → step_reaches step (λ a o. matches front a o) around ≡ true
      → Reached paths p front (give_for front) items around (reached_by step address items) (step_gives step (λ a o. matches front a o) (give_for front) around)
  reached front Child c address [] [] at h fits = cc
  reached front Child c address [] (a ∷ around) at h fits = absurd h
  reached front Child c address (item ∷ items) [] at h fits = absurd h
  reached front Child c address (item ∷ items) (a ∷ around) at h fits = record {
    inner = [];
    item = item;
    outer = items;
    parts = refl;
    nearer = [];
    element = a;
    beyond = around;
    elements = refl;
    as_many = same_lengths paths p items around h.1;
    found = refl;
    are_items = h.1;
    fits = fits;
    gives = refl;
  }
  reached front Descendant c address items around at h fits = nearest_reached s paths p closed is front c address (give_for front) at items around h fits

  module _ (path0 : Path) (e0 : Element) (outer0 : List Element) (items : List OpenItem) (numbers : List ℕ) (address left : ℕ) (witness : List ℕ)
      (within : left ≤ length items) (as_many : length numbers ≡ length items) (here : Climbs paths p path0 e0 outer0 items numbers address left witness)
      (found : Option NodeAbove) (under_here : StandsUnder paths here.path found) where
    -- at a root the walk is over
    pub ends : found ≡ None → matches path0 e0 outer0 ≡ true → innermost_witness path0 e0 outer0 ≡ Some witness
    ends none matched =
        innermost_is_known path0 e0 outer0 matched ∙ ap Some (here.known ∙ ap (λ l. here.before ++ l) (one here.path under_here) ∙ sym here.told)
      where
        one : (path : Path) → StandsUnder paths path found → known_witness matches path here.element here.around ≡ here.element.number ∷ []
        one (First c) stands = refl
        one (Then front step c) stands = absurd (let some = sym none ∙ stands.1 in cc)

    pub goes_on : (a : NodeAbove) → found ≡ Some a → (at : ℕ) (shown : List OpenItem) → shown ≡ reverse (take left items)
        → reached_by a.step address shown ≡ Some at
        → (d : ℕ) → Climbs paths p path0 e0 outer0 items numbers a.address at (witness ++ get_or numbers at d ∷ [])
    goes_on a above at shown is_shown reaches d = from here.path here.at here.fits here.known under_here
      where
        from : (path : Path) → IsAt paths address path → matches path here.element here.around ≡ true → known_witness matches path0 e0 outer0 ≡ here.before ++ known_witness matches path here.element here.around
            → StandsUnder paths path found → Climbs paths p path0 e0 outer0 items numbers a.address at (witness ++ get_or numbers at d ∷ [])
        from (First c) is_at fits known stands = absurd (let some = sym above ∙ stands in cc)
        from (Then front step c) is_at fits known stands =
            let same : stands.0 ≡ a = some_is (sym stands.1 ∙ above) in
            let step_is : step ≡ a.step = sym stands.3 ∙ ap (λ (x : NodeAbove). x.step) same in
            let r = reached front step c address (reverse (take left items)) here.around is_at here.are_items
            (and_parts (all_hold c here.element) (step_reaches step (λ a o. matches front a o) here.around) fits).1 in
            let found_at : length r.outer ≡ at = some_is (sym r.found ∙ ap (λ x. reached_by x address (reverse (take left items))) step_is ∙ ap (reached_by a.step address) (sym is_shown) ∙ reaches) in
            let items_cut = cut items left r.inner r.item r.outer within r.parts in
            let numbers_cut = cut numbers left (numbers_of r.nearer) r.element.number (numbers_of r.beyond) (omega (arith, within, as_many))
            (sym here.are_numbers ∙ ap numbers_of r.elements ∙ numbers_append r.nearer (r.element ∷ r.beyond)) in
            let many : length (numbers_of r.beyond) ≡ at = numbers_length r.beyond ∙ r.as_many ∙ found_at in
            record {
              path = front;
              element = r.element;
              around = r.beyond;
              before = here.before ++ here.element.number ∷ [];
              at = subst (λ (x : NodeAbove). IsAt paths x.address front) same stands.2;
              are_items = subst (λ l. AreItems paths p l r.beyond) (sym items_cut.rest ∙ ap (λ n. reverse (take n items)) found_at) r.are_items;
              are_numbers = sym numbers_cut.rest ∙ ap (λ n. reverse (take n numbers)) many;
              fits = r.fits;
              known = known ∙ ap (λ l. here.before ++ here.element.number ∷ l) r.gives ∙ sym (append_assoc here.before (here.element.number ∷ []) (give_for front r.element r.beyond));
              told = ap (λ n. witness ++ n ∷ []) (ap (λ n. get_or numbers n d) (sym many) ∙ numbers_cut.at d) ∙ ap (λ l. l ++ r.element.number ∷ []) here.told;
            }

    pub not_lost : (a : NodeAbove) → found ≡ Some a → (shown : List OpenItem) → shown ≡ reverse (take left items)
        → reached_by a.step address shown ≡ None → ⊥
    not_lost a above shown is_shown lost = from here.path here.at here.fits under_here
      where
        from : (path : Path) → IsAt paths address path → matches path here.element here.around ≡ true → StandsUnder paths path found → ⊥
        from (First c) is_at fits stands = let some = sym above ∙ stands in cc
        from (Then front step c) is_at fits stands =
            let same : stands.0 ≡ a = some_is (sym stands.1 ∙ above) in
            let step_is : step ≡ a.step = sym stands.3 ∙ ap (λ (x : NodeAbove). x.step) same in
            let r = reached front step c address (reverse (take left items)) here.around is_at here.are_items
            (and_parts (all_hold c here.element) (step_reaches step (λ a o. matches front a o) here.around) fits).1 in
            let some = sym r.found ∙ ap (λ x. reached_by x address (reverse (take left items))) step_is ∙ ap (reached_by a.step address) (sym is_shown) ∙ lost in
            cc
