-- Depths of elements by name, as elements come and go.
use Rattle.std.proofs.Common.{◌≡◌, ◌∙◌, sym, ap, refl, ℕ, suc, ◌+◌, ◌-◌, ◌<◌, ◌≤◌, true, false, nat_lt, List, [], ◌∷◌, ◌++◌, length, Option, Some, None, arith, length-append}
use Rattle.std.specs.Bool.{if◌then◌else◌}
use Rattle.std.specs.Option.{option_or}
use Rattle.std.proofs.lemmas.Bool.Decides.{nat_tests}
use Rattle.std.proofs.lemmas.List.{append-nil}
use Rattle.lol_base.specs.LocalNames.{Name, same_local_name}
use Rattle.lol_stack.specs.Levels.{without_last}
use Rattle.lol_stack.specs.Stacks.{without_depths, last_below}
use Rattle.lol_stack.specs.SoundStacks.{name_depths_from, last_depth_from}
use Rattle.lol_stack.specs.declared.stack_item.StackItemOf.{StackItemOf}

module _ {E : Type 0} where
  pub depths_from-append : (depth : ℕ) (xs ys : List (StackItemOf Name E)) (name : Name)
      → name_depths_from depth (xs ++ ys) name ≡ name_depths_from depth xs name ++ name_depths_from (depth + length xs) ys name
  depths_from-append depth [] ys name = let same : depth + 0 ≡ depth = omega arith in ap (λ p. name_depths_from p ys name) (sym same)
  depths_from-append depth (x ∷ xs) ys name =
      let same : (depth + 1) + length xs ≡ depth + suc (length xs) = omega arith in
      let rest = depths_from-append (depth + 1) xs ys name ∙ ap (λ p. name_depths_from (depth + 1) xs name ++ name_depths_from p ys name) same in
      elim (same_local_name x.local_name name) as
      (λ own.
      (if own then depth ∷ name_depths_from (depth + 1) (xs ++ ys) name else name_depths_from (depth + 1) (xs ++ ys) name)
      ≡ (if own then depth ∷ name_depths_from (depth + 1) xs name else name_depths_from (depth + 1) xs name) ++ name_depths_from (depth + suc (length xs)) ys name) [
        | true ↦ ap (λ more. depth ∷ more) rest
        | false ↦ rest
      ]

without_last-append : (xs : List ℕ) (y : ℕ) (ys : List ℕ) → without_last (xs ++ y ∷ ys) ≡ xs ++ without_last (y ∷ ys)
without_last-append [] y ys = refl
without_last-append (x ∷ xs) y ys =
    let more : length (x ∷ (xs ++ y ∷ ys)) - 1 ≡ suc (length (xs ++ y ∷ ys) - 1) = omega (arith, length-append xs (y ∷ ys)) in
    rw more (ap (λ rest. x ∷ rest) (without_last-append xs y ys))

length-without_last : (y : ℕ) (ys : List ℕ) → length (without_last (y ∷ ys)) ≡ length ys
length-without_last y [] = refl
length-without_last y (z ∷ ys) =
    let more : length (y ∷ z ∷ ys) - 1 ≡ suc (length (z ∷ ys) - 1) = omega arith in
    rw more (ap suc (length-without_last z ys))

module _ {E : Type 0} where
  -- one more depth goes
  one_off : (ys : List (StackItemOf Name E)) (name : Name) (front : List ℕ) (n : ℕ)
      → ((back : List ℕ) → length back ≡ n → without_depths ys name (front ++ back) ≡ front) → (zs : List ℕ) → length zs ≡ suc n
      → without_depths ys name (without_last (front ++ zs)) ≡ front
  one_off ys name front n off [] many = absurd (omega arith)
  one_off ys name front n off (z ∷ zs) many =
      ap (without_depths ys name) (without_last-append front z zs) ∙ off (without_last (z ∷ zs)) (length-without_last z zs ∙ omega arith)

  -- as many depths go as there are elements of the name
  taken_off : (depth : ℕ) (ys : List (StackItemOf Name E)) (name : Name) (front back : List ℕ) → length back ≡ length (name_depths_from depth ys name)
      → without_depths ys name (front ++ back) ≡ front
  taken_off depth [] name front [] same = append-nil front
  taken_off depth [] name front (b ∷ back) same = absurd (omega arith)
  taken_off depth (y ∷ ys) name front back same =
      elim (same_local_name y.local_name name) as
      (λ own. length back ≡ length (if own then depth ∷ name_depths_from (depth + 1) ys name else name_depths_from (depth + 1) ys name)
      → without_depths ys name (if own then without_last (front ++ back) else front ++ back) ≡ front) [
        | true ↦ λ many. one_off ys name front (length (name_depths_from (depth + 1) ys name)) (λ zs few. taken_off (depth + 1) ys name front zs few) back many
        | false ↦ λ many. taken_off (depth + 1) ys name front back many
      ] same

  pub without_depths-closed : (xs ys : List (StackItemOf Name E)) (name : Name)
      → without_depths ys name (name_depths_from 0 (xs ++ ys) name) ≡ name_depths_from 0 xs name
  without_depths-closed xs ys name =
      ap (without_depths ys name) (depths_from-append 0 xs ys name) ∙ taken_off (0 + length xs) ys name (name_depths_from 0 xs name) (name_depths_from (0 + length xs) ys name) refl

-- the last depth that is there, of depths that are all below a bound

abbrev AllBelow : ℕ → List ℕ → Type 0
AllBelow n [] = Unit {0}
AllBelow n (p ∷ ps) = (p < n) × AllBelow n ps

last_of : ℕ → List ℕ → ℕ
last_of p [] = p
last_of p (q ∷ ps) = last_of q ps

last_below-some : (n p : ℕ) (ps : List ℕ) → AllBelow n (p ∷ ps) → last_below n (p ∷ ps) ≡ Some (last_of p ps)
unfolding last_of
last_below-some n p [] below = let is : nat_lt p n ≡ true = grind (arith, nat_tests, below.0) in rw is refl
last_below-some n p (q ∷ ps) below = last_below-some n q ps below.1

-- one more depth in front is the last only where there is no other
last_below-cons : (n p : ℕ) (ps : List ℕ) → AllBelow n (p ∷ ps) → last_below n (p ∷ ps) ≡ option_or (last_below n ps) (Some p)
unfolding last_of
last_below-cons n p [] below = last_below-some n p [] below
last_below-cons n p (q ∷ ps) below = rw (last_below-some n q ps below.1) refl

option_or-none : {A : Type 0} (o : Option A) → option_or o None ≡ o
option_or-none None = refl
option_or-none (Some x) = refl

module _ {E : Type 0} where
  depths_from-below : (n depth : ℕ) (items : List (StackItemOf Name E)) (name : Name) → depth + length items ≤ n → AllBelow n (name_depths_from depth items name)
  depths_from-below n depth [] name fits = tt
  depths_from-below n depth (item ∷ items) name fits =
      let rest = depths_from-below n (depth + 1) items name (omega arith) in
      elim (same_local_name item.local_name name) as
      (λ own. AllBelow n (if own then depth ∷ name_depths_from (depth + 1) items name else name_depths_from (depth + 1) items name)) [
        | true ↦ (omega arith, rest)
        | false ↦ rest
      ]

  pub last_below-depths : (n depth : ℕ) (items : List (StackItemOf Name E)) (name : Name) → depth + length items ≤ n
      → last_below n (name_depths_from depth items name) ≡ last_depth_from depth items name
  last_below-depths n depth [] name fits = refl
  last_below-depths n depth (item ∷ items) name fits =
      let rest = last_below-depths n (depth + 1) items name (omega arith) in
      let below = depths_from-below n (depth + 1) items name (omega arith) in
      let first : depth < n = omega arith in
      elim (same_local_name item.local_name name) as
      (λ own.
      last_below n (if own then depth ∷ name_depths_from (depth + 1) items name else name_depths_from (depth + 1) items name)
      ≡ option_or (last_depth_from (depth + 1) items name) (if own then Some depth else None)) [
        | true ↦ last_below-cons n depth (name_depths_from (depth + 1) items name) (first, below) ∙ ap (λ o. option_or o (Some depth)) rest
        | false ↦ rest ∙ sym (option_or-none (last_depth_from (depth + 1) items name))
      ]
