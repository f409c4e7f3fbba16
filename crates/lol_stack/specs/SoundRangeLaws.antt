-- Active ranges, as elements come and go.
use Rattle.std.proofs.Common.{◌≡◌, ◌∙◌, sym, ap, refl, ℕ, suc, ◌+◌, ◌<◌, ◌≤◌, true, false, nat_lt, List, [], ◌∷◌, ◌++◌, length, arith}
use Rattle.std.specs.Bool.{if◌then◌else◌}
use Rattle.std.specs.List.{filter}
use Rattle.std.proofs.lemmas.Bool.Decides.{nat_tests}
use Rattle.std.proofs.lemmas.List.Elements.{filter-append}
use Rattle.std.proofs.lemmas.List.{append-nil}
use Rattle.std.specs.declared.ops.Range.{Range}
use Rattle.lol_stack.specs.Active.{activated, active_after, is_range_active}

-- those of the elements before a depth
abbrev pub before : ℕ → List (Range ℕ × ℕ) → List (Range ℕ × ℕ)
before depth active = filter (λ a. nat_lt a.1 depth) active

pub active_after-append : (active : List (Range ℕ × ℕ)) (depth : ℕ) (xs ys : List (List (Range ℕ)))
    → active_after active depth (xs ++ ys) ≡ active_after (active_after active depth xs) (depth + length xs) ys
active_after-append active depth [] ys = let same : depth + 0 ≡ depth = omega arith in ap (λ p. active_after active p ys) (sym same)
active_after-append active depth (x ∷ xs) ys =
    let same : (depth + 1) + length xs ≡ depth + suc (length xs) = omega arith in
    active_after-append (activated active depth x) (depth + 1) xs ys
    ∙ ap (λ p. active_after (active_after (activated active depth x) (depth + 1) xs) p ys) same

-- ranges of an element from a depth on don't stand before it
before-activated : (bound depth : ℕ) (active : List (Range ℕ × ℕ)) (ranges : List (Range ℕ)) → bound ≤ depth → before bound (activated active depth ranges) ≡ before bound active
before-activated bound depth active [] above = refl
before-activated bound depth active (r ∷ ranges) above =
    let off : nat_lt depth bound ≡ false = grind (arith, nat_tests) in
    let one : before bound ((r, depth) ∷ []) ≡ [] = rw off refl in
    elim (is_range_active active r) as (λ there. before bound (activated (if there then active else active ++ (r, depth) ∷ []) depth ranges) ≡ before bound active) [
      | true ↦ before-activated bound depth active ranges above
      | false ↦
          before-activated bound depth (active ++ (r, depth) ∷ []) ranges above
          ∙ (filter-append (λ a. nat_lt a.1 bound) active ((r, depth) ∷ []) ∙ (ap (λ more. before bound active ++ more) one ∙ append-nil (before bound active)))
    ]

pub before-active_after : (bound depth : ℕ) (active : List (Range ℕ × ℕ)) (ranges : List (List (Range ℕ))) → bound ≤ depth → before bound (active_after active depth ranges) ≡ before bound active
before-active_after bound depth active [] above = refl
before-active_after bound depth active (x ∷ xs) above =
    before-active_after bound (depth + 1) (activated active depth x) xs (omega arith) ∙ before-activated bound depth active x above

-- and those of an element before a depth do
kept-activated : (bound depth : ℕ) (active : List (Range ℕ × ℕ)) (ranges : List (Range ℕ)) → depth < bound → before bound active ≡ active → before bound (activated active depth ranges) ≡ activated active depth ranges
kept-activated bound depth active [] below kept = kept
kept-activated bound depth active (r ∷ ranges) below kept =
    let on : nat_lt depth bound ≡ true = grind (arith, nat_tests) in
    let one : before bound ((r, depth) ∷ []) ≡ (r, depth) ∷ [] = rw on refl in
    let more = filter-append (λ a. nat_lt a.1 bound) active ((r, depth) ∷ []) ∙ (ap (λ front. front ++ before bound ((r, depth) ∷ [])) kept ∙ ap (λ back. active ++ back) one) in
    elim (is_range_active active r) as
    (λ there. before bound (activated (if there then active else active ++ (r, depth) ∷ []) depth ranges) ≡ activated (if there then active else active ++ (r, depth) ∷ []) depth ranges) [
      | true ↦ kept-activated bound depth active ranges below kept
      | false ↦ kept-activated bound depth (active ++ (r, depth) ∷ []) ranges below more
    ]

pub kept-active_after : (bound depth : ℕ) (active : List (Range ℕ × ℕ)) (ranges : List (List (Range ℕ))) → depth + length ranges ≤ bound → before bound active ≡ active
    → before bound (active_after active depth ranges) ≡ active_after active depth ranges
kept-active_after bound depth active [] fits kept = kept
kept-active_after bound depth active (x ∷ xs) fits kept =
    kept-active_after bound (depth + 1) (activated active depth x) xs (omega arith) (kept-activated bound depth active x (omega arith) kept)
