-- The levels of a name's counters.
use Rattle.std.proofs.Common.{◌≡◌, ◌≢◌, ap, refl, ℕ, true, false, nat_eq, Some, None, List, [], ◌∷◌, ◌++◌, arith, ◌+◌, ◌<◌}
use Rattle.std.proofs.lemmas.Bool.Decides.{nat_tests}
use Rattle.std.specs.Bool.{if◌then◌else◌}
use Rattle.lol_instructions.specs.Counters.{full_count}
use Rattle.lol_stack.specs.Levels.{one_more, is_at_level, counted_at_last, count_if_at}

pub is_at-append : (index : ℕ) (xs : List (ℕ × ℕ)) (x : ℕ × ℕ) → is_at_level index (xs ++ x ∷ []) ≡ nat_eq x.0 index
is_at-append index [] x = refl
is_at-append index (y ∷ []) x = refl
is_at-append index (y ∷ z ∷ xs) x = is_at-append index (z ∷ xs) x

pub counted_last-append : (xs : List (ℕ × ℕ)) (x : ℕ × ℕ) → counted_at_last (xs ++ x ∷ []) ≡ xs ++ (x.0, one_more x.1) ∷ []
counted_last-append [] x = refl
counted_last-append (y ∷ []) x = refl
counted_last-append (y ∷ z ∷ xs) x = ap (λ rest. y ∷ rest) (counted_last-append (z ∷ xs) x)

pub count_if_at-append : (index : ℕ) (xs : List (ℕ × ℕ)) (x : ℕ × ℕ) → count_if_at index (xs ++ x ∷ []) ≡ (if nat_eq x.0 index then Some x.1 else None)
count_if_at-append index [] x = refl
count_if_at-append index (y ∷ []) x = refl
count_if_at-append index (y ∷ z ∷ xs) x = count_if_at-append index (z ∷ xs) x

pub other_level : (level index : ℕ) → level ≢ index → nat_eq level index ≡ false
other_level level index other = grind (arith, nat_tests)

pub same_level : (level index : ℕ) → level ≡ index → nat_eq level index ≡ true
same_level level index same = grind (arith, nat_tests)

pub one_more-free : (n : ℕ) → n < full_count → one_more n ≡ n + 1
one_more-free n free = grind (arith, nat_tests)

pub one_more-full : (n : ℕ) → n ≡ full_count → one_more n ≡ n
one_more-full n full = grind (arith, nat_tests)
