-- Ascending lists of numbers.
use Rattle.std.specs.Prelude.{ℕ, ◌≡◌, ◌<◌, ◌↔◌, if◌then◌else◌, ◌==◌, nat_lt, List, [], ◌∷◌, Contains, AllPairs}

-- each number of a list is below all after it
abbrev pub IsStrictlyAscending : List ℕ → Type 0
IsStrictlyAscending ns = AllPairs (λ m n. m < n) ns

-- an ascending list with a number where it belongs, unless it is there
abbrev pub with_number : ℕ → List ℕ → List ℕ
with_number n [] = n ∷ []
with_number n (x ∷ xs) = if nat_lt n x then n ∷ x ∷ xs else (if n == x then x ∷ xs else x ∷ with_number n xs)

-- the numbers of a list, ascending and each once
abbrev pub ascending_once : List ℕ → List ℕ
ascending_once [] = []
ascending_once (n ∷ ns) = with_number n (ascending_once ns)

-- A strictly ascending list is determined by its members.
abbrev pub AscendingIsDetermined : Type 0
AscendingIsDetermined =
    (ms ns : List ℕ) → IsStrictlyAscending ms → IsStrictlyAscending ns → ((n : ℕ) → Contains ms n ↔ Contains ns n) → ms ≡ ns
