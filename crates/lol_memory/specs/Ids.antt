-- Sets of ids, as contracts see them.
use Rattle.std.specs.Prelude.{◌≡◌, ◌<◌, ◌≤◌, ◌+◌, ◌*◌, ◌/◌, ◌⊎◌, ℕ, Bool, true, List, [], ◌∷◌, nat_lt, if◌then◌else◌}
use Rattle.std.specs.Ordering.{nat_cmp}
use Rattle.std.specs.Str.{bytes_eq}
use Rattle.std.specs.Coded.{Coded, coded_ℕ}
use base.Stored.{coded_unit}
use Rattle.std.specs.FinMap as map

-- a set of ids
abbrev pub Ids : Type 0
Ids = map.FinMap nat_cmp (Unit {0})

abbrev pub ids_code : Coded Ids
ids_code = map.code coded_ℕ coded_unit

abbrev pub no_ids : Ids
no_ids = map.empty

-- whether the set has the id
abbrev pub has : Ids → ℕ → Bool
has s q = map.contains_key s q

-- the set with one id more
abbrev pub with_id : Ids → ℕ → Ids
with_id s q = map.insert s q tt

-- the set with the ids of a list
abbrev pub with_ids : Ids → List ℕ → Ids
with_ids s [] = s
with_ids s (q ∷ qs) = with_id (with_ids s qs) q

-- the ids of the set, ascending, each once
abbrev pub ascending : Ids → List ℕ
ascending s = map.keys s

-- the ids of either set
unfoldable pub union : Ids → Ids → Ids
union s t = with_ids s (ascending t)

-- whether the sets have the same ids
abbrev pub same_ids : Ids → Ids → Bool
same_ids s t = bytes_eq (ascending s) (ascending t)

-- each id of the set is below 32
abbrev pub AllSmall : Ids → Type 0
AllSmall s = (q : ℕ) → has s q ≡ true → q < 32

-- how many words after the word w hold one of the ids, which ascend; a word is of 32 ids
abbrev pub words_after : ℕ → List ℕ → ℕ
words_after w [] = 0
words_after w (q ∷ qs) = if nat_lt w (q / 32) then words_after (q / 32) qs + 1 else words_after w qs

-- the words up to that of the greatest id are at most 16, and 4 more for each word after the first that holds an id
pub record IsDense (s : Ids) : Type 0 where
  pub words : (q : ℕ) → has s q ≡ true → q / 32 < 16 + 4 * words_after 0 (ascending s)

-- The set takes the id in the words that it has. The id is among the first 32, or the set has one of the 32 ids of its word, or the set
-- is dense and this word isn't after the last.
abbrev pub HasRoom : Ids → ℕ → Type 0
HasRoom s q =
    (q < 32)
    ⊎ ((p : ℕ) × (has s p ≡ true) × (p / 32 ≡ q / 32))
    ⊎ (IsDense s × ((p : ℕ) × (has s p ≡ true) × (q / 32 ≤ p / 32)))

-- each id of t has room in s
abbrev pub HasRoomFor : Ids → Ids → Type 0
HasRoomFor s t = (q : ℕ) → has t q ≡ true → HasRoom s q
