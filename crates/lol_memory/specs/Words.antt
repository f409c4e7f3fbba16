-- Words of 32 bits that hold ids: bit k of word j, the lowest first, stands for the id 32 * j + k.
use Rattle.std.specs.Prelude.{◌≡◌, ◌≢◌, ℕ, zero, suc, ◌+◌, ◌-◌, ◌*◌, ◌/◌, ◌%◌, ◌^◌, ◌<◌, ◌≤◌, Bool, true, false, cond, List, [], ◌∷◌, length, get_or, nat_eq, max, bit_or}
use Rattle.std.specs.Int.{bit_at}
use Rattle.lol_memory.specs.Ids.{Ids, no_ids, with_ids}

-- whether the words hold the id
unfoldable pub holds : List ℕ → ℕ → Bool
holds ws q = nat_eq (bit_at (get_or ws (q / 32) 0) (q % 32)) 1

-- those of the n ids from `from` on that the words hold, ascending
abbrev pub ids_from : List ℕ → ℕ → ℕ → List ℕ
ids_from ws from zero = []
ids_from ws from (suc n) = cond (holds ws from) (from ∷ ids_from ws (from + 1) n) (ids_from ws (from + 1) n)

-- the set of the ids that the words hold
unfoldable pub ids_held : List ℕ → Ids
ids_held ws = with_ids no_ids (ids_from ws 0 (32 * length ws))

-- no more words than the ids need, and no more than u32 has ids for
pub record IsTrim (ws : List ℕ) : Type 0 where
  pub some : 0 < length ws
  pub few : length ws ≤ 2 ^ 27
  pub fit : (j : ℕ) → get_or ws j 0 < 2 ^ 32
  pub last : 1 < length ws → get_or ws (length ws - 1) 0 ≢ 0

-- the words hold no id from `from` up to `to`
abbrev pub NoneHeld : List ℕ → ℕ → ℕ → Type 0
NoneHeld ws from to = (q : ℕ) → from ≤ q → q < to → holds ws q ≡ false

-- the first id that the words hold at or after `from`
pub record IsFirstHeld (ws : List ℕ) (from q : ℕ) : Type 0 where
  pub after : from ≤ q
  pub within : q < 32 * length ws
  pub held : holds ws q ≡ true
  pub first : NoneHeld ws from q

-- how many of the n words from j on hold an id
abbrev pub held_from : List ℕ → ℕ → ℕ → ℕ
held_from ws j zero = 0
held_from ws j (suc n) = cond (nat_eq (get_or ws j 0) 0) (held_from ws (j + 1) n) (held_from ws (j + 1) n + 1)

-- how many words after the first hold an id
abbrev pub held_words : List ℕ → ℕ
held_words ws = held_from ws 1 (length ws - 1)

-- so many words are kept in a list of them all, where so many after the first hold an id
abbrev pub AreDense : ℕ → ℕ → Type 0
AreDense words held = words ≤ 16 + 4 * held

-- new has the words of old, and at the number these bits too
pub record IsMarked (old new : List ℕ) (number bits : ℕ) : Type 0 where
  pub words : length new ≡ max (length old) (number + 1)
  pub here : get_or new number 0 ≡ bit_or (get_or old number 0) bits
  pub others : (j : ℕ) → j ≢ number → get_or new j 0 ≡ get_or old j 0

-- new has the words of old and of other
pub record IsJoined (old other new : List ℕ) : Type 0 where
  pub words : length new ≡ max (length old) (length other)
  pub bits : (j : ℕ) → get_or new j 0 ≡ bit_or (get_or old j 0) (get_or other j 0)
