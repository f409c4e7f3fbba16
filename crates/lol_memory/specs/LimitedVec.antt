-- What a contract sees of a `LimitedVec`: its elements, the slots that are charged, and the bytes that a slot is charged for.
use Rattle.std.specs.Prelude.{ℕ, ◌+◌, ◌*◌, ◌^◌, ◌≤◌, ◌⊎◌, List, [], ◌∷◌, ◌++◌, length, max, if◌then◌else◌, nat_lt, refl}
use Rattle.std.specs.Coded.{Coded, code_by, coded×, coded_ℕ, coded_list}
use Rattle.lol_memory.specs.Limiter.{Limiter, Passes}
use Rattle.lol_memory.specs.Slots.{minimum_slots}

pub record LimitedVec (T : Type 0) : Type 0 where
  pub items : List T
  pub slots : ℕ
  pub item_bytes : ℕ

abbrev pub limited_vec_code : {T : Type 0} → Coded T → Coded (LimitedVec T)
limited_vec_code {T} code =
    code_by (List T × (ℕ × ℕ)) (coded× (coded_list code) (coded× coded_ℕ coded_ℕ)) (λ v. (v.items, (v.slots, v.item_bytes)))
    (λ p. record { items = p.0; slots = p.1.0; item_bytes = p.1.1 }) (λ _. refl)

module _ {T : Type 0} where
  abbrev pub IsFull : LimitedVec T → Type 0
  IsFull v = v.slots ≤ length v.items

  -- how many slots come when the list fills its slots
  abbrev pub more_slots : LimitedVec T → ℕ
  more_slots v = max v.slots (minimum_slots v.item_bytes)

  -- how many slots come with one push
  abbrev pub grown_slots : LimitedVec T → ℕ
  grown_slots v = if nat_lt (length v.items) v.slots then 0 else more_slots v

  -- the vector after one push
  abbrev pub pushed : LimitedVec T → T → LimitedVec T
  pushed v x = record v { items = v.items ++ x ∷ []; slots = v.slots + grown_slots v }

  -- the growth that the next push needs passes usize, or the limiter's maximum
  abbrev pub IsLimited : LimitedVec T → Limiter → Type 0
  IsLimited v l =
      IsFull v × ((2 ^ 64 ≤ more_slots v * v.item_bytes) ⊎ (2 ^ 64 ≤ v.slots + more_slots v) ⊎ Passes l (more_slots v * v.item_bytes))

  abbrev pub with_items : LimitedVec T → List T → LimitedVec T
  with_items v xs = record v { items = xs }
