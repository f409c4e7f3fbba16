-- How slots grow with a list.
use Rattle.std.proofs.Common.{◌≡◌, ℕ, zero, suc, ◌+◌, ◌*◌, ◌<◌, ◌≤◌, Bool, true, false, cond, length, ◌⊎◌, inl, inr, refl, sym, ap, ◌∙◌, arith}
use Rattle.std.specs.Prelude.{nat_lt, nat_le, max}
use Rattle.std.proofs.lemmas.Bool.Decides.{nat_tests}
use Rattle.lol_memory.specs.LimitedVec.{LimitedVec, pushed}
use Rattle.lol_memory.specs.Slots.{slots, minimum_slots, doubled_to, slots_after}

abbrev doubles : ℕ → ℕ → ℕ
doubles n d = cond (nat_le (suc n) d) d (2 * d)

enough_doubled : (n size times : ℕ) → 1 ≤ size → n ≤ size + times → n ≤ doubled_to n size times
enough_doubled n size zero some h = omega (arith, h)
enough_doubled n size (suc times) some h = by_test (enough_doubled n (2 * size) times (omega (arith, some)) (omega (arith, some, h)))
  where
    by_test : n ≤ doubled_to n (2 * size) times → n ≤ cond (nat_le n size) size (doubled_to n (2 * size) times)
    by_test later = grind (arith, nat_tests)

doubled_more : (n size times : ℕ) → 1 ≤ size → n ≤ size + times → doubled_to (suc n) size (suc times) ≡ doubles n (doubled_to n size times)
doubled_more n size zero some h = refl
doubled_more n size (suc times) some h = by_test (doubled_more n (2 * size) times (omega (arith, some)) (omega (arith, some, h)))
  where
    by_test : doubled_to (suc n) (2 * size) (suc times) ≡ doubles n (doubled_to n (2 * size) times)
        → doubled_to (suc n) size (suc (suc times)) ≡ doubles n (cond (nat_le n size) size (doubled_to n (2 * size) times))
    by_test later = grind (arith, nat_tests)

some_minimum : (item_bytes : ℕ) → 1 ≤ minimum_slots item_bytes
some_minimum item_bytes = omega arith

pub slots_enough : (item_bytes n : ℕ) → n ≤ slots item_bytes n
slots_enough item_bytes zero = omega arith
slots_enough item_bytes (suc n) = enough_doubled (suc n) (minimum_slots item_bytes) (suc n) (some_minimum item_bytes) (omega arith)

minimum_kept : (n size times : ℕ) → 1 ≤ size → size ≤ doubled_to n size times
minimum_kept n size zero some = omega arith
minimum_kept n size (suc times) some = by_test (minimum_kept n (2 * size) times (omega (arith, some)))
  where
    by_test : 2 * size ≤ doubled_to n (2 * size) times → size ≤ cond (nat_le n size) size (doubled_to n (2 * size) times)
    by_test later = grind (arith, nat_tests)

grown : (item_bytes most : ℕ) → slots_after item_bytes (slots item_bytes most) most ≡ slots item_bytes (most + 1)
grown item_bytes zero = first (minimum_slots item_bytes) (some_minimum item_bytes)
  where
    first : (m : ℕ) → 1 ≤ m → cond (nat_lt 0 0) 0 (0 + max 0 m) ≡ cond (nat_le 1 m) m (2 * m)
    first m some = grind (arith, nat_tests)
grown item_bytes (suc n) =
    let d = doubled_to (suc n) (minimum_slots item_bytes) (suc n) in
    let m = minimum_slots item_bytes in
    let sizes : suc (suc n) ≡ suc n + 1 = omega arith in
    by_size d m (enough_doubled (suc n) m (suc n) (some_minimum item_bytes) (omega arith)) (minimum_kept (suc n) m (suc n) (some_minimum item_bytes))
    ∙ (sym (doubled_more (suc n) m (suc n) (some_minimum item_bytes) (omega arith)) ∙ ap (slots item_bytes) sizes)
  where
    by_size : (d m : ℕ) → suc n ≤ d → m ≤ d → cond (nat_lt (suc n) d) d (d + max d m) ≡ doubles (suc n) d
    by_size d m enough least = grind (arith, nat_tests)

-- the slots after one more push are those of the new greatest length
pub slots_grow : (item_bytes items most : ℕ) → items ≤ most → slots_after item_bytes (slots item_bytes most) items ≡ slots item_bytes (max most (items + 1))
slots_grow item_bytes items most within = by_cases (split items most within)
  where
    split : (a b : ℕ) → a ≤ b → (a ≡ b) ⊎ (a < b)
    split a b h = grind arith

    kept : (a b : ℕ) → a < b → (s m : ℕ) → b ≤ s → cond (nat_lt a s) s (s + m) ≡ s
    kept a b below s m enough = grind (arith, nat_tests)

    by_cases : (items ≡ most) ⊎ (items < most) → slots_after item_bytes (slots item_bytes most) items ≡ slots item_bytes (max most (items + 1))
    by_cases (inl is) = let sizes : most + 1 ≡ max most (items + 1) = omega (arith, is) in ap (slots_after item_bytes (slots item_bytes most)) is ∙ (grown item_bytes most ∙ ap (slots item_bytes) sizes)
    by_cases (inr below) =
        let sizes : most ≡ max most (items + 1) = omega (arith, below) in
        kept items most below (slots item_bytes most) (max (slots item_bytes most) (minimum_slots item_bytes)) (slots_enough item_bytes most) ∙ ap (slots item_bytes) sizes

pub slots_pushed : {T : Type 0} (v : LimitedVec T) (x : T) → (pushed v x).slots ≡ slots_after v.item_bytes v.slots (length v.items)
slots_pushed v x = by_test (nat_lt (length v.items) v.slots)
  where
    by_test : (b : Bool) → v.slots + cond b 0 (max v.slots (minimum_slots v.item_bytes)) ≡ cond b v.slots (v.slots + max v.slots (minimum_slots v.item_bytes))
    by_test true = omega arith
    by_test false = refl
