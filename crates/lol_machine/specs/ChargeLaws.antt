-- What one more open element is charged, over what a limiter held before.
use Rattle.std.proofs.Common.{◌≡◌, ℕ, ◌+◌, ◌-◌, ◌*◌, ◌≤◌, ◌<◌, ◌^◌, inl, inr, Bool, true, false, length, refl, sym, ap, ◌∙◌, subst, arith}
use Rattle.std.specs.Prelude.{max, nat_lt, if◌then◌else◌}
use Rattle.std.proofs.lemmas.Bool.Decides.{nat_tests}
use Rattle.lol_memory.specs.LimitedVec.{LimitedVec, IsLimited, more_slots}
use Rattle.lol_memory.specs.Limiter.{Limiter}
use Rattle.lol_memory.specs.SlotLaws.{slots_grow}
use Rattle.lol_memory.specs.Slots.{slots, minimum_slots}

-- the slots for one more element, by those that are charged
module _ (item_bytes items most : ℕ) (within : items ≤ most) where
  abbrev charged_slots : ℕ
  charged_slots = slots item_bytes most

  -- one more element takes no slots away
  pub slots_rise : charged_slots ≤ slots item_bytes (max most (items + 1))
  slots_rise = subst (λ n. charged_slots ≤ n) (slots_grow item_bytes items most within) (by_test (nat_lt items charged_slots))
    where
      by_test : (b : Bool) → charged_slots ≤ (if b then charged_slots else charged_slots + max charged_slots (minimum_slots item_bytes))
      by_test true = omega arith
      by_test false = omega arith

  module _ {T : Type 0} (v : LimitedVec T) (now before : Limiter) (some : 1 ≤ item_bytes) (word : before.maximum < 2 ^ 64) (bytes : v.item_bytes ≡ item_bytes) (many : length v.items ≡ items) (charged : v.slots ≡ charged_slots)
      (maximum : now.maximum ≡ before.maximum) (usage : now.usage ≡ before.usage + charged_slots * item_bytes) where
    abbrev more : ℕ
    more = max charged_slots (minimum_slots item_bytes)

    more_is : more_slots v ≡ more
    more_is = λ i. max (charged i) (minimum_slots (bytes i))

    more_bytes : more_slots v * v.item_bytes ≡ more * item_bytes
    more_bytes = λ i. more_is i * bytes i

    both : (charged_slots + more) * item_bytes ≡ charged_slots * item_bytes + more * item_bytes
    both = omega arith

    at_least : charged_slots + more ≤ (charged_slots + more) * item_bytes
    at_least =
        let bytes : item_bytes ≡ 1 + (item_bytes - 1) = omega (arith, some) in
        let product : (charged_slots + more) * item_bytes ≡ (charged_slots + more) + (charged_slots + more) * (item_bytes - 1) = ap (λ k. (charged_slots + more) * k) bytes ∙ omega arith in
        omega (arith, product)

    -- a charge that isn't refused stays within the maximum
    pub stays_within : before.usage + charged_slots * item_bytes ≤ before.maximum → (IsLimited v now → ⊥) → before.usage + slots item_bytes (max most (items + 1)) * item_bytes ≤ before.maximum
    stays_within room unlimited = subst (λ n. before.usage + n * item_bytes ≤ before.maximum) (slots_grow item_bytes items most within) (by_test (nat_lt items charged_slots) refl)
      where
        by_test : (b : Bool) → nat_lt items charged_slots ≡ b → before.usage + (if b then charged_slots else charged_slots + more) * item_bytes ≤ before.maximum
        by_test true less = room
        by_test false less = by_limit (nat_lt before.maximum (now.usage + more * item_bytes)) refl
          where
            full : v.slots ≤ length v.items
            full = grind (arith, nat_tests, less, many, charged)

            by_limit : (b : Bool) → nat_lt before.maximum (now.usage + more * item_bytes) ≡ b → before.usage + (charged_slots + more) * item_bytes ≤ before.maximum
            by_limit true passes = absurd (unlimited (full, inr (inr (subst (λ n. now.maximum < now.usage + n) (sym more_bytes) (subst (λ n. n < now.usage + more * item_bytes) (sym maximum) (grind (arith, nat_tests, passes)))))))
            by_limit false passes =
                let fits : now.usage + more * item_bytes ≤ before.maximum = grind (arith, nat_tests, passes) in
                omega (arith, both, usage, fits)

    -- one that is refused would pass it
    pub passes_maximum : IsLimited v now → before.maximum < before.usage + slots item_bytes (max most (items + 1)) * item_bytes
    passes_maximum limited = subst (λ n. before.maximum < before.usage + n * item_bytes) (slots_grow item_bytes items most within) (by_test (nat_lt items charged_slots) refl)
      where
        by_test : (b : Bool) → nat_lt items charged_slots ≡ b → before.maximum < before.usage + (if b then charged_slots else charged_slots + more) * item_bytes
        by_test true less = let full = limited.0 in absurd (grind (arith, nat_tests, less, many, charged, full))
        by_test false less = elim limited.1 [
          | inl wide ↦ let w : 2 ^ 64 ≤ more * item_bytes = subst (λ n. 2 ^ 64 ≤ n) more_bytes wide in omega (arith, both, w, word)
          | inr (inl wide) ↦ let w : 2 ^ 64 ≤ charged_slots + more = subst (λ n. 2 ^ 64 ≤ n) (λ i. charged i + more_is i) wide in omega (arith, at_least, w, word)
          | inr (inr passes) ↦ let p : now.maximum < now.usage + more * item_bytes = subst (λ n. now.maximum < now.usage + n) more_bytes passes in omega (arith, both, p, maximum, usage)
        ]

  -- the same of a limiter that is charged for the list alone
  module _ {T : Type 0} (v : LimitedVec T) (now : Limiter) (some : 1 ≤ item_bytes) (word : now.maximum < 2 ^ 64) (bytes : v.item_bytes ≡ item_bytes) (many : length v.items ≡ items) (charged : v.slots ≡ charged_slots)
      (usage : now.usage ≡ charged_slots * item_bytes) where
    abbrev unused : Limiter
    unused = record now { usage = 0 }

    pub stays_within_alone : charged_slots * item_bytes ≤ now.maximum → (IsLimited v now → ⊥) → slots item_bytes (max most (items + 1)) * item_bytes ≤ now.maximum
    stays_within_alone room unlimited =
        let all : 0 + slots item_bytes (max most (items + 1)) * item_bytes ≤ now.maximum = stays_within v now unused some word bytes many charged refl (omega (arith, usage)) (omega (arith, room)) unlimited in
        omega (arith, all)

    pub passes_maximum_alone : IsLimited v now → now.maximum < slots item_bytes (max most (items + 1)) * item_bytes
    passes_maximum_alone limited =
        let all : now.maximum < 0 + slots item_bytes (max most (items + 1)) * item_bytes = passes_maximum v now unused some word bytes many charged refl (omega (arith, usage)) limited in
        omega (arith, all)
