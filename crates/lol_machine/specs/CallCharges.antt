-- What calls of a machine charge, one after the other, from `new` to `release`.
use Rattle.std.proofs.Common.{◌≡◌, ℕ, ◌+◌, ◌-◌, ◌*◌, ◌≤◌, refl, sym, ap, ◌∙◌, arith}
use Rattle.std.proofs.Math.Nat.{add-mul}
use Rattle.lol_memory.specs.Limiter.{Limiter, charged}
use Rattle.lol_machine.specs.Vms.{Vm, ChargesSlots, IsChargedFor, IsCovered, slots_charged, slot_bytes}

-- 1. What a call charges

module _ {E : Type 0} where
  -- where no slots come, nothing is charged
  pub charges_none : (old new : Vm E) (before now : Limiter) → slots_charged new ≡ slots_charged old → slot_bytes new ≡ slot_bytes old → now ≡ before → ChargesSlots old new before now
  charges_none old new before now slots bytes same =
      let none : slots_charged new - slots_charged old ≡ 0 = omega (arith, slots) in
      record {
        grows = omega (arith, slots);
        bytes = bytes;
        charged = same ∙ sym (ap (λ n. charged before (n * slot_bytes old)) none ∙ ap (λ n. record before { usage = n }) (omega arith));
      }

  -- nothing was called
  pub charges_nothing : {vm : Vm E} {limiter : Limiter} → ChargesSlots vm vm limiter limiter
  charges_nothing {vm} {limiter} = charges_none vm vm limiter limiter refl refl refl

  -- an end tag charges nothing
  pub charges_at_end : {old new : Vm E} {limiter : Limiter} → slots_charged new ≡ slots_charged old → slot_bytes new ≡ slot_bytes old → ChargesSlots old new limiter limiter
  charges_at_end {old} {new} {limiter} slots bytes = charges_none old new limiter limiter slots bytes refl

  -- two calls, one after the other
  pub charges_both : {old mid new : Vm E} {before between now : Limiter} → ChargesSlots old mid before between → ChargesSlots mid new between now → ChargesSlots old new before now
  charges_both {old} {mid} {new} {before} {between} {now} first second =
      let bytes = slot_bytes old in
      let came = slots_charged mid - slots_charged old in
      let more = slots_charged new - slots_charged mid in
      let parts : came + more ≡ slots_charged new - slots_charged old = omega (arith, first.grows, second.grows) in
      let all : (slots_charged new - slots_charged old) * bytes ≡ came * bytes + more * bytes = sym (ap (λ n. n * bytes) parts) ∙ add-mul came more bytes in
      let sum : (before.usage + came * bytes) + more * bytes ≡ before.usage + (slots_charged new - slots_charged old) * bytes = omega (arith, all) in
      record {
        grows = omega (arith, first.grows, second.grows);
        bytes = second.bytes ∙ first.bytes;
        charged = second.charged ∙ ((λ i. charged (first.charged i) (more * first.bytes i)) ∙ (λ i. record before { usage = sum i }));
      }

-- 2. A limiter that covers a machine

whole : (old new bytes : ℕ) → old ≤ new → new * bytes ≡ old * bytes + (new - old) * bytes
whole old new bytes grows =
    let parts : old + (new - old) ≡ new = omega (arith, grows) in
    sym (ap (λ n. n * bytes) parts) ∙ add-mul old (new - old) bytes

module _ {E : Type 0} where
  -- each limiter covers a machine without slots
  pub covered_at_first : (vm : Vm E) (limiter : Limiter) → slots_charged vm ≡ 0 → IsCovered vm limiter
  covered_at_first vm limiter none =
      let nothing : slots_charged vm * slot_bytes vm ≡ 0 = ap (λ n. n * slot_bytes vm) none ∙ omega arith in
      omega (arith, nothing)

  -- calls keep it, whatever they answer
  pub covered_after : {old new : Vm E} {before now : Limiter} → ChargesSlots old new before now → IsCovered old before → IsCovered new now
  covered_after {old} {new} {before} {now} h covered =
      let all = whole (slots_charged old) (slots_charged new) (slot_bytes old) h.grows in
      let same : slots_charged new * slot_bytes new ≡ slots_charged new * slot_bytes old = ap (λ n. slots_charged new * n) h.bytes in
      let usage = ap (λ (l : Limiter). l.usage) h.charged in
      omega (arith, all, same, usage, covered)

-- 3. A limiter that is charged for a machine, over what it was before

module _ {E : Type 0} (base : Limiter) where
  -- a machine without slots is charged for nothing
  pub charged_at_first : (vm : Vm E) → slots_charged vm ≡ 0 → IsChargedFor base vm base
  charged_at_first vm none =
      let same : base.usage ≡ base.usage + 0 * slot_bytes vm = omega arith in
      (λ i. record base { usage = same i }) ∙ ap (λ n. charged base (n * slot_bytes vm)) (sym none)

  -- calls keep it, whatever they answer
  pub charged_after : {old new : Vm E} {before now : Limiter} → ChargesSlots old new before now → IsChargedFor base old before → IsChargedFor base new now
  charged_after {old} {new} {before} {now} h is =
      let all = whole (slots_charged old) (slots_charged new) (slot_bytes old) h.grows in
      let sum : (base.usage + slots_charged old * slot_bytes old) + (slots_charged new - slots_charged old) * slot_bytes old ≡ base.usage + slots_charged new * slot_bytes old = omega (arith, all) in
      h.charged ∙ (ap (λ l. charged l ((slots_charged new - slots_charged old) * slot_bytes old)) is
      ∙ ((λ i. record base { usage = sum i }) ∙ ap (λ n. charged base (slots_charged new * n)) (sym h.bytes)))

  -- `release` leaves what was before
  pub charge_released : (vm : Vm E) (before now : Limiter) → now ≡ record before { usage = before.usage - slots_charged vm * slot_bytes vm } → IsChargedFor base vm before → now ≡ base
  charge_released vm before now is h =
      let left : (base.usage + slots_charged vm * slot_bytes vm) - slots_charged vm * slot_bytes vm ≡ base.usage = omega arith in
      is ∙ (ap (λ (l : Limiter). record l { usage = l.usage - slots_charged vm * slot_bytes vm }) h ∙ (λ i. record base { usage = left i }))

-- 4. From `new` to `release`

module _ {E : Type 0} {first last : Vm E} {before now : Limiter} where
  -- a machine may be released after any calls with one limiter
  pub covered_since_new : slots_charged first ≡ 0 → ChargesSlots first last before now → IsCovered last now
  covered_since_new none h = covered_after h (covered_at_first first before none)

  -- which leaves the limiter as it was when the machine was made
  pub released_since_new : {after : Limiter} → slots_charged first ≡ 0 → ChargesSlots first last before now → after ≡ record now { usage = now.usage - slots_charged last * slot_bytes last } → after ≡ before
  released_since_new none h is = charge_released before last now _ is (charged_after before h (charged_at_first before first none))
