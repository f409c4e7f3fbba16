-- A limiter whose usage is a machine's charge.
use Rattle.std.proofs.Common.{◌≡◌, ℕ, ◌+◌, ◌-◌, ◌*◌, ◌≤◌, ◌∙◌, refl, sym, ap, arith}
use Rattle.std.proofs.Math.Nat.{add-mul}
use Rattle.lol_memory.specs.Limiter.{Limiter, charged}
use Rattle.lol_machine.specs.Vms.{Vm, ChargesSlots, slots_charged, slot_bytes}
use Rattle.lol_matcher.specs.Keeping.{IsCharged, KeepsRunning}

whole : (old new bytes : ℕ) → old ≤ new → old * bytes + (new - old) * bytes ≡ new * bytes
whole old new bytes grows =
    let parts : old + (new - old) ≡ new = omega (arith, grows) in
    sym (add-mul old (new - old) bytes) ∙ ap (λ n. n * bytes) parts

-- Where a limiter is charged for the new slots, it is charged for all of them.
pub charged_more : {E : Type 0} (old new : Vm E) (before now : Limiter) → slot_bytes new ≡ slot_bytes old → slots_charged old ≤ slots_charged new
    → now ≡ charged before ((slots_charged new - slots_charged old) * slot_bytes old) → IsCharged old before → IsCharged new now
charged_more old new before now bytes grows is h =
    ap (λ (l : Limiter). l.usage) is
    ∙ (ap (λ n. n + (slots_charged new - slots_charged old) * slot_bytes old) h
    ∙ (whole (slots_charged old) (slots_charged new) (slot_bytes old) grows ∙ ap (λ b. slots_charged new * b) (sym bytes)))

-- Where no slots come and nothing is charged, it stays charged for them.
pub charged_alike : {E : Type 0} (old new : Vm E) (before now : Limiter) → slots_charged new ≡ slots_charged old → slot_bytes new ≡ slot_bytes old → now ≡ before → IsCharged old before → IsCharged new now
charged_alike old new before now slots bytes same h = ap (λ (l : Limiter). l.usage) same ∙ (h ∙ (λ i. sym slots i * sym bytes i))

-- where only what is kept of the open elements changes
pub charged_on : {E : Type 0} (old new : Vm E) (now : Limiter) → KeepsRunning old new → IsCharged old now → IsCharged new now
charged_on old new now run charged = charged_alike old new now now run.slots run.bytes refl charged

-- after a call, where what it opened is left without a value
pub charged_after : {E : Type 0} {old mid new : Vm E} {before now : Limiter} → ChargesSlots old mid before now → KeepsRunning mid new → IsCharged old before → IsCharged new now
charged_after {E} {old} {mid} {new} {before} {now} charges run h = charged_on mid new now run (charged_more old mid before now charges.bytes charges.grows charges.charged h)
