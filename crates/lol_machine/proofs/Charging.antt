-- What a call of the machine charges, by whether an element was opened.
use Rattle.lol_machine.proofs.Common.{◌≡◌, ◌+◌, ◌-◌, ◌*◌, Option, Result, Ok, Err, ap, ◌∙◌, arith, Name, grown_slots, Limiter, charged, StackItemOf, IsPushed, IsSame, item_bytes_in, list_in, Vm, ChargesSlots, OpensNothing, slots_charged, slot_bytes}
use Rattle.std.specs.Result.{OnErr, OnOk}
use Rattle.lol_machine.specs.CallCharges.{charges_none}

module _ {E : Type 0} where
  -- where no element is opened, nothing is
  pub charges_unopened : {name : Option Name} {old new : Vm E} {before now : Limiter} → OpensNothing name old new before now → slot_bytes new ≡ slot_bytes old → ChargesSlots old new before now
  charges_unopened {name} {old} {new} {before} {now} left bytes = charges_none old new before now left.slots bytes left.uncharged

  -- an element is opened, or it couldn't be
  pub charges_pushed : {T X : Type 0} (answer : Result T X) (old new : Vm E) (item : StackItemOf Name E) (before now : Limiter) → OnOk answer (IsPushed old.stack item new.stack) → OnErr answer (IsSame old.stack new.stack)
      → OnOk answer (now ≡ charged before (grown_slots (list_in old.stack) * item_bytes_in old.stack)) → OnErr answer (now ≡ before) → ChargesSlots old new before now
  charges_pushed (Ok done) old new item before now ok err is same =
      let slots : slots_charged new ≡ slots_charged old + grown_slots (list_in old.stack) = λ i. (ok.items i).slots in
      let came : grown_slots (list_in old.stack) ≡ slots_charged new - slots_charged old = omega (arith, slots) in
      record {
        grows = omega (arith, slots);
        bytes = λ i. (ok.items i).item_bytes;
        charged = is ∙ ap (λ n. charged before (n * slot_bytes old)) came;
      }
  charges_pushed (Err error) old new item before now ok err is same = charges_none old new before now (λ i. (err.items i).slots) (λ i. (err.items i).item_bytes) same
