use Rattle.std.proofs.Common.{sym, subst, Some}
use Rattle.std.specs.Prelude.{slice_set}
use Rattle.lol_stack.specs.NameMaps.{StandsInMap, IsPutAt, SlottedNames}
use Rattle.lol_stack.proofs.NameMapLemmas.{slot-apart, slot-put, slot-stands, slot-replaced, slot-still, overflow-stands, overflow-within, blocks-apart}
use Rattle.lol_stack.proofs.name_map.NameMap.replace.Goals as goal

pub invariant_of-self : goal.invariant_of-self
invariant_of-self g c =
    let slots = c.self.inside.slots.items in
    let overflow = c.self.inside.overflow in
    let slot = c.in-Slot.slot in
    let name = c.requires.0 in
    let s = slot-stands c.args.self.now slots overflow c.args.place slot name c.self.view_is c.in-Slot.is c.requires.1 in
    let put = slot-replaced slots overflow slot name c.index_mut.result.now c.replace_value.new.entry c.args.value s c.index_mut.ensures.value c.replace_value.ensures.is c.self.invariant in
    slot-apart slots overflow slot name c.replace_value.new.entry (Some c.args.value) put c.self.invariant

pub replace-requires : goal.replace-requires
replace-requires g c =
    let overflow = c.self.inside.overflow in
    let at = c.in-Overflow.place in
    let name = c.requires.0 in
    let s = overflow-stands c.args.self.now c.self.inside.slots.items overflow c.args.place at name c.self.view_is c.in-Overflow.is c.requires.1 in
    overflow-within overflow at name s.1

pub invariant_of-self-in-Overflow : goal.invariant_of-self-in-Overflow
invariant_of-self-in-Overflow g c =
    let slots = c.self.inside.slots.items in
    let overflow = c.self.inside.overflow in
    let name = c.requires.0 in
    let s = overflow-stands c.args.self.now slots overflow c.args.place c.in-Overflow.place name c.self.view_is c.in-Overflow.is c.requires.1 in
    blocks-apart slots overflow c.replace.new.self name (Some c.args.value) s.0 (c.replace.ensures.is name s.1) c.self.invariant

pub returns-in-Slot-clause-stands : goal.returns-in-Slot-clause-stands
returns-in-Slot-clause-stands g c name stands =
    let slots = c.self.inside.slots.items in
    let overflow = c.self.inside.overflow in
    let slot = c.in-Slot.slot in
    let new : SlottedNames g.row.V.Denot = record { slots = slice_set slots slot c.replace_value.new.entry; overflow = overflow } in
    let s = slot-stands c.args.self.now slots overflow c.args.place slot name c.self.view_is c.in-Slot.is stands in
    subst (StandsInMap new name) (sym c.in-Slot.is)
    (slot-still slots overflow slot name c.index_mut.result.now c.replace_value.new.entry c.args.value s c.index_mut.ensures.value c.replace_value.ensures.is)

pub returns-in-Slot-clause-taken : goal.returns-in-Slot-clause-taken
returns-in-Slot-clause-taken g c = (c.requires.0, returns-in-Slot-clause-stands g c c.requires.0 c.requires.1)

pub returns-in-Slot-clause-is : goal.returns-in-Slot-clause-is
returns-in-Slot-clause-is g c name stands =
    let slots = c.self.inside.slots.items in
    let overflow = c.self.inside.overflow in
    let slot = c.in-Slot.slot in
    let new : SlottedNames g.row.V.Denot = record { slots = slice_set slots slot c.replace_value.new.entry; overflow = overflow } in
    let s = slot-stands c.args.self.now slots overflow c.args.place slot name c.self.view_is c.in-Slot.is stands in
    let put = slot-replaced slots overflow slot name c.index_mut.result.now c.replace_value.new.entry c.args.value s c.index_mut.ensures.value c.replace_value.ensures.is c.self.invariant in
    subst (λ (m : SlottedNames g.row.V.Denot). IsPutAt name (Some c.args.value) m new) c.self.view_is
    (slot-put slots overflow slot name c.replace_value.new.entry (Some c.args.value) put)
