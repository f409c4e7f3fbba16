use Rattle.std.proofs.Common.{◌∙◌, ap, subst, None}
use Rattle.std.specs.Prelude.{slice_set}
use Rattle.lol_stack.specs.NameMaps.{value_of, IsPutAt, SlottedNames}
use Rattle.lol_stack.proofs.NameMapLemmas.{slot-apart, slot-put, slot-stands, slot-removed, overflow-stands, overflow-within, blocks-apart}
use Rattle.lol_stack.proofs.name_map.NameMap.remove.Goals.{in-Some-1, in-None-1}
use Rattle.lol_stack.proofs.name_map.NameMap.remove.Goals as goal

pub invariant_of-self : goal.invariant_of-self
invariant_of-self g c =
    let slots = c.self.inside.slots.items in
    let overflow = c.self.inside.overflow in
    let slot = c.in-Slot.slot in
    let name = c.requires.0 in
    let s = slot-stands c.args.self.now slots overflow c.args.place slot name c.self.view_is c.in-Slot.is c.requires.1 in
    slot-apart slots overflow slot name None None (slot-removed slots overflow slot name c.self.invariant s) c.self.invariant

pub remove-requires : goal.remove-requires
remove-requires g c =
    let overflow = c.self.inside.overflow in
    let at = c.in-Overflow.place in
    let name = c.requires.0 in
    let s = overflow-stands c.args.self.now c.self.inside.slots.items overflow c.args.place at name c.self.view_is c.in-Overflow.is c.requires.1 in
    overflow-within overflow at name s.1

pub invariant_of-self-in-Overflow : goal.invariant_of-self-in-Overflow
invariant_of-self-in-Overflow g c =
    let slots = c.self.inside.slots.items in
    let overflow = c.self.inside.overflow in
    let name = c.requires.0 in
    let s = overflow-stands c.args.self.now slots overflow c.args.place c.in-Overflow.place name c.self.view_is c.in-Overflow.is c.requires.1 in
    blocks-apart slots overflow c.remove.new.self name None s.0 (c.remove.ensures name s.1) c.self.invariant

pub returns-in-Slot : goal.returns-in-Slot
returns-in-Slot g c name stands q =
    let slots = c.self.inside.slots.items in
    let overflow = c.self.inside.overflow in
    let slot = c.in-Slot.slot in
    let s = slot-stands c.args.self.now slots overflow c.args.place slot name c.self.view_is c.in-Slot.is stands in
    let new : SlottedNames g.row.V.Denot = record { slots = slice_set slots slot None; overflow = overflow } in
    let put =
    subst (λ (m : SlottedNames g.row.V.Denot). IsPutAt name None m new) c.self.view_is
    (slot-put slots overflow slot name None None (slot-removed slots overflow slot name c.self.invariant s)) in
    elim c.match-index_mut.branch [
      | in-Some-1 w ↦ ap (λ (m : SlottedNames g.row.V.Denot). value_of m q) w.self-is ∙ put q
      | in-None-1 w ↦ ap (λ (m : SlottedNames g.row.V.Denot). value_of m q) w.self-is ∙ put q
    ]
