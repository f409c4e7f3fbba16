use Rattle.std.proofs.Common.{◌+◌, List, ap, sym, ◌∙◌, map, position, reverse, take}
use Rattle.lol_base.specs.Names.{same_name}
use Rattle.lol_vectors.specs.Plain.{child_shown}
use Rattle.lol_vectors.specs.declared.plain_element.PlainElement.{PlainElement}
use Rattle.lol_vectors.proofs.PlainClosings.{closes_nothing, stays_open, closes_inner, outer_stays}
use Rattle.lol_vectors.proofs.plain_document.close.Goals as goal

pub returns-in_default-clause-closed : goal.returns-in_default-clause-closed
returns-in_default-clause-closed c = λ events.
    let name = c.args.name.now in
    let none = ap (λ (es : List PlainElement). position (λ (e : PlainElement). same_name e.name.now name) es) (sym c.deref.ensures.value) ∙ sym c.in_default.ensures.value in
    c.new.ensures.items ∙ closes_nothing name c.args.document.now events none

pub returns-in_default-clause-document : goal.returns-in_default-clause-document
returns-in_default-clause-document c = λ events.
    let name = c.args.name.now in
    let none = ap (λ (es : List PlainElement). position (λ (e : PlainElement). same_name e.name.now name) es) (sym c.deref.ensures.value) ∙ sym c.in_default.ensures.value in
    stays_open name c.args.document.now events none

pub returns-clause-closed : goal.returns-clause-closed
returns-clause-closed c = λ events.
    let name = c.args.name.now in
    let found = ap (λ (es : List PlainElement). position (λ (e : PlainElement). same_name e.name.now name) es) (sym c.deref.ensures.value) ∙ sym c.in-Some.ensures.value in
    c.in_ok-numbers.ensures ∙ ap (λ (es : List PlainElement). map (λ (e : PlainElement). e.number) (reverse (take (c.in-Some.index + 1) es))) c.deref-2.ensures.value
    ∙ closes_inner name c.args.document.now events c.in-Some.index found

pub returns-clause-document : goal.returns-clause-document
returns-clause-document c = λ events.
    let name = c.args.name.now in
    let d = c.args.document.now in
    let found = ap (λ (es : List PlainElement). position (λ (e : PlainElement). same_name e.name.now name) es) (sym c.deref.ensures.value) ∙ sym c.in-Some.ensures.value in
    let outer = outer_stays name d events c.in-Some.index found c.remove_first.new.elements.items c.remove_first.ensures in
    λ i. record { events = events + 1; children = map child_shown d.children.items; open_elements = outer i }
