-- The items around the element of a start tag that a machine was told of last.
use Rattle.std.proofs.Common.{◌≡◌, suc, ◌-◌, Bool, true, false, cond, List, [], ◌∷◌, length, map, reverse, take, refl, sym, ap, ◌∙◌, subst, arith}
use Rattle.std.proofs.lemmas.List.{length-map, length-reverse, take_all, take-map}
use Rattle.lol_base.specs.LocalNames.{Name}
use Rattle.lol_instructions.specs.Tests.{Element}
use Rattle.lol_program.specs.Paths.{Path}
use Rattle.lol_program.specs.Programs.{Program}
use Rattle.lol_program.specs.ProgramViews.{program_shown}
use Rattle.lol_stack.specs.Stacks.{items_in}
use Rattle.lol_stack.specs.declared.stack_item.StackItemOf.{StackItemOf}
use Rattle.lol_machine.specs.Answers.{document}
use Rattle.lol_machine.specs.AnswerLaws.{document_push}
use Rattle.lol_machine.specs.Documents.{Document, empty, element_of}
use Rattle.lol_machine.specs.Events.{Start}
use Rattle.lol_machine.specs.Answers.{opens}
use Rattle.lol_machine.specs.Machines.{OpenItem, AreItems, item_shown, items_shown}
use Rattle.lol_machine.specs.Vms.{program_in, stack_in}
use Rattle.lol_reasons.specs.MachinesShow.{MachinesShowAround, items_around}
use Rattle.lol_reasons.proofs.Climbs.{cut}

-- without the last item
module _ {E : Type 0} (paths : List Path) (p : Program) (e : Element) (outer : List Element) where
  inner_items : (items : List (StackItemOf Name E)) → AreItems paths p (items_shown items) (e ∷ outer) → AreItems paths p (items_shown (take (length items - 1) items)) outer
  inner_items items h = by_shown (items_shown items) refl h
    where
      ys : List OpenItem
      ys = map item_shown items

      many : length ys ≡ length items
      many = length-map items item_shown

      by_shown : (shown : List OpenItem) → items_shown items ≡ shown → AreItems paths p shown (e ∷ outer) → AreItems paths p (items_shown (take (length items - 1) items)) outer
      by_shown [] is h = absurd h
      by_shown (x ∷ post) is h =
          let c = cut ys (length ys) [] x post (omega arith) (ap reverse (take_all (length ys) ys (omega arith)) ∙ is) in
          let as_many : suc (length post) ≡ length items = sym (ap length is) ∙ length-reverse ys ∙ many in
          let at : length post ≡ length items - 1 = omega (arith, as_many) in
          subst (λ l. AreItems paths p l outer) (sym c.rest ∙ ap (λ n. reverse (take n ys)) at ∙ ap reverse (take-map item_shown (length items - 1) items)) h.1

  around_items : (opened : Bool) (items : List (StackItemOf Name E)) → AreItems paths p (items_shown items) (cond opened (e ∷ outer) outer) → AreItems paths p (items_shown (items_around opened items)) outer
  around_items true items h = inner_items items h
  around_items false items h = h

pub machines_show_around : (E : Type 0) → MachinesShowAround E
machines_show_around E s esi vm events tag numbers st numbered =
    let d = document s esi events in
    let now = ap (λ (x : Document). x.open_elements) (document_push s esi empty events (Start tag)) in (
      st.paths,
      record {
        closed = st.closed;
        program = st.standing.program;
        are_items = around_items st.paths (program_shown (program_in vm)) (element_of d tag) d.open_elements (opens s esi events tag) (items_in (stack_in vm))
            (subst (AreItems st.paths (program_shown (program_in vm)) (items_shown (items_in (stack_in vm)))) now st.standing.items);
        are_numbers = numbered;
      },
    )
