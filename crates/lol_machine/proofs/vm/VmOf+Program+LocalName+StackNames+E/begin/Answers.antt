use Rattle.lol_machine.proofs.Common.{◌≡◌, arith, Err, refl, ap, ◌∙◌, subst, Vm, slot_bytes, document, longest}
use Rattle.lol_stack.specs.declared.stack.AddChildError.TheVariants.{CounterFull}
use Rattle.lol_machine.specs.TriedStarts.{IsTried}
use Rattle.lol_machine.specs.VmErrors.{child_error}
use Rattle.lol_machine.proofs.FreeTagLemmas.{free_if, has_none_typed, small_if}
use Rattle.lol_machine.proofs.TriedStartLemmas.{Trial, most_tried, never_refused, trial_of}
use Rattle.lol_machine.proofs.VmStarts.{none_tried}
use Rattle.lol_machine.specs.RunLaws.{err_is_not_ok}
use Rattle.lol_machine.proofs.VmRefusals.{child_full, child_isnt, counted_opens_nothing, same_opens_nothing, stays_unfailed}
use Rattle.lol_machine.proofs.vm.VmOf+Program+LocalName+StackNames+E.begin.Goals as goal

pub returns-then-self : goal.returns-then-self
returns-then-self g c = record {
  begun = tt;
  name = refl;
  left = λ limiter. same_opens_nothing c.args.self.now _ limiter refl refl;
  bytes = refl;
  failed = record { exactly = (λ is. cc, λ failed. refl); stuck = λ failed. refl };
  full = (λ is. cc, λ full. cc);
  refused = c.if-self.true;
  unasked = λ request is. cc;
  unlimited = λ limit. cc;
  no_memory = λ s esi events tag stands named takes. cc;
  tried = λ s esi events tag stands named. cc;
}

-- its parent's counter is full, or memory was refused
pub returns-in-Err : goal.returns-in-Err
returns-in-Err g c =
    let isnt = child_isnt c.in-Err.error c.from.result c.from.ensures in
    record {
      begun = tt;
      name = refl;
      left = λ limiter. same_opens_nothing c.args.self.now _ limiter c.in-Err.ensures.err refl;
      bytes = c.add_child.ensures.slots.1;
      failed = stays_unfailed (λ is. isnt.0 cc) (λ failed. cc);
      full = (
        λ is. let child = child_full c.in-Err.error c.from.result c.from.ensures cc in (c.if-self.false, c.add_child.ensures.full.0 (c.in-Err.is ∙ ap Err child)),
        λ full. let is = c.add_child.ensures.full.1 full.1 in let child : c.in-Err.error ≡ CounterFull = cc in ap Err (c.from.ensures ∙ ap child_error child),
      );
      refused = refl;
      unasked = λ request is. isnt.2 request cc;
      unlimited = λ limit. isnt.1 cc;
      no_memory = λ s esi events tag stands named takes.
          let full = c.in-Err.ensures.no_memory (has_none_typed s stands.paths c.args.self.now (document s esi events) (longest s esi events) stands.standing (small_if s tag takes)) in
          let child : c.in-Err.error ≡ CounterFull = cc in
          c.from.ensures ∙ ap child_error child;
      tried = λ s esi events tag stands named. none_tried s esi events tag c.new-self.result c.new-self.result refl c.new-self.ensures.names c.new-self.ensures.attributes;
    }

-- memory was refused where it was tried
pub returns-in-Err-try_start : goal.returns-in-Err-try_start
returns-in-Err-try_start g c =
    let counted = c.in_default.ensures in
    let is = c.in-Err-try_start.ensures.err in
    let trial : Trial g.E.ElementData.ids g.E.ElementData.with_ids c.args.self.now c.try_start.new.self c.args.ctx.now.stack_item.local_name c.args.ctx.now.ns c.try_start.new.ctx c.try_start.result =
    trial_of g.met.E.ElementData.ids_of_changed c.args.ctx.now c.requires.0 refl c.requires.1 counted.room c.add_child.new.self counted.ok c.new-self.result c.new-self.ensures.names c.new-self.ensures.attributes c.try_start.ensures.room c.try_start.ensures.tried in
    record {
      begun = tt;
      name = c.try_start.ensures.name;
      left = counted_opens_nothing c.args.self.now c.args.ctx.now.stack_item.local_name c.add_child.new.self counted.ok counted.room c.add_child.ensures.slots.0 c.try_start.new.self
          (ap (λ (v : Vm _). v.stack) is) (ap (λ (v : Vm _). v.program) is);
      bytes = ap (λ (v : Vm _). slot_bytes v) is ∙ c.add_child.ensures.slots.1;
      failed = stays_unfailed (λ is. cc) (λ failed. cc);
      full = (λ is. cc, λ full. absurd (omega (arith, counted.room, full.1)));
      refused = ap (λ (v : Vm _). v.failed) is;
      unasked = λ request is. cc;
      unlimited = λ limit. cc;
      no_memory = λ s esi events tag stands named takes.
          let ok = never_refused trial s esi events tag stands named (free_if s stands.paths c.args.self.now (document s esi events) (longest s esi events) stands.standing esi tag takes) in
          absurd (err_is_not_ok c.try_start.result c.in-Err-try_start.error c.in-Err-try_start.is ok);
      tried = λ s esi events tag stands named. most_tried trial s esi events tag stands named;
    }

pub returns-in-Ok : goal.returns-in-Ok
returns-in-Ok g c =
    let counted = c.in_default.ensures in
    let is = c.in-Ok.ensures.ok in
    let trial : Trial g.E.ElementData.ids g.E.ElementData.with_ids c.args.self.now c.try_start.new.self c.args.ctx.now.stack_item.local_name c.args.ctx.now.ns c.try_start.new.ctx c.try_start.result =
    trial_of g.met.E.ElementData.ids_of_changed c.args.ctx.now c.requires.0 refl c.requires.1 counted.room c.add_child.new.self counted.ok c.new-self.result c.new-self.ensures.names c.new-self.ensures.attributes c.try_start.ensures.room c.try_start.ensures.tried in
    record {
      begun = record {
        room = counted.room;
        stack = c.add_child.new.self;
        counted = counted.ok;
        before = c.new-self.result;
        names = c.new-self.ensures.names;
        attributes = c.new-self.ensures.attributes;
        kept = is;
        spared = c.try_start.ensures.room;
        tried = λ tag named.
            subst (λ r. IsTried g.E.ElementData.ids g.E.ElementData.with_ids (record c.args.self.now { stack = c.add_child.new.self; tries = c.new-self.result }) c.try_start.new.self c.args.ctx.now c.try_start.new.ctx r tag) c.in-Ok.is
            (c.try_start.ensures.tried tag named);
      };
      name = c.try_start.ensures.name;
      left = counted_opens_nothing c.args.self.now c.args.ctx.now.stack_item.local_name c.add_child.new.self counted.ok counted.room c.add_child.ensures.slots.0 c.try_start.new.self
          (ap (λ (v : Vm _). v.stack) is) (ap (λ (v : Vm _). v.program) is);
      bytes = ap (λ (v : Vm _). slot_bytes v) is ∙ c.add_child.ensures.slots.1;
      failed = stays_unfailed (λ is. cc) (λ failed. cc);
      full = (λ is. cc, λ full. absurd (omega (arith, counted.room, full.1)));
      refused = tt;
      unasked = λ request is. cc;
      unlimited = λ limit. cc;
      no_memory = tt;
      tried = λ s esi events tag stands named. most_tried trial s esi events tag stands named;
    }
