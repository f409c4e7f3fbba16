use Rattle.lol_machine.proofs.Common.{None, ◌≡◌, arith, false, inl, inr, Err, refl, sym, ap, ◌∙◌, subst, IsNone, Name, local_name, StackOf, StackNames, list_in, IsTriedAtMost}
use Rattle.lol_machine.specs.Due.{IsDue}
use Rattle.lol_machine.specs.VmErrors.{IsAskedOrFull}
use Rattle.lol_machine.specs.declared.error.VmError.{VmError}
use Rattle.lol_machine.specs.declared.error.VmError.TheVariants.{CounterFull, Failed, InfoRequest, Memory}
use Rattle.lol_machine.specs.CallCharges.{charges_both}
use Rattle.lol_machine.proofs.Charging.{charges_unopened}
use Rattle.lol_machine.proofs.FreeTagLemmas.{asked_only, limit_only, not_for_memory, void_is_closed, void_unspelled}
use Rattle.lol_machine.proofs.TriedStartLemmas.{began, begun_answered, begun_complete, begun_due, begun_pending, begun_unfailed, named_so, new_context}
use Rattle.lol_machine.proofs.VmStarts.{content_here, content_there, entered_here, reported, requested_is}
use Rattle.lol_machine.specs.RunLaws.{err_is_not_ok}
use Rattle.lol_machine.proofs.VmRefusals.{answered_alike, error_is, full_is_full, never_both, push_isnt_silent, push_is_limit, requested_as, requested_ok, requested_refused, not_false, on_err, opens_nothing_both, opens_nothing_of, requested_keeps, same_opens_nothing, stays_unfailed, unfailed_before}
use Rattle.lol_machine.proofs.vm.VmOf+Program+LocalName+StackNames+E.exec_for_start_tag.Goals as goal

pub begin-requires : goal.begin-requires
begin-requires g c = new_context g.E.ElementData.ids c.args.local_name c.new-ctx.result c.new-ctx.ensures.item c.new-ctx.ensures.with_content

-- 1. It is refused before it is reported

pub returns-in-Err : goal.returns-in-Err
returns-in-Err g c =
    let error = c.in-Err.error in
    let left = c.begin.ensures.left c.args.limiter.now in
    record {
      again = c.requires;
      answered = tt;
      asked = λ request is. absurd (c.begin.ensures.unasked request (c.in-Err.is ∙ ap Err (error_is is)));
      charges = charges_unopened left c.begin.ensures.bytes;
      left = opens_nothing_of c.new-ctx.ensures.item.name left;
      failed = record { exactly = answered_alike c.begin.result error Failed c.in-Err.is c.begin.ensures.failed.exactly; stuck = c.begin.ensures.failed.stuck };
      full = answered_alike c.begin.result error CounterFull c.in-Err.is c.begin.ensures.full;
      refused = λ e is refusal. c.in-Err.ensures.refused;
      silent = λ e is silent. refl;
      limited = λ limit. absurd (c.begin.ensures.unlimited (c.in-Err.is ∙ ap Err (error_is limit)));
      no_memory = λ e is s esi events tag stands named takes.
          let full = c.in-Err.ensures.no_memory s esi events tag stands (named_so c.new-ctx.ensures.item c.new-ctx.ensures.ns tag named) (inl takes) in
          subst IsAskedOrFull (error_is is) (full_is_full error full);
      tried = λ s esi events tag stands named. c.begin.ensures.tried s esi events tag stands (named_so c.new-ctx.ensures.item c.new-ctx.ensures.ns tag named);
      due = λ e is due s esi events tag stands named runs.
          let full = c.in-Err.ensures.no_memory s esi events tag stands (named_so c.new-ctx.ensures.item c.new-ctx.ensures.ns tag named) (inr runs.flat) in
          not_for_memory e (subst IsAskedOrFull (error_is is) (full_is_full error full));
      all_or_none = λ e is. inl refl;
    }

-- 2. Its attributes are asked for

pub returns-in-Some : goal.returns-in-Some
returns-in-Some g c =
    let b = began g.met.E.ElementData.ids_of_changed c.new-ctx.ensures.item c.new-ctx.ensures.ns c.new-ctx.ensures.with_content c.in-Ok.ensures.begun in
    let left = c.begin.ensures.left c.args.limiter.now in
    let result = c.request.result in
    let requested = c.request.ensures.requested in
    let rest = requested_keeps _ _ _ c.request.new.self result requested in
    let kept = same_opens_nothing {name = None} c.begin.new.self c.request.new.self c.args.limiter.now rest.stack rest.program in
    record {
      again = c.requires;
      answered = requested_ok _ _ _ c.request.new.self _ result requested;
      asked = λ request is s esi events tag stands named. requested_is g.E.ElementData.ids s esi events tag _ _ c.begin.new.self c.request.new.self request result is requested (begun_pending b s esi events tag stands named c.in-Some.point c.in-Some.is);
      charges = charges_both (charges_unopened left c.begin.ensures.bytes) (charges_unopened kept (ap (λ (x : StackOf Name StackNames _). (list_in x).item_bytes) rest.stack));
      left = on_err result (opens_nothing_both (opens_nothing_of c.new-ctx.ensures.item.name left) kept);
      failed = stays_unfailed (requested_as _ _ _ c.request.new.self result _ requested) (unfailed_before c.begin.ensures.failed (never_both c.begin.result c.in-Ok.is));
      full = (λ is. absurd (requested_as _ _ _ c.request.new.self result _ requested is), λ full. absurd (omega (arith, c.in-Ok.ensures.begun.room, full.1)));
      refused = requested_refused _ _ _ c.request.new.self result requested;
      silent = λ e is silent. refl;
      limited = λ limit. absurd (requested_as _ _ _ c.request.new.self result _ requested limit);
      no_memory = λ e is s esi events tag stands named takes.
          let name : c.begin.new.ctx.stack_item.local_name ≡ local_name tag.name = c.begin.ensures.name ∙ (c.new-ctx.ensures.item.name ∙ named.0) in
          asked_only _ _ c.begin.new.self c.request.new.self result e requested
          (c.request.ensures.no_memory (subst (λ (n : Name). IsNone n.spelling) (sym name) (void_unspelled tag.name takes.2))) (begun_unfailed b s esi events tag stands named) is;
      tried = λ s esi events tag stands named. subst (IsTriedAtMost s esi events tag) (sym c.request.ensures.tries) (c.begin.ensures.tried s esi events tag stands (named_so c.new-ctx.ensures.item c.new-ctx.ensures.ns tag named));
      due = λ e is due s esi events tag stands named runs.
          let pending = begun_pending b s esi events tag stands named c.in-Some.point c.in-Some.is in
          let name : c.begin.new.ctx.stack_item.local_name ≡ local_name tag.name = c.begin.ensures.name ∙ (c.new-ctx.ensures.item.name ∙ named.0) in
          not_for_memory e
          (asked_only _ _ c.begin.new.self c.request.new.self result e requested
          (c.request.ensures.no_memory (subst (λ (n : Name). IsNone n.spelling) (sym name) (runs.named pending.asks))) (begun_unfailed b s esi events tag stands named) is);
      all_or_none = λ e is. inl refl;
    }

-- 3. It is reported, and opened if it has content

pub returns-in-Ok-enter : goal.returns-in-Ok-enter
returns-in-Ok-enter g c =
    let b = began g.met.E.ElementData.ids_of_changed c.new-ctx.ensures.item c.new-ctx.ensures.ns c.new-ctx.ensures.with_content c.in-Ok.ensures.begun in
    record {
      again = c.handle_matched_ids.ensures.again;
      answered = λ s esi events tag stands named. (
        λ opens limited. c.in-Ok-enter.ensures.within (content_there c.handle_matched_ids.ensures.same ((begun_complete b s esi events tag stands named c.in_default.is).content ∙ opens)) ((begun_due b c.args.limiter.now).0 limited),
        begun_answered b s esi events tag stands named c.in_default.is _ c.args.match_handler.now c.handle_matched_ids.new.handler c.enter.new.self c.handle_matched_ids.ensures.called (entered_here c.handle_matched_ids.ensures.same _ _ c.in-Ok-enter.ensures.ok),
      );
      asked = λ request is. cc;
      charges = charges_both (charges_unopened (c.begin.ensures.left c.args.limiter.now) c.begin.ensures.bytes) c.enter.ensures.charges;
      left = tt;
      failed = stays_unfailed (λ is. cc) (unfailed_before c.begin.ensures.failed (never_both c.begin.result c.in-Ok.is));
      full = (λ is. cc, λ full. absurd (omega (arith, c.in-Ok.ensures.begun.room, full.1)));
      refused = λ e is refusal. cc;
      silent = λ e is silent. cc;
      limited = λ limit. cc;
      no_memory = λ e is s esi events tag stands named takes. cc;
      tried = λ s esi events tag stands named. subst (IsTriedAtMost s esi events tag) (sym c.enter.ensures.tries) (c.begin.ensures.tried s esi events tag stands (named_so c.new-ctx.ensures.item c.new-ctx.ensures.ns tag named));
      due = λ e is due s esi events tag stands named runs. cc;
      all_or_none = λ e is. cc;
    }

-- 4. Its element can't be opened

pub returns-in-Err-enter : goal.returns-in-Err-enter
returns-in-Err-enter g c =
    let b = began g.met.E.ElementData.ids_of_changed c.new-ctx.ensures.item c.new-ctx.ensures.ns c.new-ctx.ensures.with_content c.in-Ok.ensures.begun in
    let left = c.begin.ensures.left c.args.limiter.now in
    let pushed = c.in-Err-enter.error in
    let error = c.from.result in
    let from = c.from.ensures in
    let never = λ (closed : c.begin.new.ctx.with_content ≡ false). err_is_not_ok c.enter.result pushed c.in-Err-enter.is (c.enter.ensures.closed (content_there c.handle_matched_ids.ensures.same closed)) in
    -- where it can't be charged, that is why
    let limit = λ (e : VmError _) (same : e ≡ error) (due : IsDue c.args.self.now c.args.limiter.now).
    limit_only c.enter.result pushed e c.in-Err-enter.is (c.enter.ensures.limited.1 (content_there c.handle_matched_ids.ensures.same (not_false c.begin.new.ctx.with_content never), (begun_due b c.args.limiter.now).0 due)) (same ∙ from) in
    record {
      again = c.handle_matched_ids.ensures.again;
      answered = tt;
      asked = λ request is. absurd (push_isnt_silent pushed error (InfoRequest request) from (error_is is) tt);
      charges = charges_both (charges_unopened left c.begin.ensures.bytes) c.enter.ensures.charges;
      left = opens_nothing_both (opens_nothing_of c.new-ctx.ensures.item.name left) c.in-Err-enter.ensures.left;
      failed = stays_unfailed (λ is. push_isnt_silent pushed error Failed from (error_is is) tt) (unfailed_before c.begin.ensures.failed (never_both c.begin.result c.in-Ok.is));
      full = (λ is. absurd (push_isnt_silent pushed error CounterFull from (error_is is) tt), λ full. absurd (omega (arith, c.in-Ok.ensures.begun.room, full.1)));
      refused = λ e is refusal. c.in-Err-enter.ensures.refused;
      silent = λ e is silent. absurd (push_isnt_silent pushed error e from (error_is is) silent);
      limited = λ limit.
          let opens = c.enter.ensures.limited.0 (c.in-Err-enter.is ∙ ap Err (push_is_limit pushed error from (error_is limit))) in (
            (begun_due b c.args.limiter.now).1 opens.1,
            λ s esi events tag stands named.
                let all = begun_complete b s esi events tag stands named c.in_default.is in
                (sym all.content ∙ content_here c.handle_matched_ids.ensures.same opens.0, reported all c.handle_matched_ids.ensures.called _ c.enter.ensures.tries),
          );
      no_memory = λ e is s esi events tag stands named takes. absurd (never ((begun_complete b s esi events tag stands named c.in_default.is).content ∙ void_is_closed esi tag takes.1 takes.2));
      tried = λ s esi events tag stands named. subst (IsTriedAtMost s esi events tag) (sym c.enter.ensures.tries) (c.begin.ensures.tried s esi events tag stands (named_so c.new-ctx.ensures.item c.new-ctx.ensures.ns tag named));
      due = λ e is due s esi events tag stands named runs. limit e (sym (error_is is)) due;
      all_or_none = λ e is. inr (
        λ s esi events tag stands named. reported (begun_complete b s esi events tag stands named c.in_default.is) c.handle_matched_ids.ensures.called _ c.enter.ensures.tries,
        λ due. limit (Memory e) (sym (error_is is)) due,
      );
    }
