use Rattle.lol_machine.proofs.Common.{◌≡◌, arith, false, inl, inr, Err, refl, sym, ap, ◌∙◌, subst, IsTriedAtMost}
use Rattle.std.specs.declared.alloc.AllocError.{AllocError}
use Rattle.lol_machine.specs.Due.{IsDue}
use Rattle.lol_machine.specs.declared.error.VmError.TheVariants.{CounterFull, Failed, InfoRequest, Memory}
use Rattle.lol_machine.specs.CallCharges.{charges_both}
use Rattle.lol_machine.proofs.Charging.{charges_unopened}
use Rattle.lol_machine.proofs.FreeTagLemmas.{memory_instead, void_is_closed}
use Rattle.lol_machine.proofs.TriedStartLemmas.{began, begun_answered, begun_complete, begun_due, begun_pending, named_so, new_context, reported_if, whole_since}
use Rattle.lol_machine.proofs.VmStarts.{answered_since, content_here, content_there, entered_here, reported}
use Rattle.lol_machine.specs.RunLaws.{err_is_not_ok}
use Rattle.lol_machine.proofs.VmRefusals.{answered_alike, error_is, never_both, not_false, opens_nothing_both, opens_nothing_of, push_is_limit, push_is_memory, push_isnt_silent, stays_unfailed, unfailed_before}
use Rattle.lol_machine.proofs.vm.VmOf+Program+LocalName+StackNames+E.exec_for_whole_start_tag.Goals as goal

pub begin-requires : goal.begin-requires
begin-requires g c = new_context g.E.ElementData.ids c.args.local_name c.new-ctx.result c.new-ctx.ensures.item c.new-ctx.ensures.with_content

-- 1. It is refused before it is reported

pub returns-in-Err : goal.returns-in-Err
returns-in-Err g c =
    let error = c.in-Err.error in
    let left = c.begin.ensures.left c.args.limiter.now in
    record {
      again = c.requires.callable;
      answered = tt;
      charges = charges_unopened left c.begin.ensures.bytes;
      left = opens_nothing_of c.new-ctx.ensures.item.name left;
      unasked = λ request is. c.begin.ensures.unasked request (c.in-Err.is ∙ ap Err (error_is is));
      failed = record { exactly = answered_alike c.begin.result error Failed c.in-Err.is c.begin.ensures.failed.exactly; stuck = c.begin.ensures.failed.stuck };
      full = answered_alike c.begin.result error CounterFull c.in-Err.is c.begin.ensures.full;
      refused = c.in-Err.ensures.refused;
      silent = λ e is silent. refl;
      limited = λ limit. absurd (c.begin.ensures.unlimited (c.in-Err.is ∙ ap Err (error_is limit)));
      no_memory = λ s esi events tag stands named takes. c.in-Err.ensures.no_memory s esi events tag stands (named_so c.new-ctx.ensures.item c.new-ctx.ensures.ns tag named) (inl takes);
      tried = λ s esi events tag stands named rest. c.begin.ensures.tried s esi events tag stands (named_so c.new-ctx.ensures.item c.new-ctx.ensures.ns tag named);
      due = λ e is due s esi events tag stands named flat. let full = c.in-Err.ensures.no_memory s esi events tag stands (named_so c.new-ctx.ensures.item c.new-ctx.ensures.ns tag named) (inr flat) in cc;
      all_or_none = λ e is. inl refl;
    }

-- 2. It is finished

pub returns-in-Ok-finish : goal.returns-in-Ok-finish
returns-in-Ok-finish g c =
    let b = began g.met.E.ElementData.ids_of_changed c.new-ctx.ensures.item c.new-ctx.ensures.ns c.new-ctx.ensures.with_content c.in-Ok.ensures.begun in
    let left = c.begin.ensures.left c.args.limiter.now in
    record {
      again = c.finish.ensures.again;
      answered = λ s esi events tag stands named rest.
          let told = c.in-Ok-finish.ensures.answered s esi events tag (begun_pending b s esi events tag stands named c.in-Some.point c.in-Some.is) (rest refl) in (
            λ opens due. told.0 opens ((begun_due b c.args.limiter.now).0 due),
            answered_since s esi events tag _ _ c.args.self.now c.begin.new.self c.finish.new.self c.args.match_handler.now _ c.finish.new.match_handler left.unchanged refl told.1,
          );
      charges = charges_both (charges_unopened left c.begin.ensures.bytes) c.finish.ensures.charges;
      left = tt;
      unasked = λ request is. cc;
      failed = stays_unfailed (λ is. cc) (unfailed_before c.begin.ensures.failed (never_both c.begin.result c.in-Ok.is));
      full = (λ is. cc, λ full. absurd (omega (arith, c.in-Ok.ensures.begun.room, full.1)));
      refused = tt;
      silent = λ e is silent. cc;
      limited = λ limit. cc;
      no_memory = tt;
      tried = λ s esi events tag stands named. c.finish.ensures.tried s esi events tag (begun_pending b s esi events tag stands named c.in-Some.point c.in-Some.is);
      due = λ e is due. cc;
      all_or_none = λ e is. cc;
    }

pub returns-in-Err-finish : goal.returns-in-Err-finish
returns-in-Err-finish g c =
    let b = began g.met.E.ElementData.ids_of_changed c.new-ctx.ensures.item c.new-ctx.ensures.ns c.new-ctx.ensures.with_content c.in-Ok.ensures.begun in
    let left = c.begin.ensures.left c.args.limiter.now in
    let pushed = c.in-Err-finish.error in
    let error = c.from.result in
    let from = c.from.ensures in
    record {
      again = c.finish.ensures.again;
      answered = tt;
      charges = charges_both (charges_unopened left c.begin.ensures.bytes) c.finish.ensures.charges;
      left = opens_nothing_both (opens_nothing_of c.new-ctx.ensures.item.name left) c.in-Err-finish.ensures.left;
      unasked = λ request is. push_isnt_silent pushed error (InfoRequest request) from (error_is is) tt;
      failed = stays_unfailed (λ is. push_isnt_silent pushed error Failed from (error_is is) tt) (unfailed_before c.begin.ensures.failed (never_both c.begin.result c.in-Ok.is));
      full = (λ is. absurd (push_isnt_silent pushed error CounterFull from (error_is is) tt), λ full. absurd (omega (arith, c.in-Ok.ensures.begun.room, full.1)));
      refused = c.in-Err-finish.ensures.refused;
      silent = λ e is silent. absurd (push_isnt_silent pushed error e from (error_is is) silent);
      limited = λ limit.
          let due = c.finish.ensures.limited (c.in-Err-finish.is ∙ ap Err (push_is_limit pushed error from (error_is limit))) in (
            (begun_due b c.args.limiter.now).1 due.0,
            λ s esi events tag stands named rest.
                let told = due.1 s esi events tag (begun_pending b s esi events tag stands named c.in-Some.point c.in-Some.is) rest in
                (told.0, reported_if told.1),
          );
      no_memory = λ s esi events tag stands named takes. absurd (err_is_not_ok c.finish.result pushed c.in-Err-finish.is (c.finish.ensures.no_memory s esi events tag (begun_pending b s esi events tag stands named c.in-Some.point c.in-Some.is) takes));
      tried = λ s esi events tag stands named. c.finish.ensures.tried s esi events tag (begun_pending b s esi events tag stands named c.in-Some.point c.in-Some.is);
      due = λ e is due s esi events tag stands named flat.
          c.finish.ensures.due e (c.in-Err-finish.is ∙ ap Err (push_is_memory pushed error e from (error_is is))) ((begun_due b c.args.limiter.now).0 due) s esi events tag
          (begun_pending b s esi events tag stands named c.in-Some.point c.in-Some.is) flat;
      all_or_none = λ e is.
          whole_since (c.finish.ensures.all_or_none e (c.in-Err-finish.is ∙ ap Err (push_is_memory pushed error e from (error_is is)))) (λ after. (
            λ s esi events tag stands named rest. reported_if (after.0 s esi events tag (begun_pending b s esi events tag stands named c.in-Some.point c.in-Some.is) rest),
            λ due. after.1 ((begun_due b c.args.limiter.now).0 due),
          ));
    }

-- 3. It was run to its end

pub returns-in-Ok-enter : goal.returns-in-Ok-enter
returns-in-Ok-enter g c =
    let b = began g.met.E.ElementData.ids_of_changed c.new-ctx.ensures.item c.new-ctx.ensures.ns c.new-ctx.ensures.with_content c.in-Ok.ensures.begun in
    record {
      again = c.handle_matched_ids.ensures.again;
      answered = λ s esi events tag stands named rest. (
        λ opens due. c.in-Ok-enter.ensures.within (content_there c.handle_matched_ids.ensures.same ((begun_complete b s esi events tag stands named c.in_default.is).content ∙ opens)) ((begun_due b c.args.limiter.now).0 due),
        begun_answered b s esi events tag stands named c.in_default.is _ c.args.match_handler.now c.handle_matched_ids.new.handler c.enter.new.self c.handle_matched_ids.ensures.called (entered_here c.handle_matched_ids.ensures.same _ _ c.in-Ok-enter.ensures.ok),
      );
      charges = charges_both (charges_unopened (c.begin.ensures.left c.args.limiter.now) c.begin.ensures.bytes) c.enter.ensures.charges;
      left = tt;
      unasked = λ request is. cc;
      failed = stays_unfailed (λ is. cc) (unfailed_before c.begin.ensures.failed (never_both c.begin.result c.in-Ok.is));
      full = (λ is. cc, λ full. absurd (omega (arith, c.in-Ok.ensures.begun.room, full.1)));
      refused = tt;
      silent = λ e is silent. cc;
      limited = λ limit. cc;
      no_memory = tt;
      tried = λ s esi events tag stands named rest. subst (IsTriedAtMost s esi events tag) (sym c.enter.ensures.tries) (c.begin.ensures.tried s esi events tag stands (named_so c.new-ctx.ensures.item c.new-ctx.ensures.ns tag named));
      due = λ e is due. cc;
      all_or_none = λ e is. cc;
    }

pub returns-in-Err-enter : goal.returns-in-Err-enter
returns-in-Err-enter g c =
    let b = began g.met.E.ElementData.ids_of_changed c.new-ctx.ensures.item c.new-ctx.ensures.ns c.new-ctx.ensures.with_content c.in-Ok.ensures.begun in
    let left = c.begin.ensures.left c.args.limiter.now in
    let pushed = c.in-Err-enter.error in
    let error = c.from-in-Err-enter.result in
    let from = c.from-in-Err-enter.ensures in
    let never = λ (closed : c.begin.new.ctx.with_content ≡ false). err_is_not_ok c.enter.result pushed c.in-Err-enter.is (c.enter.ensures.closed (content_there c.handle_matched_ids.ensures.same closed)) in
    -- memory isn't refused where it can't be charged
    let room = λ (e : AllocError) (memory : error ≡ Memory e) (due : IsDue c.args.self.now c.args.limiter.now).
    memory_instead c.enter.result e (c.in-Err-enter.is ∙ ap Err (push_is_memory pushed error e from memory))
    (c.enter.ensures.limited.1 (content_there c.handle_matched_ids.ensures.same (not_false c.begin.new.ctx.with_content never), (begun_due b c.args.limiter.now).0 due)) in
    record {
      again = c.handle_matched_ids.ensures.again;
      answered = tt;
      charges = charges_both (charges_unopened left c.begin.ensures.bytes) c.enter.ensures.charges;
      left = opens_nothing_both (opens_nothing_of c.new-ctx.ensures.item.name left) c.in-Err-enter.ensures.left;
      unasked = λ request is. push_isnt_silent pushed error (InfoRequest request) from (error_is is) tt;
      failed = stays_unfailed (λ is. push_isnt_silent pushed error Failed from (error_is is) tt) (unfailed_before c.begin.ensures.failed (never_both c.begin.result c.in-Ok.is));
      full = (λ is. absurd (push_isnt_silent pushed error CounterFull from (error_is is) tt), λ full. absurd (omega (arith, c.in-Ok.ensures.begun.room, full.1)));
      refused = c.in-Err-enter.ensures.refused;
      silent = λ e is silent. absurd (push_isnt_silent pushed error e from (error_is is) silent);
      limited = λ limit.
          let opens = c.enter.ensures.limited.0 (c.in-Err-enter.is ∙ ap Err (push_is_limit pushed error from (error_is limit))) in (
            (begun_due b c.args.limiter.now).1 opens.1,
            λ s esi events tag stands named rest.
                let all = begun_complete b s esi events tag stands named c.in_default.is in
                (sym all.content ∙ content_here c.handle_matched_ids.ensures.same opens.0, reported_if (reported all c.handle_matched_ids.ensures.called _ c.enter.ensures.tries)),
          );
      no_memory = λ s esi events tag stands named takes. absurd (never ((begun_complete b s esi events tag stands named c.in_default.is).content ∙ void_is_closed esi tag takes.1 takes.2));
      tried = λ s esi events tag stands named rest. subst (IsTriedAtMost s esi events tag) (sym c.enter.ensures.tries) (c.begin.ensures.tried s esi events tag stands (named_so c.new-ctx.ensures.item c.new-ctx.ensures.ns tag named));
      due = λ e is due s esi events tag stands named flat. room e (error_is is) due;
      all_or_none = λ e is. inr (
        λ s esi events tag stands named rest. reported_if (reported (begun_complete b s esi events tag stands named c.in_default.is) c.handle_matched_ids.ensures.called _ c.enter.ensures.tries),
        λ due. room e (error_is is) due,
      );
    }
