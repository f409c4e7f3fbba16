use Rattle.lol_machine.proofs.Common.{arith, ◌≡◌, ◌⊎◌, Bool, true, ℕ, inl, inr, refl, sym, ◌∙◌, subst, List, Range, on_err_weaker, StartTag, tag_attributes, Selectors, ExecutionCtx, Event, has_content, AreRunnable, NeedNoMemory, AreExecuted, AreWithin, IsPointIn, ranges_left, sight_in, tried_at, IsPending, IsRestOf, IsTriedAtMost, content_in, Vm, None}
use Rattle.std.specs.Result.{IfOk, IsOk, OnErr, OnOk}
use Rattle.lol_machine.specs.Due.{IsDue}
use Rattle.lol_memory.specs.declared.limited_vec.PushError.TheVariants as pushes
use Rattle.lol_machine.specs.TriedStarts.{left_at, ranges_to_complete}
use Rattle.lol_machine.specs.Vms.{IsEntered, NeedsRest, OpensNothing}
use Rattle.lol_machine.proofs.FreeTagLemmas.{finished_closed, is_alone_free, is_closed_free, memory_instead, void_is_closed}
use Rattle.lol_machine.proofs.VmFinishes.{answered_now, can_finish, complete, has_room, open_tried, rs, same_after, stopped_there, tried_at_most, x}
use Rattle.lol_machine.proofs.VmStarts.{IsComplete, content_here, content_there, reported}
use Rattle.lol_machine.specs.RunLaws.{err_is_not_ok}
use Rattle.lol_machine.proofs.VmRefusals.{not_false, on_ok_both, opens_nothing_both, same_opens_nothing}
use Rattle.lol_machine.proofs.vm.VmOf+Program+LocalName+StackNames+E.finish.Given as given
use Rattle.lol_machine.proofs.vm.VmOf+Program+LocalName+StackNames+E.finish.Goals.{After-complete}
use Rattle.lol_machine.proofs.vm.VmOf+Program+LocalName+StackNames+E.finish.Goals as goal

-- 1. What is run is what is left

module _ (g : given.Over) (c : After-complete g) (s : Selectors) (esi : Bool) (events : List Event) (tag : StartTag) (pending : IsPending g.E.ElementData.ids s esi events tag c.args.self.now (left_at c.args.ctx c.args.point)) where
  abbrev vm : Vm g.row.E.Denot
  vm = c.args.self.now

  -- the attributes that are seen are those of the tag, if this is its rest
  seen : IsRestOf c.args.aux_info tag → c.new-matcher.result ≡ tag_attributes tag
  seen rest = c.new-matcher.ensures ∙ (λ i. record { attributes = sym rest.0 i; namespace = sym pending.named.1 i })

  abbrev left : List (Range ℕ)
  left = rs g.E.ElementData.ids vm s esi events tag (left_at c.args.ctx c.args.point) pending c.args.point

  abbrev code : List (Range ℕ)
  code = ranges_left left c.args.point

  module _ (needs : NeedsRest s c.args.aux_info tag) where
    runs : ranges_to_complete vm c.args.ctx c.args.point c.new-matcher.result ≡ left
    runs = same_after g.E.ElementData.ids vm s esi events tag (left_at c.args.ctx c.args.point) pending c.new-matcher.result (λ by_keys. seen (needs by_keys))

    tried : IsTriedAtMost s esi events tag c.complete.new.self.tries
    tried =
        let request = left_at c.args.ctx c.args.point in
        let sight_now = sight_in vm.stack c.args.ctx.stack_item.local_name in
        let within = subst (λ ranges. IsPointIn vm.program.instructions.items ranges c.args.point → AreRunnable vm.program.instructions.items (ranges_left ranges c.args.point) vm.tries
        → (c.complete.new.self.tries ≡ vm.tries) ⊎ AreWithin sight_now vm.program.instructions.items (ranges_left ranges c.args.point) vm.tries c.complete.new.self.tries (tried_at c.args.point)) runs
        (c.complete.ensures.completed.within pending.stands.sparing.rows) in
        by_tries (within (stopped_there g.E.ElementData.ids vm s esi events tag request pending) (can_finish g.E.ElementData.ids vm s esi events tag request pending))
      where
        by_tries : (c.complete.new.self.tries ≡ vm.tries) ⊎ AreWithin (sight_in vm.stack c.args.ctx.stack_item.local_name) vm.program.instructions.items code vm.tries c.complete.new.self.tries (tried_at c.args.point)
            → IsTriedAtMost s esi events tag c.complete.new.self.tries
        by_tries (inl same) = subst (IsTriedAtMost s esi events tag) (sym same) (open_tried g.E.ElementData.ids vm s esi events tag (left_at c.args.ctx c.args.point) pending)
        by_tries (inr within) = tried_at_most g.E.ElementData.ids vm s esi events tag (left_at c.args.ctx c.args.point) pending c.complete.new.self.tries within

  content_is : c.content_in.result ≡ content_in c.args.ctx.ns c.args.ctx.with_content c.args.aux_info.self_closing
  content_is = c.content_in.ensures

  -- it is run without memory where its instructions need none
  run_free : NeedNoMemory c.content_in.result vm.program.instructions.items → IsOk c.complete.result
  run_free = c.complete.ensures.completed.no_memory pending.stands.sparing.rows (has_room g.E.ElementData.ids vm s esi events tag (left_at c.args.ctx c.args.point) pending)

-- 2. It was refused

pub returns-in-Err-clause-no_memory : goal.returns-in-Err-clause-no_memory
returns-in-Err-clause-no_memory g c = λ s esi events tag pending takes.
    let a = (goal.at.returns-in-Err-clause-no_memory g c).After-complete in
    let vm = c.args.self.now in
    let closed = finished_closed c.args.point (has_content esi tag) c.args.ctx.with_content c.args.aux_info.self_closing pending.context tag.namespace c.args.ctx.ns pending.goes_on takes.1 (sym pending.named.1) (void_is_closed esi tag takes.1 takes.2) in
    let free = is_closed_free s pending.stands.paths vm _ _ pending.stands.standing takes.0 c.content_in.result (c.content_in.ensures ∙ closed) in
    absurd (err_is_not_ok c.complete.result c.in-Err.error c.in-Err.is (run_free g a s esi events tag pending free))

pub returns-in-Err-clause-tried : goal.returns-in-Err-clause-tried
returns-in-Err-clause-tried g c = λ s esi events tag pending rest.
    tried g (goal.at.returns-in-Err-clause-tried g c).After-complete s esi events tag pending rest

pub returns-in-Err-clause-due : goal.returns-in-Err-clause-due
returns-in-Err-clause-due g c = λ error is due s esi events tag pending flat.
    let a = (goal.at.returns-in-Err-clause-due g c).After-complete in
    let free = is_alone_free s pending.stands.paths c.args.self.now _ _ pending.stands.standing flat.small flat.alone c.content_in.result in
    absurd (err_is_not_ok c.complete.result c.in-Err.error c.in-Err.is (run_free g a s esi events tag pending free))

-- 3. It was reported

-- what was run changes nothing that a list of open elements is charged by
module _ (g : given.Over) (c : goal.After-enter g) where
  due_now : IsDue c.complete.new.self c.args.limiter.now → IsDue c.args.self.now c.args.limiter.now
  due_now = subst (λ vm. IsDue vm c.args.limiter.now) c.complete.ensures.kept

  due_then : IsDue c.args.self.now c.args.limiter.now → IsDue c.complete.new.self c.args.limiter.now
  due_then = subst (λ vm. IsDue vm c.args.limiter.now) (sym c.complete.ensures.kept)

module _ (g : given.Over) (c : goal.After-enter g) (s : Selectors) (esi : Bool) (events : List Event) (tag : StartTag) (pending : IsPending g.E.ElementData.ids s esi events tag c.args.self.now (left_at c.args.ctx c.args.point)) (rest : IsRestOf c.args.aux_info tag) where
  executed : AreExecuted g.E.ElementData.ids g.E.ElementData.with_ids (sight_in c.args.self.now.stack c.args.ctx.stack_item.local_name) c.args.self.now.program.instructions.items
      (ranges_left (rs g.E.ElementData.ids c.args.self.now s esi events tag (left_at c.args.ctx c.args.point) pending c.args.point) c.args.point)
      (record c.args.ctx { with_content = content_in c.args.ctx.ns c.args.ctx.with_content c.args.aux_info.self_closing }) c.complete.new.ctx c.args.self.now.tries c.complete.new.self.tries (tag_attributes tag) (tried_at c.args.point)
  executed =
      let a = (goal.at.returns-clause-answered g c).After-complete in
      let vm = c.args.self.now in
      let point = c.args.point in
      let request = left_at c.args.ctx c.args.point in
      let ids = g.E.ElementData.ids in
      let with_ids = g.E.ElementData.with_ids in
      let ctx : ExecutionCtx _ = record c.args.ctx { with_content = c.content_in.result } in
      let new_ctx = c.complete.new.ctx in
      let after = c.complete.new.self.tries in
      let left = ranges_left (rs ids vm s esi events tag request pending point) point in
      let all = vm.program.instructions.items in
      let s_now = sight_in vm.stack c.args.ctx.stack_item.local_name in
      let told = subst (λ ranges. IsPointIn all ranges point → AreRunnable all (ranges_left ranges point) vm.tries
      → IfOk c.complete.result (λ done. AreExecuted ids with_ids s_now all (ranges_left ranges point) ctx new_ctx vm.tries after c.new-matcher.result (tried_at point))) (runs g a s esi events tag pending (λ by_keys. rest))
      (c.complete.ensures.completed.executed pending.stands.sparing.rows) in
      let done = subst (λ r. IfOk r (λ done. AreExecuted ids with_ids s_now all left ctx new_ctx vm.tries after c.new-matcher.result (tried_at point))) c.in_default.is
      (told (stopped_there ids vm s esi events tag request pending) (can_finish ids vm s esi events tag request pending)) in
      subst (λ b. AreExecuted ids with_ids s_now all left (record c.args.ctx { with_content = b }) new_ctx vm.tries after (tag_attributes tag) (tried_at point)) c.content_in.ensures
      (subst (λ a. AreExecuted ids with_ids s_now all left ctx new_ctx vm.tries after a (tried_at point)) (seen g a s esi events tag pending rest) done)

  told : IsComplete g.E.ElementData.ids s esi events tag true c.complete.new.ctx (x g.E.ElementData.ids c.args.self.now s esi events tag (left_at c.args.ctx c.args.point) pending) c.complete.new.self.tries
  told =
      complete g.E.ElementData.ids c.args.self.now s esi events tag (left_at c.args.ctx c.args.point) pending g.E.ElementData.with_ids g.met.E.ElementData.ids_of_changed c.args.aux_info.self_closing (sym rest.1) rest.2
      c.complete.new.ctx c.complete.new.self.tries executed

pub returns-clause-answered : goal.returns-clause-answered
returns-clause-answered g c =
    on_ok_both c.enter.result
    (λ entered within s esi events tag pending rest. (
      λ opens due. within (content_there c.handle_matched_ids.ensures.same ((told g c s esi events tag pending rest).content ∙ opens)) (due_then g c due),
      answered_now g.E.ElementData.ids c.args.self.now s esi events tag (left_at c.args.ctx c.args.point) pending g.E.ElementData.with_ids g.met.E.ElementData.ids_of_changed c.args.aux_info.self_closing
          (sym rest.1) rest.2 c.complete.new.ctx c.complete.new.self.tries (executed g c s esi events tag pending rest) _ c.args.match_handler.now c.handle_matched_ids.new.handler c.complete.new.self.space (λ room rows. omega (arith, room rows, c.complete.ensures.room)) c.enter.new.self c.handle_matched_ids.ensures.called entered,
    ))
    (subst (λ vm. OnOk c.enter.result (IsEntered c.complete.new.ctx.with_content c.complete.new.ctx.stack_item vm c.enter.new.self)) c.complete.ensures.kept
    (subst (λ (ctx : ExecutionCtx _). OnOk c.enter.result (IsEntered ctx.with_content ctx.stack_item c.complete.new.self c.enter.new.self)) c.handle_matched_ids.ensures.same c.enter.ensures.ok))
    c.enter.ensures.within

pub returns-clause-left : goal.returns-clause-left
returns-clause-left g c =
    on_err_weaker c.enter.result (opens_nothing_both (same_opens_nothing c.args.self.now (record c.args.self.now { tries = c.complete.new.self.tries; space = c.complete.new.self.space }) c.args.limiter.now refl refl))
    (subst (λ vm. OnErr c.enter.result (OpensNothing None vm c.enter.new.self c.args.limiter.now c.enter.new.limiter)) c.complete.ensures.kept c.enter.ensures.left)

pub returns-clause-limited : goal.returns-clause-limited
returns-clause-limited g c = λ limit.
    let opens = c.enter.ensures.limited.0 limit in (
      due_now g c opens.1,
      λ s esi events tag pending rest. let all = told g c s esi events tag pending rest in (sym all.content ∙ content_here c.handle_matched_ids.ensures.same opens.0, reported all c.handle_matched_ids.ensures.called _ c.enter.ensures.tries),
    )

pub returns-clause-no_memory : goal.returns-clause-no_memory
returns-clause-no_memory g c = λ s esi events tag pending takes.
    let closed = finished_closed c.args.point (has_content esi tag) c.args.ctx.with_content c.args.aux_info.self_closing pending.context tag.namespace c.args.ctx.ns pending.goes_on takes.1 (sym pending.named.1) (void_is_closed esi tag takes.1 takes.2) in
    c.enter.ensures.closed (content_there c.handle_matched_ids.ensures.same (c.complete.ensures.content ∙ (c.content_in.ensures ∙ closed)))

pub returns-clause-tried : goal.returns-clause-tried
returns-clause-tried g c = λ s esi events tag pending needs.
    subst (IsTriedAtMost s esi events tag) (sym c.enter.ensures.tries) (tried g (goal.at.returns-clause-tried g c).After-complete s esi events tag pending needs)

pub returns-clause-due : goal.returns-clause-due
returns-clause-due g c = λ error is due s esi events tag pending flat.
    let opens = not_false c.complete.new.ctx.with_content (λ closed. err_is_not_ok c.enter.result (pushes.Memory error) is (c.enter.ensures.closed (content_there c.handle_matched_ids.ensures.same closed))) in
    memory_instead c.enter.result error is (c.enter.ensures.limited.1 (content_there c.handle_matched_ids.ensures.same opens, due_then g c due))

pub returns-clause-all_or_none : goal.returns-clause-all_or_none
returns-clause-all_or_none g c = λ error is. inr (
  λ s esi events tag pending rest. reported (told g c s esi events tag pending rest) c.handle_matched_ids.ensures.called _ c.enter.ensures.tries,
  λ due.
      let opens = not_false c.complete.new.ctx.with_content (λ closed. err_is_not_ok c.enter.result (pushes.Memory error) is (c.enter.ensures.closed (content_there c.handle_matched_ids.ensures.same closed))) in
      memory_instead c.enter.result error is (c.enter.ensures.limited.1 (content_there c.handle_matched_ids.ensures.same opens, due_then g c due)),
)

pub returns-in-Err-clause-refused : goal.returns-in-Err-clause-refused
returns-in-Err-clause-refused g c = refl
