use Rattle.std.proofs.Common.{◌∙◌, sym, ap, ◌++◌, ◌∷◌, []}
use Rattle.lol_stack.specs.Levels.{is_at_level}
use Rattle.lol_stack.specs.CounterMaps.{counters_of}
use Rattle.lol_stack.specs.TypedCounts.{TypedCount, last_counted}
use Rattle.lol_stack.proofs.Refusals.{on_err}
use Rattle.lol_stack.specs.TypedListLaws.{view-is, view-keeps, keys-seen, levels-seen, levels-kept, levels-uncounted, counted-again, counted-first, keys-last_counted, levels-last_counted, levels-started, keys-push}
use Rattle.lol_stack.proofs.counters.TypedChildCounterMap.add_child.Goals as goal

pub invariant_of-self : goal.invariant_of-self
invariant_of-self c =
    let ts = c.args.self.now in
    let name = c.args.name.now in
    let keys = keys-seen ts c.self.inside.kept.items (counters_of c.self.inside.lists) c.self.view_is in
    let levels = levels-seen ts c.self.inside.kept.items (counters_of c.self.inside.lists) c.self.view_is c.self.invariant in
    view-keeps (last_counted ts name) c.self.inside.kept.items (counters_of c.count.new.self) (keys ∙ sym (keys-last_counted ts name))
    (levels-last_counted ts name (counters_of c.self.inside.lists) (counters_of c.count.new.self) levels c.if-count.ensures.counted)

pub returns-then-count-clause-ok : goal.returns-then-count-clause-ok
returns-then-count-clause-ok c =
    let ts = c.args.self.now in
    let name = c.args.name.now in
    let keys = keys-seen ts c.self.inside.kept.items (counters_of c.self.inside.lists) c.self.view_is in
    let levels = levels-seen ts c.self.inside.kept.items (counters_of c.self.inside.lists) c.self.view_is c.self.invariant in
    let now =
    view-is (last_counted ts name) c.self.inside.kept.items (counters_of c.count.new.self) (keys ∙ sym (keys-last_counted ts name))
    (levels-last_counted ts name (counters_of c.self.inside.lists) (counters_of c.count.new.self) levels c.if-count.ensures.counted)
    in
    now ∙ (counted-again ts c.args.index name (sym (c.if-count.ensures.is ∙ ap (is_at_level c.args.index) (levels name))))

pub invariant_of-self-in_err-start_kept : goal.invariant_of-self-in_err-start_kept
invariant_of-self-in_err-start_kept c =
    let ts = c.args.self.now in
    let keys = keys-seen ts c.self.inside.kept.items (counters_of c.self.inside.lists) c.self.view_is in
    let levels = levels-seen ts c.self.inside.kept.items (counters_of c.self.inside.lists) c.self.view_is c.self.invariant in
    let uncounted = levels-uncounted ts c.args.name.now (counters_of c.self.inside.lists) (counters_of c.count.new.self) levels c.if-count.ensures.counted in
    view-keeps ts c.start_kept.new.kept.items (counters_of c.start_kept.new.self) (c.in_err-start_kept.ensures.unkept ∙ keys)
    (levels-kept ts (counters_of c.count.new.self) (counters_of c.start_kept.new.self) uncounted c.in_err-start_kept.ensures.err)

pub returns-in_err-start_kept-clause-err : goal.returns-in_err-start_kept-clause-err
returns-in_err-start_kept-clause-err c =
    let ts = c.args.self.now in
    let keys = keys-seen ts c.self.inside.kept.items (counters_of c.self.inside.lists) c.self.view_is in
    let levels = levels-seen ts c.self.inside.kept.items (counters_of c.self.inside.lists) c.self.view_is c.self.invariant in
    let uncounted = levels-uncounted ts c.args.name.now (counters_of c.self.inside.lists) (counters_of c.count.new.self) levels c.if-count.ensures.counted in
    on_err c.from_residual.result
    (view-is ts c.start_kept.new.kept.items (counters_of c.start_kept.new.self) (c.in_err-start_kept.ensures.unkept ∙ keys)
    (levels-kept ts (counters_of c.count.new.self) (counters_of c.start_kept.new.self) uncounted c.in_err-start_kept.ensures.err))

pub invariant_of-self-2 : goal.invariant_of-self-2
invariant_of-self-2 c =
    let ts = c.args.self.now in
    let new : TypedCount = record { level = c.args.index; name = c.args.name.now; count = 1 } in
    let keys = keys-seen ts c.self.inside.kept.items (counters_of c.self.inside.lists) c.self.view_is in
    let levels = levels-seen ts c.self.inside.kept.items (counters_of c.self.inside.lists) c.self.view_is c.self.invariant in
    let uncounted = levels-uncounted ts c.args.name.now (counters_of c.self.inside.lists) (counters_of c.count.new.self) levels c.if-count.ensures.counted in
    view-keeps (ts ++ new ∷ []) c.start_kept.new.kept.items (counters_of c.start_kept.new.self)
    (c.in_ok-start_kept.ensures.kept ∙ (ap (λ front. front ++ (c.args.index, c.args.name.now) ∷ []) keys ∙ sym (keys-push ts new)))
    (levels-started ts new (counters_of c.count.new.self) (counters_of c.start_kept.new.self) uncounted c.in_ok-start_kept.ensures.started)

pub returns-clause-ok : goal.returns-clause-ok
returns-clause-ok c =
    let ts = c.args.self.now in
    let new : TypedCount = record { level = c.args.index; name = c.args.name.now; count = 1 } in
    let keys = keys-seen ts c.self.inside.kept.items (counters_of c.self.inside.lists) c.self.view_is in
    let levels = levels-seen ts c.self.inside.kept.items (counters_of c.self.inside.lists) c.self.view_is c.self.invariant in
    let uncounted = levels-uncounted ts c.args.name.now (counters_of c.self.inside.lists) (counters_of c.count.new.self) levels c.if-count.ensures.counted in
    let now =
    view-is (ts ++ new ∷ []) c.start_kept.new.kept.items (counters_of c.start_kept.new.self)
    (c.in_ok-start_kept.ensures.kept ∙ (ap (λ front. front ++ (c.args.index, c.args.name.now) ∷ []) keys ∙ sym (keys-push ts new)))
    (levels-started ts new (counters_of c.count.new.self) (counters_of c.start_kept.new.self) uncounted c.in_ok-start_kept.ensures.started)
    in
    now ∙ counted-first ts c.args.index c.args.name.now (sym (c.if-count.ensures.is ∙ ap (is_at_level c.args.index) (levels c.args.name.now)))
