use Rattle.std.proofs.Common.{rules, ◌≡◌, List, false, refl, sym, ap, ◌∙◌, subst, map, take}
use Rattle.lol_machine.specs.Answers.{answers}
use Rattle.lol_machine.specs.Refusals.{refused}
use Rattle.lol_machine.specs.Views.{selectors}
use Rattle.lol_vm.specs.TagEvents.{answer_of, event_of}
use Rattle.std.proofs.lemmas.Fn.{chained_keeps}
use Rattle.lol_vm.specs.declared.events.RunRefusal.{RunRefusal}
use Rattle.lol_vm.specs.declared.events.TagReport.{TagReport}
use Rattle.lol_vm.specs.RunRefusals.{IsRefusedAt, allowance_of}
use Rattle.lol_vm.proofs.StoppedRuns.{stops_at_once}
use Rattle.lol_vm.proofs.run.match_events.Goals as goal

pub returns-in-Ok-answered-clause-ok : goal.returns-in-Ok-answered-clause-ok
returns-in-Ok-answered-clause-ok c =
    let handed = c.in-Ok-answered.ensures.ok in
    let collected = chained_keeps _ (λ (xs : List TagReport) q. (q.0.ghost_name ≡ c.collected-2-1.given.0) × (q.0.now.refused ≡ false → q.0.now.items.items ≡ xs))
    (λ xs q x v j k. search (rules, j, k)) _ _ _ (refl, λ _. c.in-Ok.ensures.items) handed.called in
    let kept : c.collected-3-1.given.0.items.items ≡ handed.reports = search (rules, collected.0, collected.1, c.if-is_short.false) in
    ap (map answer_of) kept ∙ handed.answered

pub returns-in-Err-clause-refused : goal.returns-in-Err-clause-refused
returns-in-Err-clause-refused c =
    let handed = c.in-Err.ensures.refused in
    let collected = chained_keeps _ (λ (xs : List TagReport) q. (q.0.ghost_name ≡ c.collected-2-1.given.0) × (q.0.now.refused ≡ false → q.0.now.items.items ≡ xs))
    (λ xs q x v j k. search (rules, j, k)) _ _ _ (refl, λ _. c.in-Ok.ensures.items) handed.called in
    let kept : c.collected-3-1.given.0.items.items ≡ handed.reports = search (rules, collected.0, collected.1, c.if-is_short.false) in
    subst (λ (r : RunRefusal). map answer_of r.reports.items ≡ answers (selectors c.args.ast) c.args.enable_esi_tags (map event_of (take r.event c.args.events.now))) (sym c.refused-in-Err.ensures)
    (ap (map answer_of) kept ∙ handed.answered)

pub returns-in_default-clause-cause : goal.returns-in_default-clause-cause
returns-in_default-clause-cause c =
    let first = refused (selectors c.args.ast) c.args.enable_esi_tags (allowance_of c.args.item_bytes c.args.limiter.now) (map event_of c.args.events.now) in
    subst (λ (r : RunRefusal). IsRefusedAt r first) (sym c.refused.ensures) (stops_at_once (selectors c.args.ast) c.args.enable_esi_tags (allowance_of c.args.item_bytes c.args.limiter.now) (map event_of c.args.events.now))

pub returns-then-is_short-clause-cause : goal.returns-then-is_short-clause-cause
returns-then-is_short-clause-cause c =
    let first = refused (selectors c.args.ast) c.args.enable_esi_tags (allowance_of c.args.item_bytes c.args.limiter.now) (map event_of c.args.events.now) in
    subst (λ (r : RunRefusal). IsRefusedAt r first) (sym c.refused-then-is_short.ensures) (stops_at_once (selectors c.args.ast) c.args.enable_esi_tags (allowance_of c.args.item_bytes c.args.limiter.now) (map event_of c.args.events.now))
