use Rattle.std.proofs.Common.{◌≡◌, ◌≤◌, ◌-◌, ℕ, Bool, List, map, take, subst, arith, refl, sym, ap, ◌∙◌}
use Rattle.std.proofs.lemmas.Result.{IfErr-weaker, on_ok_weaker}
use Rattle.lol_machine.specs.Refusals.{Allowance, refused}
use Rattle.lol_machine.specs.Views.{selectors}
use Rattle.lol_matcher.specs.Refusing.{allowance}
use Rattle.lol_vm.specs.RunRefusals.{StopsBeforeLimit, StopsFor, allowance_of}
use Rattle.lol_vm.specs.TagEvents.{event_of}
use Rattle.lol_vm.specs.ToldEvents.{WasTold}
use Rattle.lol_vm.proofs.StoppedRuns.{stops_at_once}
use Rattle.lol_vm.proofs.ToldOn.{refused_within}
use Rattle.lol_vm.proofs.run.match_each_event.Goals as goal

pub returns-in-Err-clause-cause : goal.returns-in-Err-clause-cause
returns-in-Err-clause-cause g c = stops_at_once (selectors c.args.ast) c.args.enable_esi_tags (allowance_of c.args.item_bytes c.args.limiter.now) (map event_of c.args.events.now)

pub returns-in-Ok : goal.returns-in-Ok
returns-in-Ok g c =
    let result = c.answer_events.result in
    let told = c.answer_events.ensures in
    let ast = c.args.ast in
    let esi = c.args.enable_esi_tags in
    let limiter = c.args.limiter.now in
    let within : limiter.usage ≤ limiter.maximum = let usage = c.current_usage-usage.ensures.value in let most = c.current_usage-usage.ensures.within in omega (arith, usage, most) in
    let left : c.remaining-remaining.result ≡ limiter.maximum - limiter.usage = c.remaining-remaining.ensures in
    let w = c.in-Ok.ensures in
    let same : refused (selectors ast) esi (allowance c.args.item_bytes c.remaining-remaining.result) (map event_of c.args.events.now) ≡ refused (selectors ast) esi (allowance_of c.args.item_bytes limiter) (map event_of c.args.events.now) =
    ap (λ most. refused (selectors ast) esi (allowance c.args.item_bytes most) (map event_of c.args.events.now)) left ∙ refused_within c.args.item_bytes limiter within (selectors ast) esi (map event_of c.args.events.now) in
    record {
      again = told.again;
      ok = on_ok_weaker result (λ ok. ok ast esi _ w) told.ok;
      fits = on_ok_weaker result (λ fits. sym same ∙ fits ast esi _ w) told.fits;
      refused = IfErr-weaker result _ _ (λ stop so. so ast esi _ w) told.refused;
      event = told.event;
      cause = IfErr-weaker result _ _ (λ stop so. subst (StopsFor stop.cause stop.event) same (so ast esi _ w)) told.cause;
      due = IfErr-weaker result _ _ (λ stop so. subst (StopsBeforeLimit (selectors ast) esi (map event_of c.args.events.now) stop.cause stop.event) same (so ast esi _ w)) told.due;
      usage = refl;
    }
