use Rattle.std.proofs.Common.{◌≡◌, ◌^◌, ◌<◌, ◌≤◌, [], map, true≢false, refl, sym, ap, subst}
use Rattle.lol_memory.specs.Limiter.{Limiter}
use Rattle.lol_machine.specs.ReportRoom.{HoldsEachReport}
use Rattle.lol_machine.specs.Views.{selectors}
use Rattle.lol_machine.specs.Vms.{slot_bytes}
use Rattle.lol_matcher.specs.LastLaws.{last_first}
use Rattle.lol_matcher.specs.declared.open_element.OpenElement.{OpenElement}
use Rattle.lol_matcher.proofs.Beginning.{charged_at_first, runs_at_first}
use Rattle.lol_matcher.proofs.matcher.Matcher.new.Goals as goal

pub invariant_of-result : goal.invariant_of-result
invariant_of-result g c =
    let vm = c.in_ok-vm.vm in
    let told = c.in_ok-vm.ensures in
    let maximum : c.new-2.result.maximum ≡ c.args.max_memory = ap (λ (l : Limiter). l.maximum) c.new-2.ensures in
    let usage : c.new-2.result.usage ≡ 0 = ap (λ (l : Limiter). l.usage) c.new-2.ensures in
    let some : 1 ≤ slot_bytes vm = subst (λ n. 1 ≤ n) (sym told.bytes) c.requires in
    let word : c.new-2.result.maximum < 2 ^ 64 = subst (λ n. n < 2 ^ 64) (sym maximum) c.ranges.max_memory.fits in
    rw c.new-past.ensures (record {
      charged = charged_at_first vm c.new-2.result told.slots usage;
      has_open = c.run_laws.ensures.has_open (selectors c.args.ast) c.args.enable_esi_tags vm _ told.stands;
      numbered = ap (map (λ (e : OpenElement _). e.number)) told.empty;
      counted = λ ok. refl;
      last = λ ok. last_first (selectors c.args.ast) _ _ _ _ refl c.in-Ok.ensures.empty refl;
      silent = λ failed. absurd (true≢false (sym failed));
      runs = λ ok. runs_at_first (selectors c.args.ast) c.args.enable_esi_tags vm c.new-2.result told.stands some word told.slots usage;
      waits = λ ok. tt;
      told_open = λ ok. refl;
      room = λ ok. subst (HoldsEachReport (selectors c.args.ast)) (sym c.in-Ok.ensures.room) (c.run_laws.ensures.few (selectors c.args.ast) c.args.enable_esi_tags vm [] told.stands);
    })
