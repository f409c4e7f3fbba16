-- A machine that was told of nothing yet.
use Rattle.std.proofs.Common.{◌≡◌, ◌*◌, ◌^◌, ◌<◌, ◌≤◌, Bool, [], sym, ap, ◌∙◌, arith}
use Rattle.lol_memory.specs.Limiter.{Limiter}
use Rattle.lol_program.specs.Paths.{Selectors}
use Rattle.lol_machine.specs.Vms.{Vm, Stands, slots_charged, slot_bytes}
use Rattle.lol_matcher.specs.Keeping.{IsCharged, Runs}

pub charged_at_first : {E : Type 0} (vm : Vm E) (now : Limiter) → slots_charged vm ≡ 0 → now.usage ≡ 0 → IsCharged vm now
charged_at_first vm now none usage =
    let nothing : 0 ≡ 0 * slot_bytes vm = omega arith in
    usage ∙ (nothing ∙ ap (λ n. n * slot_bytes vm) (sym none))

pub runs_at_first : {E : Type 0} (s : Selectors) (esi : Bool) (vm : Vm E) (now : Limiter) → Stands s esi vm [] → 1 ≤ slot_bytes vm → now.maximum < 2 ^ 64 → slots_charged vm ≡ 0 → now.usage ≡ 0 → Runs s esi [] vm now
runs_at_first s esi vm now stands some word none usage = record {
  stands = stands;
  some = some;
  word = word;
  charged = charged_at_first vm now none usage;
  within = omega (arith, usage);
  countable = λ parent. omega arith;
}
