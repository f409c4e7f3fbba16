-- What holds of runs over ranges, for those who go on from them.
use Rattle.std.proofs.Common.{◌≡◌, ◌+◌, ◌-◌, ◌≤◌, ℕ, List, drop, get_or, subst, arith, Result, Ok, Err}
use Rattle.std.proofs.lemmas.List.{length-drop, length-take}
use Rattle.std.specs.Result.{IsOk}
use Rattle.std.specs.declared.ops.Range.{Range}
use Rattle.lol_instructions.specs.Compiled.{Sight}
use Rattle.lol_instructions.specs.declared.instruction.Instruction.{Instruction}
use Rattle.lol_stack.specs.WithRange.{no_range}
use Rattle.lol_machine.specs.TagRuns.{IsStopIn}
use Rattle.lol_machine.specs.declared.tag_runs.Stop.{Stop}

-- what is so of some instructions, ranges and what tests see is so of the same
pub of_same : (P : List Instruction → List (Range ℕ) → Sight → Type 0) {all given : List Instruction} {ranges rs : List (Range ℕ)} {s t : Sight} → given ≡ all → rs ≡ ranges → t ≡ s → P given rs t → P all ranges s
of_same P {all = all} {ranges = ranges} {rs = rs} {t = t} same_all same_ranges same h =
    subst (P all ranges) same (subst (λ xs. P all xs t) same_ranges (subst (λ is. P is rs t) same_all h))

-- an offset of a range is inside
pub offset_inside : (instructions : List Instruction) (ranges : List (Range ℕ)) (stop : Stop) → IsStopIn instructions ranges stop → (get_or ranges stop.range no_range).start + stop.offset ≤ (get_or ranges stop.range no_range).end
offset_inside instructions ranges stop is_stop =
    let r = get_or ranges stop.range no_range in
    omega (arith, is_stop.1, length-take (r.end - r.start) (drop r.start instructions), length-drop r.start instructions)

-- an error is no success
pub err_is_not_ok : {T X : Type 0} (r : Result T X) (e : X) → r ≡ Err e → IsOk r → ⊥
err_is_not_ok (Ok v) e is ok = cc
err_is_not_ok (Err x) e is ok = cc
