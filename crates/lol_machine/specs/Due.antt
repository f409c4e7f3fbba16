-- What a start tag is answered with where its element can't be charged.
use Rattle.std.specs.Prelude.{◌≡◌, Bool, true, false}
use Rattle.lol_base.specs.LocalNames.{Name}
use Rattle.lol_base.specs.declared.namespace.Namespace.{Namespace}
use Rattle.lol_base.specs.declared.start_tag.AuxStartTagInfo.{AuxStartTagInfo}
use Rattle.lol_instructions.specs.declared.tries.Tries.{Tries}
use Rattle.lol_memory.specs.Ids.{Ids}
use Rattle.lol_memory.specs.LimitedVec.{IsLimited}
use Rattle.lol_memory.specs.Limiter.{Limiter}
use Rattle.lol_memory.specs.declared.match_info.MatchInfo.{MatchInfo}
use Rattle.lol_stack.specs.Stacks.{list_in}
use Rattle.lol_machine.specs.FreeTags.{AreFlat, RunsWithoutMemory}
use Rattle.lol_machine.specs.Premises.{ForHandedOf, ForPending, ForRestOf, ForTagOf}
use Rattle.lol_machine.specs.VmErrors.{IsNotForMemory}
use Rattle.lol_machine.specs.Vms.{Vm, IsReported, is_asked_for, stack_in}
use Rattle.lol_machine.specs.declared.error.AuxStartTagInfoRequest.{AuxStartTagInfoRequest}
use Rattle.lol_machine.specs.declared.error.VmError.{VmError}

module _ {E : Type 0} where
  -- the limit is due: the next element that is opened can't be charged
  abbrev pub IsDue : Vm E → Limiter → Type 0
  IsDue vm limiter = IsLimited (list_in (stack_in vm)) limiter

  -- an element can be charged, if it has content
  abbrev pub IsWithinLimit : Bool → Vm E → Limiter → Type 0
  IsWithinLimit content vm limiter = content ≡ true → IsDue vm limiter → ⊥

  -- a start tag of this name that is run without memory, whichever events the machine stands for, isn't refused for memory
  abbrev pub IsNeverForMemory : Vm E → Name → Namespace → VmError E → Type 0
  IsNeverForMemory vm name ns error = ForTagOf vm name ns (λ s esi events tag. RunsWithoutMemory s esi events tag → IsNotForMemory error)

  -- the whole report of a start tag was made, and the limit isn't due
  abbrev pub IsAfterReport : {F : Type 0} → (F → MatchInfo → Unit {0} → F → Type 0) → Vm E → Name → Namespace → Limiter → Tries → F → F → Type 0
  IsAfterReport step vm name ns limiter tries f g =
      ForTagOf vm name ns (λ s esi events tag. IsReported step s esi events tag false tries f g)
      × (IsDue vm limiter → ⊥)

  -- the same of one whose attributes are at hand
  abbrev pub IsAfterHandedReport : {F : Type 0} → (F → MatchInfo → Unit {0} → F → Type 0) → Vm E → Name → Namespace → AuxStartTagInfo → Limiter → Tries → F → F → Type 0
  IsAfterHandedReport step vm name ns aux limiter tries f g =
      ForHandedOf vm name ns aux (λ s esi events tag. IsReported step s esi events tag (is_asked_for s esi events tag) tries f g)
      × (IsDue vm limiter → ⊥)

  module _ (ids_of : E → Ids) (vm : Vm E) (request : AuxStartTagInfoRequest E) where
    -- a request of flat selectors isn't refused for memory
    abbrev pub IsNeverPending : Type 0
    IsNeverPending = ForPending vm ids_of request (λ s esi events tag. AreFlat s → ⊥)

    -- the whole report of the tag of a request was made, and the limit isn't due
    abbrev pub IsAfterWholeReport : {F : Type 0} → (F → MatchInfo → Unit {0} → F → Type 0) → AuxStartTagInfo → Limiter → Tries → F → F → Type 0
    IsAfterWholeReport step aux limiter tries f g =
        ForRestOf vm ids_of request aux (λ s esi events tag. IsReported step s esi events tag true tries f g)
        × (IsDue vm limiter → ⊥)
