-- A machine whose open elements have other values.
use Rattle.std.proofs.Common.{ℕ, ◌≤◌, Bool, List, Option, Some, None, sym, subst}
use Rattle.lol_base.specs.StartTags.{StartTag}
use Rattle.lol_base.specs.declared.namespace.Namespace.{Namespace}
use Rattle.lol_memory.specs.Limiter.{Limiter}
use Rattle.lol_program.specs.Paths.{Selectors}
use Rattle.lol_machine.specs.Events.{Event}
use Rattle.lol_machine.specs.Vms.{Vm, IsPending}
use Rattle.lol_machine.specs.declared.error.AuxStartTagInfoRequest.{AuxStartTagInfoRequest}
use Rattle.lol_matcher.specs.Keeping.{KeepsRunning, Runs, Waits, ids_of}
use Rattle.lol_matcher.specs.declared.open_element.OpenElement.{OpenElement}
use Rattle.lol_matcher.proofs.Charges.{charged_on}

pub runs_on : {E : Type 0} (s : Selectors) (esi : Bool) (events : List Event) (old new : Vm E) (now : Limiter) → KeepsRunning old new → Runs s esi events old now → Runs s esi events new now
runs_on s esi events old new now run runs = record {
  stands = run.stands s esi events runs.stands;
  some = subst (λ n. 1 ≤ n) (sym run.bytes) runs.some;
  word = runs.word;
  charged = charged_on old new now run runs.charged;
  within = runs.within;
  countable = runs.countable;
}

-- a request that waits still does
pub waits_on : {T : Type 0} (s : Selectors) (esi : Bool) (events : List Event) (asked : Option (List ℕ × Namespace)) (old new : Vm (OpenElement T)) (request : Option (AuxStartTagInfoRequest (OpenElement T)))
    → ((s : Selectors) (esi : Bool) (events : List Event) (tag : StartTag) (request : AuxStartTagInfoRequest (OpenElement T)) → IsPending ids_of s esi events tag old request → IsPending ids_of s esi events tag new request)
    → Waits s esi events asked old request → Waits s esi events asked new request
waits_on s esi events None old new None pending h = tt
waits_on s esi events None old new (Some request) pending h = h
waits_on s esi events (Some asked) old new None pending h = h
waits_on s esi events (Some asked) old new (Some request) pending h = λ tag named spaced. pending s esi events tag request (h tag named spaced)
