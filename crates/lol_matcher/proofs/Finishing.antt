-- A start tag that waited for its attributes, with them.
use Rattle.std.proofs.Common.{◌≡◌, refl, ap, true, List, Option, Some, None, ℕ, subst}
use Rattle.std.specs.Prelude.{◌&&◌}
use Rattle.lol_base.specs.StartTags.{StartTag}
use Rattle.lol_base.specs.declared.namespace.Namespace.{Namespace}
use Rattle.lol_memory.specs.Limiter.{Limiter}
use Rattle.lol_machine.specs.Answers.{document, is_dropped}
use Rattle.lol_machine.specs.Documents.{element_of}
use Rattle.lol_machine.specs.Views.{selectors}
use Rattle.lol_machine.specs.Vms.{Vm, IsPending}
use Rattle.lol_machine.specs.declared.error.AuxStartTagInfoRequest.{AuxStartTagInfoRequest}
use Rattle.lol_matcher.specs.Keeping.{Waits, Runs, RunsPast, ids_of}
use Rattle.lol_matcher.specs.Told.{Told, heard, with_dropped}
use Rattle.lol_matcher.specs.declared.open_element.OpenElement.{OpenElement}
use Rattle.lol_reasons.specs.AskedRuns.{bare_tag}

-- A tag waits, and its request with it.
pub record IsWaiting {T : Type 0} (told : Told) (vm : Vm (OpenElement T)) (request : AuxStartTagInfoRequest (OpenElement T)) : Type 0 where
  pub name : List ℕ
  pub namespace : Namespace
  pub asked : told.asked ≡ Some (name, namespace)
  pub pending : (tag : StartTag) → tag.name ≡ name → tag.namespace ≡ namespace → IsPending ids_of (selectors told.ast) told.esi told.events tag vm request

waiting_with : {T : Type 0} (told : Told) (vm : Vm (OpenElement T)) (request : AuxStartTagInfoRequest (OpenElement T)) (asked : Option (List ℕ × Namespace)) → told.asked ≡ asked → Waits (selectors told.ast) told.esi told.events asked vm (Some request) → IsWaiting told vm request
waiting_with told vm request None is h = absurd h
waiting_with told vm request (Some asked) is h = record { name = asked.0; namespace = asked.1; asked = is; pending = h }

pub waiting : {T : Type 0} (told : Told) (vm : Vm (OpenElement T)) (request : AuxStartTagInfoRequest (OpenElement T)) (waits : Option (AuxStartTagInfoRequest (OpenElement T))) → waits ≡ Some request
    → Waits (selectors told.ast) told.esi told.events told.asked vm waits → IsWaiting told vm request
waiting {T} told vm request waits is h =
    waiting_with told vm request told.asked refl (subst (λ (w : Option (AuxStartTagInfoRequest (OpenElement T))). Waits (selectors told.ast) told.esi told.events told.asked vm w) is h)

-- the machine runs past the tag that waits
pub runs_past : {T : Type 0} (told : Told) (vm : Vm (OpenElement T)) (request : AuxStartTagInfoRequest (OpenElement T)) (limiter : Limiter) → IsWaiting told vm request → Runs (selectors told.ast) told.esi (heard told) vm limiter
    → RunsPast (selectors told.ast) told.esi told.events vm limiter
runs_past told vm request limiter w runs = record {
  tag = bare_tag w.name w.namespace;
  dropped = ap (λ b. b && true) (w.pending (bare_tag w.name w.namespace) refl refl).asks;
  runs = subst (λ (asked : Option (List ℕ × Namespace)). Runs (selectors told.ast) told.esi (with_dropped told.events asked) vm limiter) w.asked runs;
}

-- a tag that waits is dropped as long as it does
pub waits_dropped : {T : Type 0} (told : Told) (vm : Vm (OpenElement T)) (request : Option (AuxStartTagInfoRequest (OpenElement T))) → Waits (selectors told.ast) told.esi told.events told.asked vm request
    → (a : List ℕ × Namespace) → told.asked ≡ Some a
    → is_dropped (selectors told.ast) (element_of (document (selectors told.ast) told.esi told.events) (bare_tag a.0 a.1)) (document (selectors told.ast) told.esi told.events).open_elements ≡ true
waits_dropped {T} told vm request h a is = by_request request (subst (λ (asked : Option (List ℕ × Namespace)). Waits (selectors told.ast) told.esi told.events asked vm request) is h)
  where
    by_request : (request : Option (AuxStartTagInfoRequest (OpenElement T))) → Waits (selectors told.ast) told.esi told.events (Some a) vm request
        → is_dropped (selectors told.ast) (element_of (document (selectors told.ast) told.esi told.events) (bare_tag a.0 a.1)) (document (selectors told.ast) told.esi told.events).open_elements ≡ true
    by_request None h = absurd h
    by_request (Some request) h = ap (λ b. b && true) (h (bare_tag a.0 a.1) refl refl).asks
