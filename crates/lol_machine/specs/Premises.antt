-- What the clauses of a call are said for: the events and tags that it may be a call for.
use Rattle.std.specs.Prelude.{ℕ, ◌≡◌, Bool, true, List}
use Rattle.lol_base.specs.LocalNames.{Name}
use Rattle.lol_base.specs.StartTags.{StartTag}
use Rattle.lol_base.specs.declared.namespace.Namespace.{Namespace}
use Rattle.lol_base.specs.declared.start_tag.AuxStartTagInfo.{AuxStartTagInfo}
use Rattle.lol_memory.specs.Ids.{Ids}
use Rattle.lol_program.specs.Paths.{Selectors}
use Rattle.lol_instructions.specs.Tests.{Element}
use Rattle.lol_machine.specs.Events.{Event}
use Rattle.lol_machine.specs.Vms.{Vm, Stands, HasOpen, IsNameOf, IsTagOf, IsPending, IsRestOf}
use Rattle.lol_machine.specs.declared.error.AuxStartTagInfoRequest.{AuxStartTagInfoRequest}

module _ {E : Type 0} (vm : Vm E) where
  -- For all events that the machine stands for, with their selectors and ESI switch.
  abbrev pub ForEvents : (Selectors → Bool → List Event → Type 0) → Type 0
  ForEvents holds = (s : Selectors) (esi : Bool) (events : List Event) → Stands s esi vm events → holds s esi events

  -- For all events that it stands for, and each start tag of this name and namespace.
  abbrev pub ForTagOf : Name → Namespace → (Selectors → Bool → List Event → StartTag → Type 0) → Type 0
  ForTagOf name ns holds =
      (s : Selectors) (esi : Bool) (events : List Event) (tag : StartTag)
      → Stands s esi vm events → IsTagOf name ns tag → holds s esi events tag

  -- The same of each tag of which this is the rest.
  abbrev pub ForHandedOf :
      Name → Namespace → AuxStartTagInfo → (Selectors → Bool → List Event → StartTag → Type 0) → Type 0
  ForHandedOf name ns aux holds =
      (s : Selectors) (esi : Bool) (events : List Event) (tag : StartTag)
      → Stands s esi vm events → IsTagOf name ns tag → IsRestOf aux tag → holds s esi events tag

  -- The same of each tag, and where its attributes were asked for, of those that these are the rest of.
  abbrev pub ForAskedOf :
      Name → Namespace → Bool → AuxStartTagInfo → (Selectors → Bool → List Event → StartTag → Type 0) → Type 0
  ForAskedOf name ns asked aux holds =
      (s : Selectors) (esi : Bool) (events : List Event) (tag : StartTag)
      → Stands s esi vm events → IsTagOf name ns tag → (asked ≡ true → IsRestOf aux tag) → holds s esi events tag

  -- For its open elements, the innermost first, and the bytes of an end tag's name.
  abbrev pub ForEndOf : Name → (List Element → List ℕ → Type 0) → Type 0
  ForEndOf name holds =
      (elements : List Element) (bytes : List ℕ) → IsNameOf name bytes → HasOpen vm elements → holds elements bytes

  module _ (ids_of : E → Ids) (request : AuxStartTagInfoRequest E) where
    -- For each start tag whose request this is, and the events before it.
    abbrev pub ForPending : (Selectors → Bool → List Event → StartTag → Type 0) → Type 0
    ForPending holds =
        (s : Selectors) (esi : Bool) (events : List Event) (tag : StartTag)
        → IsPending ids_of s esi events tag vm request → holds s esi events tag

    -- The same of each tag of which this is the rest.
    abbrev pub ForRestOf : AuxStartTagInfo → (Selectors → Bool → List Event → StartTag → Type 0) → Type 0
    ForRestOf aux holds =
        (s : Selectors) (esi : Bool) (events : List Event) (tag : StartTag)
        → IsPending ids_of s esi events tag vm request → IsRestOf aux tag → holds s esi events tag
