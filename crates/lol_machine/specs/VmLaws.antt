-- What those who go tag by tag rely on.
use Rattle.std.specs.Prelude.{◌≡◌, ◌≤◌, ◌+◌, ◌-◌, Bool, List, [], ◌∷◌, ◌++◌, length, slice_get, slice_set}
use Rattle.std.specs.Option.{option_map}
use Rattle.lol_base.specs.StartTags.{StartTag}
use Rattle.lol_memory.specs.Ids.{Ids}
use Rattle.lol_memory.specs.Slots.{slots}
use Rattle.lol_stack.specs.Stacks.{items_in, last_count}
use Rattle.lol_program.specs.Paths.{Path, Selectors}
use Rattle.lol_program.specs.Programs.{IsProgramOf}
use Rattle.lol_program.specs.ProgramViews.{program_shown}
use Rattle.lol_instructions.specs.Tests.{Element}
use Rattle.lol_machine.specs.Answers.{attribute_tries, document, name_tries}
use Rattle.lol_machine.specs.Documents.{element_of}
use Rattle.lol_machine.specs.Events.{Event, Start}
use Rattle.lol_machine.specs.Machines.{HoldOnce, LeftMatches}
use Rattle.lol_machine.specs.Refusals.{longest}
use Rattle.lol_machine.specs.Standing.{unfinished}
use Rattle.lol_machine.specs.VmLending.{with_current_in}
use Rattle.lol_machine.specs.Vms.{Vm, Stands, HasOpen, IsPending, IsTriedAtMost, data_in, program_in, ranges_to_try, stack_in, tries_in, slots_charged, slot_bytes}
use Rattle.lol_machine.specs.declared.error.AuxStartTagInfoRequest.{AuxStartTagInfoRequest}

-- What a caller writes into the data of the last open element changes neither which events the machine stands for, and so no later
-- report, nor which elements are open.
abbrev pub DataChangeNothing : Type 0 → Type 0
DataChangeNothing E =
    (s : Selectors) (esi : Bool) (vm : Vm E) (events : List Event) (w : E) → Stands s esi vm events
    → Stands s esi (with_current_in vm w) events

abbrev pub DataKeepOpen : Type 0 → Type 0
DataKeepOpen E =
    (vm : Vm E) (elements : List Element) (w : E) → HasOpen vm elements → HasOpen (with_current_in vm w) elements

-- The same while a request is open: finishing its tag answers the same.
abbrev pub DataKeepRequests : Type 0 → Type 0
DataKeepRequests E =
    (ids_of : E → Ids) (s : Selectors) (esi : Bool) (events : List Event) (tag : StartTag) (vm : Vm E)
    (request : AuxStartTagInfoRequest E) (w : E) → IsPending ids_of s esi events tag vm request
    → IsPending ids_of s esi events tag (with_current_in vm w) request

-- What is lent of a machine are the data of the last open element, and where they change no others do.
abbrev pub LastDataAreLent : Type 0 → Type 0
LastDataAreLent E =
    (vm : Vm E)
    → option_map (λ item. item.element_data) (slice_get (items_in (stack_in vm)) (length (items_in (stack_in vm)) - 1))
    ≡ slice_get (data_in vm) (length (data_in vm) - 1)

abbrev pub LastDataChange : Type 0 → Type 0
LastDataChange E =
    (vm : Vm E) (w : E) → data_in (with_current_in vm w) ≡ slice_set (data_in vm) (length (data_in vm) - 1) w

-- A machine whose request is dropped stands for the events with the tag dropped.
abbrev pub PendingStands : Type 0 → Type 0
PendingStands E =
    (ids_of : E → Ids) (s : Selectors) (esi : Bool) (events : List Event) (tag : StartTag) (vm : Vm E)
    (request : AuxStartTagInfoRequest E) → IsPending ids_of s esi events tag vm request
    → Stands s esi vm (events ++ Start (unfinished tag) ∷ [])

-- A machine that stands for events has their open elements.
abbrev pub StandingHasOpen : Type 0 → Type 0
StandingHasOpen E =
    (s : Selectors) (esi : Bool) (vm : Vm E) (events : List Event) → Stands s esi vm events
    → HasOpen vm (document s esi events).open_elements

-- A machine that stands for events has an item for each of their open elements, and has counted the children before the next element.
abbrev pub StandingCounts : Type 0 → Type 0
StandingCounts E =
    (s : Selectors) (esi : Bool) (vm : Vm E) (events : List Event) → Stands s esi vm events
    → (length (items_in (stack_in vm)) ≡ length (document s esi events).open_elements)
    × ((tag : StartTag) → (element_of (document s esi events) tag).position ≡ last_count (stack_in vm) + 1)

-- While a request is open, no more nodes were tried for its tag than the definition tries.
abbrev pub RequestsTryAtMost : Type 0 → Type 0
RequestsTryAtMost E =
    (ids_of : E → Ids) (s : Selectors) (esi : Bool) (events : List Event) (tag : StartTag) (vm : Vm E)
    (request : AuxStartTagInfoRequest E) → IsPending ids_of s esi events tag vm request
    → IsTriedAtMost s esi events tag (tries_in vm)

-- The slots that are charged are those of the greatest depth so far, and of nothing else.
abbrev pub SlotsAreOfDepth : Type 0 → Type 0
SlotsAreOfDepth E =
    (s : Selectors) (esi : Bool) (vm : Vm E) (events : List Event) → Stands s esi vm events
    → slots_charged vm ≡ slots (slot_bytes vm) (longest s esi events)

-- What a machine is about to run for a start tag: of some paths, whose addresses are those of its program, the address of each whose left part
-- matches exactly once, and no other address.
pub record RunsEachOnce {E : Type 0} (s : Selectors) (vm : Vm E) (outer : List Element) : Type 0 where
  pub paths : List Path
  pub program : IsProgramOf s paths (program_shown (program_in vm))
  pub held : HoldOnce paths (ranges_to_try vm) (LeftMatches outer)

abbrev pub RangesHoldOnce : Type 0 → Type 0
RangesHoldOnce E =
    (s : Selectors) (esi : Bool) (vm : Vm E) (events : List Event) → Stands s esi vm events
    → RunsEachOnce s vm (document s esi events).open_elements

-- No more nodes are tried for their attributes than by their names, and no more by their names than there are.
abbrev pub TriesAreFew : Type 0
TriesAreFew =
    (s : Selectors) (e : Element) (outer : List Element)
    → (attribute_tries s e outer ≤ name_tries s e outer) × (name_tries s e outer ≤ length s.nodes)
