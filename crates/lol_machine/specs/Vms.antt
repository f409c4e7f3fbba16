-- When a machine stands for the events that it was told of, and how it answers one more.
use Rattle.std.specs.Prelude.{ℕ, ◌+◌, ◌-◌, ◌*◌, ◌≤◌, ◌≡◌, ◌↔◌, Bool, true, false, not, if◌then◌else◌, List, [], ◌∷◌, ◌++◌, map, length, Option, Some, None, Result, Ok, Err}
use Rattle.std.specs.declared.ops.Range.{Range}
use Rattle.lol_base.specs.LocalNames.{Name, local_name}
use Rattle.lol_base.specs.StartTags.{StartTag, attributes_of}
use Rattle.lol_base.specs.declared.namespace.Namespace.{Namespace}
use Rattle.lol_base.specs.declared.start_tag.AuxStartTagInfo.{AuxStartTagInfo}
use Rattle.lol_memory.specs.Ids.{Ids, ascending}
use Rattle.lol_memory.specs.Limiter.{Limiter, charged}
use Rattle.lol_memory.specs.declared.match_info.MatchInfo.{MatchInfo}
use Rattle.lol_instructions.specs.Compiled.{sight_of}
use Rattle.lol_program.specs.Paths.{Path, Selectors}
use Rattle.lol_program.specs.Programs.{AreClosed, all_addresses}
use Rattle.lol_program.specs.ProgramViews.{program_shown}
use Rattle.lol_machine.specs.KeyTries.{asks_at_once, node_keys}
use Rattle.lol_machine.specs.SparedRuns.{IsSparing, ranges_before}
use Rattle.lol_instructions.specs.Tests.{Element, is_html}
use Rattle.lol_instructions.specs.Tries.{names_counted, attributes_counted}
use Rattle.lol_program.specs.declared.program.Program.{Program}
use Rattle.lol_instructions.specs.declared.tries.Tries.{Tries}
use Rattle.lol_instructions.specs.declared.instruction.Instruction.{Instruction}
use Rattle.lol_machine.specs.Answers.{report, name_tries, attribute_tries, Match, Started, answer, asks, document}
use Rattle.lol_stack.specs.Calls.{IsCalledAtEach}
use Rattle.lol_machine.specs.Documents.{Document, element_of, index_of, outer_part}
use Rattle.lol_machine.specs.Events.{Event, Start, has_content}
use Rattle.lol_machine.specs.AddressRuns.{Gathers, Context, no_context}
use Rattle.lol_machine.specs.MachineLaws.{IsRequest}
use Rattle.lol_stack.specs.Stacks.{items_in, element_data_of, slots_in, item_bytes_in, IsPushed}
use Rattle.lol_machine.specs.Standing.{StandsOn, IsOrdered, StandsFor, unfinished}
use Rattle.lol_machine.specs.TagRuns.{sight_in, ranges_to_run_in, ranges_left, IsPointIn, tried_at}
use Rattle.lol_machine.specs.declared.error.AuxStartTagInfoRequest.{AuxStartTagInfoRequest}
use Rattle.lol_machine.specs.declared.error.VmError.{VmError}
use Rattle.lol_machine.specs.declared.error.VmError.TheVariants.{InfoRequest, MemoryLimitExceeded, Memory, CounterFull, Failed}
use Rattle.lol_stack.specs.declared.execution_ctx.ExecutionCtx.{ExecutionCtx}
use Rattle.lol_stack.specs.declared.stack_item.StackItemOf.{StackItemOf}
use Rattle.lol_stack.specs.declared.stack.StackOf.{StackOf}
use Rattle.lol_stack.specs.declared.stack.StackNames.{StackNames}
use Rattle.lol_machine.specs.declared.tag_runs.RecoveryPoint.{RecoveryPoint}
use Rattle.lol_machine.specs.declared.tag_runs.RecoveryPoint.TheVariants.{AtOnce, At}
use Rattle.lol_machine.specs.declared.vm.VmOf.{VmOf}

abbrev pub Vm : Type 0 → Type 0
Vm E = VmOf Program Name StackNames E

-- 1. The parts of a machine

module _ {P N M E : Type 0} where
  abbrev pub program_in : VmOf P N M E → P
  program_in vm = vm.program

  abbrev pub stack_in : VmOf P N M E → StackOf N M E
  stack_in vm = vm.stack

  abbrev pub tries_in : VmOf P N M E → Tries
  tries_in vm = vm.tries

  -- whether a tag was refused
  abbrev pub has_failed : VmOf P N M E → Bool
  has_failed vm = vm.failed

module _ {E : Type 0} where
  -- the data of the open elements, the outermost first
  abbrev pub data_in : Vm E → List E
  data_in vm = element_data_of (items_in vm.stack)

  abbrev pub slots_charged : Vm E → ℕ
  slots_charged vm = slots_in vm.stack

  abbrev pub slot_bytes : Vm E → ℕ
  slot_bytes vm = item_bytes_in vm.stack

  abbrev pub instructions_in : Vm E → List Instruction
  instructions_in vm = vm.program.instructions.items

  -- what a start tag is run through, but for what rows spare
  abbrev pub ranges_to_try : Vm E → List (Range ℕ)
  ranges_to_try vm = ranges_to_run_in vm.program vm.stack

  -- what a start tag of a name whose run stopped at a point was run through
  abbrev pub ranges_tried : Vm E → Name → RecoveryPoint → List (Range ℕ)
  ranges_tried vm name point = ranges_before vm.program name.lowercased (ranges_to_try vm) point

-- 2. Standing

-- A machine stands for events: its program and its stack do, with selectors and the ESI switch.
pub record Stands {E : Type 0} (s : Selectors) (esi : Bool) (vm : Vm E) (events : List Event) : Type 0 where
  pub paths : List Path
  pub closed : AreClosed s
  pub standing : StandsFor s esi paths (program_shown vm.program) vm.stack events
  pub switch : vm.enable_esi_tags ≡ esi
  pub unfailed : vm.failed ≡ false
  pub sparing : IsSparing s vm.program vm.space

-- It has these open elements, the innermost first: what it keeps stands on a document that has them. This survives a refusal.
pub record HasOpen {E : Type 0} (vm : Vm E) (elements : List Element) : Type 0 where
  pub selectors : Selectors
  pub paths : List Path
  pub document : Document
  pub most : ℕ
  pub standing : StandsOn selectors paths (program_shown vm.program) vm.stack document most
  pub ordered : IsOrdered document most
  pub same : document.open_elements ≡ elements

-- 3. Parts of the calls

module _ {E : Type 0} where
  abbrev pub with_failure : Vm E → Vm E
  with_failure vm = record vm { failed = true }

  -- a request that owns the context, or memory was refused for that
  abbrev pub IsRequested : ExecutionCtx E → RecoveryPoint → Vm E → Vm E → Result (Unit {0}) (VmError E) → Type 0
  IsRequested ctx point old new (Ok done) = ⊥
  IsRequested ctx point old new (Err (InfoRequest request)) = (request ≡ record { ctx = ctx; point = point }) × (new ≡ old)
  IsRequested ctx point old new (Err (MemoryLimitExceeded error)) = ⊥
  IsRequested ctx point old new (Err (Memory error)) = new ≡ with_failure old
  IsRequested ctx point old new (Err CounterFull) = ⊥
  IsRequested ctx point old new (Err Failed) = ⊥

  -- an element with content is opened
  abbrev pub IsEntered : Bool → StackItemOf Name E → Vm E → Vm E → Type 0
  IsEntered false item old new = new ≡ old
  IsEntered true item old new = IsPushed old.stack item new.stack × (new ≡ record old { stack = new.stack })

-- 4. Start tags

abbrev pub IsNameOf : Name → List ℕ → Type 0
IsNameOf name bytes = name ≡ local_name bytes

abbrev pub IsTagOf : Name → Namespace → StartTag → Type 0
IsTagOf name ns tag = IsNameOf name tag.name × (tag.namespace ≡ ns)

-- the rest of a tag that is handed over
abbrev pub IsRestOf : AuxStartTagInfo → StartTag → Type 0
IsRestOf aux tag = (tag.attributes ≡ attributes_of aux) × (tag.self_closing ≡ aux.self_closing) × (tag.finish ≡ true)

-- where nodes are spared by keys, how many are tried depends on the rest of a tag: this is it
abbrev pub NeedsRest : Selectors → AuxStartTagInfo → StartTag → Type 0
NeedsRest s aux tag = s.by_keys ≡ true → IsRestOf aux tag

-- each answer but a request refuses the tag, and all that come later
abbrev pub IsRefusal : {E : Type 0} → VmError E → Type 0
IsRefusal (InfoRequest request) = ⊥
IsRefusal (MemoryLimitExceeded error) = Unit {0}
IsRefusal (Memory error) = Unit {0}
IsRefusal CounterFull = Unit {0}
IsRefusal Failed = Unit {0}

-- what is answered before anything is reported
abbrev pub IsSilent : {E : Type 0} → VmError E → Type 0
IsSilent (InfoRequest request) = Unit {0}
IsSilent (MemoryLimitExceeded error) = ⊥
IsSilent (Memory error) = ⊥
IsSilent CounterFull = Unit {0}
IsSilent Failed = Unit {0}

-- the elements that stay open after an end tag
abbrev pub open_after : List ℕ → List Element → List Element
open_after name elements = outer_part (index_of name elements) elements

abbrev pub info_of : Match → MatchInfo
info_of m = record { match_id = m.id; with_content = m.with_content }

-- what is gathered for an element with content, or for one without
abbrev pub content_of : Bool → Context → Context
content_of true context = context
content_of false context = record { ids = context.ids; jumps = []; hereditary_jumps = [] }

-- whether an element has content, once it is known whether its tag closes itself: that counts outside HTML alone
abbrev pub content_in : Namespace → Bool → Bool → Bool
content_in ns with_content self_closing = if is_html ns then with_content else not self_closing

-- whether nothing was run before a request
abbrev pub is_at_once : RecoveryPoint → Bool
is_at_once AtOnce = true
is_at_once (At stop) = false

-- where a request goes on: at once with nothing gathered, which outside HTML is always so; what is known of its content
abbrev pub GoesOnAt : Bool → Bool → Context → RecoveryPoint → Bool → Type 0
GoesOnAt html content context AtOnce with_content = (context ≡ no_context) × (with_content ≡ (if html then content else true))
GoesOnAt html content context (At stop) with_content = (html ≡ true) × (with_content ≡ content)

-- whether the attributes of a start tag after events are asked for
abbrev pub is_asked_for : Selectors → Bool → List Event → StartTag → Bool
is_asked_for s esi events tag = asks s (element_of (document s esi events) tag) (document s esi events).open_elements

-- The handler was called with exactly a start tag's report, in order, and so many nodes were tried as the definition says.
pub record IsReported {F : Type 0} (step : F → MatchInfo → Unit {0} → F → Type 0) (s : Selectors) (esi : Bool) (events : List Event) (tag : StartTag) (asked : Bool) (tries : Tries) (f g : F) : Type 0 where
  pub asks : asks s (element_of (document s esi events) tag) (document s esi events).open_elements ≡ asked
  pub called : IsCalledAtEach step f (map info_of (report s esi (element_of (document s esi events) tag) (document s esi events).open_elements)) g
  pub names : names_counted tries ≡ name_tries s (element_of (document s esi events) tag) (document s esi events).open_elements
  pub attributes : attributes_counted tries ≡ attribute_tries s (element_of (document s esi events) tag) (document s esi events).open_elements

-- No more nodes were tried for a start tag than the definition tries.
pub record IsTriedAtMost (s : Selectors) (esi : Bool) (events : List Event) (tag : StartTag) (tries : Tries) : Type 0 where
  pub names : names_counted tries ≤ name_tries s (element_of (document s esi events) tag) (document s esi events).open_elements
  pub attributes : attributes_counted tries ≤ attribute_tries s (element_of (document s esi events) tag) (document s esi events).open_elements

module _ {E : Type 0} (ids_of : E → Ids) where
  -- An element with content comes last, whose data hold exactly the ids that it is reported under; no other data change.
  abbrev pub AreOpened : Bool → List Match → List E → List E → Type 0
  AreOpened false matched old new = new ≡ old
  AreOpened true matched old new = (w : E) × (new ≡ old ++ w ∷ []) × (ascending (ids_of w) ≡ map (λ m. m.id) matched)

  -- A start tag is answered: the handler was called with exactly its report, in order, the tries are those of the definition, and the
  -- machine stands for the events with this one.
  pub record IsAnswered {F : Type 0} (step : F → MatchInfo → Unit {0} → F → Type 0) (s : Selectors) (esi : Bool) (events : List Event) (tag : StartTag) (asked : Bool) (old new : Vm E) (f g : F) : Type 0 where
    pub matched : List Match
    pub answered : answer s esi (document s esi events) (Start tag) ≡ Started matched asked (names_counted new.tries) (attributes_counted new.tries)
    pub reported : IsCalledAtEach step f (map info_of matched) g
    pub stands : Stands s esi new (events ++ Start tag ∷ [])
    pub opened : AreOpened (has_content esi tag) matched (data_in old) (data_in new)

  -- 5. Requests

  -- The request for the rest of a tag, made by the machine that now stands for the events with the tag dropped.
  pub record IsPending (s : Selectors) (esi : Bool) (events : List Event) (tag : StartTag) (vm : Vm E) (request : AuxStartTagInfoRequest E) : Type 0 where
    pub stands : Stands s esi vm (events ++ Start (unfinished tag) ∷ [])
    pub asks : asks s (element_of (document s esi events) tag) (document s esi events).open_elements ≡ true
    pub at_once : s.by_keys ≡ true → asks_at_once node_keys s.nodes (element_of (document s esi events) tag) (document s esi events).open_elements ≡ is_at_once request.point
    pub context : Context
    pub left : List ℕ
    pub is_request : IsRequest (program_shown vm.program) (is_at_once request.point) true (element_of (document s esi events) tag) (ranges_tried vm request.ctx.stack_item.local_name request.point) context left
    pub named : IsTagOf request.ctx.stack_item.local_name request.ctx.ns tag
    pub sight : sight_in vm.stack request.ctx.stack_item.local_name ≡ sight_of vm.program.enable_nth_of_type (element_of (document s esi events) tag)
    pub childless : request.ctx.stack_item.child_counter ≡ 0
    pub gathered : Gathers ids_of request.ctx.stack_item (content_of request.ctx.with_content context)
    pub goes_on : GoesOnAt (is_html tag.namespace) (has_content esi tag) context request.point request.ctx.with_content
    pub stopped : IsPointIn (instructions_in vm) (ranges_tried vm request.ctx.stack_item.local_name request.point) request.point
    pub addresses_left : left ≡ all_addresses (ranges_left (ranges_tried vm request.ctx.stack_item.local_name request.point) request.point)
    pub names : names_counted vm.tries + length left ≡ length (all_addresses (ranges_tried vm request.ctx.stack_item.local_name request.point)) + tried_at request.point
    pub attributes : attributes_counted vm.tries ≡ 0

-- 6. Charges

-- What a call charged: there are as many slots as before or more, each for as many bytes as before, and the limiter is charged for
-- those that came.
pub record ChargesSlots {E : Type 0} (old new : Vm E) (before now : Limiter) : Type 0 where
  pub grows : slots_charged old ≤ slots_charged new
  pub bytes : slot_bytes new ≡ slot_bytes old
  pub charged : now ≡ charged before ((slots_charged new - slots_charged old) * slot_bytes old)

module _ {E : Type 0} where
  -- the usage holds what a machine is charged for, so that it can be given back
  abbrev pub IsCovered : Vm E → Limiter → Type 0
  IsCovered vm limiter = slots_charged vm * slot_bytes vm ≤ limiter.usage

  -- a limiter that was so before, once all slots of a machine are charged
  abbrev pub IsChargedFor : Limiter → Vm E → Limiter → Type 0
  IsChargedFor before vm limiter = limiter ≡ charged before (slots_charged vm * slot_bytes vm)

-- 7. Refusals

-- the name that a call was told, if it was told one, is one of bytes
abbrev pub HasBytes : Option Name → Type 0
HasBytes None = Unit {0}
HasBytes (Some name) = (bytes : List ℕ) × IsNameOf name bytes

-- A call opened no element: nothing was charged, the slots and the data are as before, and so are the open elements, where a name that it
-- was told is one of bytes.
pub record OpensNothing {E : Type 0} (name : Option Name) (old new : Vm E) (before now : Limiter) : Type 0 where
  pub uncharged : now ≡ before
  pub slots : slots_charged new ≡ slots_charged old
  pub unchanged : data_in new ≡ data_in old
  pub still_open : HasBytes name → (elements : List Element) → HasOpen old elements → HasOpen new elements

-- A call fails exactly if a tag was refused before, and then it changes nothing.
pub record StaysFailed {E : Type 0} (fails : Type 0) (old new : Vm E) : Type 0 where
  pub exactly : fails ↔ (has_failed old ≡ true)
  pub stuck : has_failed old ≡ true → new ≡ old
