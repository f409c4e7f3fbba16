-- What holds between a matcher's parts.
use Rattle.std.specs.Prelude.{ℕ, ◌+◌, ◌*◌, ◌^◌, ◌≡◌, ◌≤◌, ◌<◌, Bool, true, false, List, [], ◌∷◌, ◌++◌, length, map, Option, Some, None, IsTrue, ◌↔◌, if◌then◌else◌, Vec, vec_capacity}
use Rattle.std.specs.Global.{Global}
use Rattle.lol_base.specs.StartTags.{StartTag}
use Rattle.lol_base.specs.declared.namespace.Namespace.{Namespace}
use Rattle.lol_base.specs.declared.start_tag.AuxStartTagInfo.{AuxStartTagInfo}
use Rattle.lol_memory.specs.Ids.{Ids}
use Rattle.lol_memory.specs.Limiter.{Limiter}
use Rattle.lol_memory.specs.declared.match_info.MatchInfo.{MatchInfo}
use Rattle.lol_instructions.specs.Tests.{Element}
use Rattle.lol_program.specs.Paths.{Selectors}
use Rattle.lol_machine.specs.Answers.{document, is_dropped}
use Rattle.lol_machine.specs.Documents.{children_of, element_of}
use Rattle.lol_machine.specs.Events.{Event, Start, has_content}
use Rattle.lol_machine.specs.Refusals.{Allowance, greatest_count}
use Rattle.lol_machine.specs.ReportRoom.{HoldsEachReport}
use Rattle.lol_machine.specs.Views.{selectors}
use Rattle.lol_machine.specs.Vms.{Vm, Stands, HasOpen, IsPending, IsRestOf, data_in, is_asked_for, slots_charged, slot_bytes, tries_in}
use Rattle.lol_machine.specs.declared.error.AuxStartTagInfoRequest.{AuxStartTagInfoRequest}
use Rattle.lol_matcher.specs.Answering.{IsReportedUnder, KeepsOne, with_last_number}
use Rattle.lol_matcher.specs.Last.{IsLast}
use Rattle.lol_matcher.specs.Refusing.{allowance, refusal_after}
use Rattle.lol_matcher.specs.Told.{History, elements_of, heard, in_word, numbers_open}
use Rattle.lol_matcher.specs.declared.error.MatcherError.{MatcherError}
use Rattle.lol_matcher.specs.declared.error.MatcherError.TheVariants.{MemoryLimitExceeded, Memory, CounterFull, Failed, NotAsked, OutsideInput}
use Rattle.lol_matcher.specs.declared.open_element.OpenElement.{OpenElement}
use Rattle.lol_matcher.specs.declared.tags.Answered.{Answered}
use Rattle.lol_matcher.specs.declared.tags.Answered.TheVariants.{Reported, Asked}

abbrev pub ids_of : {T : Type 0} → OpenElement T → Ids
ids_of element = element.matched_ids

-- a limiter whose usage is a machine's charge
abbrev pub IsCharged : {E : Type 0} → Vm E → Limiter → Type 0
IsCharged vm limiter = limiter.usage ≡ slots_charged vm * slot_bytes vm

-- A machine stands for events, none of which was to be refused, and a limiter is charged for it alone, within its maximum.
pub record Runs {E : Type 0} (s : Selectors) (esi : Bool) (events : List Event) (vm : Vm E) (limiter : Limiter) : Type 0 where
  pub stands : Stands s esi vm events
  pub some : 1 ≤ slot_bytes vm
  pub word : limiter.maximum < 2 ^ 64
  pub charged : IsCharged vm limiter
  pub within : limiter.usage ≤ limiter.maximum
  pub countable : (parent : Option ℕ) → children_of parent (document s esi events).children ≤ greatest_count

-- what a machine and its limiter may charge
abbrev pub allowed : {E : Type 0} → Vm E → Limiter → Allowance
allowed vm limiter = allowance (slot_bytes vm) limiter.maximum

-- A start tag was answered: it is reported under these, wasn't to be refused, and the machine runs on. Its element is opened under a number
-- exactly if it has content.
pub record IsToldAs {T : Type 0} (s : Selectors) (esi : Bool) (events : List Event) (tag : StartTag) (asked : Bool) (number : ℕ) (opened : Bool) (matched : List MatchInfo) (a : Allowance) (old new : Vm (OpenElement T)) (limiter : Limiter) : Type 0 where
  pub reported : IsReportedUnder s esi events tag asked matched (tries_in new)
  pub fits : refusal_after s esi a events tag ≡ None
  pub runs : Runs s esi (events ++ Start tag ∷ []) new limiter
  pub has_opened : opened ≡ has_content esi tag
  pub kept : KeepsOne (has_content esi tag) number matched (data_in old) (data_in new)

-- Its attributes are asked for: as it is, the tag wasn't to be refused, and the machine runs on as if it had been dropped.
pub record IsAskedFor {T : Type 0} (s : Selectors) (esi : Bool) (events : List Event) (tag : StartTag) (a : Allowance) (vm : Vm (OpenElement T)) (limiter : Limiter) (request : AuxStartTagInfoRequest (OpenElement T)) : Type 0 where
  pub pending : IsPending ids_of s esi events tag vm request
  pub fits : tag.finish ≡ false → refusal_after s esi a events tag ≡ None
  pub runs : tag.finish ≡ false → Runs s esi (events ++ Start tag ∷ []) vm limiter

-- A machine runs over events and a start tag that was dropped.
pub record RunsPast {E : Type 0} (s : Selectors) (esi : Bool) (events : List Event) (vm : Vm E) (limiter : Limiter) : Type 0 where
  pub tag : StartTag
  pub dropped : is_dropped s (element_of (document s esi events) tag) (document s esi events).open_elements ≡ true
  pub runs : Runs s esi (events ++ Start tag ∷ []) vm limiter

-- what refuses a tag, and all that come later
abbrev pub IsRefusal : MatcherError → Type 0
IsRefusal MemoryLimitExceeded = Unit {0}
IsRefusal Memory = Unit {0}
IsRefusal CounterFull = Unit {0}
IsRefusal Failed = ⊥
IsRefusal NotAsked = ⊥
IsRefusal OutsideInput = ⊥

-- it is answered, or its attributes are asked for
abbrev pub Tells : {T : Type 0} → Selectors → Bool → List Event → StartTag → ℕ → Answered T → List MatchInfo → Allowance → Vm (OpenElement T) → Vm (OpenElement T) → Limiter → Type 0
Tells s esi events tag number (Reported opened) matched a old new limiter = IsToldAs s esi events tag false number opened matched a old new limiter
Tells s esi events tag number (Asked request) matched a old new limiter = IsAskedFor s esi events tag a new limiter request × (data_in new ≡ data_in old)

-- This holds of each start tag of a name and a namespace, after whatever events a machine runs over.
abbrev pub ForTag : {E : Type 0} → Vm E → Limiter → List ℕ → Namespace → (Selectors → Bool → List Event → StartTag → Type 0) → Type 0
ForTag vm limiter name ns holds =
    (s : Selectors) (esi : Bool) (events : List Event) (tag : StartTag) → Runs s esi events vm limiter → tag.name ≡ name → tag.namespace ≡ ns → holds s esi events tag

-- The same of each that has these attributes.
abbrev pub ForHandedTag : {E : Type 0} → Vm E → Limiter → List ℕ → Namespace → AuxStartTagInfo → (Selectors → Bool → List Event → StartTag → Type 0) → Type 0
ForHandedTag vm limiter name ns aux holds = ForTag vm limiter name ns (λ s esi events tag. IsRestOf aux tag → holds s esi events tag)

-- This holds of each start tag that a request is made for and that has these attributes, after whatever events a machine ran over before it.
abbrev pub ForRequest : {T : Type 0} → Vm (OpenElement T) → Limiter → AuxStartTagInfoRequest (OpenElement T) → AuxStartTagInfo → (Selectors → Bool → List Event → StartTag → Type 0) → Type 0
ForRequest vm limiter request aux holds =
    (s : Selectors) (esi : Bool) (events : List Event) (tag : StartTag)
    → RunsPast s esi events vm limiter → IsPending ids_of s esi events tag vm request → IsRestOf aux tag → holds s esi events tag

-- The elements that were open are open.
abbrev pub KeepsOpen : {E : Type 0} → Vm E → Vm E → Type 0
KeepsOpen old new = (elements : List Element) → HasOpen old elements → HasOpen new elements

-- Only what is kept of the open elements changes: the machine stands for the same events, and goes on alike.
pub record KeepsRunning {E : Type 0} (old new : Vm E) : Type 0 where
  pub stands : (s : Selectors) (esi : Bool) (events : List Event) → Stands s esi old events → Stands s esi new events
  pub has_open : KeepsOpen old new
  pub tries : tries_in new ≡ tries_in old
  pub slots : slots_charged new ≡ slots_charged old
  pub bytes : slot_bytes new ≡ slot_bytes old

-- The last open element has this number and no value, where more elements are open than before.
pub record NumbersOpened {T : Type 0} (before number : ℕ) (more : Bool) (old new : Vm (OpenElement T)) : Type 0 where
  pub opened : IsTrue more ↔ (before < length (data_in old))
  pub kept : data_in new ≡ (if more then with_last_number number (data_in old) else data_in old)
  pub running : KeepsRunning old new

-- how many tags were told, with one that waits
abbrev pub count_with : {R : Type 0} → Option R → ℕ → ℕ
count_with None count = count
count_with (Some request) count = in_word (count + 1)

-- A request waits exactly where a tag does: for each tag of its name and namespace, whatever its rest is.
abbrev pub Waits : {T : Type 0} → Selectors → Bool → List Event → Option (List ℕ × Namespace) → Vm (OpenElement T) → Option (AuxStartTagInfoRequest (OpenElement T)) → Type 0
Waits s esi events None vm None = Unit {0}
Waits s esi events None vm (Some request) = ⊥
Waits s esi events (Some asked) vm None = ⊥
Waits s esi events (Some asked) vm (Some request) = (tag : StartTag) → tag.name ≡ asked.0 → tag.namespace ≡ asked.1 → IsPending ids_of s esi events tag vm request

-- What holds between a matcher's parts: the limiter is charged for the machine alone, which has the open elements, each with its number. Until a
-- tag is refused the machine runs over what was heard, with a request where a tag waits, these elements are open, there is room for each report,
-- the tags but for one that waits are counted, and the last of them was answered so.
pub record Keeps {T : Type 0} (history : History) (failed : Bool) (vm : Vm (OpenElement T)) (request : Option (AuxStartTagInfoRequest (OpenElement T))) (matches : Vec MatchInfo Global) (limiter : Limiter) (count : ℕ) (opened : Bool) : Type 0 where
  pub charged : IsCharged vm limiter
  pub has_open : HasOpen vm history.open_elements
  pub numbered : map (λ element. element.number) (data_in vm) ≡ numbers_open history.open_elements
  pub runs : failed ≡ false → Runs (selectors history.told.ast) history.told.esi (heard history.told) vm limiter
  pub waits : failed ≡ false → Waits (selectors history.told.ast) history.told.esi history.told.events history.told.asked vm request
  pub told_open : failed ≡ false → history.open_elements ≡ elements_of history.told
  pub room : failed ≡ false → HoldsEachReport (selectors history.told.ast) (vec_capacity matches)
  pub counted : failed ≡ false → count ≡ in_word (length history.told.events)
  pub last : failed ≡ false → IsLast (selectors history.told.ast) history.told matches.items (tries_in vm) opened
  pub silent : failed ≡ true → matches.items ≡ []
