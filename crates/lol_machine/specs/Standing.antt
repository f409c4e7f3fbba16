-- When a program and a stack stand for events.
use Rattle.std.specs.Prelude.{ℕ, suc, ◌≡◌, ◌≤◌, ◌<◌, Bool, true, false, if◌then◌else◌, List, [], ◌∷◌, map, length, Option, Some, None}
use Rattle.lol_base.specs.LocalNames.{Name, local_name}
use Rattle.lol_base.specs.Names.{lowercased}
use Rattle.lol_base.specs.StartTags.{StartTag}
use Rattle.lol_memory.specs.Slots.{slots}
use Rattle.lol_instructions.specs.Counters.{full_count}
use Rattle.lol_instructions.specs.Tests.{Element}
use Rattle.lol_program.specs.Paths.{Path, Selectors}
use Rattle.lol_program.specs.Programs.{Program, IsProgramOf}
use Rattle.lol_stack.specs.SoundStacks.{IsSound}
use Rattle.lol_stack.specs.Stacks.{counted_in, item_bytes_in, items_in, last_count, root_count, slots_in, typed_count, typed_in}
use Rattle.lol_stack.specs.TypedCounts.{TypedCount}
use Rattle.lol_stack.specs.TypedLaws.{StandUpTo, typed_of}
use Rattle.lol_stack.specs.declared.stack.StackNames.{StackNames}
use Rattle.lol_stack.specs.declared.stack.StackOf.{StackOf}
use Rattle.lol_machine.specs.Answers.{document}
use Rattle.lol_machine.specs.Documents.{Document, Child, element_of, children_of, typed_children_of}
use Rattle.lol_machine.specs.Events.{Event}
use Rattle.lol_machine.specs.Machines.{AreItems, children_shown, items_shown}
use Rattle.lol_machine.specs.Refusals.{longest}

-- 1. Counters

-- Counters by type have counted the children of each name, of the root at level 0, and of the open elements at the levels after it, from
-- the outermost on.
abbrev pub AreTyped : List TypedCount → List Child → List Element → Type 0
AreTyped ts children [] = (name : List ℕ) → typed_of ts 0 (lowercased name) ≡ typed_children_of None name children
AreTyped ts children (e ∷ outer) =
    ((name : List ℕ) → typed_of ts (suc (length outer)) (lowercased name) ≡ typed_children_of (Some e.number) name children)
    × AreTyped ts children outer

-- they are kept where a program asks for it, at no level above that of the innermost element
abbrev pub AreTypedIf : Option (List TypedCount) → Bool → List Child → List Element → Type 0
AreTypedIf None by_type children elements = by_type ≡ false
AreTypedIf (Some ts) by_type children elements =
    (by_type ≡ true) × StandUpTo (length elements) ts × AreTyped ts children elements

-- A stack has counted the children of the root and of the open elements.
pub record HasCounted {E : Type 0} (stack : StackOf Name StackNames E) (by_type : Bool) (d : Document) : Type 0 where
  pub root : root_count stack ≡ children_of None d.children
  pub children : children_shown (items_in stack) ≡ map (λ e. children_of (Some e.number) d.children) d.open_elements
  pub typed : AreTypedIf (typed_in stack) by_type d.children d.open_elements

-- 2. Standing

-- A program and a stack stand on a document. The program is one of the selectors, where its addresses are those of these paths. The stack's
-- lists, items and counters are those of the open elements, and its slots those of the most elements that were open at a time.
pub record StandsOn {E : Type 0} (s : Selectors) (paths : List Path) (p : Program) (stack : StackOf Name StackNames E) (d : Document) (most : ℕ) : Type 0 where
  pub program : IsProgramOf s paths p
  pub sound : IsSound stack
  pub items : AreItems paths p (items_shown (items_in stack)) d.open_elements
  pub counted : HasCounted stack p.by_type d
  pub charged : slots_in stack ≡ slots (item_bytes_in stack) most

-- They stand for events.
abbrev pub StandsFor : {E : Type 0} → Selectors → Bool → List Path → Program → StackOf Name StackNames E → List Event → Type 0
StandsFor s esi paths p stack events = StandsOn s paths p stack (document s esi events) (longest s esi events)

-- 3. Over events

-- the numbers of open elements fall from the innermost outward, and are below a bound
abbrev pub Descend : ℕ → List Element → Type 0
Descend bound [] = Unit {0}
Descend bound (e ∷ outer) = (e.number < bound) × Descend e.number outer

-- What is so of every document of events.
pub record IsOrdered (d : Document) (most : ℕ) : Type 0 where
  pub numbers : Descend d.events d.open_elements
  pub fresh : (n : ℕ) → d.events ≤ n → (children_of (Some n) d.children ≡ 0) × ((name : List ℕ) → typed_children_of (Some n) name d.children ≡ 0)
  pub enough : length d.open_elements ≤ most

abbrev pub DocumentsAreOrdered : Type 0
DocumentsAreOrdered =
    (s : Selectors) (esi : Bool) (events : List Event) → IsOrdered (document s esi events) (longest s esi events)

-- The counters of a stack that counts a start tag are its element's positions; those by type where the parent's counter isn't full.
abbrev pub CountersArePositions : Type 0 → Type 0
CountersArePositions E =
    (stack : StackOf Name StackNames E) (by_type : Bool) (d : Document) (tag : StartTag) → HasCounted stack by_type d
    → (last_count (counted_in stack (local_name tag.name)) ≡ (element_of d tag).position)
    × (last_count stack < full_count
    → typed_count (counted_in stack (local_name tag.name)) (local_name tag.name)
    ≡ (if by_type then Some (element_of d tag).typed_position else None))

-- 4. Requests

-- the tag as the event of a request that isn't finished
abbrev pub unfinished : StartTag → StartTag
unfinished tag = record { name = tag.name; namespace = tag.namespace; attributes = tag.attributes; self_closing = tag.self_closing; finish = false }
