-- What a machine shows of the elements around one.
use Rattle.std.specs.Prelude.{ℕ, ◌-◌, ◌≡◌, Bool, true, false, List, [], ◌∷◌, ◌++◌, length, map, reverse, take}
use Rattle.lol_base.specs.LocalNames.{Name}
use Rattle.lol_base.specs.StartTags.{StartTag}
use Rattle.lol_program.specs.Paths.{Path, Selectors}
use Rattle.lol_program.specs.ProgramViews.{program_shown}
use Rattle.lol_stack.specs.Stacks.{items_in}
use Rattle.lol_stack.specs.declared.stack_item.StackItemOf.{StackItemOf}
use Rattle.lol_machine.specs.Answers.{document, report}
use Rattle.lol_machine.specs.Documents.{element_of}
use Rattle.lol_machine.specs.Events.{Event, Start}
use Rattle.lol_machine.specs.Answers.{opens}
use Rattle.lol_machine.specs.Laws.{ids_of}
use Rattle.lol_machine.specs.Machines.{items_shown}
use Rattle.lol_machine.specs.Vms.{Vm, Stands, program_in, stack_in}
use Rattle.lol_reasons.specs.Matched.{IsAround}

-- the items around the element of the last start tag: without its own, if it was opened
abbrev pub items_around : {E : Type 0} → Bool → List (StackItemOf Name E) → List (StackItemOf Name E)
items_around true items = take (length items - 1) items
items_around false items = items

-- A machine that was told of a start tag, last of all, has the items of the elements around that tag's.
abbrev pub MachinesShowAround : Type 0 → Type 0
MachinesShowAround E =
    (s : Selectors) (esi : Bool) (vm : Vm E) (events : List Event) (tag : StartTag) (numbers : List ℕ)
    → Stands s esi vm (events ++ Start tag ∷ [])
    → map (λ e. e.number) (document s esi events).open_elements ≡ reverse numbers
    → (paths : List Path)
    × IsAround s paths (program_shown (program_in vm)) (items_shown (items_around (opens s esi events tag) (items_in (stack_in vm)))) numbers
    (document s esi events).open_elements

-- A machine was told of a start tag, last of all, and reported these ids, ascending. The numbers are that tag's, and those of the elements around
-- its element, the outermost first.
pub record HasReported {E : Type 0} (s : Selectors) (esi : Bool) (events : List Event) (tag : StartTag) (vm : Vm E) (matched : List ℕ) (number : ℕ) (numbers : List ℕ) : Type 0 where
  pub stands : Stands s esi vm (events ++ Start tag ∷ [])
  pub ids_are : matched ≡ ids_of (report s esi (element_of (document s esi events) tag) (document s esi events).open_elements)
  pub number_is : number ≡ (element_of (document s esi events) tag).number
  pub numbers_are : map (λ e. e.number) (document s esi events).open_elements ≡ reverse numbers
