-- Room for what a start tag is reported under.
use Rattle.std.specs.Prelude.{ℕ, ◌≡◌, ◌≤◌, ◌<◌, Bool, List, ◌∷◌, [], ◌++◌, length, Vec, vec_capacity}
use Rattle.std.specs.List.{sum_by}
use Rattle.lol_memory.specs.Ids.{ascending}
use Rattle.lol_instructions.specs.Tests.{Element}
use Rattle.lol_program.specs.Paths.{Selectors}
use Rattle.lol_program.specs.declared.program.Program.{Program}
use Rattle.lol_machine.specs.Answers.{report}
use Rattle.lol_machine.specs.Events.{Event}
use Rattle.lol_machine.specs.Vms.{Stands, Vm, program_in}

-- how many ids the nodes have, each node's counted
abbrev pub ids_listed : Program → ℕ
ids_listed p = sum_by (λ i. length (ascending i.associated_branch.matched_ids)) p.instructions.items

-- No start tag is reported under more ids than this.
abbrev pub HoldsEachReport : Selectors → ℕ → Type 0
HoldsEachReport s room = (esi : Bool) (e : Element) (outer : List Element) → length (report s esi e outer) ≤ room

-- The law: a machine that stands for events has its selectors' ids under its nodes, so no report is longer than they are many.
abbrev pub ReportsAreFew : Type 0 → Type 0
ReportsAreFew E =
    (s : Selectors) (esi : Bool) (vm : Vm E) (events : List Event) → Stands s esi vm events
    → HoldsEachReport s (ids_listed (program_in vm))

-- Where there is room, an item comes last, and the room stays.
abbrev pub TakesInRoom : {T A : Type 0} → Vec T A → T → Vec T A → Type 0
TakesInRoom old item new = length old.items < vec_capacity old → (new.items ≡ old.items ++ item ∷ []) × (vec_capacity new ≡ vec_capacity old)
