-- What the addresses of a program give, run for a start tag.
use Rattle.std.specs.Prelude.{ℕ, Bool, false, if◌then◌else◌, List, [], ◌++◌, map, flat_map, slice_get, Option, Some, None, option_to_list, ◌≡◌, ◌↔◌, true, Contains}
use Rattle.std.specs.declared.ops.Range.{Range}
use Rattle.lol_instructions.specs.Tests.{Element}
use Rattle.lol_instructions.specs.Compounds.{is_open}
use Rattle.lol_program.specs.Programs.{Instruction, Program}
use Rattle.lol_instructions.specs.declared.name_value.NameValue.{NameValue}
use Rattle.lol_instructions.specs.declared.name_value.NameValue.TheVariants.{False}
use Rattle.lol_memory.specs.Ids.{Ids, has}
use Rattle.lol_stack.specs.declared.stack_item.StackItemOf.{StackItemOf}
use Rattle.lol_machine.specs.Outcomes.{given_with_attributes}

-- 1. What all addresses give

-- What a start tag has gathered: ids, and ranges for the elements inside.
pub record Context : Type 0 where
  pub ids : List ℕ
  pub jumps : List (Range ℕ)
  pub hereditary_jumps : List (Range ℕ)

abbrev pub no_context : Context
no_context = record { ids = []; jumps = []; hereditary_jumps = [] }

-- what the instruction at an address gives, where it holds
abbrev pub given_by : {A : Type 0} → (Instruction → List A) → Element → Option Instruction → List A
given_by what e None = []
given_by what e (Some i) = if i.holds e then what i else []

abbrev pub gathered_from_addresses : {A : Type 0} → (Instruction → List A) → Program → Element → List ℕ → List A
gathered_from_addresses what p e ps = flat_map (λ address. given_by what e (slice_get p.instructions address)) ps

abbrev pub ids_list : Instruction → List ℕ
ids_list i = i.ids

abbrev pub jumps_list : Instruction → List (Range ℕ)
jumps_list i = option_to_list i.jumps

abbrev pub hereditary_jumps_list : Instruction → List (Range ℕ)
hereditary_jumps_list i = option_to_list i.hereditary_jumps

-- What is gathered from addresses, in their order; ranges only for an element with content.
abbrev pub context_of : Program → Bool → Element → List ℕ → Context
context_of p content e ps =
    record {
      ids = gathered_from_addresses ids_list p e ps;
      jumps = if content then gathered_from_addresses jumps_list p e ps else [];
      hereditary_jumps = if content then gathered_from_addresses hereditary_jumps_list p e ps else [];
    }

-- 2. Address by address

abbrev pub branch : Bool → Context → Instruction → Context
branch content context i =
    record {
      ids = context.ids ++ i.ids;
      jumps = if content then context.jumps ++ option_to_list i.jumps else context.jumps;
      hereditary_jumps = if content then context.hereditary_jumps ++ option_to_list i.hereditary_jumps else context.hereditary_jumps;
    }

abbrev pub give_if_there : Bool → Option Instruction → Context → Context
give_if_there content None context = context
give_if_there content (Some i) context = branch content context i

abbrev pub instruction_holds : Element → Option Instruction → Bool
instruction_holds e None = false
instruction_holds e (Some i) = i.holds e

-- the instructions at addresses
abbrev pub at_addresses : Program → List ℕ → List (Option Instruction)
at_addresses p ps = map (slice_get p.instructions) ps

-- Runs addresses with attributes.
abbrev pub run : Program → Bool → Element → Context → List ℕ → Context
run p content e context ps = given_with_attributes (give_if_there content) (instruction_holds e) context (at_addresses p ps)

abbrev pub instruction_value : Element → Option Instruction → NameValue
instruction_value e None = False
instruction_value e (Some i) = i.value e

-- the value by names of the instruction at an address
abbrev pub value_at : Program → Element → ℕ → NameValue
value_at p e address = instruction_value e (slice_get p.instructions address)

abbrev pub is_open_at : Program → Element → ℕ → Bool
is_open_at p e address = is_open (value_at p e address)

-- 3. When the element of a start tag has that

-- The ids of the element's data are those that were gathered, and its ranges too; `ids_of` is what the data mean.
pub record Gathers {N E : Type 0} (ids_of : E → Ids) (item : StackItemOf N E) (context : Context) : Type 0 where
  pub ids : (id : ℕ) → (has (ids_of item.element_data) id ≡ true) ↔ Contains context.ids id
  pub jumps : context.jumps ≡ item.jumps
  pub hereditary_jumps : context.hereditary_jumps ≡ item.hereditary_jumps
