-- What a program and the items of open elements say of the address of a node: the node above, and the element that the step comes from.
use Rattle.std.specs.Prelude.{ℕ, ◌≡◌, ◌+◌, Bool, false, ◌&&◌, if◌then◌else◌, nat_le, nat_lt, List, [], ◌∷◌, length, Option, Some, None, ◌==◌}
use Rattle.std.specs.List.{list_any}
use Rattle.std.specs.declared.ops.Range.{Range}
use Rattle.lol_css.specs.declared.selector.Combinator.{Combinator}
use Rattle.lol_css.specs.declared.selector.Combinator.TheVariants.{Child, Descendant}
use Rattle.lol_memory.specs.Ids.{ascending}
use Rattle.lol_instructions.specs.declared.instruction.Instruction.{Instruction}
use Rattle.lol_program.specs.Paths.{Path, First, Then}
use Rattle.lol_program.specs.Programs.{IsAt}
use Rattle.lol_machine.specs.Machines.{OpenItem}
use Rattle.lol_reasons.specs.declared.witness.NodeAbove.{NodeAbove}

abbrev pub is_within : ℕ → Range ℕ → Bool
is_within address r = nat_le r.start address && nat_lt address r.end

-- whether some range has a address
abbrev pub have_address : List (Range ℕ) → ℕ → Bool
have_address ranges address = list_any (is_within address) ranges

abbrev pub has_address : Option (Range ℕ) → ℕ → Bool
has_address None address = false
has_address (Some r) address = is_within address r

-- the first of these instructions, which stand from a address on, whose ranges have a address, and by which step
abbrev pub node_above_from : ℕ → List Instruction → ℕ → Option NodeAbove
node_above_from front [] address = None
node_above_from front (i ∷ instructions) address =
    if has_address i.associated_branch.jumps address then Some (record { address = front; step = Child })
    else if has_address i.associated_branch.hereditary_jumps address then Some (record { address = front; step = Descendant })
    else node_above_from (front + 1) instructions address

-- how many elements are around the nearest one that gives a range with the address to all inside it
abbrev pub nearest_giving : ℕ → List OpenItem → Option ℕ
nearest_giving address [] = None
nearest_giving address (item ∷ outer) = if have_address item.hereditary_jumps address then Some (length outer) else nearest_giving address outer

-- how many are around the one that a step leads to
abbrev pub reached_by : Combinator → ℕ → List OpenItem → Option ℕ
reached_by Child address [] = None
reached_by Child address (item ∷ outer) = Some (length outer)
reached_by Descendant address items = nearest_giving address items

-- the first of these instructions, which stand from a address on, that has an id
abbrev pub has_number : List ℕ → ℕ → Bool
has_number ns n = list_any (λ m. m == n) ns

abbrev pub node_with_from : ℕ → List Instruction → ℕ → Option ℕ
node_with_from address [] id = None
node_with_from address (i ∷ instructions) id =
    if has_number (ascending i.associated_branch.matched_ids) id then Some address else node_with_from (address + 1) instructions id

-- the range of an instruction by a step
abbrev pub range_in : Combinator → Instruction → Option (Range ℕ)
range_in Child i = i.associated_branch.jumps
range_in Descendant i = i.associated_branch.hereditary_jumps

-- what the node of a path stands under, by the paths of the addresses
abbrev pub StandsUnder : List Path → Path → Option NodeAbove → Type 0
StandsUnder paths (First c) o = o ≡ None
StandsUnder paths (Then front step c) o = (a : NodeAbove) × (o ≡ Some a) × IsAt paths a.address front × (a.step ≡ step)
