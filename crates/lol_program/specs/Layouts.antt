-- The layout of a tree of selectors: siblings stand in one range, and after them, node by node, what is under each.
use Rattle.std.specs.Prelude.{ℕ, suc, ◌+◌, ◌≡◌, ◌||◌, Bool, false, List, [], ◌∷◌, ◌++◌, map, Option, Some, None}
use Rattle.std.specs.declared.ops.Range.{Range}
use Rattle.lol_css.specs.declared.selector.Combinator.{Combinator}
use Rattle.lol_css.specs.declared.selector.Combinator.TheVariants.{Child, Descendant}
use Rattle.lol_instructions.specs.Compounds.{Compound, all_hold, by_names, has_test_by_type}
use Rattle.lol_instructions.specs.Keys.{both_keys}
use Rattle.lol_program.specs.Paths.{Path, First, Then, Selectors}
use Rattle.lol_program.specs.Forest.{Forest, none, more, size, nodes_in, pairs_in, SiblingsDiffer}
use Rattle.lol_program.specs.Programs.{Instruction, Program, IsProgramOf, IsAt, IsWithin, range_by}

-- how many siblings a list has
abbrev pub width : Forest → ℕ
width none = 0
width (more c ids children descendants rest) = suc (width rest)

-- the range of siblings that begin here
abbrev pub range_of : Forest → ℕ → Option (Range ℕ)
range_of none at = None
range_of (more c ids children descendants rest) at = Some (record { start = at; end = at + suc (width rest) })

-- a node's instruction, where what is under it begins at a free address
abbrev pub instruction_of : Compound → List ℕ → Forest → Forest → ℕ → Instruction
instruction_of c ids children descendants free =
    record { value = by_names c; holds = all_hold c; keys = both_keys c; ids = ids; jumps = range_of children free; hereditary_jumps = range_of descendants (free + size children) }

pub record Entry : Type 0 where
  pub address : ℕ
  pub path : Path
  pub instruction : Instruction

-- siblings from an address on, where what is under them begins at a free address
abbrev pub laid_tops : (Compound → Path) → Forest → ℕ → ℕ → List Entry
laid_tops make none at free = []
laid_tops make (more c ids children descendants rest) at free =
    record { address = at; path = make c; instruction = instruction_of c ids children descendants free } ∷ laid_tops make rest (suc at) (free + (size children + size descendants))

-- what is under them
abbrev pub laid_below : (Compound → Path) → Forest → ℕ → List Entry
laid_below make none free = []
laid_below make (more c ids children descendants rest) free =
    (laid_tops (Then (make c) Child) children free (free + width children) ++ laid_below (Then (make c) Child) children (free + width children))
    ++ ((laid_tops (Then (make c) Descendant) descendants (free + size children) ((free + size children) + width descendants)
    ++ laid_below (Then (make c) Descendant) descendants ((free + size children) + width descendants))
    ++ laid_below make rest (free + (size children + size descendants)))

-- siblings, then what is under them
abbrev pub laid : (Compound → Path) → Forest → ℕ → List Entry
laid make f at = laid_tops make f at (at + width f) ++ laid_below make f (at + width f)

-- whether a compound of a forest has a test by type
abbrev pub any_by_type : Forest → Bool
any_by_type none = false
any_by_type (more c ids children descendants rest) = (has_test_by_type c || (any_by_type children || any_by_type descendants)) || any_by_type rest

-- what a tree looks for, with nodes spared by keys or none
abbrev pub selectors_in : Bool → Forest → Selectors
selectors_in by_keys f = record { pairs = pairs_in First f; nodes = nodes_in First f; by_keys = by_keys }

abbrev pub program_of : Forest → Program
program_of f =
    record {
      entry = record { start = 0; end = width f };
      instructions = map (λ t. t.instruction) (laid First f 0);
      by_type = any_by_type f;
    }

-- The layout of a tree is a program of its selectors, whose addresses are those of its nodes in their order.
abbrev pub LayoutsArePrograms : Type 0
LayoutsArePrograms = (by_keys : Bool) (f : Forest) → SiblingsDiffer f → IsProgramOf (selectors_in by_keys f) (nodes_in First f) (program_of f)

-- No address stands in the ranges of two lists: those of two instructions or two steps, or one of them and the entry range.
abbrev pub RangesAreApart : Type 0
RangesAreApart =
    (s : Selectors) (paths : List Path) (p : Program) → IsProgramOf s paths p
    → (j k : ℕ) (x y : Instruction) (step step' : Combinator) (r r' : Range ℕ) (address : ℕ)
    → IsAt p.instructions j x → IsAt p.instructions k y → range_by step x ≡ Some r → range_by step' y ≡ Some r' → IsWithin address r → IsWithin address r'
    → (j ≡ k) × (step ≡ step') × (IsWithin address p.entry → ⊥)

-- Worked row: `div p` under 0 and `div > p` under 1.
abbrev pub div_p : Compound → Compound → Forest
div_p div p = more div [] (more p (1 ∷ []) none none none) (more p (0 ∷ []) none none none) none

abbrev pub shape : Instruction → List ℕ × Option (Range ℕ) × Option (Range ℕ)
shape i = (i.ids, i.jumps, i.hereditary_jumps)

abbrev pub range : ℕ → ℕ → Range ℕ
range start end = record { start = start; end = end }

abbrev pub WorkedLayout : Type 0
WorkedLayout =
    (div p : Compound)
    → ((program_of (div_p div p)).entry ≡ range 0 1)
    × (map shape (program_of (div_p div p)).instructions ≡ ([], Some (range 1 2), Some (range 2 3)) ∷ (1 ∷ [], None, None) ∷ (0 ∷ [], None, None) ∷ [])
