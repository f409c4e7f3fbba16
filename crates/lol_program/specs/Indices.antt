-- Where in a list of nodes a compound stands.
use Rattle.std.specs.Prelude.{ℕ, ◌≡◌, ◌≢◌, ◌<◌, ◌≤◌, ◌⊎◌, List, [], ◌∷◌, ◌++◌, length, get_or}
use Rattle.lol_instructions.specs.Compounds.{Compound}
use Rattle.lol_program.specs.Forest.{Node}
use Rattle.lol_program.specs.Growth.{fresh}

-- the first node with a compound stands at i
pub record IsIndex (c : Compound) (nodes : List Node) (i : ℕ) : Type 0 where
  pub within : i < length nodes
  pub here : (d : Node) → (get_or nodes i d).compound ≡ c
  pub before : (k : ℕ) (d : Node) → k < i → (get_or nodes k d).compound ≢ c

-- no node has it
abbrev pub IsNowhere : Compound → List Node → Type 0
IsNowhere c nodes = (k : ℕ) (d : Node) → k < length nodes → (get_or nodes k d).compound ≢ c

-- no node from an index on has it
abbrev pub IsNowhereFrom : ℕ → Compound → List Node → Type 0
IsNowhereFrom first c nodes = (k : ℕ) (d : Node) → first ≤ k → k < length nodes → (get_or nodes k d).compound ≢ c

-- It stands at i, in the old list or as a new last node.
abbrev pub HasIndex : Compound → List Node → List Node → ℕ → Type 0
HasIndex c old new i =
    ((new ≡ old) × IsIndex c old i) ⊎ ((new ≡ old ++ fresh c ∷ []) × (i ≡ length old) × IsNowhere c old)
