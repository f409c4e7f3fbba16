-- How a forest takes in a path.
use Rattle.std.specs.Prelude.{ℕ, zero, suc, ◌≡◌, ◌≢◌, ◌↔◌, ◌⊎◌, List, [], ◌∷◌, Contains, Option, Some, None}
use Rattle.lol_css.specs.declared.selector.Combinator.{Combinator}
use Rattle.lol_css.specs.declared.selector.Combinator.TheVariants.{Child, Descendant}
use Rattle.lol_instructions.specs.Compounds.{Compound}
use Rattle.lol_program.specs.Forest.{Forest, none, more, Node, link}

-- a node without ids, with nothing under it
abbrev pub fresh : Compound → Node
fresh c = record { compound = c; ids = []; children = none; descendants = none }

-- The tree whose root has this compound, or a new last one, is changed as R says.
abbrev pub AtRoot : Compound → (Node → Node → Type 0) → Forest → Forest → Type 0
AtRoot c R none after = (n : Node) × R (fresh c) n × (after ≡ link n none)
AtRoot c R (more d ids children descendants rest) after =
    ((d ≡ c) × (n : Node) × R (record { compound = d; ids = ids; children = children; descendants = descendants }) n × (after ≡ link n rest))
    ⊎ ((d ≢ c) × (more_rest : Forest) × AtRoot c R rest more_rest × (after ≡ more d ids children descendants more_rest))

abbrev pub IsWith : ℕ → List ℕ → List ℕ → Type 0
IsWith id old new = (x : ℕ) → Contains new x ↔ (Contains old x ⊎ (id ≡ x))

-- a node's set takes an id, if there is one, and nothing else changes
abbrev pub Takes : Option ℕ → Node → Node → Type 0
Takes None n m = m ≡ n
Takes (Some id) n m = (ids : List ℕ) × IsWith id n.ids ids × (m ≡ record { compound = n.compound; ids = ids; children = n.children; descendants = n.descendants })

-- what is under a node by a step
abbrev pub grown_under : Combinator → Node → Forest
grown_under Child n = n.children
grown_under Descendant n = n.descendants

-- it changes as R says, and nothing else
abbrev pub Under : Combinator → (Forest → Forest → Type 0) → Node → Node → Type 0
Under Child R n m = (f : Forest) × R n.children f × (m ≡ record { compound = n.compound; ids = n.ids; children = f; descendants = n.descendants })
Under Descendant R n m = (f : Forest) × R n.descendants f × (m ≡ record { compound = n.compound; ids = n.ids; children = n.children; descendants = f })

-- the path from a compound on stands, and its last node takes the id
abbrev pub Adds : Option ℕ → Compound → List (Combinator × Compound) → Forest → Forest → Type 0
Adds id c [] old new = AtRoot c (Takes id) old new
Adds id c (step ∷ rest) old new = AtRoot c (Under step.0 (Adds id step.1 rest)) old new

-- the first so many of its nodes stand, and no node takes an id
abbrev pub AddsFirst : ℕ → Compound → List (Combinator × Compound) → Forest → Forest → Type 0
AddsFirst zero c rest old new = new ≡ old
AddsFirst (suc k) c [] old new = AtRoot c (Takes None) old new
AddsFirst (suc k) c (step ∷ rest) old new = AtRoot c (Under step.0 (AddsFirst k step.1 rest)) old new

-- there is a root with this compound, and P holds of the first
abbrev pub AtTop : Compound → (Node → Type 0) → Forest → Type 0
AtTop c P none = ⊥
AtTop c P (more d ids children descendants rest) =
    ((d ≡ c) × P (record { compound = d; ids = ids; children = children; descendants = descendants })) ⊎ ((d ≢ c) × AtTop c P rest)

-- the path from a compound on stands, and P holds of the ids of its last node
abbrev pub StandsWith : (List ℕ → Type 0) → Compound → List (Combinator × Compound) → Forest → Type 0
StandsWith P c [] f = AtTop c (λ n. P n.ids) f
StandsWith P c (step ∷ rest) f = AtTop c (λ n. StandsWith P step.1 rest (grown_under step.0 n)) f

-- the path from a compound on stands
abbrev pub StandsUnder : Compound → List (Combinator × Compound) → Forest → Type 0
StandsUnder c rest f = StandsWith (λ ids. Unit {0}) c rest f
