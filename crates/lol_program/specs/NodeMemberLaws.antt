-- What a forest has, by recursion on it.
use Rattle.std.specs.Prelude.{ℕ, zero, suc, ◌≡◌, ◌↔◌, ◌⊎◌, List, [], ◌∷◌, Contains, Option, Some}
use Rattle.lol_css.specs.declared.selector.Combinator.{Combinator}
use Rattle.lol_css.specs.declared.selector.Combinator.TheVariants.{Child, Descendant}
use Rattle.lol_instructions.specs.Compounds.{Compound}
use Rattle.lol_program.specs.Paths.{Path, Then}
use Rattle.lol_program.specs.Forest.{Forest, none, more, Node}

-- what a node has itself, or one under it
abbrev pub HasUnder : (Path → List ℕ → Type 0) → (Compound → Path) → Forest → Type 0
HasUnder Own make none = ⊥
HasUnder Own make (more c ids children descendants rest) =
    (Own (make c) ids ⊎ (HasUnder Own (Then (make c) Child) children ⊎ HasUnder Own (Then (make c) Descendant) descendants)) ⊎ HasUnder Own make rest

abbrev pub HasIn : (Path → List ℕ → Type 0) → (Compound → Path) → Node → Type 0
HasIn Own make n =
    Own (make n.compound) n.ids ⊎ (HasUnder Own (Then (make n.compound) Child) n.children ⊎ HasUnder Own (Then (make n.compound) Descendant) n.descendants)

abbrev pub IsPlacedAt : Path → Path → List ℕ → Type 0
IsPlacedAt path at ids = at ≡ path

abbrev pub IsPair : Path → ℕ → Path → List ℕ → Type 0
IsPair path id at ids = (at ≡ path) × Contains ids id

abbrev pub HasNode : (Compound → Path) → Forest → Path → Type 0
HasNode make f path = HasUnder (IsPlacedAt path) make f

abbrev pub HasPair : (Compound → Path) → Forest → Path → ℕ → Type 0
HasPair make f path id = HasUnder (IsPair path id) make f

-- the nodes and the pair that the path from a compound on brings
abbrev pub BringsNode : (Compound → Path) → Compound → List (Combinator × Compound) → Path → Type 0
BringsNode make c [] path = make c ≡ path
BringsNode make c (step ∷ rest) path = (make c ≡ path) ⊎ BringsNode (Then (make c) step.0) step.1 rest path

abbrev pub BringsPair : Option ℕ → (Compound → Path) → Compound → List (Combinator × Compound) → Path → ℕ → Type 0
BringsPair id make c [] path x = (make c ≡ path) × (id ≡ Some x)
BringsPair id make c (step ∷ rest) path x = BringsPair id (Then (make c) step.0) step.1 rest path x

-- the nodes are the old ones and the beginnings of the path, the pairs the old ones and the new one
pub record HasAdded (id : Option ℕ) (make : Compound → Path) (c : Compound) (rest : List (Combinator × Compound)) (old new : Forest) : Type 0 where
  pub nodes : (path : Path) → HasNode make new path ↔ (HasNode make old path ⊎ BringsNode make c rest path)
  pub pairs : (path : Path) (x : ℕ) → HasPair make new path x ↔ (HasPair make old path x ⊎ BringsPair id make c rest path x)

abbrev pub BringsFirst : ℕ → (Compound → Path) → Compound → List (Combinator × Compound) → Path → Type 0
BringsFirst zero make c rest path = ⊥
BringsFirst (suc k) make c [] path = make c ≡ path
BringsFirst (suc k) make c (step ∷ rest) path = (make c ≡ path) ⊎ BringsFirst k (Then (make c) step.0) step.1 rest path

-- the nodes are the old ones and the first k of the path, the pairs the old ones
pub record HasAddedFirst (k : ℕ) (make : Compound → Path) (c : Compound) (rest : List (Combinator × Compound)) (old new : Forest) : Type 0 where
  pub nodes : (path : Path) → HasNode make new path ↔ (HasNode make old path ⊎ BringsFirst k make c rest path)
  pub pairs : (path : Path) (x : ℕ) → HasPair make new path x ↔ HasPair make old path x
