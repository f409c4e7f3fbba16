-- A list of trees of compounds, and the paths from its roots to its nodes.
use Rattle.std.specs.Coded.{×_prop, Unit-prop}
use Rattle.std.specs.Prelude.{ℕ, ◌+◌, ◌≡◌, ◌⊎◌, List, [], ◌∷◌, ◌++◌, map}
use Rattle.lol_css.specs.declared.selector.Combinator.TheVariants.{Child, Descendant}
use Rattle.lol_instructions.specs.Compounds.{Compound}
use Rattle.lol_program.specs.Paths.{Path, Then}

-- the first tree, by its root, and the others; a node has its ids in ascending order, the nodes under it by a child step, and those
-- by a descendant step
pub data Forest : Type 0 where
  none : Forest
  more : (compound : Compound) (ids : List ℕ) (children : Forest) (descendants : Forest) (rest : Forest) → Forest

-- one tree
pub record Node : Type 0 where
  pub compound : Compound
  pub ids : List ℕ
  pub children : Forest
  pub descendants : Forest

abbrev pub link : Node → Forest → Forest
link n rest = more n.compound n.ids n.children n.descendants rest

-- how many nodes
abbrev pub size : Forest → ℕ
size none = 0
size (more c ids children descendants rest) = 1 + size children + size descendants + size rest

-- the paths of the roots, for a path that each compound makes
abbrev pub tops : (Compound → Path) → Forest → List Path
tops make none = []
tops make (more c ids children descendants rest) = make c ∷ tops make rest

-- the paths of the nodes under the roots: tree by tree the children, what is under them, the descendants, what is under them
abbrev pub below : (Compound → Path) → Forest → List Path
below make none = []
below make (more c ids children descendants rest) =
    (tops (Then (make c) Child) children ++ below (Then (make c) Child) children)
    ++ ((tops (Then (make c) Descendant) descendants ++ below (Then (make c) Descendant) descendants)
    ++ below make rest)

-- the paths of all nodes
abbrev pub nodes_in : (Compound → Path) → Forest → List Path
nodes_in make f = tops make f ++ below make f

-- the paths with an id, and it
abbrev pub pairs_in : (Compound → Path) → Forest → List (Path × ℕ)
pairs_in make none = []
pairs_in make (more c ids children descendants rest) =
    map (λ id. (make c, id)) ids
    ++ (pairs_in (Then (make c) Child) children
    ++ (pairs_in (Then (make c) Descendant) descendants
    ++ pairs_in make rest))

-- there is a root with this compound
abbrev pub HasTop : Compound → Forest → Type 0
HasTop c none = ⊥
HasTop c (more d ids children descendants rest) = (d ≡ c) ⊎ HasTop c rest

-- no two siblings have the same compound
abbrev pub SiblingsDiffer : Forest → Type 0
SiblingsDiffer none = Unit {0}
SiblingsDiffer (more c ids children descendants rest) =
    (HasTop c rest → ⊥) × (SiblingsDiffer children × (SiblingsDiffer descendants × SiblingsDiffer rest))

no_two : {A : Type 0} → IsProp (A → ⊥)
no_two {A} f g = λ i x. path x i
  where
    path : (x : A) → f x ≡ g x
    path x = absurd (f x)

pub SiblingsDiffer-prop : (f : Forest) → IsProp (SiblingsDiffer f)
SiblingsDiffer-prop none = Unit-prop
SiblingsDiffer-prop (more c ids children descendants rest) =
    ×_prop (no_two {A = HasTop c rest}) (×_prop (SiblingsDiffer-prop children) (×_prop (SiblingsDiffer-prop descendants) (SiblingsDiffer-prop rest)))
