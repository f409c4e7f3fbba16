-- A complex selector as a path: compounds, each under the one before it (Selectors 4, "Structure and Terminology").
use Rattle.std.specs.Prelude.{ℕ, ◌≢◌, ◌↔◌, Bool, List, [], ◌∷◌, flat_map, Contains, AllPairs}
use Rattle.lol_css.specs.declared.selector.Combinator.{Combinator}
use Rattle.lol_instructions.specs.Compounds.{Compound}

-- Read from its last compound: the path before it, the step, the compound.
pub data Path : Type 0 where
  First : (compound : Compound) → Path
  Then : (front : Path) (step : Combinator) (compound : Compound) → Path

-- a path and further compounds, each by a step
abbrev pub extended : Path → List (Combinator × Compound) → Path
extended path [] = path
extended path (step ∷ rest) = extended (Then path step.0 step.1) rest

abbrev pub last_compound : Path → Compound
last_compound (First c) = c
last_compound (Then front step c) = c

-- The nonempty beginnings of a path, the whole path first.
abbrev pub beginnings : Path → List Path
beginnings (First c) = First c ∷ []
beginnings (Then front step c) = Then front step c ∷ beginnings front

-- What is looked for: the pairs of a path and the id that it was added under, the nodes: the paths that are tried, and whether nodes that
-- keys rule out are spared.
pub record Selectors : Type 0 where
  pub pairs : List (Path × ℕ)
  pub nodes : List Path
  pub by_keys : Bool

abbrev pub all_beginnings : List (Path × ℕ) → List Path
all_beginnings pairs = flat_map (λ pair. beginnings pair.0) pairs

-- The nodes of pairs where nothing was refused: each beginning of their paths, once.
pub record AreNodes (pairs : List (Path × ℕ)) (nodes : List Path) : Type 0 where
  pub members : (path : Path) → Contains nodes path ↔ Contains (all_beginnings pairs) path
  pub each_once : AllPairs (λ a b. a ≢ b) nodes
