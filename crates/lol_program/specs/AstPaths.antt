-- The path of an item, and whether it stands in a forest.
use Rattle.std.specs.Prelude.{ℕ, ◌≡◌, List, [], ◌∷◌, Some}
use Rattle.std.specs.List.{AllZip}
use Rattle.lol_css.specs.declared.selector.ComplexSelector.{ComplexSelector}
use Rattle.lol_css.specs.declared.selector.SimpleSelector.TheViews.{out-ComplexSelector}
use Rattle.lol_program.specs.Paths.{Path, First, extended}
use Rattle.lol_program.specs.Forest.{Forest}
use Rattle.lol_program.specs.Growth.{StandsWith, StandsUnder}
use Rattle.lol_program.specs.IdsForNodes.{id_in, Fits}
use Rattle.lol_program.specs.declared.node_id.IdForNode.{IdForNode}
use Rattle.lol_program.specs.Views.{tests_of_compound, steps_of}

abbrev pub path_shown : ComplexSelector → Path
path_shown item = extended (First (tests_of_compound (out-ComplexSelector item).first)) (steps_of (out-ComplexSelector item).rest.items)

-- the path stands in a forest, and P holds of the ids of its last node
abbrev pub IsInWith : (List ℕ → Type 0) → Forest → ComplexSelector → Type 0
IsInWith P f item = StandsWith P (tests_of_compound (out-ComplexSelector item).first) (steps_of (out-ComplexSelector item).rest.items) f

-- the path stands in a forest
abbrev pub IsIn : Forest → ComplexSelector → Type 0
IsIn f item = StandsUnder (tests_of_compound (out-ComplexSelector item).first) (steps_of (out-ComplexSelector item).rest.items) f

abbrev pub AllIn : Forest → List ComplexSelector → Type 0
AllIn f [] = Unit {0}
AllIn f (item ∷ items) = IsIn f item × AllIn f items

-- what was reserved is this id, the path stands, and it fits the last node
abbrev pub FitsPath : ℕ → Forest → ComplexSelector → IdForNode → Type 0
FitsPath id f item reserved = (id_in reserved ≡ Some id) × IsInWith (Fits reserved) f item

-- What was reserved for each path is this id, and its last node takes it without more memory.
abbrev pub AllFit : ℕ → Forest → List ComplexSelector → List IdForNode → Type 0
AllFit id f items ids = AllZip (FitsPath id f) items ids
