-- The depths of one name.
use Rattle.std.specs.Prelude.{ℕ, List, [], ◌∷◌}
use Rattle.lol_stack.specs.declared.open_names.Depths.{Depths}
use Rattle.lol_stack.specs.declared.open_names.Depths.TheVariants.{One, Many}

abbrev pub depths_listed : Depths → List ℕ
depths_listed (One depth) = depth ∷ []
depths_listed (Many depths) = depths.items
