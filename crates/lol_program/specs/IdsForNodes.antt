-- The id that a path's last node gets.
use Rattle.std.specs.Prelude.{ℕ, ◌≡◌, List, [], ◌∷◌, Option, Some, None}
use Rattle.lol_memory.specs.Ids.{Ids, no_ids, with_id, with_ids, HasRoom}
use Rattle.lol_program.specs.Paths.{Path}
use Rattle.lol_program.specs.declared.node_id.IdForNode.{IdForNode}
use Rattle.lol_program.specs.declared.node_id.IdForNode.TheVariants.{Nothing, Id, Reserved}

-- the id, if there is one
abbrev pub id_in : IdForNode → Option ℕ
id_in Nothing = None
id_in (Id id) = Some id
id_in (Reserved id set) = Some id

-- a set takes the id, if there is one
abbrev pub SetTakes : Option ℕ → Ids → Ids → Type 0
SetTakes None old new = new ≡ old
SetTakes (Some id) old new = new ≡ with_id old id

-- the set of these ids
abbrev pub set_of : List ℕ → Ids
set_of ids = with_ids no_ids ids

-- A node with these ids takes it without more memory: their set has room for it, or it was reserved for their set.
abbrev pub Fits : IdForNode → List ℕ → Type 0
Fits Nothing ids = Unit {0}
Fits (Id id) ids = HasRoom (set_of ids) id
Fits (Reserved id set) ids = set ≡ with_id (set_of ids) id

-- it has memory of its own
abbrev pub IsReserved : IdForNode → Type 0
IsReserved Nothing = ⊥
IsReserved (Id id) = ⊥
IsReserved (Reserved id set) = Unit {0}

-- the pair of a path that gets it
abbrev pub pairs_with : Option ℕ → Path → List (Path × ℕ)
pairs_with None path = []
pairs_with (Some id) path = (path, id) ∷ []
