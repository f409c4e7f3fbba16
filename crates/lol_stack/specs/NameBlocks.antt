-- Values by name, in blocks of ascending names.
use Rattle.std.specs.Prelude.{ℕ, ◌≡◌, ◌≤◌, ◌<◌, Bool, false, if◌then◌else◌, List, [], ◌∷◌, ◌++◌, length, take, drop, slice_get, Option, Some, None, unwrap_or}
use Rattle.std.specs.Map.{lookup}
use Rattle.std.specs.declared.cmp.Ordering.TheVariants.{Less, Equal}
use Rattle.std.specs.Ordering.{is_lt}
use Rattle.lol_base.specs.LocalNames.{Name, same_local_name, local_name_cmp}
use Rattle.lol_stack.specs.declared.name_blocks.BlockPlace.{BlockPlace}

-- the lists, one after another
abbrev pub joined_blocks : {A : Type 0} → List (List A) → List A
joined_blocks [] = []
joined_blocks (block ∷ blocks) = block ++ joined_blocks blocks

-- the block at a place, and none where there isn't one
abbrev pub block_at : {A : Type 0} → List (List A) → ℕ → List A
block_at blocks b = unwrap_or (slice_get blocks b) []

abbrev pub AllFilled : {A : Type 0} → List (List A) → Type 0
AllFilled [] = Unit {0}
AllFilled (block ∷ blocks) = (0 < length block) × AllFilled blocks

module _ {V : Type 0} where
  -- the value of a name
  abbrev pub value_in_blocks : List (List (Name × V)) → Name → Option V
  value_in_blocks blocks name = lookup (same_local_name name) (joined_blocks blocks)

  abbrev pub AllBelow : Name → List (Name × V) → Type 0
  AllBelow name [] = Unit {0}
  AllBelow name (e ∷ es) = (local_name_cmp e.0 name ≡ Less) × AllBelow name es

  abbrev pub AllAbove : Name → List (Name × V) → Type 0
  AllAbove name [] = Unit {0}
  AllAbove name (e ∷ es) = (local_name_cmp name e.0 ≡ Less) × AllAbove name es

  abbrev pub AreAscending : List (Name × V) → Type 0
  AreAscending [] = Unit {0}
  AreAscending (e ∷ es) = AllAbove e.0 es × AreAscending es

  -- the names ascend, and no block is without names
  pub record AreBlocks (blocks : List (List (Name × V))) : Type 0 where
    pub ascending : AreAscending (joined_blocks blocks)
    pub filled : AllFilled blocks

  -- whether the first name of a block is above this one
  abbrev pub begins_above : Name → List (Name × V) → Bool
  begins_above name [] = false
  begins_above name (e ∷ es) = is_lt (local_name_cmp name e.0)

  abbrev pub is_named : Option (Name × V) → Name → Bool
  is_named None name = false
  is_named (Some e) name = same_local_name e.0 name

  -- what stands before a place
  abbrev pub before : List (List (Name × V)) → BlockPlace → List (Name × V)
  before blocks place = joined_blocks (take place.block blocks) ++ take place.at (block_at blocks place.block)

  -- what stands from a place on, without the next n of its block
  abbrev pub from : List (List (Name × V)) → BlockPlace → ℕ → List (Name × V)
  from blocks place n = drop n (drop place.at (block_at blocks place.block)) ++ joined_blocks (drop 1 (drop place.block blocks))

  -- the name stands at the place
  pub record StandsInBlocks (blocks : List (List (Name × V))) (name : Name) (place : BlockPlace) : Type 0 where
    pub entry : Name × V
    pub at : slice_get (block_at blocks place.block) place.at ≡ Some entry
    pub same : local_name_cmp entry.0 name ≡ Equal
    pub below : AllBelow name (before blocks place)
    pub above : AllAbove name (from blocks place 1)

  -- the name stands nowhere, and would stand at the place
  pub record IsMissing (blocks : List (List (Name × V))) (name : Name) (place : BlockPlace) : Type 0 where
    pub inside : 0 < length blocks → place.block < length blocks
    pub within : place.at ≤ length (block_at blocks place.block)
    pub below : AllBelow name (before blocks place)
    pub above : AllAbove name (from blocks place 0)

  -- the name has this value, and the others have theirs
  abbrev pub IsPutAt : Name → Option V → List (List (Name × V)) → List (List (Name × V)) → Type 0
  IsPutAt name value old new = (q : Name) → value_in_blocks new q ≡ (if same_local_name name q then value else value_in_blocks old q)

  -- the same stands before a place and after it
  pub record IsSamePlace (old : List (List (Name × V))) (place : BlockPlace) (new : List (List (Name × V))) (moved : BlockPlace) : Type 0 where
    pub block : moved.block < length new
    pub within : moved.at ≤ length (block_at new moved.block)
    pub earlier : before new moved ≡ before old place
    pub later : from new moved 0 ≡ from old place 0
