-- Rows of instructions, and what is left of them by their keys.
use Rattle.std.specs.Prelude.{ℕ, ◌≡◌, ◌≤◌, ◌<◌, ◌-◌, ◌⊎◌, Bool, true, false, not, ◌&&◌, List, [], ◌∷◌, map, flat_map, filter, slice_get, Option, Some, None, Contains}
use Rattle.std.specs.List.{range_with_len, list_any}
use Rattle.std.specs.declared.ops.Range.{Range}
use Rattle.std.specs.Option.{option_copied}
use Rattle.std.specs.declared.hash.DefaultHasher.{DefaultHasher}
use Rattle.lol_instructions.specs.Keys.{AttributeKey, ById, ByClass, ByPart, ByAttribute, Keys, is_another_name}
use Rattle.lol_instructions.specs.CompiledKeys.{keys_in, lacks_key}
use Rattle.lol_instructions.specs.Attributes.{TagAttributes}
use Rattle.lol_instructions.specs.declared.instruction.Instruction.{Instruction}
use Rattle.lol_rows.specs.KeyTables.{IsTableOf}
use Rattle.lol_rows.specs.KeyHashes.{after_name, hash_after, hash_of_name, hash_of_pair}
use Rattle.lol_rows.specs.SortedHashes.{AreHashesOf}
use Rattle.lol_rows.specs.declared.key_rows.KeyRows.{KeyRows}
use Rattle.lol_rows.specs.declared.tag_keys.TagKeys.{TagKeys}
use Rattle.lol_rows.specs.declared.row_kind.RowKind.{RowKind}
use Rattle.lol_rows.specs.declared.row_kind.RowKind.TheVariants.{Names, Pairs}
use Rattle.lol_rows.specs.declared.rows.Rows.{Rows}

-- 1. What instructions are looked up by

abbrev pub keys_of : Instruction → Keys
keys_of i = keys_in i.predicate

abbrev pub name_hash_of : Instruction → ℕ
name_hash_of i = hash_of_name (keys_of i).name (keys_of i).opens

abbrev pub pair_hash_of : Instruction → ℕ
pair_hash_of i = hash_of_pair (keys_of i).name (keys_of i).attribute

abbrev pub hash_by : RowKind → Instruction → ℕ
hash_by Names i = name_hash_of i
hash_by Pairs i = pair_hash_of i

-- what decides whether an instruction is left: its name, and for pairs its id, class or attribute
abbrev pub keys_by : RowKind → Instruction → Option (List ℕ) × Option AttributeKey
keys_by Names i = ((keys_of i).name, None)
keys_by Pairs i = ((keys_of i).name, (keys_of i).attribute)

-- the instructions at two addresses have the same of these
abbrev pub AreAlikeAt : RowKind → List Instruction → ℕ → ℕ → Type 0
AreAlikeAt kind instructions a b = (i j : Instruction) → slice_get instructions a ≡ Some i → slice_get instructions b ≡ Some j → keys_by kind i ≡ keys_by kind j

-- 2. Rows

-- Instructions of one hash are alike, unless it is one of the shared ones.
abbrev pub AreAlikeUnless : List ℕ → RowKind → List Instruction → Type 0
AreAlikeUnless shared kind instructions =
    (a b hash : ℕ) → slice_get (map (hash_by kind) instructions) a ≡ Some hash → slice_get (map (hash_by kind) instructions) b ≡ Some hash
    → Contains shared hash ⊎ AreAlikeAt kind instructions a b

-- Each instruction stands in its row.
pub record AreRowsBy (kind : RowKind) (instructions : List Instruction) (rows : KeyRows) : Type 0 where
  pub table : IsTableOf (map (hash_by kind) instructions) rows.table
  pub shared : List ℕ
  pub are_shared : AreHashesOf shared rows.shared
  pub alike : AreAlikeUnless shared kind instructions

-- the hash of the pair of an instruction's name and of the attribute whose value has its part, if it has one
abbrev pub parted_after : DefaultHasher → Option AttributeKey → List ℕ
parted_after hasher None = []
parted_after hasher (Some (ById id)) = []
parted_after hasher (Some (ByClass name)) = []
parted_after hasher (Some (ByPart name part)) = hash_after hasher (Some (ByAttribute name)) ∷ []
parted_after hasher (Some (ByAttribute name)) = []

abbrev pub parted_of : Instruction → List ℕ
parted_of i = parted_after (after_name (keys_of i).name) (keys_of i).attribute

-- Rows have each instruction once by its name, and once by both of its keys, and the attributes of those that have a part.
pub record AreRowsOf (instructions : List Instruction) (rows : Rows) : Type 0 where
  pub names : AreRowsBy Names instructions rows.names
  pub pairs : AreRowsBy Pairs instructions rows.pairs
  pub parted : AreHashesOf (flat_map parted_of instructions) rows.parted

-- 3. What is left

-- an instruction that tests no other name than this one, in lower case
abbrev pub is_left_by_name : List ℕ → Instruction → Bool
is_left_by_name name i = not (is_another_name (keys_of i).name name)

-- and of which it is known that it needs attributes
abbrev pub is_left_open : List ℕ → Instruction → Bool
is_left_open name i = is_left_by_name name i && (keys_of i).opens

-- one that tests no other name, and no id, class or attribute that a tag lacks
abbrev pub is_left_by_keys : List ℕ → TagAttributes → Instruction → Bool
is_left_by_keys name seen i = is_left_by_name name i && not (lacks_key (keys_of i).attribute seen)

-- one that a tag leaves, whose attributes may not be known
abbrev pub leaves_seen : List ℕ → Option TagAttributes → Instruction → Bool
leaves_seen name None i = is_left_by_name name i
leaves_seen name (Some seen) i = is_left_by_keys name seen i

-- what a tag leaves, as far as its attributes are given
abbrev pub leaves : TagKeys → Instruction → Bool
leaves keys i = leaves_seen keys.name.now.lowercased (option_copied keys.attributes) i

-- whether there is an instruction, and it passes
abbrev pub passes : (Instruction → Bool) → Option Instruction → Bool
passes p None = false
passes p (Some i) = p i

abbrev pub passes_at : (Instruction → Bool) → List Instruction → ℕ → Bool
passes_at p instructions address = passes p (slice_get instructions address)

abbrev pub addresses : Range ℕ → List ℕ
addresses r = range_with_len r.start (r.end - r.start)

-- Whether some instruction of a range passes.
abbrev pub some_pass : (Instruction → Bool) → List Instruction → Range ℕ → Bool
some_pass p instructions r = list_any (passes_at p instructions) (addresses r)

-- The addresses of those of a range that pass, ascending.
abbrev pub passing : (Instruction → Bool) → List Instruction → Range ℕ → List ℕ
passing p instructions r = filter (passes_at p instructions) (addresses r)

-- An instruction of a range passes.
pub record HasPassing (p : Instruction → Bool) (instructions : List Instruction) (r : Range ℕ) : Type 0 where
  pub address : ℕ
  pub low : r.start ≤ address
  pub high : address < r.end
  pub passes : passes_at p instructions address ≡ true

-- None of a range passes that has this hash of its name.
abbrev pub NonePasses : (Instruction → Bool) → List Instruction → Range ℕ → ℕ → Type 0
NonePasses p instructions r hash =
    (address : ℕ) (i : Instruction) → r.start ≤ address → address < r.end → slice_get instructions address ≡ Some i → name_hash_of i ≡ hash → p i ≡ false

-- 4. How it is found

-- what instructions are looked up by
abbrev pub kind_for : Option TagAttributes → RowKind
kind_for None = Names
kind_for (Some seen) = Pairs

-- The hashes hold that of each instruction that passes.
abbrev pub HoldEach : List ℕ → RowKind → (Instruction → Bool) → List Instruction → Type 0
HoldEach hashes kind p instructions =
    (address : ℕ) (i : Instruction) → slice_get instructions address ≡ Some i → p i ≡ true → Contains hashes (hash_by kind i)

-- The hashes of a tag, where memory for them was there, hold that of each instruction that it leaves.
abbrev pub AreItsHashes : List Instruction → TagKeys → Type 0
AreItsHashes instructions keys = (hashes : List ℕ) → option_copied keys.hashes ≡ Some hashes → HoldEach hashes (kind_for (option_copied keys.attributes)) (leaves keys) instructions
