-- The hashes of the pairs of keys that a start tag has, and of the parts of its attributes' values.
use Rattle.std.specs.Prelude.{◌≡◌, ℕ, List, [], ◌∷◌, ◌++◌, map, flat_map, Option, Some, None, Result, OnOk, Contains, unwrap_or}
use Rattle.std.specs.declared.alloc.AllocError.{AllocError}
use Rattle.std.specs.declared.hash.DefaultHasher.{DefaultHasher}
use Rattle.lol_base.specs.Names.{lowercased}
use Rattle.lol_base.specs.StartTags.{Attribute}
use Rattle.lol_instructions.specs.Attributes.{TagAttributes}
use Rattle.lol_instructions.specs.Keys.{AttributeKey, ByAttribute, keys_seen, parts_of}
use Rattle.lol_rows.specs.KeyHashes.{after_attribute, after_name, hash_after, hash_of_part}
use Rattle.lol_rows.specs.SortedHashes.{AreHashesOf}
use Rattle.lol_rows.specs.declared.sorted_hashes.SortedHashes.{SortedHashes}

-- a key after no name, and after a name
abbrev pub both_hashes : DefaultHasher → DefaultHasher → Option AttributeKey → List ℕ
both_hashes unnamed named key = hash_after unnamed key ∷ hash_after named key ∷ []

-- The pairs of no name, or the tag's, and of no key, or one of the tag's.
abbrev pub pair_hashes : List ℕ → TagAttributes → List ℕ
pair_hashes name seen = flat_map (both_hashes (after_name None) (after_name (Some name))) (None ∷ map Some (keys_seen seen))

-- those of the parts of the value of an attribute of a name
abbrev pub part_hashes : DefaultHasher → List ℕ → List ℕ → List ℕ
part_hashes hasher name value = map (hash_of_part (after_attribute hasher (lowercased name))) (parts_of value)

-- of the value of each attribute
abbrev pub all_part_hashes : DefaultHasher → List Attribute → List ℕ
all_part_hashes hasher attributes = flat_map (λ a. part_hashes hasher a.name (unwrap_or a.value [])) attributes

-- after no name, and after the tag's
abbrev pub both_part_hashes : List ℕ → TagAttributes → List ℕ
both_part_hashes name seen = all_part_hashes (after_name None) seen.attributes ++ all_part_hashes (after_name (Some name)) seen.attributes

-- All that a tag can have.
abbrev pub tag_hashes : List ℕ → TagAttributes → List ℕ
tag_hashes name seen = pair_hashes name seen ++ both_part_hashes name seen

-- All of the first are in the second.
abbrev pub AreAmong : List ℕ → List ℕ → Type 0
AreAmong some all = (hash : ℕ) → Contains some hash → Contains all hash

-- Some are added: all of them, unless memory is refused, and no others.
pub record Adds (result : Result (Unit {0}) AllocError) (old new added : List ℕ) : Type 0 where
  pub all : OnOk result (new ≡ old ++ added)
  pub only : AreAmong new (old ++ added)

-- The hashes hold those of the parts of an attribute's value, where that of its name is one of the parted ones.
abbrev pub HoldsParts : SortedHashes → DefaultHasher → List ℕ → List ℕ → List ℕ → Type 0
HoldsParts parted hasher name value hashes =
    (all : List ℕ) → AreHashesOf all parted → Contains all (hash_after hasher (Some (ByAttribute (lowercased name)))) → AreAmong (part_hashes hasher name value) hashes

-- the same of an attribute, after no name, and after a name
pub record HoldsBothParts (parted : SortedHashes) (unnamed named : DefaultHasher) (hashes : List ℕ) (a : Attribute) : Type 0 where
  pub unnamed_parts : HoldsParts parted unnamed a.name (unwrap_or a.value []) hashes
  pub named_parts : HoldsParts parted named a.name (unwrap_or a.value []) hashes
