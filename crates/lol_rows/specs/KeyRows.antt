-- How rows find what a tag leaves.
use Rattle.std.specs.Prelude.{ℕ, ◌≡◌, ◌+◌, ◌<◌, ◌⊎◌, Bool, List, map, filter, length, slice_get, slice_index_or, Some, Contains}
use Rattle.std.specs.Option.{option_copied}
use Rattle.lol_instructions.specs.declared.instruction.Instruction.{Instruction}
use Rattle.lol_rows.specs.declared.key_table.Entry.{Entry}
use Rattle.lol_rows.specs.Rows.{hash_by, keys_by, leaves, passes_at, AreAlikeAt, AreRowsBy, HoldEach}
use Rattle.lol_rows.specs.declared.key_rows.KeyRows.{KeyRows}
use Rattle.lol_rows.specs.declared.tag_keys.TagKeys.{TagKeys}
use Rattle.lol_rows.specs.declared.row_kind.RowKind.{RowKind}

-- Rows can find what a tag leaves: these keys decide it, and its hashes hold those of what it leaves.
pub record CanFind (kind : RowKind) (instructions : List Instruction) (rows : KeyRows) (keys : TagKeys) : Type 0 where
  pub built : AreRowsBy kind instructions rows
  pub decided : (i j : Instruction) → keys_by kind i ≡ keys_by kind j → leaves keys i ≡ leaves keys j
  pub hashed : (hashes : List ℕ) → option_copied keys.hashes ≡ Some hashes → HoldEach hashes kind (leaves keys) instructions

abbrev pub address_of : Entry → ℕ
address_of e = e.address

-- Entries are of instructions with this hash.
abbrev pub AreOfOneHash : RowKind → List Instruction → ℕ → List Entry → Type 0
AreOfOneHash kind instructions hash row =
    (entry : Entry) → Contains row entry → (slice_get (map (hash_by kind) instructions) entry.address ≡ Some hash) × (entry.hash ≡ hash)

-- those of a row that pass
abbrev pub left_of_row : (Instruction → Bool) → List Instruction → List Entry → List ℕ
left_of_row p instructions row = filter (passes_at p instructions) (map address_of row)

-- Where two entries that stand side by side have one hash, their instructions are alike, or the hash is a shared one.
abbrev pub AreBesideAlike : RowKind → List Instruction → List ℕ → List Entry → Type 0
AreBesideAlike kind instructions shared entries =
    (k : ℕ) (d : Entry) → k + 1 < length entries → (slice_index_or entries k d).hash ≡ (slice_index_or entries (k + 1) d).hash
    → Contains shared (slice_index_or entries k d).hash ⊎ AreAlikeAt kind instructions (slice_index_or entries k d).address (slice_index_or entries (k + 1) d).address
