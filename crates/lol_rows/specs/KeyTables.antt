-- Tables of addresses by hashes. Addresses are the indices of a list of hashes.
use Rattle.std.specs.Prelude.{ℕ, ◌^◌, ◌≡◌, ◌≤◌, ◌<◌, ◌↔◌, List, Some, Contains, length, slice_get, slice_index_or}
use Rattle.std.specs.List.Sorted.{IsNonDecreasingBy}
use Rattle.lol_rows.specs.declared.key_table.Entry.{Entry}
use Rattle.lol_rows.specs.declared.key_table.KeyTable.{KeyTable}

-- 1. The table

-- The addresses of equal hashes don't fall.
abbrev pub RiseWhereEqual : List Entry → Type 0
RiseWhereEqual entries =
    (i j : ℕ) (d : Entry) → i ≤ j → j < length entries → (slice_index_or entries i d).hash ≡ (slice_index_or entries j d).hash
    → (slice_index_or entries i d).address ≤ (slice_index_or entries j d).address

-- A table has an entry for each address, ascending by hash and then by address. An address has 32 bits.
pub record IsTableOf (all : List ℕ) (table : KeyTable) : Type 0 where
  pub few : length all < 2 ^ 32
  pub members : (entry : Entry) → Contains table.entries.items entry ↔ (slice_get all entry.address ≡ Some entry.hash)
  pub by_hash : IsNonDecreasingBy (λ entry. entry.hash) table.entries.items
  pub by_address : RiseWhereEqual table.entries.items

-- 2. What is found

-- an entry of a range that has this hash
pub record IsEntryWithin (all : List ℕ) (hash start end : ℕ) (entry : Entry) : Type 0 where
  pub hashed : slice_get all entry.address ≡ Some entry.hash
  pub same : entry.hash ≡ hash
  pub low : start ≤ entry.address
  pub high : entry.address < end
