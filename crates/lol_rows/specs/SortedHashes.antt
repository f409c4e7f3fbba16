-- Which hashes there are.
use Rattle.std.specs.Prelude.{ℕ, ◌↔◌, List, Contains}
use Rattle.std.specs.List.Sorted.{IsStrictlyIncreasing}
use Rattle.lol_rows.specs.declared.sorted_hashes.SortedHashes.{SortedHashes}

-- They are those of a list, ascending, each once.
pub record AreHashesOf (all : List ℕ) (hashes : SortedHashes) : Type 0 where
  pub members : (hash : ℕ) → Contains hashes.sorted.items hash ↔ Contains all hash
  pub rise : IsStrictlyIncreasing hashes.sorted.items
