use Rattle.std.proofs.Common.{ℕ, List, Contains, Result, Ok, Err, sym, subst, nat_cmp}
use Rattle.std.specs.Bool.{OnTrue, OnFalse}
use Rattle.std.specs.List.Sorted.{IsBinarySearchResult}
use Rattle.std.specs.Result.{is_ok}
use Rattle.lol_rows.specs.SortedHashes.{AreHashesOf}
use Rattle.lol_rows.specs.declared.sorted_hashes.SortedHashes.{SortedHashes}
use Rattle.lol_rows.proofs.Searches.{found_or_not}
use Rattle.lol_rows.proofs.sorted_hashes.SortedHashes.has.Goals as goal

module _ (hashes : SortedHashes) (hash : ℕ) where
  found : (r : Result ℕ ℕ) → IsBinarySearchResult (λ y. nat_cmp y hash) hashes.sorted.items r → OnTrue (is_ok r) ((all : List ℕ) → AreHashesOf all hashes → Contains all hash)
  found (Ok i) is = λ all are. (are.members hash).0 (found_or_not hashes.sorted.items are.rise hash (Ok i) is)
  found (Err i) is = tt

  none : (r : Result ℕ ℕ) → IsBinarySearchResult (λ y. nat_cmp y hash) hashes.sorted.items r → OnFalse (is_ok r) ((all : List ℕ) → AreHashesOf all hashes → Contains all hash → ⊥)
  none (Ok i) is = tt
  none (Err i) is = λ all are known. found_or_not hashes.sorted.items are.rise hash (Err i) is ((are.members hash).1 known)

module _ (c : goal.After-is_ok) where
  searched : IsBinarySearchResult (λ y. nat_cmp y c.args.hash) c.args.self.now.sorted.items c.binary_search.result
  searched = subst (λ (l : List ℕ). IsBinarySearchResult (λ y. nat_cmp y c.args.hash) l c.binary_search.result) c.deref.ensures.value c.binary_search.ensures.position

pub returns-clause-found : goal.returns-clause-found
returns-clause-found c =
    subst (λ b. OnTrue b ((all : List ℕ) → AreHashesOf all c.args.self.now → Contains all c.args.hash)) (sym c.is_ok.ensures.value)
    (found c.args.self.now c.args.hash c.binary_search.result (searched c))

pub returns-clause-none : goal.returns-clause-none
returns-clause-none c =
    subst (λ b. OnFalse b ((all : List ℕ) → AreHashesOf all c.args.self.now → Contains all c.args.hash → ⊥)) (sym c.is_ok.ensures.value)
    (none c.args.self.now c.args.hash c.binary_search.result (searched c))
