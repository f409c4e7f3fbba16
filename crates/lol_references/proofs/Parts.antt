-- Where the parts of the table begin: none begins before the one in front of it, and none behind the table's end.
use Rattle.std.proofs.Common.{◌≡◌, ℕ, zero, suc, ◌<◌, ◌≤◌, Bool, true, List, [], ◌∷◌, length, get_or, refl, arith}
use Rattle.std.specs.Prelude.{nat_le, ◌&&◌}
use Rattle.std.proofs.lemmas.Bool.{leb-true}
use Rattle.lol_references.proofs.Order.{first, second}
use Rattle.lol_references.specs.declared.names.TheConstants.{NAMES, PARTS}

unfoldable pub rises : ℕ → List ℕ → ℕ → Bool
rises low [] top = nat_le low top
rises low (n ∷ ns) top = nat_le low n && rises n ns top

pub table_rises : rises 0 PARTS (length NAMES.now) ≡ true
unfolding rises
table_rises = refl

pub bounded : (low : ℕ) (ns : List ℕ) (top : ℕ) → rises low ns top ≡ true → low ≤ top
unfolding rises
bounded low [] top h = leb-true low top h
bounded low (n ∷ ns) top h =
    let here = leb-true low n (first (nat_le low n) (rises n ns top) h) in
    let later = bounded n ns top (second (nat_le low n) (rises n ns top) h) in
    omega arith

pub record Bounds (ns : List ℕ) (place top : ℕ) : Type 0 where
  pub rise : get_or ns place 0 ≤ get_or ns (suc place) 0
  pub within : get_or ns (suc place) 0 ≤ top

pub ordered : (low : ℕ) (ns : List ℕ) (top : ℕ) → rises low ns top ≡ true → (place : ℕ) → suc place < length ns → Bounds ns place top
unfolding rises
ordered low [] top h place short = absurd (omega arith)
ordered low (n ∷ []) top h place short = absurd (omega arith)
ordered low (n ∷ m ∷ ns) top h zero short =
    let behind = second (nat_le low n) (rises n (m ∷ ns) top) h in
    record {
      rise = leb-true n m (first (nat_le n m) (rises m ns top) behind);
      within = bounded m ns top (second (nat_le n m) (rises m ns top) behind);
    }
ordered low (n ∷ m ∷ ns) top h (suc place) short =
    let later = ordered n (m ∷ ns) top (second (nat_le low n) (rises n (m ∷ ns) top) h) place (omega arith) in
    record { rise = later.rise; within = later.within }

pub bounds_of_parts : (place : ℕ) → suc place < length PARTS → Bounds PARTS place (length NAMES.now)
bounds_of_parts place short = ordered 0 PARTS (length NAMES.now) table_rises place short
