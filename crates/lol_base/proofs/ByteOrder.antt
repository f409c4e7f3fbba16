-- The order of bytes in lower case, byte by byte.
use Rattle.std.proofs.Common.{◌≡◌, ◌∙◌, sym, true≢false, true, false, not, refl, ap, ℕ, zero, suc, ◌+◌, ◌<◌, List, [], ◌∷◌, length, get_or, drop, min, arith, add-one, drop-cons}
use Rattle.std.proofs.lemmas.Bool.Decides.{nat_tests}
use Rattle.std.specs.Char.{to_ascii_lowercase}
use Rattle.std.specs.declared.cmp.Ordering.{Ordering}
use Rattle.std.specs.declared.cmp.Ordering.TheVariants.{Less, Equal, Greater}
use Rattle.std.specs.Bool.{◌==◌}
use Rattle.std.specs.Cmp.{nat_cmp_is}
use Rattle.std.specs.Ordering.{nat_cmp, ordering_index, ordering_then}
use Rattle.std.specs.Cmp.Lexicographic.{slice_cmp}
use Rattle.lol_base.specs.Names.{lowercased}

abbrev pub cmp_from : ℕ → List ℕ → List ℕ → Ordering
cmp_from at xs ys = slice_cmp nat_cmp (lowercased (drop at xs)) (lowercased (drop at ys))

-- the bytes at one offset decide, and else those after it
pub cmp_from-step : (xs ys : List ℕ) (at : ℕ) → at < length xs → at < length ys
    → cmp_from at xs ys ≡ ordering_then (nat_cmp (to_ascii_lowercase (get_or xs at 0)) (to_ascii_lowercase (get_or ys at 0))) (cmp_from (at + 1) xs ys)
cmp_from-step xs ys at h k = rw (drop-cons xs at 0 h, drop-cons ys at 0 k, add-one at) refl

-- equal bytes leave it to those after them
pub cmp_from-more : (xs ys : List ℕ) (at : ℕ) (o : Ordering) → at < length xs → at < length ys
    → o ≡ nat_cmp (to_ascii_lowercase (get_or xs at 0)) (to_ascii_lowercase (get_or ys at 0)) → not (ordering_index o == 1) ≡ false
    → cmp_from at xs ys ≡ cmp_from (at + 1) xs ys
cmp_from-more xs ys at o h k is same =
    cmp_from-step xs ys at h k
    ∙ elim o as (λ v. v ≡ nat_cmp (to_ascii_lowercase (get_or xs at 0)) (to_ascii_lowercase (get_or ys at 0)) → not (ordering_index v == 1) ≡ false
    → ordering_then (nat_cmp (to_ascii_lowercase (get_or xs at 0)) (to_ascii_lowercase (get_or ys at 0))) (cmp_from (at + 1) xs ys) ≡ cmp_from (at + 1) xs ys) [
      | Less ↦ λ less e. absurd (true≢false e)
      | Equal ↦ λ equal e. ap (λ v. ordering_then v (cmp_from (at + 1) xs ys)) (sym equal)
      | Greater ↦ λ greater e. absurd (true≢false e)
    ] is same

-- the first bytes that differ decide
pub cmp_from-found : (xs ys : List ℕ) (at : ℕ) (o : Ordering) → at < length xs → at < length ys
    → o ≡ nat_cmp (to_ascii_lowercase (get_or xs at 0)) (to_ascii_lowercase (get_or ys at 0)) → not (ordering_index o == 1) ≡ true
    → cmp_from at xs ys ≡ o
cmp_from-found xs ys at o h k is other =
    cmp_from-step xs ys at h k
    ∙ elim o as (λ v. v ≡ nat_cmp (to_ascii_lowercase (get_or xs at 0)) (to_ascii_lowercase (get_or ys at 0)) → not (ordering_index v == 1) ≡ true
    → ordering_then (nat_cmp (to_ascii_lowercase (get_or xs at 0)) (to_ascii_lowercase (get_or ys at 0))) (cmp_from (at + 1) xs ys) ≡ v) [
      | Less ↦ λ less e. ap (λ v. ordering_then v (cmp_from (at + 1) xs ys)) (sym less)
      | Equal ↦ λ equal e. absurd (true≢false (sym e))
      | Greater ↦ λ greater e. ap (λ v. ordering_then v (cmp_from (at + 1) xs ys)) (sym greater)
    ] is other

nat_cmp-suc : (a b : ℕ) → nat_cmp a b ≡ nat_cmp (suc a) (suc b)
nat_cmp-suc a b = grind (arith, nat_tests)

-- where one of the lists has ended, the lengths decide
pub cmp_from-end : (xs ys : List ℕ) (at : ℕ) → at ≡ min (length xs) (length ys) → cmp_from at xs ys ≡ nat_cmp (length xs) (length ys)
cmp_from-end [] [] zero e = refl
cmp_from-end [] (y ∷ ys) zero e = nat_cmp_is 0 (suc (length ys)) Less (omega arith)
cmp_from-end (x ∷ xs) [] zero e = nat_cmp_is (suc (length xs)) 0 Greater (omega arith)
cmp_from-end (x ∷ xs) (y ∷ ys) zero e = absurd (omega arith)
cmp_from-end [] [] (suc at) e = absurd (omega arith)
cmp_from-end [] (y ∷ ys) (suc at) e = absurd (omega arith)
cmp_from-end (x ∷ xs) [] (suc at) e = absurd (omega arith)
cmp_from-end (x ∷ xs) (y ∷ ys) (suc at) e = cmp_from-end xs ys at (omega arith) ∙ nat_cmp-suc (length xs) (length ys)
