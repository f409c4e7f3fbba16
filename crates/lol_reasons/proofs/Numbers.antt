-- The numbers of the items that match.
use Rattle.std.proofs.Common.{◌≡◌, ℕ, zero, suc, ◌+◌, ◌<◌, Bool, true, false, cond, List, [], ◌∷◌, ◌++◌, length, map, filter, Option, None, inl, inr, refl, sym, ap, ◌∙◌, subst, arith}
use Rattle.lol_base.specs.Ascending.{with_number, ascending_once}
use Rattle.std.specs.Prelude.{filter_map, ◌==◌}
use Rattle.std.specs.List.{cons_option}
use Rattle.std.proofs.lemmas.Bool.Decides.{Decides-ltb}
use Rattle.lol_base.specs.MemberLaws.{Among}
use Rattle.lol_base.specs.PlaceLaws.{some_is}
use Rattle.lol_instructions.specs.Tests.{Element}
use Rattle.lol_program.specs.Paths.{Path}
use Rattle.lol_program.specs.Programs.{IsAt}
use Rattle.lol_machine.specs.Answers.{matching_ids}
use Rattle.lol_machine.specs.Matching.{matches}
use Rattle.lol_reasons.specs.Explanations.{Added, added_items}
use Rattle.lol_reasons.specs.Numbered.{numbered_from}

-- 1. The numbers of the items that match, ascending

module _ (e : Element) (outer : List Element) where
  abbrev pub matched_from : ℕ → List Added → List ℕ
  matched_from n [] = []
  matched_from n (a ∷ added) = cond (matches a.path e outer) (n ∷ matched_from (n + 1) added) (matched_from (n + 1) added)

  comes_first : (n m : ℕ) → n < m → (added : List Added) → with_number n (matched_from m added) ≡ n ∷ matched_from m added
  comes_first n m less [] = refl
  comes_first n m less (a ∷ added) = by_test (matches a.path e outer) (comes_first n (m + 1) (omega (arith, less)) added)
    where
      by_test : (b : Bool) → with_number n (matched_from (m + 1) added) ≡ n ∷ matched_from (m + 1) added
          → with_number n (cond b (m ∷ matched_from (m + 1) added) (matched_from (m + 1) added)) ≡ n ∷ cond b (m ∷ matched_from (m + 1) added) (matched_from (m + 1) added)
      by_test true later = ap (λ b. cond b (n ∷ m ∷ matched_from (m + 1) added) (cond (n == m) (m ∷ matched_from (m + 1) added) (m ∷ with_number n (matched_from (m + 1) added)))) ((Decides-ltb n m).1 less)
      by_test false later = later

  pub matched_are_ids : (n : ℕ) (added : List Added) → matching_ids (numbered_from n added) e outer ≡ matched_from n added
  matched_are_ids n [] = refl
  matched_are_ids n (a ∷ added) = by_test (matches a.path e outer) (matched_are_ids (n + 1) added)
    where
      rest : List (Path × ℕ)
      rest = filter (λ (p : Path × ℕ). matches p.0 e outer) (numbered_from (n + 1) added)

      by_test : (b : Bool) → ascending_once (map (λ (p : Path × ℕ). p.1) rest) ≡ matched_from (n + 1) added
          → ascending_once (map (λ (p : Path × ℕ). p.1) (cond b ((a.path, n) ∷ rest) rest)) ≡ cond b (n ∷ matched_from (n + 1) added) (matched_from (n + 1) added)
      by_test true later = ap (with_number n) later ∙ comes_first n (n + 1) (omega arith) added
      by_test false later = later

  -- an item that matches
  pub record MatchedAt (n : ℕ) (added : List Added) (k : ℕ) : Type 0 where
    pub index : ℕ
    pub by : Added
    pub at : IsAt added index by
    pub is : n + index ≡ k
    pub fits : matches by.path e outer ≡ true

  pub matched_at : (n : ℕ) (added : List Added) (k : ℕ) → Among (matched_from n added) k → MatchedAt n added k
  matched_at n [] k h = absurd h
  matched_at n (a ∷ added) k h = by_test (matches a.path e outer) refl h (matched_at (n + 1) added k)
    where
      later : MatchedAt (n + 1) added k → MatchedAt n (a ∷ added) k
      later m = record { index = suc m.index; by = m.by; at = m.at; is = omega (arith, m.is); fits = m.fits }

      by_test : (b : Bool) → matches a.path e outer ≡ b → Among (cond b (n ∷ matched_from (n + 1) added) (matched_from (n + 1) added)) k
          → (Among (matched_from (n + 1) added) k → MatchedAt (n + 1) added k) → MatchedAt n (a ∷ added) k
      by_test true is (inl same) rest = record { index = zero; by = a; at = refl; is = omega (arith, same); fits = is }
      by_test true is (inr h) rest = later (rest h)
      by_test false is h rest = later (rest h)

  -- 2. A value for each of them

  module _ {R : Type 0} (value : Added → Option R) (told : ℕ → Option R) (none : (a : Added) → matches a.path e outer ≡ false → value a ≡ None) where
    pub each_told : (n : ℕ) (added : List Added) → ((index : ℕ) (a : Added) → IsAt added index a → told (n + index) ≡ value a)
        → filter_map told (matched_from n added) ≡ filter_map value added
    each_told n [] is = refl
    each_told n (a ∷ added) is =
        by_test (matches a.path e outer) refl (each_told (n + 1) added (λ index b at. ap told (omega arith) ∙ is (suc index) b at))
      where
        first : told n ≡ value a
        first = ap told (omega arith) ∙ is zero a refl

        by_test : (b : Bool) → matches a.path e outer ≡ b → filter_map told (matched_from (n + 1) added) ≡ filter_map value added
            → filter_map told (cond b (n ∷ matched_from (n + 1) added) (matched_from (n + 1) added)) ≡ cons_option (value a) (filter_map value added)
        by_test true is_true later = λ i. cons_option (first i) (later i)
        by_test false is_false later = later ∙ ap (λ o. cons_option o (filter_map value added)) (sym (none a is_false))

-- 3. Pairs under numbers

pub record Numbered (n : ℕ) (added : List Added) (path : Path) (k : ℕ) : Type 0 where
  pub index : ℕ
  pub by : Added
  pub at : IsAt added index by
  pub is : n + index ≡ k
  pub same : by.path ≡ path

pub numbered_at : (n : ℕ) (added : List Added) (path : Path) (k : ℕ) → Among (numbered_from n added) (path, k) → Numbered n added path k
numbered_at n [] path k h = absurd h
numbered_at n (a ∷ added) path k (inl same) =
    record { index = zero; by = a; at = refl; is = omega (arith, ap (λ (p : Path × ℕ). p.1) same); same = ap (λ (p : Path × ℕ). p.0) same }
numbered_at n (a ∷ added) path k (inr h) =
    let later = numbered_at (n + 1) added path k h in
    record { index = suc later.index; by = later.by; at = later.at; is = omega (arith, later.is); same = later.same }

pub at_numbered : (n : ℕ) (added : List Added) (index : ℕ) (a : Added) → IsAt added index a → Among (numbered_from n added) (a.path, n + index)
at_numbered n [] index a at = cc
at_numbered n (b ∷ added) zero a at = inl (ap (λ (x : Added). (x.path, n)) (some_is at) ∙ ap (λ (k : ℕ). (a.path, k)) (omega arith))
at_numbered n (b ∷ added) (suc index) a at =
    inr (subst (λ k. Among (numbered_from (n + 1) added) (a.path, k)) (omega arith) (at_numbered (n + 1) added index a at))

-- 4. More items

pub numbered-append : (n : ℕ) (xs ys : List Added) → numbered_from n (xs ++ ys) ≡ numbered_from n xs ++ numbered_from (n + length xs) ys
numbered-append n [] ys = ap (λ k. numbered_from k ys) (omega arith)
numbered-append n (a ∷ xs) ys =
    ap (λ l. (a.path, n) ∷ l) (numbered-append (n + 1) xs ys ∙ ap (λ k. numbered_from (n + 1) xs ++ numbered_from k ys) (omega arith))

pub items-append : (id text n : ℕ) (xs ys : List Path) → added_items id text n (xs ++ ys) ≡ added_items id text n xs ++ added_items id text (n + length xs) ys
items-append id text n [] ys = ap (λ k. added_items id text k ys) (omega arith)
items-append id text n (x ∷ xs) ys =
    ap (λ l. record { path = x; id = id; text = text; item = n } ∷ l) (items-append id text (n + 1) xs ys ∙ ap (λ k. added_items id text (n + 1) xs ++ added_items id text k ys) (omega arith))
