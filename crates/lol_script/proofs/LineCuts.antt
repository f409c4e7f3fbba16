-- Lines, cut from bytes that are read piece by piece.
use Rattle.std.proofs.Common.{◌≡◌, ℕ, ◌+◌, ◌-◌, ◌<◌, Bool, true, false, cond, not, List, [], ◌∷◌, ◌++◌, length, take, drop, position, Option, Some, None, refl, sym, ap, ◌∙◌, arith}
use Rattle.std.specs.Prelude.{nat_lt, option_map, ◌||◌}
use Rattle.std.specs.List.{list_any, position_or_len, slice_split}
use Rattle.std.proofs.lemmas.Bool.Decides.{nat_tests}
use lib.Seq.{drop-append-le, take-append-le}
use Rattle.std.proofs.lemmas.List.{append-nil, drop_at, length-append, length-drop, take_all}
use Rattle.std.proofs.lemmas.List.Folds.{list_any_none}
use Rattle.std.proofs.lemmas.List.Sums.{fails_before_first}
use Rattle.lol_script.specs.ReadLines.{cut_at, is_line_feed, later_lines, next_line}
use Rattle.lol_script.proofs.Fields.{pos_in, pos_at, parts_none, parts_some, within_position}

-- 1. The first offset, in lists that are joined

module _ (p : ℕ → Bool) where
  first_in : (xs ys : List ℕ) → position_or_len p xs < length xs → position_or_len p (xs ++ ys) ≡ position_or_len p xs
  first_in [] ys within = absurd (omega (arith, within))
  first_in (x ∷ xs) ys within = by_test (p x) (first_in xs ys) within
    where
      by_test : (b : Bool) → (position_or_len p xs < length xs → position_or_len p (xs ++ ys) ≡ position_or_len p xs) → cond (not b) (1 + position_or_len p xs) 0 < length (x ∷ xs)
          → cond (not b) (1 + position_or_len p (xs ++ ys)) 0 ≡ cond (not b) (1 + position_or_len p xs) 0
      by_test true later within = refl
      by_test false later within = ap (λ n. 1 + n) (later (omega (arith, within)))

  first_after : (xs ys : List ℕ) → list_any p xs ≡ false → position_or_len p (xs ++ ys) ≡ length xs + position_or_len p ys
  first_after [] ys none = omega arith
  first_after (x ∷ xs) ys none = by_test (p x) (first_after xs ys) none
    where
      by_test : (b : Bool) → (list_any p xs ≡ false → position_or_len p (xs ++ ys) ≡ length xs + position_or_len p ys) → (b || list_any p xs) ≡ false
          → cond (not b) (1 + position_or_len p (xs ++ ys)) 0 ≡ length (x ∷ xs) + position_or_len p ys
      by_test true later none = cc
      by_test false later none = let rest = later none in omega (arith, rest)

  -- the offset stays where more comes
  pub position_in : (xs ys : List ℕ) (n : ℕ) → position p xs ≡ Some n → position p (xs ++ ys) ≡ Some n
  position_in xs ys n found =
      let at = pos_at (position_or_len p xs) (length xs) n found in
      let same = first_in xs ys at.0 ∙ at.1 in
      let size = length-append xs ys in
      let less : n < length (xs ++ ys) = omega (arith, at.0, at.1, size) in
      grind (arith, nat_tests, same, less)

  -- where there is none before, it stands after
  pub position_after : (xs ys : List ℕ) → list_any p xs ≡ false → position p (xs ++ ys) ≡ option_map (λ n. length xs + n) (position p ys)
  position_after xs ys none = by_test (nat_lt (position_or_len p ys) (length ys)) refl
    where
      same : position_or_len p (xs ++ ys) ≡ length xs + position_or_len p ys
      same = first_after xs ys none

      by_test : (b : Bool) → nat_lt (position_or_len p ys) (length ys) ≡ b → position p (xs ++ ys) ≡ option_map (λ n. length xs + n) (position p ys)
      by_test true less =
          let size = length-append xs ys in
          let here : position p ys ≡ Some (position_or_len p ys) = ap (λ b. cond b (Some (position_or_len p ys)) None) less in
          let there : nat_lt (position_or_len p (xs ++ ys)) (length (xs ++ ys)) ≡ true = grind (arith, nat_tests, less, size, same) in
          ap (λ b. cond b (Some (position_or_len p (xs ++ ys))) None) there ∙ (ap Some same ∙ sym (ap (option_map (λ n. length xs + n)) here))
      by_test false past =
          let size = length-append xs ys in
          let here : position p ys ≡ None = ap (λ b. cond b (Some (position_or_len p ys)) None) past in
          let there : nat_lt (position_or_len p (xs ++ ys)) (length (xs ++ ys)) ≡ false = grind (arith, nat_tests, past, size, same) in
          ap (λ b. cond b (Some (position_or_len p (xs ++ ys))) None) there ∙ sym (ap (option_map (λ n. length xs + n)) here)

  pub none_any : (xs : List ℕ) → position p xs ≡ None → list_any p xs ≡ false
  none_any xs none =
      let past = pos_in (position_or_len p xs) (length xs) none in
      list_any_none p xs (λ k d within. fails_before_first p xs k d (omega (arith, past, within)))

  pub any_none : (xs : List ℕ) → list_any p xs ≡ false → position p xs ≡ None
  any_none xs none = ap (position p) (sym (append-nil xs)) ∙ position_after xs [] none

-- what is found in what was appended
pub found_after : (old more new shown : List ℕ) (n : ℕ) (found : Option ℕ) → list_any is_line_feed old ≡ false → new ≡ old ++ more → shown ≡ new → n ≡ length old
    → found ≡ position is_line_feed (take (length shown - n) (drop n shown)) → position is_line_feed new ≡ option_map (λ k. n + k) found
found_after old more new shown n found none appended same size is =
    let whole : shown ≡ old ++ more = same ∙ appended in
    let rest : take (length shown - n) (drop n shown) ≡ more =
    take_all (length shown - n) (drop n shown) (let short = length-drop n shown in omega (arith, short)) ∙ (ap (drop n) whole ∙ drop_at old more n (sym size)) in
    ap (position is_line_feed) appended
    ∙ (position_after is_line_feed old more none ∙ (λ i. option_map (λ k. sym size i + k) (sym (is ∙ ap (position is_line_feed) rest) i)))

-- 2. The next line

-- whatever comes later, the next line is the first, and then come those after it
pub next_split : (number : ℕ) (bytes later : List ℕ) → ((next_line number bytes).is_last ≡ true → later ≡ [])
    → slice_split is_line_feed (bytes ++ later) ≡ (next_line number bytes).line ∷ later_lines (next_line number bytes) later
next_split number bytes later last = by_offset (position is_line_feed bytes) refl last
  where
    by_offset : (offset : Option ℕ) → position is_line_feed bytes ≡ offset → ((cut_at number bytes offset).is_last ≡ true → later ≡ [])
        → slice_split is_line_feed (bytes ++ later) ≡ (cut_at number bytes offset).line ∷ later_lines (cut_at number bytes offset) later
    by_offset (Some n) found last =
        parts_some is_line_feed (bytes ++ later) n (position_in is_line_feed bytes later n found)
        ∙ (λ i. take-append-le n bytes later (omega (arith, within_position is_line_feed bytes n found)) i ∷ slice_split is_line_feed (drop-append-le (n + 1) bytes later (omega (arith, within_position is_line_feed bytes n found)) i))
    by_offset None none last =
        ap (slice_split is_line_feed) (ap (λ (rest : List ℕ). bytes ++ rest) (last refl) ∙ append-nil bytes) ∙ parts_none is_line_feed bytes none
