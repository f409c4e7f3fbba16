-- Words of 32 bits as sets of ids.
use Rattle.std.proofs.Common.{◌≡◌, ◌≢◌, ℕ, zero, suc, ◌+◌, ◌-◌, ◌*◌, ◌/◌, ◌%◌, ◌^◌, ◌<◌, ◌≤◌, Bool, true, false, cond, ◌||◌, ◌&&◌, List, [], ◌∷◌, length, get_or, nat_eq, bit_or, max, refl, sym, true≢false, ap, ◌∙◌, arith, inl, inr, w32, ◌⊎◌}
use Rattle.std.specs.Int.{bit_at, trailing_zeros}
use Rattle.std.specs.List.{list_any}
use Rattle.std.specs.Ordering.{nat_cmp, eq_by_cmp}
use Rattle.std.specs.Cmp.{unsigned_tied, nat_eq_equiv}
use Rattle.std.proofs.lemmas.Nat.Bits.{bit_at_or, bit_at_set_same, bit_at_set_other, bit_at-zero, bit_at-trailing_zeros, bit_at_above, same_from_bits, bit_at-lt}
use Rattle.std.proofs.lemmas.Bool.{cases_eq, cases_lt}
use Rattle.std.proofs.lemmas.List.{get_or_past, same_lists, get_or_default}
use Rattle.std.proofs.lemmas.Nat.{le_or_l, le_or_r, or_of_32}
use Rattle.std.specs.Bool.{Decides}
use Rattle.std.proofs.lemmas.Bool.Decides.{nat_tests, same_from_decides, Decides-like}
use Rattle.lol_memory.specs.Ids.{AllSmall, same_ids, has, with_id, no_ids, union}
use Rattle.lol_memory.specs.Words.{holds, ids_held, ids_from, IsTrim, IsMarked, IsJoined}
use Rattle.lol_memory.specs.SetLaws.{same_set, has-no_ids, has-with_id, has-with_ids, has-union, same_ids-Decides}

list_any-cond : (p : ℕ → Bool) (b : Bool) (x : ℕ) (xs : List ℕ) → list_any p (cond b (x ∷ xs) xs) ≡ ((b && p x) || list_any p xs)
list_any-cond p true x xs = refl
list_any-cond p false x xs = refl

-- a number that does not lie among n from `from` on does not stand among their ids
list_any-outside : (ws : List ℕ) (from n q : ℕ) → (q < from) ⊎ (from + n ≤ q) → list_any (λ y. nat_eq y q) (ids_from ws from n) ≡ false
list_any-outside ws from zero q out = refl
list_any-outside ws from (suc n) q out =
    let rest : list_any (λ y. nat_eq y q) (ids_from ws (from + 1) n) ≡ false =
    list_any-outside ws (from + 1) n q (elim out [ inl below ↦ inl (omega arith) | inr above ↦ inr (omega arith) ]) in
    let apart : nat_eq from q ≡ false = elim out [ inl below ↦ grind (arith, nat_tests) | inr above ↦ grind (arith, nat_tests) ] in
    list_any-cond (λ y. nat_eq y q) (holds ws from) from (ids_from ws (from + 1) n) ∙ rw (rest, apart) (elim (holds ws from) as (λ b. ((b && false) || false) ≡ false) [ true ↦ refl | false ↦ refl ])

-- one that does stands there exactly if the words hold it
list_any-inside : (ws : List ℕ) (from n q : ℕ) → from ≤ q → q < from + n → list_any (λ y. nat_eq y q) (ids_from ws from n) ≡ holds ws q
list_any-inside ws from zero q low high = absurd (omega arith)
list_any-inside ws from (suc n) q low high =
    list_any-cond (λ y. nat_eq y q) (holds ws from) from (ids_from ws (from + 1) n)
    ∙ elim (cases_eq from q) [
      | inl here ↦
          let none = list_any-outside ws (from + 1) n q (inl (omega arith)) in
          let same : nat_eq from q ≡ true = grind (arith, nat_tests) in
          rw (none, same, here) (elim (holds ws q) as (λ b. ((b && true) || false) ≡ b) [ true ↦ refl | false ↦ refl ])
      | inr other ↦
          let apart : nat_eq from q ≡ false = grind (arith, nat_tests) in
          let rest = list_any-inside ws (from + 1) n q (omega arith) (omega arith) in
          rw (rest, apart) (elim (holds ws from) as (λ b. ((b && false) || holds ws q) ≡ holds ws q) [ true ↦ refl | false ↦ refl ])
    ]

-- past the words nothing is held
holds-past : (ws : List ℕ) (q : ℕ) → 32 * length ws ≤ q → holds ws q ≡ false
unfolding holds
holds-past ws q far =
    let none : get_or ws (q / 32) 0 ≡ 0 = get_or_past ws (q / 32) 0 (omega arith) in
    rw none (rw (bit_at-zero (q % 32)) refl)

list_any-flipped : (ks : List ℕ) (q : ℕ) → list_any (eq_by_cmp nat_cmp q) ks ≡ list_any (λ y. nat_eq y q) ks
list_any-flipped [] q = refl
list_any-flipped (k ∷ ks) q = λ i. (unsigned_tied q k ∙ nat_eq_equiv.symm q k) i || list_any-flipped ks q i

pub has-ids_held : (ws : List ℕ) (q : ℕ) → has (ids_held ws) q ≡ holds ws q
unfolding ids_held
has-ids_held ws q =
    has-with_ids no_ids (ids_from ws 0 (32 * length ws)) q ∙ ap (λ b. b || list_any (eq_by_cmp nat_cmp q) (ids_from ws 0 (32 * length ws))) (has-no_ids q) ∙ list_any-flipped (ids_from ws 0 (32 * length ws)) q
    ∙ elim (cases_lt q (32 * length ws)) [
      | inl near ↦ list_any-inside ws 0 (32 * length ws) q (omega arith) (omega arith)
      | inr far ↦ list_any-outside ws 0 (32 * length ws) q (inr (omega arith)) ∙ sym (holds-past ws q far)
    ]

pub ids_held-insert : (xs ys : List ℕ) (id : ℕ) → ((q : ℕ) → holds ys q ≡ (nat_eq q id || holds xs q)) → ids_held ys ≡ with_id (ids_held xs) id
ids_held-insert xs ys id same =
    same_set _ _
    (λ q. has-ids_held ys q ∙ same q ∙ sym (has-with_id (ids_held xs) id q ∙ (λ i. unsigned_tied q id i || has-ids_held xs q i)))

pub ids_held-union : (xs ys zs : List ℕ) → ((q : ℕ) → holds zs q ≡ (holds xs q || holds ys q)) → ids_held zs ≡ union (ids_held xs) (ids_held ys)
ids_held-union xs ys zs same =
    same_set _ _
    (λ q. has-ids_held zs q ∙ same q ∙ sym (has-union (ids_held xs) (ids_held ys) q ∙ (λ i. has-ids_held xs q i || has-ids_held ys q i)))

-- a word with a bit set
one_bit : (word k : ℕ) → k < 32 → 0 < bit_or word (1 * 2 ^ k % 2 ^ 32)
one_bit word k small =
    let set_there : bit_at (bit_or word (1 * 2 ^ k % 2 ^ 32)) k ≡ 1 = bit_at_set_same w32 word k small in
    elim (cases_eq (bit_or word (1 * 2 ^ k % 2 ^ 32)) 0) [
      | inl none ↦ absurd (let zero_there : bit_at (bit_or word (1 * 2 ^ k % 2 ^ 32)) k ≡ 0 = rw none (bit_at-zero k) in omega arith)
      | inr some ↦ omega arith
    ]

module _ (old new : List ℕ) (id : ℕ) where
  pub marked : IsTrim old → id < 2 ^ 32 → IsMarked old new (id / 32) (1 * 2 ^ (id % 32) % 2 ^ 32) → IsTrim new × (ids_held new ≡ with_id (ids_held old) id)
  unfolding holds
  marked trim fits is =
      let number = id / 32 in
      let old_word = get_or old number 0 in
      let word = bit_or old_word (1 * 2 ^ (id % 32) % 2 ^ 32) in
      let some : 0 < word = one_bit old_word (id % 32) (omega arith) in (
        record {
          some = omega (arith, trim.some, is.words);
          few = omega (arith, trim.few, is.words);
          fit = λ j.
              elim (cases_eq j number) [
                | inl here ↦ rw (here, is.here) (or_of_32 old_word (1 * 2 ^ (id % 32) % 2 ^ 32) (trim.fit number) (omega arith))
                | inr other ↦ rw (is.others j other) (trim.fit j)
              ];
          last = λ more.
              elim (cases_eq (length new - 1) number) [
                | inl here ↦ λ none. omega (arith, is.here, rw here at none)
                | inr other ↦ λ none. trim.last (omega (arith, trim.some, is.words)) (let there : length new - 1 ≡ length old - 1 = omega (arith, trim.some, is.words) in rw (← there) (sym (is.others (length new - 1) other) ∙ none))
              ];
        },
        ids_held-insert old new id
            (λ q. elim (cases_eq (q / 32) number) [
              | inl here ↦ elim (cases_eq (q % 32) (id % 32)) [
                | inl bit ↦
                    let q_is : q ≡ id = omega arith in
                    let one : bit_at (get_or new (q / 32) 0) (q % 32) ≡ 1 = rw (here, is.here, bit) (bit_at_set_same w32 old_word (id % 32) (omega arith)) in
                    rw one (rw q_is (grind (arith, nat_tests)))
                | inr bit ↦
                    let one : bit_at (get_or new (q / 32) 0) (q % 32) ≡ bit_at (get_or old (q / 32) 0) (q % 32) =
                    rw (here, is.here) (bit_at_set_other w32 old_word (id % 32) (omega arith) (q % 32) bit) in
                    let differs : nat_eq q id ≡ false = grind (arith, nat_tests) in
                    rw (one, differs)
              ]
              | inr other ↦
                  let one = is.others (q / 32) other in
                  let differs : nat_eq q id ≡ false = grind (arith, nat_tests) in
                  rw (one, differs)
            ]),
      )

none_held : (q : ℕ) → holds (0 ∷ []) q ≡ false
unfolding holds
none_held q =
    elim (cases_lt q 32) [
      | inl near ↦ let first : q / 32 ≡ 0 = omega arith in rw first (rw (bit_at-zero (q % 32)) refl)
      | inr far ↦ let zeros : List ℕ = 0 ∷ [] in let past_it : get_or zeros (q / 32) 0 ≡ 0 = get_or_past zeros (q / 32) 0 (omega arith) in rw past_it (rw (bit_at-zero (q % 32)) refl)
    ]

pub ids_held-nothing : ids_held (0 ∷ []) ≡ no_ids
ids_held-nothing =
    same_set _ _ (λ q. has-ids_held (0 ∷ []) q ∙ none_held q ∙ sym (has-no_ids q))

-- a word that is not 0 has a bit
pub some_bit : (word : ℕ) → word ≢ 0 → word < 2 ^ 32 → (k : ℕ) × (k < 32) × (bit_at word k ≡ 1)
some_bit word some fits =
    let zeros = bit_at-trailing_zeros w32 word (omega arith) fits in
    (trailing_zeros w32 word, zeros.0, zeros.1)

module _ (ws : List ℕ) where
  -- several words hold an id in the last
  pub last_id : IsTrim ws → 1 < length ws → (q : ℕ) × (32 * (length ws - 1) ≤ q) × (holds ws q ≡ true)
  unfolding holds
  last_id trim several =
      let last = length ws - 1 in
      let bit = some_bit (get_or ws last 0) (trim.last several) (trim.fit last) in
      let q = 32 * last + bit.0 in
      let word : q / 32 ≡ last = omega (arith, bit.1) in
      let rest : q % 32 ≡ bit.0 = omega (arith, bit.1) in
      (q, omega arith, rw (word, rest, bit.2) refl)

  -- ids below 32 alone make one word
  pub small_word : IsTrim ws → AllSmall (ids_held ws) → length ws ≤ 1
  small_word trim small =
      elim (cases_lt 1 (length ws)) [
        | inl several ↦
            let last = last_id trim several in
            let low : last.0 < 32 = small last.0 (has-ids_held ws last.0 ∙ last.2) in
            absurd (omega (arith, last.1))
        | inr one ↦ one
      ]

  -- an id that the words hold lies in them
  pub within_words : (q : ℕ) → holds ws q ≡ true → q < 32 * length ws
  within_words q held =
      elim (cases_lt q (32 * length ws)) [
        | inl near ↦ near
        | inr far ↦ absurd (true≢false (sym held ∙ holds-past ws q far))
      ]

-- one of two bits
either : (a b : ℕ) → a < 2 → b < 2 → nat_eq (max a b) 1 ≡ (nat_eq a 1 || nat_eq b 1)
either a b small small' = grind (arith, nat_tests)

one_bit_is : (a b : ℕ) → a < 2 → b < 2 → nat_eq a 1 ≡ nat_eq b 1 → a ≡ b
one_bit_is a b small small' same = grind (arith, nat_tests)

module _ (old other new : List ℕ) where
  pub joined : IsTrim old → IsTrim other → IsJoined old other new → IsTrim new × (ids_held new ≡ union (ids_held old) (ids_held other))
  unfolding holds
  joined trim trim' is =
      let at = is.bits in
      let long = is.words in (
        record {
          some = omega (arith, trim.some);
          few = omega (arith, trim.few, trim'.few);
          fit = λ j. rw (at j) (or_of_32 (get_or old j 0) (get_or other j 0) (trim.fit j) (trim'.fit j));
          last = λ more none.
              let last = length new - 1 in
              let left = le_or_l (get_or old last 0) (get_or other last 0) in
              let right = le_or_r (get_or old last 0) (get_or other last 0) in
              elim (cases_lt (length old) (length new)) [
                | inl shorter ↦
                    let there : length other ≡ length new = omega arith in
                    trim'.last (omega arith) (let zero_there : get_or other last 0 ≡ 0 = omega (arith, at last, none, left, right) in rw there zero_there)
                | inr longer ↦
                    let there : length old ≡ length new = omega arith in
                    trim.last (omega arith) (let zero_there : get_or old last 0 ≡ 0 = omega (arith, at last, none, left, right) in rw there zero_there)
              ];
        },
        ids_held-union old other new
            (λ q.
            let bits = bit_at_or (get_or old (q / 32) 0) (get_or other (q / 32) 0) (q % 32) in
            let a = bit_at-lt (get_or old (q / 32) 0) (q % 32) in
            let b = bit_at-lt (get_or other (q / 32) 0) (q % 32) in
            rw (at (q / 32), bits) (either (bit_at (get_or old (q / 32) 0) (q % 32)) (bit_at (get_or other (q / 32) 0) (q % 32)) a b)),
      )

-- lists of words that hold the same ids are the same
module _ (xs ys : List ℕ) (alike : (q : ℕ) → holds xs q ≡ holds ys q) where
  no_longer : IsTrim xs → IsTrim ys → length ys ≤ length xs
  no_longer trim trim' =
      elim (cases_lt (length xs) (length ys)) [
        | inl longer ↦
            let last = last_id ys trim' (omega (arith, trim.some)) in
            let none = holds-past xs last.0 (omega (arith, last.1)) in
            absurd (true≢false (sym last.2 ∙ (sym (alike last.0) ∙ none)))
        | inr other ↦ other
      ]

  same_bit : IsTrim xs → IsTrim ys → (j i : ℕ) → bit_at (get_or xs j 0) i ≡ bit_at (get_or ys j 0) i
  unfolding holds
  same_bit trim trim' j i =
      elim (cases_lt i 32) [
        | inl low ↦
            let word : (32 * j + i) / 32 ≡ j = omega arith in
            let rest : (32 * j + i) % 32 ≡ i = omega arith in
            let tests : nat_eq (bit_at (get_or xs j 0) i) 1 ≡ nat_eq (bit_at (get_or ys j 0) i) 1 = rw (word, rest) at (alike (32 * j + i)) in
            one_bit_is (bit_at (get_or xs j 0) i) (bit_at (get_or ys j 0) i) (bit_at-lt (get_or xs j 0) i) (bit_at-lt (get_or ys j 0) i) tests
        | inr high ↦ bit_at_above (get_or xs j 0) 32 i (trim.fit j) high ∙ sym (bit_at_above (get_or ys j 0) 32 i (trim'.fit j) high)
      ]

module _ (xs ys : List ℕ) (trim : IsTrim xs) (trim' : IsTrim ys) where
  same_words : ids_held xs ≡ ids_held ys → xs ≡ ys
  same_words is =
      let alike : (q : ℕ) → holds xs q ≡ holds ys q = λ q. sym (has-ids_held xs q) ∙ (ap (λ s. has s q) is ∙ has-ids_held ys q) in
      let a = no_longer xs ys alike trim trim' in
      let b = no_longer ys xs (λ q. sym (alike q)) trim' trim in
      same_lists xs ys (omega arith)
      (λ k d within.
      get_or_default xs k d 0 within ∙ (same_from_bits _ _ (same_bit xs ys alike trim trim' k) ∙ get_or_default ys k 0 d (omega arith)))

  pub words_decide : (r : Bool) → Decides r (xs ≡ ys) → r ≡ same_ids (ids_held xs) (ids_held ys)
  words_decide r decides =
      same_from_decides r (same_ids (ids_held xs) (ids_held ys)) decides
      (Decides-like (same_ids (ids_held xs) (ids_held ys)) same_words (ap ids_held) (same_ids-Decides (ids_held xs) (ids_held ys)))
