-- How many words hold an id.
use Rattle.std.proofs.Common.{◌≡◌, ◌≢◌, ℕ, zero, suc, ◌+◌, ◌-◌, ◌*◌, ◌/◌, ◌%◌, ◌^◌, ◌<◌, ◌≤◌, Bool, true, false, cond, inl, inr, List, [], ◌∷◌, ◌++◌, length, get_or, take, drop, not, add-one, drop-cons, nat_eq, nat_lt, true≢false, refl, sym, ap, ◌∙◌, arith}
use Rattle.std.specs.List.{filter}
use Rattle.std.proofs.lemmas.Bool.{cases_eq, cases_lt}
use Rattle.std.proofs.lemmas.Bool.Decides.{nat_tests}
use Rattle.std.proofs.lemmas.List.{get_or_past, drop_all, take_all, length-drop}
use Rattle.std.proofs.lemmas.Nat.{le_or_l, le_or_r}
use Rattle.std.proofs.lemmas.Nat.Bits.{bit_at-zero}
use Rattle.lol_memory.specs.Ids.{words_after, ascending, IsDense}
use Rattle.lol_memory.specs.Words.{holds, ids_from, ids_held, held_from, held_words, NoneHeld, IsTrim, IsMarked, AreDense}
use Rattle.lol_memory.proofs.WordsLemmas.{has-ids_held, some_bit, last_id, within_words}
use Rattle.lol_memory.proofs.IterLemmas.{skipped, keys-ids_held}

-- words that are alike from j on are counted alike
pub held_from_alike : (xs ys : List ℕ) (j n : ℕ) → ((k : ℕ) → j ≤ k → k < j + n → get_or xs k 0 ≡ get_or ys k 0) → held_from xs j n ≡ held_from ys j n
held_from_alike xs ys j zero alike = refl
held_from_alike xs ys j (suc n) alike =
    let here : get_or xs j 0 ≡ get_or ys j 0 = alike j (omega arith) (omega arith) in
    let rest : held_from xs (j + 1) n ≡ held_from ys (j + 1) n = held_from_alike xs ys (j + 1) n (λ k low high. alike k (omega arith) (omega arith)) in
    rw (here, rest) refl

-- words of 0 aren't counted
pub held_from_none : (ws : List ℕ) (j n : ℕ) → ((k : ℕ) → j ≤ k → k < j + n → get_or ws k 0 ≡ 0) → held_from ws j n ≡ 0
held_from_none ws j zero none = refl
held_from_none ws j (suc n) none =
    let here : get_or ws j 0 ≡ 0 = none j (omega arith) (omega arith) in
    let rest : held_from ws (j + 1) n ≡ 0 = held_from_none ws (j + 1) n (λ k low high. none k (omega arith) (omega arith)) in
    rw (here, rest) refl

pub held_from_split : (ws : List ℕ) (j m n : ℕ) → held_from ws j (m + n) ≡ held_from ws j m + held_from ws (j + m) n
held_from_split ws j zero n = grind arith
held_from_split ws j (suc m) n =
    let count : suc m + n ≡ suc (m + n) = omega arith in
    let next : (j + 1) + m ≡ j + suc m = omega arith in
    let rest : held_from ws (j + 1) (m + n) ≡ held_from ws (j + 1) m + held_from ws ((j + 1) + m) n = held_from_split ws (j + 1) m n in
    rw (count, ← next, rest) (elim (nat_eq (get_or ws j 0) 0) as
    (λ b. cond b (held_from ws (j + 1) m + held_from ws ((j + 1) + m) n) (held_from ws (j + 1) m + held_from ws ((j + 1) + m) n + 1)
    ≡ cond b (held_from ws (j + 1) m) (held_from ws (j + 1) m + 1) + held_from ws ((j + 1) + m) n) [ true ↦ refl | false ↦ omega arith ])

pub held_from-le : (ws : List ℕ) (j n : ℕ) → held_from ws j n ≤ n
held_from-le ws j zero = omega arith
held_from-le ws j (suc n) =
    let rest = held_from-le ws (j + 1) n in
    elim (nat_eq (get_or ws j 0) 0) as (λ b. cond b (held_from ws (j + 1) n) (held_from ws (j + 1) n + 1) ≤ suc n) [ true ↦ omega arith | false ↦ omega arith ]

-- the words from j on that aren't 0
count_from : (ws : List ℕ) (n j : ℕ) → j + n ≡ length ws → length (filter (λ w. not (nat_eq w 0)) (drop j ws)) ≡ held_from ws j n
count_from ws zero j end = ap (λ xs. length (filter (λ w. not (nat_eq w 0)) xs)) (drop_all j ws (omega arith))
count_from ws (suc n) j end =
    let first : drop j ws ≡ get_or ws j 0 ∷ drop (j + 1) ws = rw add-one (drop-cons ws j 0 (omega arith)) in
    let rest : length (filter (λ w. not (nat_eq w 0)) (drop (j + 1) ws)) ≡ held_from ws (j + 1) n = count_from ws n (j + 1) (omega arith) in
    ap (λ xs. length (filter (λ w. not (nat_eq w 0)) xs)) first ∙ elim (cases_eq (get_or ws j 0) 0) [
      | inl none ↦ let test : nat_eq (get_or ws j 0) 0 ≡ true = rw none refl in rw (test, rest) refl
      | inr some ↦ let test : nat_eq (get_or ws j 0) 0 ≡ false = grind (arith, nat_tests) in rw (test, rest) (omega arith)
    ]

pub count_held : (ws : List ℕ) → 0 < length ws → length (filter (λ w. not (nat_eq w 0)) (take (length ws - 1) (drop 1 ws))) ≡ held_words ws
count_held ws some =
    ap (λ xs. length (filter (λ w. not (nat_eq w 0)) xs)) (take_all (length ws - 1) (drop 1 ws) (omega (arith, length-drop 1 ws))) ∙ count_from ws (length ws - 1) 1 (omega arith)

-- one word that is 0 in xs and not in ys
held_from_one : (xs ys : List ℕ) (number j n : ℕ) → j ≤ number → number < j + n → get_or xs number 0 ≡ 0 → get_or ys number 0 ≢ 0
    → ((k : ℕ) → k ≢ number → get_or ys k 0 ≡ get_or xs k 0) → held_from ys j n ≡ held_from xs j n + 1
held_from_one xs ys number j zero low high none some others = absurd (omega arith)
held_from_one xs ys number j (suc n) low high none some others =
    elim (cases_eq j number) [
      | inl here ↦
          let rest : held_from ys (j + 1) n ≡ held_from xs (j + 1) n = held_from_alike ys xs (j + 1) n (λ k low high. others k (omega arith)) in
          let test : nat_eq (get_or xs j 0) 0 ≡ true = rw here (rw none refl) in
          let test' : nat_eq (get_or ys j 0) 0 ≡ false = rw here (grind (arith, nat_tests)) in
          rw (test, test', rest) refl
      | inr other ↦
          let rest : held_from ys (j + 1) n ≡ held_from xs (j + 1) n + 1 = held_from_one xs ys number (j + 1) n (omega arith) (omega arith) none some others in
          let same : get_or ys j 0 ≡ get_or xs j 0 = others j other in
          rw (same, rest) (elim (nat_eq (get_or xs j 0) 0) as (λ b. cond b (held_from xs (j + 1) n + 1) (held_from xs (j + 1) n + 1 + 1) ≡ cond b (held_from xs (j + 1) n) (held_from xs (j + 1) n + 1) + 1) [ true ↦ refl | false ↦ refl ])
    ]

-- words of 0 at the end aren't counted
pub held_words_wider : (ws : List ℕ) (n : ℕ) → 0 < length ws → length ws - 1 ≤ n → held_from ws 1 n ≡ held_words ws
held_words_wider ws n some wide =
    let m : ℕ = n - (length ws - 1) in
    let count : n ≡ (length ws - 1) + m = omega arith in
    let none : held_from ws (1 + (length ws - 1)) m ≡ 0 = held_from_none ws (1 + (length ws - 1)) m (λ k low high. get_or_past ws k 0 (omega arith)) in
    ap (held_from ws 1) count ∙ held_from_split ws 1 (length ws - 1) m ∙ rw none (omega arith)

pub held_words-le : (ws : List ℕ) → held_words ws ≤ length ws
held_words-le ws = omega (arith, held_from-le ws 1 (length ws - 1))

-- where each word that isn't 0 stays so, no fewer are counted
pub held_from_more : (xs ys : List ℕ) (j n : ℕ) → ((k : ℕ) → get_or xs k 0 ≢ 0 → get_or ys k 0 ≢ 0) → held_from xs j n ≤ held_from ys j n
held_from_more xs ys j zero more = omega arith
held_from_more xs ys j (suc n) more =
    let rest : held_from xs (j + 1) n ≤ held_from ys (j + 1) n = held_from_more xs ys (j + 1) n more in
    elim (cases_eq (get_or xs j 0) 0) [
      | inl none ↦
          let test : nat_eq (get_or xs j 0) 0 ≡ true = rw none refl in
          rw test (elim (nat_eq (get_or ys j 0) 0) as (λ b. held_from xs (j + 1) n ≤ cond b (held_from ys (j + 1) n) (held_from ys (j + 1) n + 1)) [ true ↦ rest | false ↦ omega arith ])
      | inr some ↦
          let there : get_or ys j 0 ≢ 0 = more j some in
          let test : nat_eq (get_or xs j 0) 0 ≡ false = grind (arith, nat_tests) in
          let test' : nat_eq (get_or ys j 0) 0 ≡ false = grind (arith, nat_tests) in
          rw (test, test') (omega arith)
    ]

pub held_words_more : (xs ys : List ℕ) → 0 < length xs → length xs ≤ length ys → ((k : ℕ) → get_or xs k 0 ≢ 0 → get_or ys k 0 ≢ 0) → held_words xs ≤ held_words ys
held_words_more xs ys some wider more =
    omega (arith, held_from_more xs ys 1 (length ys - 1) more, held_words_wider xs (length ys - 1) some (omega arith))

module _ (old new : List ℕ) (number bits : ℕ) (some : 0 < length old) (marked : IsMarked old new number bits) where
  stay : (k : ℕ) → get_or old k 0 ≢ 0 → get_or new k 0 ≢ 0
  stay k there none =
      elim (cases_eq k number) [
        | inl here ↦ there (omega (arith, ap (λ j. get_or old j 0) here, ap (λ j. get_or new j 0) here, marked.here, none, le_or_l (get_or old number 0) bits))
        | inr other ↦ there (sym (marked.others k other) ∙ none)
      ]

  pub held_marked : held_words old ≤ held_words new
  held_marked = held_words_more old new some (omega (arith, marked.words)) stay

  -- a word that was 0 counts one more, if it isn't the first
  pub held_marked_new : bits ≢ 0 → 0 < number → get_or old number 0 ≡ 0 → held_words new ≡ held_words old + 1
  held_marked_new held after none =
      let there : get_or new number 0 ≢ 0 = λ empty. held (omega (arith, marked.here, le_or_r (get_or old number 0) bits)) in
      held_from_one old new number 1 (length new - 1) (omega arith) (omega (arith, marked.words)) none there marked.others
      ∙ ap (λ n. n + 1) (held_words_wider old (length new - 1) some (omega (arith, marked.words)))

-- ---- the words that hold an id, by the ids
ids_from_split : (ws : List ℕ) (from m n : ℕ) → ids_from ws from (m + n) ≡ ids_from ws from m ++ ids_from ws (from + m) n
ids_from_split ws from zero n = grind arith
ids_from_split ws from (suc m) n =
    let count : suc m + n ≡ suc (m + n) = omega arith in
    let next : (from + 1) + m ≡ from + suc m = omega arith in
    let rest : ids_from ws (from + 1) (m + n) ≡ ids_from ws (from + 1) m ++ ids_from ws ((from + 1) + m) n = ids_from_split ws (from + 1) m n in
    rw (count, ← next, rest) (elim (holds ws from) as
    (λ b. cond b (from ∷ (ids_from ws (from + 1) m ++ ids_from ws ((from + 1) + m) n)) (ids_from ws (from + 1) m ++ ids_from ws ((from + 1) + m) n)
    ≡ cond b (from ∷ ids_from ws (from + 1) m) (ids_from ws (from + 1) m) ++ ids_from ws ((from + 1) + m) n) [ true ↦ refl | false ↦ refl ])

-- ids of the word j aren't after it
after_same : (ws qs : List ℕ) (j from n : ℕ) → 32 * j ≤ from → from + n ≤ 32 * j + 32 → words_after j (ids_from ws from n ++ qs) ≡ words_after j qs
after_same ws qs j from zero low high = refl
after_same ws qs j from (suc n) low high =
    let rest : words_after j (ids_from ws (from + 1) n ++ qs) ≡ words_after j qs = after_same ws qs j (from + 1) n (omega arith) (omega arith) in
    let word : from / 32 ≡ j = omega arith in
    let test : nat_lt j (from / 32) ≡ false = grind (arith, nat_tests) in
    elim (holds ws from) as (λ b. words_after j (cond b (from ∷ ids_from ws (from + 1) n) (ids_from ws (from + 1) n) ++ qs) ≡ words_after j qs) [
      | true ↦ rw test rest
      | false ↦ rest
    ]

-- the first of them counts its word
after_new : (ws qs : List ℕ) (w j from n : ℕ) → w < j → 32 * j ≤ from → from + n ≤ 32 * j + 32
    → (q : ℕ) → from ≤ q → q < from + n → holds ws q ≡ true → words_after w (ids_from ws from n ++ qs) ≡ words_after j qs + 1
after_new ws qs w j from zero less low high q at below held = absurd (omega arith)
after_new ws qs w j from (suc n) less low high q at below held =
    by_first (holds ws from) refl (λ later. after_new ws qs w j (from + 1) n less (omega arith) (omega arith) q (omega arith) (omega arith) held)
  where
    by_first : (b : Bool) → holds ws from ≡ b → (from ≢ q → words_after w (ids_from ws (from + 1) n ++ qs) ≡ words_after j qs + 1)
        → words_after w (cond (holds ws from) (from ∷ ids_from ws (from + 1) n) (ids_from ws (from + 1) n) ++ qs) ≡ words_after j qs + 1
    by_first true here rest_of =
        let word : from / 32 ≡ j = omega arith in
        let test : nat_lt w (from / 32) ≡ true = grind (arith, nat_tests) in
        let rest : words_after j (ids_from ws (from + 1) n ++ qs) ≡ words_after j qs = after_same ws qs j (from + 1) n (omega arith) (omega arith) in
        rw here (rw test (rw word (rw rest refl)))
    by_first false here rest_of =
        let later : from ≢ q = λ same. true≢false (sym held ∙ (ap (holds ws) (sym same) ∙ here)) in
        rw here (rest_of later)

module _ (ws : List ℕ) (fit : (j : ℕ) → get_or ws j 0 < 2 ^ 32) where
  pub word_is_held : (j : ℕ) → get_or ws j 0 ≢ 0 → (q : ℕ) × (32 * j ≤ q) × (q < 32 * j + 32) × (holds ws q ≡ true)
  unfolding holds
  word_is_held j some =
      let bit = some_bit (get_or ws j 0) some (fit j) in
      let q = 32 * j + bit.0 in
      let word : q / 32 ≡ j = omega (arith, bit.1) in
      let rest : q % 32 ≡ bit.0 = omega (arith, bit.1) in
      (q, omega arith, omega (arith, bit.1), rw (word, rest, bit.2) refl)

  none_in_word : (j : ℕ) → get_or ws j 0 ≡ 0 → NoneHeld ws (32 * j) (32 * j + 32)
  unfolding holds
  none_in_word j none q low high =
      let word : q / 32 ≡ j = omega arith in
      rw (word, none) (rw (bit_at-zero (q % 32)) refl)

  words_counted : (n j w : ℕ) → w < j → words_after w (ids_from ws (32 * j) (32 * n)) ≡ held_from ws j n
  words_counted zero j w less = refl
  words_counted (suc n) j w less =
      let count : 32 * suc n ≡ 32 + 32 * n = omega arith in
      let next : 32 * j + 32 ≡ 32 * (j + 1) = omega arith in
      let qs : List ℕ = ids_from ws (32 * (j + 1)) (32 * n) in
      let split : ids_from ws (32 * j) (32 * suc n) ≡ ids_from ws (32 * j) 32 ++ qs =
      ap (ids_from ws (32 * j)) count ∙ ids_from_split ws (32 * j) 32 (32 * n) ∙ ap (λ m. ids_from ws (32 * j) 32 ++ ids_from ws m (32 * n)) next in
      ap (words_after w) split ∙ elim (cases_eq (get_or ws j 0) 0) [
        | inl none ↦
            let empty : ids_from ws (32 * j) 32 ≡ [] = skipped ws (32 * j) 32 0 (none_in_word j none) in
            let test : nat_eq (get_or ws j 0) 0 ≡ true = rw none refl in
            ap (λ xs. words_after w (xs ++ qs)) empty ∙ words_counted n (j + 1) w (omega arith) ∙ rw test refl
        | inr some ↦
            let id = word_is_held j some in
            let test : nat_eq (get_or ws j 0) 0 ≡ false = grind (arith, nat_tests) in
            after_new ws qs w j (32 * j) 32 less (omega arith) (omega arith) id.0 id.1 id.2 id.3 ∙ ap (λ m. m + 1) (words_counted n (j + 1) j (omega arith)) ∙ rw test refl
      ]

module _ (ws : List ℕ) (trim : IsTrim ws) where
  held_ids : words_after 0 (ascending (ids_held ws)) ≡ held_words ws
  held_ids =
      let n : ℕ = length ws - 1 in
      let count : 32 * length ws ≡ 32 + 32 * n = omega (arith, trim.some) in
      let split : ids_from ws 0 (32 * length ws) ≡ ids_from ws 0 32 ++ ids_from ws (32 * 1) (32 * n) =
      ap (ids_from ws 0) count ∙ ids_from_split ws 0 32 (32 * n) in
      ap (words_after 0) (keys-ids_held ws ∙ split) ∙ after_same ws (ids_from ws (32 * 1) (32 * n)) 0 0 32 (omega arith) (omega arith) ∙ words_counted ws trim.fit n 1 0 (omega arith)

  -- the words are dense exactly if their ids are
  pub words_of_dense : IsDense (ids_held ws) → AreDense (length ws) (held_words ws)
  words_of_dense dense =
      elim (cases_lt 1 (length ws)) [
        | inl several ↦
            let last = last_id ws trim several in
            omega (arith, last.1, held_ids, dense.words last.0 (has-ids_held ws last.0 ∙ last.2))
        | inr one ↦ omega arith
      ]

  pub dense_of_words : AreDense (length ws) (held_words ws) → IsDense (ids_held ws)
  dense_of_words dense = record { words = λ q held. omega (arith, held_ids, within_words ws q (sym (has-ids_held ws q) ∙ held)) }
