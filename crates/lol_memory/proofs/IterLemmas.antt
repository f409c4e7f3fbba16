-- The ids that words hold, in order.
use Rattle.std.proofs.Common.{◌≡◌, ◌≢◌, ℕ, zero, suc, ◌+◌, ◌-◌, ◌*◌, ◌/◌, ◌%◌, ◌^◌, ◌<◌, ◌≤◌, true, false, cond, ◌||◌, T, List, [], ◌∷◌, map, length, get_or, is_some, true≢false, max, Bool, refl, sym, ap, subst, ◌∙◌, arith, inl, inr, w32}
use Rattle.std.specs.Iterator.{YieldsFirst}
use Rattle.std.specs.Iterator.Runs.{YieldsInOrder}
use Rattle.std.proofs.iter.runs.Sources.{from_front, as_is}
use Rattle.std.specs.Int.{bit_at, trailing_zeros}
use Rattle.std.specs.List.{list_any}
use Rattle.std.specs.Ordering.{nat_cmp, eq_by_cmp, is_lt}
use Rattle.std.specs.FinMap as fm
use Rattle.std.specs.FinMap.Entries.{is_sorted, below_all, is_some-find}
use Rattle.std.proofs.lemmas.Nat.{shr-shr}
use Rattle.std.proofs.Math.Nat.{div-le_self}
use Rattle.std.proofs.lemmas.Nat.Bits.{bit_at-zero, bit_at-trailing_zeros, bit_at_above}
use Rattle.std.proofs.lemmas.Bool.{cases_lt, cases_eq}
use Rattle.std.proofs.lemmas.Bool.Decides.{nat_tests}
use Rattle.lol_memory.specs.Ids.{Ids, no_ids, with_ids}
use Rattle.lol_memory.specs.Words.{holds, ids_held, ids_from, NoneHeld, IsFirstHeld}
use Rattle.lol_memory.specs.SparseWords.{number_at, bits_at, Ascend, all_words, HasNumber}
use Rattle.lol_memory.specs.declared.sparse_words.SparseWord.{SparseWord}
use Rattle.lol_memory.specs.SetLaws.{same_set, has-no_ids, has-with_ids}
use Rattle.lol_memory.proofs.SparseLemmas.{has_number_or_none, get_or-all_words, length-all_words, word_absent, word_there, number_near}

-- ---- the ids rise
abbrev paired : List ℕ → List (ℕ × Unit {0})
paired = map (λ k. (k, tt))

unpaired : (ks : List ℕ) → map (λ e. e.0) (paired ks) ≡ ks
unpaired [] = refl
unpaired (k ∷ ks) = ap (λ rest. k ∷ rest) (unpaired ks)

is_lt-nat_cmp : (x y : ℕ) → x < y → is_lt (nat_cmp x y) ≡ true
is_lt-nat_cmp x y less = grind (arith, nat_tests)

below_all-ids_from : (ws : List ℕ) (x from n : ℕ) → x < from → below_all nat_cmp x (paired (ids_from ws from n)) ≡ true
below_all-ids_from ws x from zero less = refl
below_all-ids_from ws x from (suc n) less =
    let rest : below_all nat_cmp x (paired (ids_from ws (from + 1) n)) ≡ true = below_all-ids_from ws x (from + 1) n (omega arith) in
    elim (holds ws from) as (λ b. below_all nat_cmp x (paired (cond b (from ∷ ids_from ws (from + 1) n) (ids_from ws (from + 1) n))) ≡ true) [
      | true ↦ rw (is_lt-nat_cmp x from less, rest) refl
      | false ↦ rest
    ]

ids_from-rises : (ws : List ℕ) (from n : ℕ) → is_sorted nat_cmp (paired (ids_from ws from n)) ≡ true
ids_from-rises ws from zero = refl
ids_from-rises ws from (suc n) =
    let rest : is_sorted nat_cmp (paired (ids_from ws (from + 1) n)) ≡ true = ids_from-rises ws (from + 1) n in
    elim (holds ws from) as (λ b. is_sorted nat_cmp (paired (cond b (from ∷ ids_from ws (from + 1) n) (ids_from ws (from + 1) n))) ≡ true) [
      | true ↦ rw (below_all-ids_from ws from (from + 1) n (omega arith), rest) refl
      | false ↦ rest
    ]

-- a list that rises is the keys of its set
pub keys-with_ids : (ks : List ℕ) → is_sorted nat_cmp (paired ks) ≡ true → fm.keys (with_ids no_ids ks) ≡ ks
keys-with_ids ks rise =
    let sorted : T (is_sorted nat_cmp (paired ks)) = subst T (sym rise) tt in
    let made : Ids = fm.from_sorted (paired ks) in
    let same : with_ids no_ids ks ≡ made =
    same_set (with_ids no_ids ks) made
    (λ q.
    has-with_ids no_ids ks q
    ∙ (ap (λ b. b || list_any (eq_by_cmp nat_cmp q) ks) (has-no_ids q)
    ∙ sym (ap is_some (fm.get-from_sorted nat_cmp (paired ks) q sorted)
    ∙ (is_some-find nat_cmp q (paired ks) ∙ ap (list_any (eq_by_cmp nat_cmp q)) (unpaired ks))))) in
    ap fm.keys same ∙ (ap (map (λ e. e.0)) (fm.entries-from_sorted nat_cmp (paired ks) sorted) ∙ unpaired ks)

pub keys-ids_held : (ws : List ℕ) → fm.keys (ids_held ws) ≡ ids_from ws 0 (32 * length ws)
unfolding ids_held
keys-ids_held ws = keys-with_ids (ids_from ws 0 (32 * length ws)) (ids_from-rises ws 0 (32 * length ws))

-- ---- from one id to the next
pub skipped : (ws : List ℕ) (from k n : ℕ) → NoneHeld ws from (from + k) → ids_from ws from (k + n) ≡ ids_from ws (from + k) n
skipped ws from zero n none = grind arith
skipped ws from (suc k) n none =
    let count : suc k + n ≡ suc (k + n) = omega arith in
    let next : (from + 1) + k ≡ from + suc k = omega arith in
    let here : holds ws from ≡ false = none from (omega arith) (omega arith) in
    let rest : ids_from ws (from + 1) (k + n) ≡ ids_from ws ((from + 1) + k) n = skipped ws (from + 1) k n (λ q low high. none q (omega arith) (omega arith)) in
    rw count (rw here (rest ∙ ap (λ m. ids_from ws m n) next))

pub none_left : (ws : List ℕ) (from : ℕ) → from ≤ 32 * length ws → NoneHeld ws from (32 * length ws) → ids_from ws from (32 * length ws - from) ≡ []
none_left ws from within none =
    let k : ℕ = 32 * length ws - from in
    let end : from + k ≡ 32 * length ws = omega arith in
    let count : k + 0 ≡ k = omega arith in
    ap (ids_from ws from) (sym count) ∙ skipped ws from k 0 (rw end none)

pub first_left : (ws : List ℕ) (from q : ℕ) → IsFirstHeld ws from q
    → ids_from ws from (32 * length ws - from) ≡ q ∷ ids_from ws (q + 1) (32 * length ws - (q + 1))
first_left ws from q is =
    let k : ℕ = q - from in
    let n : ℕ = 32 * length ws - (q + 1) in
    let at : from + k ≡ q = omega (arith, is.after) in
    let count : 32 * length ws - from ≡ k + suc n = omega (arith, is.after, is.within) in
    ap (ids_from ws from) count
    ∙ (skipped ws from k (suc n) (rw at is.first) ∙ (ap (λ m. ids_from ws m (suc n)) at ∙ ap (λ b. cond b (q ∷ ids_from ws (q + 1) n) (ids_from ws (q + 1) n)) is.held))

-- ---- what is left of a word
module _ (ws : List ℕ) (at : ℕ) where
  abbrev word : ℕ
  word = get_or ws (at / 32) 0

  abbrev rest : ℕ
  rest = word / 2 ^ (at % 32)

  rest_bit : (k : ℕ) → bit_at rest k ≡ bit_at word (at % 32 + k)
  rest_bit k = ap (λ x. x % 2) (shr-shr word (at % 32) k)

  pub none_in_rest : rest ≡ 0 → NoneHeld ws at ((at / 32 + 1) * 32)
  unfolding holds
  none_in_rest none q low high =
      let k : ℕ = q - at in
      let same_word : q / 32 ≡ at / 32 = omega arith in
      let number : at % 32 + k ≡ q % 32 = omega arith in
      let bit : bit_at word (q % 32) ≡ 0 = ap (bit_at word) (sym number) ∙ (sym (rest_bit k) ∙ (ap (λ w. bit_at w k) none ∙ bit_at-zero k)) in
      rw (same_word, bit) refl

  pub first_in_rest : rest ≢ 0 → word < 2 ^ 32 → at / 32 < length ws → IsFirstHeld ws at (at + trailing_zeros w32 rest)
  unfolding holds
  first_in_rest some fits within =
      let small : rest < 2 ^ 32 = omega (arith, div-le_self word (2 ^ (at % 32))) in
      let zeros = bit_at-trailing_zeros w32 rest (omega arith) small in
      let k : ℕ = trailing_zeros w32 rest in
      let one : bit_at word (at % 32 + k) ≡ 1 = sym (rest_bit k) ∙ zeros.1 in
      let low : at % 32 + k < 32 = elim (cases_lt (at % 32 + k) 32) [
        | inl low ↦ low
        | inr high ↦ absurd (let above : bit_at word (at % 32 + k) ≡ 0 = bit_at_above word 32 (at % 32 + k) fits high in omega arith)
      ] in
      let same_word : (at + k) / 32 ≡ at / 32 = omega arith in
      let number : (at + k) % 32 ≡ at % 32 + k = omega arith in
      record {
        after = omega arith;
        within = omega arith;
        held = rw (same_word, number, one) refl;
        first = λ q from to.
            let j : ℕ = q - at in
            let q_word : q / 32 ≡ at / 32 = omega arith in
            let q_number : q % 32 ≡ at % 32 + j = omega arith in
            let bit : bit_at word (at % 32 + j) ≡ 0 = sym (rest_bit j) ∙ zeros.2 j (omega arith) in
            rw (q_word, q_number, bit) refl;
      }

-- ---- runs of calls of `next`
pub rest_runs : YieldsInOrder (YieldsFirst {A = ℕ} (λ rest. rest)) (λ rest. rest)
rest_runs p s = as_is p p.from (from_front (YieldsFirst {A = ℕ} (λ rest. rest)) (λ x. x) (λ rest. rest) (λ s t h. ap length h.0) (λ s x t h. h) p s)

-- ---- the words with their numbers
-- the words before the index k hold no id from `from` on
abbrev pub PassesWords : List SparseWord → ℕ → ℕ → Type 0
PassesWords ws from k = (i : ℕ) → i < k → NoneHeld (all_words ws) (max from (32 * number_at ws i)) (32 * number_at ws i + 32)

module _ (ws : List SparseWord) (ascend : Ascend ws) (from : ℕ) where
  pub holds-of_number : (q : ℕ) → holds (all_words ws) q ≡ true → HasNumber ws (q / 32)
  unfolding holds
  holds-of_number q held =
      elim (has_number_or_none ws (q / 32)) [
        | inl there ↦ there
        | inr none ↦ absurd (true≢false (sym held ∙ rw (get_or-all_words ws ascend (q / 32), word_absent ws (q / 32) none, bit_at-zero (q % 32)) refl))
      ]

  pub passes_start : (start : ℕ) → start < length ws → 32 * number_at ws start ≤ from → PassesWords ws from start
  passes_start start within near i low q high below = absurd (omega (arith, ascend i start low within))

  -- no id is held from `from` up to the word at the index k
  pub none_passed : (k q : ℕ) → PassesWords ws from k → from ≤ q → ((i : ℕ) → k ≤ i → i < length ws → q < 32 * number_at ws i) → holds (all_words ws) q ≡ false
  none_passed k q passed low high = by_test (holds (all_words ws) q) refl
    where
      by_test : (b : Bool) → holds (all_words ws) q ≡ b → holds (all_words ws) q ≡ false
      by_test false none = none
      by_test true held =
          let there = holds-of_number q held in
          elim (cases_lt there.0 k) [
            | inl before ↦ passed there.0 before q (omega (arith, there.1.is)) (omega (arith, there.1.is))
            | inr after ↦ absurd (omega (arith, high there.0 after there.1.in_range, there.1.is))
          ]

  pub passes_more : (k : ℕ) → PassesWords ws from k → NoneHeld (all_words ws) (max from (32 * number_at ws k)) (32 * number_at ws k + 32) → PassesWords ws from (k + 1)
  passes_more k passed none i low =
      elim (cases_eq i k) [ inl same ↦ rw same none | inr other ↦ passed i (omega arith) ]

  module _ (k at : ℕ) (within : k < length ws) (begins : at ≡ max from (32 * number_at ws k)) where
    here : at / 32 ≡ number_at ws k → get_or (all_words ws) (at / 32) 0 ≡ bits_at ws k
    here is = get_or-all_words ws ascend (at / 32) ∙ word_there ws ascend (at / 32) k (record { in_range = within; is = sym is })

    pub first_in_word : at / 32 ≡ number_at ws k → PassesWords ws from k → bits_at ws k < 2 ^ 32 → bits_at ws k / 2 ^ (at % 32) ≢ 0
        → IsFirstHeld (all_words ws) from (at + trailing_zeros w32 (bits_at ws k / 2 ^ (at % 32)))
    first_in_word is passed fits some =
        let word = here is in
        let near : at / 32 < length (all_words ws) = omega (arith, length-all_words ws, number_near ws k ascend within) in
        let found : IsFirstHeld (all_words ws) at (at + trailing_zeros w32 (bits_at ws k / 2 ^ (at % 32))) =
        subst (λ b. IsFirstHeld (all_words ws) at (at + trailing_zeros w32 (b / 2 ^ (at % 32)))) word
        (first_in_rest (all_words ws) at (rw word some) (rw word fits) near)
        in record {
          after = omega (arith, found.after);
          within = found.within;
          held = found.held;
          first = λ q low high. elim (cases_lt q at) [
            | inl early ↦ none_passed k q passed low (λ i later inside. elim (cases_eq i k) [
              | inl same ↦ omega (arith, ap (number_at ws) same)
              | inr other ↦ omega (arith, ascend k i (omega arith) inside)
            ])
            | inr late ↦ found.first q late high
          ];
        }

    pub none_in_rest_of_word : at / 32 ≡ number_at ws k → bits_at ws k / 2 ^ (at % 32) ≡ 0 → NoneHeld (all_words ws) (max from (32 * number_at ws k)) (32 * number_at ws k + 32)
    none_in_rest_of_word is none q low high =
        let word = here is in
        none_in_rest (all_words ws) at (rw word none) q (omega arith) (omega arith)

    pub none_after_word : at / 32 ≢ number_at ws k → NoneHeld (all_words ws) (max from (32 * number_at ws k)) (32 * number_at ws k + 32)
    none_after_word other q low high = absurd (omega (arith, other))
