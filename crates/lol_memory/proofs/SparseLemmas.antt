-- Words with their numbers.
use Rattle.std.proofs.Common.{◌≡◌, ◌≢◌, ℕ, zero, suc, ◌+◌, ◌-◌, ◌<◌, ◌≤◌, Bool, true, false, cond, ◌⊎◌, inl, inr, List, [], ◌∷◌, length, get_or, set, map, nat_eq, ◌&&◌, true≢false, Result, Ok, Err, IfOk, IfErr, refl, sym, ap, subst, ◌∙◌, arith}
use Rattle.std.specs.List.{insert, range_with_len}
use Rattle.std.specs.List.Sorted.{IsSearchInRange, IsBinarySearchResult, IsNonDecreasingBy}
use Rattle.std.specs.Bool.{Decides}
use Rattle.std.specs.Ordering.{nat_cmp, ordering_index}
use Rattle.std.proofs.lemmas.Cmp.{ranked}
use Rattle.std.proofs.lemmas.Bool.{cases_eq, cases_lt}
use Rattle.std.proofs.lemmas.Bool.Decides.{nat_tests}
use Rattle.std.proofs.lemmas.Grind.{common_steps}
use Rattle.std.proofs.lemmas.List.{get_or_past}
use Rattle.std.proofs.lemmas.List.FromFn.{length-map-range_with_len, get_or-map-range_with_len}
use Rattle.std.proofs.lemmas.List.Sorted.{IsNonDecreasingBy-from_default}
use Rattle.std.proofs.lemmas.List.Edits.{length-insert, get_or-insert_below, get_or-insert_at, get_or-insert_above}
use Rattle.lol_memory.specs.declared.sparse_words.SparseWord.{SparseWord}
use Rattle.lol_memory.specs.SparseWords.{no_word, number_at, bits_at, word_at, Ascend, word_count, all_words, IsSparse, IsAt, IsGapFor, HasNumber}
use Rattle.lol_memory.specs.Words.{held_from, held_words}

-- no word before the index i is of the number
abbrev pub NoneBefore : List SparseWord → ℕ → ℕ → Type 0
NoneBefore ws number i = (j : ℕ) → j < i → number_at ws j ≢ number

none_before_rest : (w : SparseWord) (ws : List SparseWord) (number i : ℕ) → NoneBefore (w ∷ ws) number (suc i) → NoneBefore ws number i
none_before_rest w ws number i none j lt = none (suc j) (omega arith)

is_at_rest : (w : SparseWord) (ws : List SparseWord) (number i : ℕ) → IsAt (w ∷ ws) number (suc i) → IsAt ws number i
is_at_rest w ws number i at = record { in_range = omega (arith, at.in_range); is = at.is }

-- a word that isn't there is 0
pub word_absent : (ws : List SparseWord) (number : ℕ) → NoneBefore ws number (length ws) → word_at ws number ≡ 0
word_absent [] number none = refl
word_absent (w ∷ ws) number none = grind (arith, nat_tests, none 0 (omega arith), word_absent ws number (none_before_rest w ws number _ none))

pub word_present : (ws : List SparseWord) (number i : ℕ) → IsAt ws number i → NoneBefore ws number i → word_at ws number ≡ bits_at ws i
word_present [] number i at none = absurd (omega (arith, at.in_range))
word_present (w ∷ ws) number zero at none = grind (arith, nat_tests, at.is)
word_present (w ∷ ws) number (suc i) at none = grind (arith, nat_tests, none 0 (omega arith), word_present ws number i (is_at_rest w ws number i at) (none_before_rest w ws number i none))

-- the words with the bits of one number
abbrev pub SetsWord : List SparseWord → List SparseWord → ℕ → ℕ → Type 0
SetsWord old new number bits = (p : ℕ) → word_at new p ≡ cond (nat_eq number p) bits (word_at old p)

pub word_set : (ws : List SparseWord) (w : SparseWord) (i : ℕ) → IsAt ws w.number i → NoneBefore ws w.number i → SetsWord ws (set ws i w) w.number w.bits
word_set [] w i at none p = absurd (omega (arith, at.in_range))
word_set (x ∷ ws) w zero at none p = grind (arith, nat_tests, at.is)
word_set (x ∷ ws) w (suc i) at none p = grind (arith, nat_tests, none 0 (omega arith), word_set ws w i (is_at_rest x ws w.number i at) (none_before_rest x ws w.number i none) p)

pub word_insert : (ws : List SparseWord) (w : SparseWord) (i : ℕ) → NoneBefore ws w.number i → SetsWord ws (insert ws i w) w.number w.bits
word_insert ws w zero none p = refl
word_insert [] w (suc i) none p = refl
word_insert (x ∷ ws) w (suc i) none p = grind (arith, nat_tests, none 0 (omega arith), word_insert ws w i (none_before_rest x ws w.number i none) p)

-- a word of the number is there, or none
pub has_number_or_none : (ws : List SparseWord) (number : ℕ) → HasNumber ws number ⊎ NoneBefore ws number (length ws)
has_number_or_none [] number = inr (λ j lt. absurd (omega arith))
has_number_or_none (w ∷ ws) number =
    elim (cases_eq w.number number) [
      | inl here ↦ inl (0, record { in_range = omega arith; is = here })
      | inr other ↦ elim (has_number_or_none ws number) [
        | inl later ↦ inl (suc later.0, record { in_range = omega (arith, later.1.in_range); is = later.1.is })
        | inr none ↦ inr (before other none)
      ]
    ]
  where
    before : w.number ≢ number → NoneBefore ws number (length ws) → NoneBefore (w ∷ ws) number (suc (length ws))
    before other none zero lt = other
    before other none (suc j) lt = none j (omega arith)

module _ (ws : List SparseWord) (ascend : Ascend ws) (number : ℕ) where
  -- the comparisons with the number rise along the list, as a binary search asks
  comparisons_rise : IsNonDecreasingBy (λ w. ordering_index (nat_cmp w.number number)) ws
  comparisons_rise = IsNonDecreasingBy-from_default (λ w. ordering_index (nat_cmp w.number number)) ws no_word (λ i j le in_range.
      let numbers_rise : number_at ws i ≤ number_at ws j = grind (arith, ascend i j, λ (same : i ≡ j). ap (number_at ws) same) in
      grind (arith, nat_tests))

  -- a binary search ends at the word, or at the gap for it
  pub searched : (r : Result ℕ ℕ) → IsSearchInRange r (length ws) → IsBinarySearchResult (λ w. nat_cmp w.number number) ws r
      → record { found : IfOk r (IsAt ws number); absent : IfErr r (IsGapFor ws number) }
  searched (Ok at) in_range equal = record { found = record { in_range = in_range; is = ranked _ number _ (sym (equal no_word)) }; absent = tt }
  searched (Err at) in_range parted = record {
    found = tt;
    absent = record {
      in_range = in_range;
      lower = λ j lt. ranked _ number _ (sym ((parted comparisons_rise).0 j no_word (omega arith) lt));
      higher = λ j le lt. ranked _ number _ (sym ((parted comparisons_rise).1 j no_word le lt));
    };
  }

  -- lower numbers stand before a word
  pub none_before_at : (i : ℕ) → IsAt ws number i → NoneBefore ws number i
  none_before_at i at j lt same = omega (arith, ascend j i lt at.in_range, at.is)

  pub word_there : (i : ℕ) → IsAt ws number i → word_at ws number ≡ bits_at ws i
  word_there i at = word_present ws number i at (none_before_at i at)

  -- no number is above the last
  pub word_past : word_count ws ≤ number → word_at ws number ≡ 0
  word_past past = word_absent ws number (λ j lt same. elim (cases_eq j (length ws - 1)) [
    | inl last ↦ omega (arith, ap (number_at ws) last)
    | inr other ↦ omega (arith, ascend j (length ws - 1) (omega arith) (omega arith))
  ])

module _ (ws : List SparseWord) (w : SparseWord) (i : ℕ) where
  -- a word in place of one of its number keeps the numbers
  pub number_set : IsAt ws w.number i → (j : ℕ) → number_at (set ws i w) j ≡ number_at ws j
  number_set at j = grind (arith, common_steps, at.in_range, at.is)

  pub ascend_set : Ascend ws → IsAt ws w.number i → Ascend (set ws i w)
  ascend_set ascend at j k lt in_range = grind (arith, common_steps, ascend j k, number_set at j, number_set at k)

  -- no word is of a number that has a gap
  pub none_in_gap : IsGapFor ws w.number i → NoneBefore ws w.number (length ws)
  none_in_gap gap j lt same = grind (arith, gap.lower j, gap.higher j)

  -- a word in its gap keeps the order: each is an old one below the gap, the new one, or an old one moved up by one
  pub ascend_insert : Ascend ws → IsGapFor ws w.number i → Ascend (insert ws i w)
  ascend_insert ascend gap j k lt in_range =
      let new = insert ws i w in
      let number = λ (w : SparseWord). w.number in
      let length_new = length-insert ws i w gap.in_range in
      let below : (j : ℕ) → j < i → number_at new j ≡ number_at ws j = λ j below. ap number (get_or-insert_below ws i w no_word j below gap.in_range) in
      let here : (j : ℕ) → j ≡ i → number_at new j ≡ w.number = λ j here. rw here (ap number (get_or-insert_at ws i w no_word gap.in_range)) in
      let above : (j : ℕ) → i < j → number_at new j ≡ number_at ws (j - 1) = λ j above. subst (λ q. number_at new q ≡ number_at ws (j - 1)) {x = j - 1 + 1} (omega arith) (ap number (get_or-insert_above ws i w no_word (j - 1) (omega arith) gap.in_range)) in
      grind (arith, below j, here j, above j, below k, here k, above k, ascend j k, ascend j (k - 1), ascend (j - 1) (k - 1), gap.lower j, gap.higher (k - 1))

-- no number is past the last
pub number_near : (ws : List SparseWord) (i : ℕ) → Ascend ws → i < length ws → number_at ws i < word_count ws
number_near ws i ascend within =
    elim (cases_eq i (length ws - 1)) [
      | inl last ↦ omega (arith, ap (number_at ws) last)
      | inr other ↦ omega (arith, ascend i (length ws - 1) (omega arith) (omega arith))
    ]

-- ---- the list of all words
pub length-all_words : (ws : List SparseWord) → length (all_words ws) ≡ word_count ws
unfolding all_words
length-all_words ws = length-map-range_with_len (word_at ws) 0 (word_count ws)

pub get_or-all_words : (ws : List SparseWord) → Ascend ws → (j : ℕ) → get_or (all_words ws) j 0 ≡ word_at ws j
unfolding all_words
get_or-all_words ws ascend j =
    elim (cases_lt j (word_count ws)) [
      | inl near ↦ get_or-map-range_with_len (word_at ws) 0 (word_count ws) j j 0 near (omega arith)
      | inr far ↦
          get_or_past (map (word_at ws) (range_with_len 0 (word_count ws))) j 0 (omega (arith, length-map-range_with_len (word_at ws) 0 (word_count ws)))
          ∙ sym (word_past ws ascend j far)
    ]

-- ---- how many hold an id
module _ (ws : List SparseWord) (sparse : IsSparse ws) where
  count_held : (n j k : ℕ) → 0 < k → k ≤ length ws → j + n ≡ word_count ws → ((i : ℕ) → i < k → number_at ws i < j)
      → ((i : ℕ) → k ≤ i → i < length ws → j ≤ number_at ws i) → held_from (all_words ws) j n + k ≡ length ws
  count_held zero j k after within end below above =
      elim (cases_lt k (length ws)) [
        | inl more ↦ absurd (omega (arith, above (length ws - 1) (omega arith) (omega arith)))
        | inr all ↦ omega arith
      ]
  count_held (suc n) j k after within end below above =
      elim (cases_eq (word_at ws j) 0) [
        | inl none ↦
            let test : nat_eq (get_or (all_words ws) j 0) 0 ≡ true = rw (get_or-all_words ws sparse.ascend j, none) refl in
            let other : (i : ℕ) → k ≤ i → i < length ws → number_at ws i ≢ j =
            λ i low high same. sparse.held i (omega arith) high (sym (word_there ws sparse.ascend j i (record { in_range = high; is = same })) ∙ none) in
            rw test (count_held n (j + 1) k after within (omega arith) (λ i low. omega (arith, below i low)) (λ i low high. omega (arith, above i low high, other i low high)))
        | inr some ↦
            let test : nat_eq (get_or (all_words ws) j 0) 0 ≡ false = rw (get_or-all_words ws sparse.ascend j) (grind (arith, nat_tests)) in
            let at : IsAt ws j k = elim (has_number_or_none ws j) [
              | inl there ↦ elim (cases_eq there.0 k) [
                | inl same ↦ subst (IsAt ws j) same there.1
                | inr other ↦ absurd (elim (cases_lt there.0 k) [
                  | inl low ↦ omega (arith, below there.0 low, there.1.is)
                  | inr high ↦ omega (arith, sparse.ascend k there.0 (omega arith) there.1.in_range, above k (omega arith) (omega (arith, there.1.in_range)), there.1.is)
                ])
              ]
              | inr none ↦ absurd (some (word_absent ws j none))
            ] in
            let rest = count_held n (j + 1) (k + 1) (omega arith) (omega (arith, at.in_range)) (omega arith)
            (λ i low. elim (cases_eq i k) [ inl same ↦ omega (arith, ap (number_at ws) same, at.is) | inr other ↦ omega (arith, below i (omega arith)) ])
            (λ i low high. omega (arith, sparse.ascend k i (omega arith) high, at.is)) in
            rw test (omega arith)
      ]

  pub held_sparse : held_words (all_words ws) + 1 ≡ length ws
  held_sparse =
      let words = length-all_words ws in
      ap (λ n. held_from (all_words ws) 1 (n - 1) + 1) words
      ∙ count_held (word_count ws - 1) 1 1 (omega arith) (omega (arith, sparse.some)) (omega arith)
      (λ i low. let zero_th : i ≡ 0 = omega arith in omega (arith, ap (number_at ws) zero_th, sparse.first))
      (λ i low high. omega (arith, sparse.ascend 0 i (omega arith) high))

-- ---- words that are alike are the same
abbrev AllHold : List SparseWord → Type 0
AllHold ws = (i : ℕ) → i < length ws → bits_at ws i ≢ 0

rest_ascend : (w : SparseWord) (ws : List SparseWord) → Ascend (w ∷ ws) → Ascend ws
rest_ascend w ws ascend i j lt within = omega (arith, ascend (suc i) (suc j) (omega arith) (omega arith))

-- no word of the rest is of the first's number, or of a lower one
none_in_rest : (w : SparseWord) (ws : List SparseWord) (number : ℕ) → Ascend (w ∷ ws) → number ≤ w.number → NoneBefore ws number (length ws)
none_in_rest w ws number ascend low j within same = omega (arith, ascend 0 (suc j) (omega arith) (omega arith))

none_above : (w : SparseWord) (ws : List SparseWord) (number : ℕ) → Ascend (w ∷ ws) → number < w.number → NoneBefore (w ∷ ws) number (suc (length ws))
none_above w ws number ascend low zero within same = omega arith
none_above w ws number ascend low (suc j) within same = none_in_rest w ws number ascend (omega arith) j (omega arith) same

first_word : (w : SparseWord) (ws : List SparseWord) → word_at (w ∷ ws) w.number ≡ w.bits
first_word w ws = let test : nat_eq w.number w.number ≡ true = grind (arith, nat_tests) in rw test refl

rests_alike : (x y : SparseWord) (xs ys : List SparseWord) → Ascend (x ∷ xs) → Ascend (y ∷ ys) → x.number ≡ y.number
    → ((j : ℕ) → word_at (x ∷ xs) j ≡ word_at (y ∷ ys) j) → (j : ℕ) → word_at xs j ≡ word_at ys j
rests_alike x y xs ys ascend ascend' number alike j =
    elim (cases_eq x.number j) [
      | inl here ↦
          word_absent xs j (none_in_rest x xs j ascend (omega arith)) ∙ sym (word_absent ys j (none_in_rest y ys j ascend' (omega arith)))
      | inr other ↦
          let test : nat_eq x.number j ≡ false = grind (arith, nat_tests) in
          let test' : nat_eq y.number j ≡ false = grind (arith, nat_tests) in
          rw (test, test') at (alike j)
    ]

same_word : (x y : SparseWord) → x.number ≡ y.number → x.bits ≡ y.bits → x ≡ y
same_word x y number bits = λ i. record { number = number i; bits = bits i }

same_first : (x y : SparseWord) (xs ys : List SparseWord) → x.number ≡ y.number → ((j : ℕ) → word_at (x ∷ xs) j ≡ word_at (y ∷ ys) j) → x ≡ y
same_first x y xs ys number alike =
    same_word x y number (sym (first_word x xs) ∙ (alike x.number ∙ (ap (word_at (y ∷ ys)) number ∙ first_word y ys)))

words_alike : (xs ys : List SparseWord) → Ascend xs → Ascend ys → AllHold xs → AllHold ys → ((j : ℕ) → word_at xs j ≡ word_at ys j) → xs ≡ ys
words_alike [] [] ascend ascend' hold hold' alike = refl
words_alike [] (y ∷ ys) ascend ascend' hold hold' alike = absurd (hold' 0 (omega arith) (sym (first_word y ys) ∙ sym (alike y.number)))
words_alike (x ∷ xs) [] ascend ascend' hold hold' alike = absurd (hold 0 (omega arith) (sym (first_word x xs) ∙ alike x.number))
words_alike (x ∷ xs) (y ∷ ys) ascend ascend' hold hold' alike =
    let number : x.number ≡ y.number = elim (cases_lt x.number y.number) [
      | inl low ↦ absurd (hold 0 (omega arith) (sym (first_word x xs) ∙ (alike x.number ∙ word_absent (y ∷ ys) x.number (none_above y ys x.number ascend' low))))
      | inr not_low ↦ elim (cases_eq x.number y.number) [
        | inl same ↦ same
        | inr other ↦ absurd (hold' 0 (omega arith) (sym (first_word y ys) ∙ (sym (alike y.number) ∙ word_absent (x ∷ xs) y.number (none_above x xs y.number ascend (omega arith)))))
      ]
    ] in
    let first = same_first x y xs ys number alike in
    let rest = words_alike xs ys (rest_ascend x xs ascend) (rest_ascend y ys ascend') (λ i within. hold (suc i) (omega arith)) (λ i within. hold' (suc i) (omega arith)) (rests_alike x y xs ys ascend ascend' number alike) in
    λ i. first i ∷ rest i

-- sets of words with numbers are known by the lists of all
pub same_sparse : (xs ys : List SparseWord) → IsSparse xs → IsSparse ys → all_words xs ≡ all_words ys → xs ≡ ys
same_sparse [] ys sparse sparse' same = absurd (omega (arith, sparse.some))
same_sparse (x ∷ xs) [] sparse sparse' same = absurd (omega (arith, sparse'.some))
same_sparse (x ∷ xs) (y ∷ ys) sparse sparse' same =
    let alike : (j : ℕ) → word_at (x ∷ xs) j ≡ word_at (y ∷ ys) j =
    λ j. sym (get_or-all_words (x ∷ xs) sparse.ascend j) ∙ (ap (λ ws. get_or ws j 0) same ∙ get_or-all_words (y ∷ ys) sparse'.ascend j) in
    let number : x.number ≡ y.number = sparse.first ∙ sym sparse'.first in
    let first = same_first x y xs ys number alike in
    let rest = words_alike xs ys (rest_ascend x xs sparse.ascend) (rest_ascend y ys sparse'.ascend) (λ i within. sparse.held (suc i) (omega arith) (omega arith))
    (λ i within. sparse'.held (suc i) (omega arith) (omega arith)) (rests_alike x y xs ys sparse.ascend sparse'.ascend number alike) in
    λ i. first i ∷ rest i

passes : (a b : Bool) → (a && b) ≡ true → (a ≡ true) × (b ≡ true)
passes true b is = (refl, is)
passes false b is = absurd (true≢false (sym is))

pub word_decides : (x y : SparseWord) → Decides (nat_eq x.number y.number && nat_eq x.bits y.bits) (x ≡ y)
word_decides x y = (
  λ same.
      let both = passes (nat_eq x.number y.number) (nat_eq x.bits y.bits) same in
      let number : nat_eq x.number y.number ≡ true = both.0 in
      let bits : nat_eq x.bits y.bits ≡ true = both.1 in
      same_word x y (grind (arith, nat_tests)) (grind (arith, nat_tests)),
  λ same.
      let number : nat_eq x.number y.number ≡ true = rw same (grind (arith, nat_tests)) in
      let bits : nat_eq x.bits y.bits ≡ true = rw same (grind (arith, nat_tests)) in
      rw (number, bits) refl,
)
