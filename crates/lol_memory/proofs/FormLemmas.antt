-- The forms of a set's words.
use Rattle.std.proofs.Common.{◌≡◌, ◌≢◌, ℕ, ◌+◌, ◌-◌, ◌/◌, ◌<◌, ◌≤◌, true, false, cond, ◌⊎◌, inl, inr, List, [], ◌∷◌, ◌++◌, length, get_or, set, nat_eq, bit_or, max, refl, sym, ap, subst, ◌∙◌, arith}
use Rattle.std.specs.List.{insert}
use Rattle.std.proofs.lemmas.Bool.{cases_eq, cases_lt}
use Rattle.std.proofs.lemmas.Bool.Decides.{nat_tests}
use Rattle.std.proofs.lemmas.List.{get_or-set_same, get_or-set_other, get_or_past}
use Rattle.std.proofs.lemmas.List.Edits.{length-insert, get_or-insert_below, get_or-insert_at, get_or-insert_above, insert_end}
use Rattle.std.proofs.Math.ListN.{length-set}
use Rattle.std.proofs.lemmas.Nat.{le_or_l, le_or_r}
use Rattle.std.specs.Int.Bits.{or_zero_l}
use Rattle.lol_memory.specs.declared.sparse_words.SparseWord.{SparseWord}
use Rattle.lol_memory.specs.SparseWords.{no_word, number_at, bits_at, word_at, Ascend, word_count, all_words, IsSparse, IsScattered, IsAt, IsGapFor, HasNumber}
use Rattle.lol_memory.specs.Ids.{HasRoom, HasRoomFor}
use Rattle.lol_memory.specs.Words.{ids_held, held_words, IsTrim, IsMarked, IsJoined, AreDense}
use Rattle.lol_memory.specs.WordsOf.{words_of, IsInForm, HasWord, IsList}
use Rattle.lol_memory.specs.declared.words.Words.{Words}
use Rattle.lol_memory.specs.declared.words.Words.TheVariants.{Inline, Heap, Sparse}
use Rattle.lol_memory.proofs.WordsLemmas.{has-ids_held, within_words, last_id}
use Rattle.lol_memory.proofs.IterLemmas.{holds-of_number}
use Rattle.lol_memory.proofs.HeldLemmas.{held_marked, held_marked_new, held_words_more, words_of_dense, dense_of_words, word_is_held}
use Rattle.lol_memory.proofs.SparseLemmas.{NoneBefore, word_absent, word_set, word_insert, none_before_at, word_there, number_set, ascend_set, none_in_gap, ascend_insert, length-all_words, get_or-all_words, held_sparse, has_number_or_none}

-- ---- bits that are set in a word that is there
module _ (ws : List ℕ) (number bits : ℕ) (there : number < length ws) where
  pub list_marked : IsMarked ws (set ws number (bit_or (get_or ws number 0) bits)) number bits
  list_marked = record {
    words = omega (arith, length-set ws number (bit_or (get_or ws number 0) bits));
    here = get_or-set_same ws number (bit_or (get_or ws number 0) bits) 0 there;
    others = λ j other. get_or-set_other ws number j (bit_or (get_or ws number 0) bits) 0 other;
  }

-- a list stays dense
pub dense_marked : (old new : List ℕ) (number bits : ℕ) → number < length old → IsMarked old new number bits → AreDense (length old) (held_words old) → AreDense (length new) (held_words new)
dense_marked old new number bits there marked dense = omega (arith, marked.words, held_marked old new number bits (omega arith) marked)

some_bits : (a b : ℕ) → b ≢ 0 → bit_or a b ≢ 0
some_bits a b some none = some (omega (arith, none, le_or_r a b))

module _ (ws : List SparseWord) (sparse : IsSparse ws) (w : SparseWord) (i bits : ℕ) (at : IsAt ws w.number i) (is : w.bits ≡ bit_or (bits_at ws i) bits) where
  count_set : word_count (set ws i w) ≡ word_count ws
  count_set = ap (λ n. number_at (set ws i w) (n - 1) + 1) (length-set ws i w) ∙ ap (λ n. n + 1) (number_set ws w i at (length ws - 1))

  not_past : w.number < word_count ws
  not_past =
      elim (cases_eq i (length ws - 1)) [
        | inl last ↦ omega (arith, ap (number_at ws) last, at.is)
        | inr other ↦ omega (arith, sparse.ascend i (length ws - 1) (omega (arith, at.in_range)) (omega (arith, at.in_range)), at.is)
      ]

  word_marked : (j : ℕ) → get_or (all_words (set ws i w)) j 0 ≡ cond (nat_eq w.number j) w.bits (get_or (all_words ws) j 0)
  word_marked j =
      get_or-all_words (set ws i w) (ascend_set ws w i sparse.ascend at) j
      ∙ word_set ws w i at (none_before_at ws sparse.ascend w.number i at) j
      ∙ ap (cond (nat_eq w.number j) w.bits) (sym (get_or-all_words ws sparse.ascend j))

  pub sparse_marked : IsMarked (all_words ws) (all_words (set ws i w)) w.number bits
  sparse_marked = record {
    words = omega (arith, length-all_words ws, length-all_words (set ws i w), count_set, not_past);
    here =
        let test : nat_eq w.number w.number ≡ true = grind (arith, nat_tests) in
        word_marked w.number ∙ rw test (is ∙ ap (λ b. bit_or b bits) (sym (get_or-all_words ws sparse.ascend w.number ∙ word_there ws sparse.ascend w.number i at)));
    others = λ j other. let test : nat_eq w.number j ≡ false = grind (arith, nat_tests) in word_marked j ∙ rw test refl;
  }

  pub sparse_set : bits ≢ 0 → IsSparse (set ws i w)
  sparse_set some =
      let len = length-set ws i w in record {
        some = omega (arith, sparse.some, len);
        first = number_set ws w i at 0 ∙ sparse.first;
        ascend = ascend_set ws w i sparse.ascend at;
        held = λ k after within. elim (cases_eq k i) [
          | inl same ↦
              let there : bits_at (set ws i w) i ≡ w.bits = ap (λ (w : SparseWord). w.bits) (get_or-set_same ws i w no_word at.in_range) in
              rw same (rw there (rw is (some_bits (bits_at ws i) bits some)))
          | inr other ↦
              let there : bits_at (set ws i w) k ≡ bits_at ws k = ap (λ (w : SparseWord). w.bits) (get_or-set_other ws i k w no_word other) in
              rw there (sparse.held k after (omega (arith, within, len)))
        ];
      }

  pub wide_set : bits ≢ 0 → (AreDense (length (all_words ws)) (held_words (all_words ws)) → ⊥) → AreDense (length (all_words (set ws i w))) (held_words (all_words (set ws i w))) → ⊥
  wide_set some wide dense =
      wide (omega (arith, dense, sparse_marked.words, length-all_words ws, not_past, held_sparse ws sparse, held_sparse (set ws i w) (sparse_set some), length-set ws i w))

  pub numbers_stay : (j : ℕ) → HasNumber ws j → HasNumber (set ws i w) j
  numbers_stay j there = (there.0, record { in_range = omega (arith, there.1.in_range, length-set ws i w); is = number_set ws w i at there.0 ∙ there.1.is })

-- ---- a list of all words from those with numbers
-- the first k words are in the list
pub record IsGathered (ws : List SparseWord) (list : List ℕ) (k : ℕ) : Type 0 where
  pub there : (i : ℕ) → i < k → get_or list (number_at ws i) 0 ≡ bits_at ws i
  pub others : (j : ℕ) → NoneBefore ws j k → get_or list j 0 ≡ 0

pub gathered_more : (ws : List SparseWord) (list : List ℕ) (k : ℕ) → Ascend ws → k < length ws → number_at ws k < length list → IsGathered ws list k
    → IsGathered ws (set list (number_at ws k) (bits_at ws k)) (k + 1)
gathered_more ws list k ascend within near before = record {
  there = λ i low. elim (cases_eq i k) [
    | inl same ↦ rw same (get_or-set_same list (number_at ws k) (bits_at ws k) 0 near)
    | inr other ↦
        let apart : number_at ws i ≢ number_at ws k = λ same. omega (arith, ascend i k (omega arith) within, same) in
        get_or-set_other list (number_at ws k) (number_at ws i) (bits_at ws k) 0 apart ∙ before.there i (omega arith)
  ];
  others = λ j none.
      let apart : j ≢ number_at ws k = λ same. none k (omega arith) (sym same) in
      get_or-set_other list (number_at ws k) j (bits_at ws k) 0 apart ∙ before.others j (λ i low. none i (omega arith));
}

pub gathered_all : (ws : List SparseWord) (list : List ℕ) → Ascend ws → IsGathered ws list (length ws) → (j : ℕ) → get_or list j 0 ≡ word_at ws j
gathered_all ws list ascend all j =
    elim (has_number_or_none ws j) [
      | inl there ↦ ap (λ p. get_or list p 0) (sym there.1.is) ∙ all.there there.0 there.1.in_range ∙ sym (word_there ws ascend j there.0 there.1)
      | inr none ↦ all.others j none ∙ sym (word_absent ws j none)
    ]

-- ---- words with their numbers from a list of all
module _ (ws : List SparseWord) (w : SparseWord) (below : (i : ℕ) → i < length ws → number_at ws i < w.number) where
  gap : IsGapFor ws w.number (length ws)
  gap = record { in_range = omega arith; lower = below; higher = λ j low high. absurd (omega arith) }

  pub ascend_push : Ascend ws → Ascend (ws ++ w ∷ [])
  ascend_push ascend = subst Ascend (insert_end ws w) (ascend_insert ws w (length ws) ascend gap)

  pub word_push : (j : ℕ) → word_at (ws ++ w ∷ []) j ≡ cond (nat_eq w.number j) w.bits (word_at ws j)
  word_push j = subst (λ xs. word_at xs j ≡ cond (nat_eq w.number j) w.bits (word_at ws j)) (insert_end ws w) (word_insert ws w (length ws) (none_in_gap ws w (length ws) gap) j)

  pub length_push : length (ws ++ w ∷ []) ≡ length ws + 1
  length_push = subst (λ xs. length xs ≡ length ws + 1) (insert_end ws w) (length-insert ws (length ws) w (omega arith))

  pub old_push : (d : SparseWord) (i : ℕ) → i < length ws → get_or (ws ++ w ∷ []) i d ≡ get_or ws i d
  old_push d i low = subst (λ xs. get_or xs i d ≡ get_or ws i d) (insert_end ws w) (get_or-insert_below ws (length ws) w d i low (omega arith))

  pub last_push : (d : SparseWord) → get_or (ws ++ w ∷ []) (length ws) d ≡ w
  last_push d = subst (λ xs. get_or xs (length ws) d ≡ w) (insert_end ws w) (get_or-insert_at ws (length ws) w d (omega arith))

  pub held_push : w.bits ≢ 0 ⊎ (length ws ≡ 0) → ((i : ℕ) → 0 < i → i < length ws → bits_at ws i ≢ 0) → (i : ℕ) → 0 < i → i < length (ws ++ w ∷ []) → bits_at (ws ++ w ∷ []) i ≢ 0
  held_push some held i after within =
      elim (cases_eq i (length ws)) [
        | inl last ↦
            let is : bits_at (ws ++ w ∷ []) (length ws) ≡ w.bits = ap (λ (w : SparseWord). w.bits) (last_push no_word) in
            rw last (rw is (elim some [ inl there ↦ there | inr none ↦ absurd (omega arith) ]))
        | inr other ↦
            let low : i < length ws = omega (arith, within, length_push) in
            let is : bits_at (ws ++ w ∷ []) i ≡ bits_at ws i = ap (λ (w : SparseWord). w.bits) (old_push no_word i low) in
            rw is (held i after low)
      ]

pub scattered_push : (list : List ℕ) (n : ℕ) (ws : List SparseWord) (w : SparseWord) → IsScattered list n ws → w.number ≡ n → w.bits ≡ get_or list n 0
    → (w.bits ≢ 0) ⊎ (n ≡ 0) → IsScattered list (n + 1) (ws ++ w ∷ [])
scattered_push list n ws w before number bits some =
    let below : (i : ℕ) → i < length ws → number_at ws i < w.number = λ i low. omega (arith, before.below i low, number) in
    let len = length_push ws w below in
    let number_of = λ (w : SparseWord). w.number in
    let none : n ≡ 0 → length ws ≡ 0 = λ start. elim (cases_lt 0 (length ws)) [ inl more ↦ absurd (omega (arith, before.below 0 more)) | inr empty ↦ omega arith ] in record {
      first = λ _. elim (cases_eq n 0) [
        | inl start ↦
            let empty = none start in
            let is : number_at (ws ++ w ∷ []) (length ws) ≡ w.number = ap number_of (last_push ws w below no_word) in
            (omega (arith, len), ap (number_at (ws ++ w ∷ [])) (sym empty) ∙ is ∙ number ∙ start)
        | inr later ↦
            let first = before.first (omega arith) in
            (omega (arith, len), ap number_of (old_push ws w below no_word 0 first.0) ∙ first.1)
      ];
      below = λ i within. elim (cases_eq i (length ws)) [
        | inl last ↦ omega (arith, ap (number_at (ws ++ w ∷ [])) last, ap number_of (last_push ws w below no_word), number)
        | inr other ↦ omega (arith, ap number_of (old_push ws w below no_word i (omega (arith, within, len))), before.below i (omega (arith, within, len)))
      ];
      ascend = ascend_push ws w below before.ascend;
      held = held_push ws w below (elim some [ inl there ↦ inl there | inr start ↦ inr (none start) ]) before.held;
      same = λ j low. word_push ws w below j ∙ elim (cases_eq n j) [
        | inl here ↦ let test : nat_eq w.number j ≡ true = grind (arith, nat_tests) in rw test (bits ∙ ap (λ k. get_or list k 0) here)
        | inr other ↦ let test : nat_eq w.number j ≡ false = grind (arith, nat_tests) in rw test (before.same j (omega arith))
      ];
    }

pub scattered_skip : (list : List ℕ) (n : ℕ) (ws : List SparseWord) → IsScattered list n ws → 0 < n → get_or list n 0 ≡ 0 → IsScattered list (n + 1) ws
scattered_skip list n ws before after none = record {
  first = λ _. before.first after;
  below = λ i low. omega (arith, before.below i low);
  ascend = before.ascend;
  held = before.held;
  same = λ j low. elim (cases_eq n j) [
    | inl here ↦ word_absent ws j (λ i within same. omega (arith, before.below i within, same, here)) ∙ sym (ap (λ k. get_or list k 0) (sym here) ∙ none)
    | inr other ↦ before.same j (omega arith)
  ];
}

-- the last word, which isn't in the list
module _ (list : List ℕ) (ws : List SparseWord) (w : SparseWord) (all : IsScattered list (length list) ws) (some : 0 < length list) (after : length list ≤ w.number) (held : w.bits ≢ 0) where
  last_below : (i : ℕ) → i < length ws → number_at ws i < w.number
  last_below i low = omega (arith, all.below i low, after)

  pub scattered_sparse : IsSparse (ws ++ w ∷ [])
  scattered_sparse =
      let len = length_push ws w last_below in
      let first = all.first some in record {
        some = omega (arith, len);
        first = ap (λ (w : SparseWord). w.number) (old_push ws w last_below no_word 0 first.0) ∙ first.1;
        ascend = ascend_push ws w last_below all.ascend;
        held = held_push ws w last_below (inl held) all.held;
      }

  pub scattered_last : word_at (ws ++ w ∷ []) w.number ≡ w.bits
  scattered_last = let test : nat_eq w.number w.number ≡ true = grind (arith, nat_tests) in word_push ws w last_below w.number ∙ rw test refl

  pub scattered_same : (j : ℕ) → j ≢ w.number → word_at (ws ++ w ∷ []) j ≡ get_or list j 0
  scattered_same j other =
      let test : nat_eq w.number j ≡ false = grind (arith, nat_tests) in
      word_push ws w last_below j ∙ rw test (elim (cases_lt j (length list)) [
        | inl near ↦ all.same j near
        | inr far ↦ word_absent ws j (λ i within same. omega (arith, all.below i within, same)) ∙ sym (get_or_past list j 0 far)
      ])

  pub scattered_count : length (all_words (ws ++ w ∷ [])) ≡ w.number + 1
  scattered_count =
      let len = length_push ws w last_below in
      let last : length (ws ++ w ∷ []) - 1 ≡ length ws = omega (arith, len) in
      length-all_words (ws ++ w ∷ []) ∙ ap (λ n. n + 1) (ap (number_at (ws ++ w ∷ [])) last ∙ ap (λ (w : SparseWord). w.number) (last_push ws w last_below no_word))

-- ---- what has room
-- there is a word for an id that has room
pub word_of_room : (w : Words) → IsTrim (words_of w) → IsInForm w → (id : ℕ) → HasRoom (ids_held (words_of w)) id → HasWord w (id / 32)
word_of_room (Inline word) trim form id room =
    let ws : List ℕ = word ∷ [] in
    let near : id < 32 = elim room [
      | inl small ↦ small
      | inr there ↦ elim there [
        | inl beside ↦ omega (arith, within_words ws beside.0 (sym (has-ids_held ws beside.0) ∙ beside.1), beside.2)
        | inr below ↦ omega (arith, within_words ws below.1.0 (sym (has-ids_held ws below.1.0) ∙ below.1.1), below.1.2)
      ]
    ] in
    omega arith
word_of_room (Heap words) trim form id room =
    let ws : List ℕ = words.items in
    elim room [
      | inl small ↦ omega (arith, trim.some)
      | inr there ↦ elim there [
        | inl beside ↦ omega (arith, within_words ws beside.0 (sym (has-ids_held ws beside.0) ∙ beside.1), beside.2)
        | inr below ↦ omega (arith, within_words ws below.1.0 (sym (has-ids_held ws below.1.0) ∙ below.1.1), below.1.2)
      ]
    ]
word_of_room (Sparse words) trim form id room =
    let ws = words.items in
    elim room [
      | inl small ↦
          let zero_th : id / 32 ≡ 0 = omega arith in
          (0, record { in_range = form.0.some; is = form.0.first ∙ sym zero_th })
      | inr there ↦ elim there [
        | inl beside ↦ subst (HasNumber ws) beside.2 (holds-of_number ws form.0.ascend 0 beside.0 (sym (has-ids_held (all_words ws) beside.0) ∙ beside.1))
        | inr below ↦ absurd (form.1 (words_of_dense (all_words ws) trim below.0))
      ]
    ]

-- an id that has a word has room
pub room_of_word : (w : Words) → IsTrim (words_of w) → IsInForm w → (id : ℕ) → HasWord w (id / 32) → HasRoom (ids_held (words_of w)) id
room_of_word (Inline word) trim form id there = inl (omega arith)
room_of_word (Heap words) trim form id there =
    let ws : List ℕ = words.items in
    let last = last_id ws trim form.0 in
    inr (inr (dense_of_words ws trim form.1, (last.0, has-ids_held ws last.0 ∙ last.2, omega (arith, last.1))))
room_of_word (Sparse words) trim form id there =
    let ws = words.items in
    elim (cases_eq there.0 0) [
      | inl first ↦ inl (omega (arith, ap (number_at ws) first, form.0.first, there.1.is))
      | inr later ↦
          let bits : get_or (all_words ws) (id / 32) 0 ≡ bits_at ws there.0 = get_or-all_words ws form.0.ascend (id / 32) ∙ word_there ws form.0.ascend (id / 32) there.0 there.1 in
          let some : get_or (all_words ws) (id / 32) 0 ≢ 0 = λ none. form.0.held there.0 (omega arith) there.1.in_range (sym bits ∙ none) in
          let held = word_is_held (all_words ws) trim.fit (id / 32) some in
          inr (inl (held.0, has-ids_held (all_words ws) held.0 ∙ held.3, omega (arith, held.1, held.2)))
    ]

-- ---- a word that isn't there
pub list_in_form : (w : Words) → IsList w → AreDense (length (words_of w)) (held_words (words_of w)) → IsInForm w
list_in_form (Inline word) list dense = tt
list_in_form (Heap words) list dense = (list, dense)
list_in_form (Sparse words) list dense = absurd list

pub absent_word : (w : Words) → IsInForm w → (number : ℕ) → (HasWord w number → ⊥) → (get_or (words_of w) number 0 ≡ 0) × (0 < number)
absent_word (Inline word) form number absent =
    let ws : List ℕ = word ∷ [] in
    let after : 0 < number = elim (cases_eq number 0) [ inl first ↦ absurd (absent first) | inr later ↦ omega arith ] in
    (get_or_past ws number 0 (omega arith), after)
absent_word (Heap words) form number absent =
    let past : length words.items ≤ number = elim (cases_lt number (length words.items)) [ inl near ↦ absurd (absent near) | inr far ↦ far ] in
    (get_or_past words.items number 0 past, omega (arith, form.0))
absent_word (Sparse words) form number absent =
    let ws = words.items in
    let none : NoneBefore ws number (length ws) = elim (has_number_or_none ws number) [ inl there ↦ absurd (absent there) | inr none ↦ none ] in
    let after : 0 < number = elim (cases_eq number 0) [ inl first ↦ absurd (none 0 form.0.some (form.0.first ∙ sym first)) | inr later ↦ omega arith ] in
    (get_or-all_words ws form.0.ascend number ∙ word_absent ws number none, after)

pub widened_marked : (old wide new : List ℕ) (number bits : ℕ) → ((j : ℕ) → get_or wide j 0 ≡ get_or old j 0) → length wide ≡ max (length old) (number + 1)
    → IsMarked wide new number bits → IsMarked old new number bits
widened_marked old wide new number bits same long is = record {
  words = omega (arith, is.words);
  here = is.here ∙ ap (λ w. bit_or w bits) (same number);
  others = λ j other. is.others j other ∙ same j;
}

-- with it the words aren't dense
still_wide : (old new : List ℕ) (number bits : ℕ) → 0 < length old → IsMarked old new number bits → bits ≢ 0 → 0 < number → get_or old number 0 ≡ 0
    → (AreDense (max (length old) (number + 1)) (held_words old + 1) → ⊥) → AreDense (length new) (held_words new) → ⊥
still_wide old new number bits some marked held after none wide dense =
    wide (omega (arith, dense, marked.words, held_marked_new old new number bits some marked held after none))

-- it is put after the words of a list
module _ (old : List ℕ) (ws : List SparseWord) (number bits : ℕ) (some : 0 < length old) (after : length old ≤ number) (sparse : IsSparse ws)
    (last : word_at ws number ≡ bits) (same : (j : ℕ) → j ≢ number → word_at ws j ≡ get_or old j 0) (count : length (all_words ws) ≡ number + 1) where
  pub scattered_marked : IsMarked old (all_words ws) number bits
  scattered_marked =
      let none : get_or old number 0 ≡ 0 = get_or_past old number 0 after in record {
        words = omega (arith, count);
        here = get_or-all_words ws sparse.ascend number ∙ (last ∙ sym (ap (λ w. bit_or w bits) none ∙ or_zero_l bits));
        others = λ j other. get_or-all_words ws sparse.ascend j ∙ same j other;
      }

  pub scattered_wide : bits ≢ 0 → (AreDense (max (length old) (number + 1)) (held_words old + 1) → ⊥) → AreDense (length (all_words ws)) (held_words (all_words ws)) → ⊥
  scattered_wide held wide =
      still_wide old (all_words ws) number bits some scattered_marked held (omega arith) (get_or_past old number 0 after) wide

-- it is put into its gap
module _ (ws : List SparseWord) (w : SparseWord) (i : ℕ) (sparse : IsSparse ws) (gap : IsGapFor ws w.number i) where
  after_first : (0 < i) × (0 < w.number)
  after_first =
      elim (cases_eq i 0) [
        | inl first ↦ absurd (omega (arith, gap.higher 0 (omega arith) sparse.some, sparse.first))
        | inr later ↦ (omega arith, omega (arith, gap.lower 0 (omega arith), sparse.first))
      ]

  inserted_word : (j : ℕ) → word_at (insert ws i w) j ≡ cond (nat_eq w.number j) w.bits (word_at ws j)
  inserted_word = word_insert ws w i (λ j low same. omega (arith, gap.lower j low, same))

  inserted_count : word_count (insert ws i w) ≡ max (word_count ws) (w.number + 1)
  inserted_count =
      let len = length-insert ws i w gap.in_range in
      let number_of = λ (w : SparseWord). w.number in
      let last : length (insert ws i w) - 1 ≡ length ws = omega (arith, len) in
      ap (λ k. number_at (insert ws i w) k + 1) last ∙ elim (cases_eq i (length ws)) [
        | inl end ↦
            let is : number_at (insert ws i w) i ≡ w.number = ap number_of (get_or-insert_at ws i w no_word gap.in_range) in
            omega (arith, ap (number_at (insert ws i w)) (sym end), is, gap.lower (length ws - 1) (omega (arith, sparse.some)))
        | inr inside ↦
            let next : length ws - 1 + 1 ≡ length ws = omega (arith, sparse.some) in
            let is : number_at (insert ws i w) (length ws - 1 + 1) ≡ number_at ws (length ws - 1) = ap number_of (get_or-insert_above ws i w no_word (length ws - 1) (omega (arith, gap.in_range)) gap.in_range) in
            omega (arith, ap (number_at (insert ws i w)) next, is, gap.higher (length ws - 1) (omega (arith, gap.in_range)) (omega (arith, sparse.some)))
      ]

  none_there : get_or (all_words ws) w.number 0 ≡ 0
  none_there = get_or-all_words ws sparse.ascend w.number ∙ word_absent ws w.number (none_in_gap ws w i gap)

  pub inserted_marked : IsMarked (all_words ws) (all_words (insert ws i w)) w.number w.bits
  inserted_marked =
      let ascend = ascend_insert ws w i sparse.ascend gap in record {
        words = omega (arith, length-all_words ws, length-all_words (insert ws i w), inserted_count);
        here =
            let test : nat_eq w.number w.number ≡ true = grind (arith, nat_tests) in
            get_or-all_words (insert ws i w) ascend w.number ∙ (inserted_word w.number ∙ rw test (sym (ap (λ b. bit_or b w.bits) none_there ∙ or_zero_l w.bits)));
        others = λ j other.
            let test : nat_eq w.number j ≡ false = grind (arith, nat_tests) in
            get_or-all_words (insert ws i w) ascend j ∙ (inserted_word j ∙ rw test (sym (get_or-all_words ws sparse.ascend j)));
      }

  pub inserted_sparse : w.bits ≢ 0 → IsSparse (insert ws i w)
  inserted_sparse held =
      let len = length-insert ws i w gap.in_range in
      let bits_of = λ (w : SparseWord). w.bits in record {
        some = omega (arith, len);
        first = ap (λ (w : SparseWord). w.number) (get_or-insert_below ws i w no_word 0 after_first.0 gap.in_range) ∙ sparse.first;
        ascend = ascend_insert ws w i sparse.ascend gap;
        held = λ k later within. elim (cases_lt k i) [
          | inl low ↦
              let is : bits_at (insert ws i w) k ≡ bits_at ws k = ap bits_of (get_or-insert_below ws i w no_word k low gap.in_range) in
              rw is (sparse.held k later (omega (arith, gap.in_range)))
          | inr high ↦ elim (cases_eq k i) [
            | inl here ↦
                let is : bits_at (insert ws i w) i ≡ w.bits = ap bits_of (get_or-insert_at ws i w no_word gap.in_range) in
                rw here (rw is held)
            | inr above ↦
                let next : k - 1 + 1 ≡ k = omega arith in
                let is : bits_at (insert ws i w) (k - 1 + 1) ≡ bits_at ws (k - 1) = ap bits_of (get_or-insert_above ws i w no_word (k - 1) (omega arith) gap.in_range) in
                λ none. sparse.held (k - 1) (omega (arith, after_first.0)) (omega (arith, len, within)) (sym is ∙ (ap (bits_at (insert ws i w)) next ∙ none))
          ]
        ];
      }

  pub inserted_wide : w.bits ≢ 0 → (AreDense (max (length (all_words ws)) (w.number + 1)) (held_words (all_words ws) + 1) → ⊥)
      → AreDense (length (all_words (insert ws i w))) (held_words (all_words (insert ws i w))) → ⊥
  inserted_wide held wide =
      still_wide (all_words ws) (all_words (insert ws i w)) w.number w.bits (omega (arith, length-all_words ws)) inserted_marked held after_first.1 none_there wide

-- there is a first word
pub some_words : (w : Words) → IsInForm w → 0 < length (words_of w)
some_words (Inline word) form = omega arith
some_words (Heap words) form = omega (arith, form.0)
some_words (Sparse words) form = omega (arith, length-all_words words.items)

-- ---- lists of all words that are joined
pub list_dense : (w : Words) → IsList w → IsInForm w → AreDense (length (words_of w)) (held_words (words_of w))
list_dense (Inline word) list form = omega arith
list_dense (Heap words) list form = form.1
list_dense (Sparse words) list form = absurd list

list_has : (w : Words) → IsList w → (number : ℕ) → HasWord w number → number < length (words_of w)
list_has (Inline word) list number there = omega (arith, there)
list_has (Heap words) list number there = there
list_has (Sparse words) list number there = absurd list

pub joined_in_form : (w new : Words) (other : List ℕ) → IsInForm w → IsList w → IsList new → 0 < length other → AreDense (length other) (held_words other)
    → IsJoined (words_of w) other (words_of new) → IsInForm new
joined_in_form w new other form list new_list some dense is =
    let old_held : held_words (words_of w) ≤ held_words (words_of new) =
    held_words_more (words_of w) (words_of new) (some_words w form) (omega (arith, is.words))
    (λ k there none. there (omega (arith, is.bits k, none, le_or_l (get_or (words_of w) k 0) (get_or other k 0)))) in
    let other_held : held_words other ≤ held_words (words_of new) =
    held_words_more other (words_of new) some (omega (arith, is.words)) (λ k there none. there (omega (arith, is.bits k, none, le_or_r (get_or (words_of w) k 0) (get_or other k 0)))) in
    list_in_form new new_list (omega (arith, is.words, list_dense w list form, dense, old_held, other_held))

-- there are words enough for ids that have room
pub words_of_room : (w : Words) (other : List ℕ) → IsTrim (words_of w) → IsInForm w → IsList w → IsTrim other → HasRoomFor (ids_held (words_of w)) (ids_held other)
    → length other ≤ length (words_of w)
words_of_room w other trim form list trim' room =
    elim (cases_lt 1 (length other)) [
      | inl several ↦
          let last = last_id other trim' several in
          let there = word_of_room w trim form last.0 (room last.0 (has-ids_held other last.0 ∙ last.2)) in
          omega (arith, last.1, list_has w list (last.0 / 32) there)
      | inr one ↦ omega (arith, trim.some)
    ]
