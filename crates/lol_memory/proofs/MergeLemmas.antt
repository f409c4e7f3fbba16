-- Two lists of words with numbers that are merged.
use Rattle.std.proofs.Common.{◌≡◌, ◌≢◌, ℕ, ◌+◌, ◌-◌, ◌*◌, ◌<◌, ◌≤◌, inl, inr, true, false, List, [], ◌∷◌, ◌++◌, length, get_or, nat_eq, bit_or, max, refl, sym, ap, subst, ◌∙◌, arith}
use Rattle.std.proofs.lemmas.Bool.{cases_eq, cases_lt}
use Rattle.std.proofs.lemmas.Bool.Decides.{nat_tests}
use Rattle.std.proofs.lemmas.List.{get_or_past, same_lists, get_or_default}
use Rattle.std.proofs.lemmas.Nat.{le_or_l, le_or_r}
use Rattle.std.specs.Int.Bits.{or_zero_l}
use Rattle.lol_memory.specs.declared.sparse_words.SparseWord.{SparseWord}
use Rattle.lol_memory.specs.SparseWords.{no_word, number_at, bits_at, word_at, Ascend, word_count, all_words, IsSparse, IsScattered, IsAt, IsCut, IsLowest}
use Rattle.lol_memory.specs.Words.{held_words, IsTrim, IsJoined, AreDense}
use Rattle.lol_memory.proofs.SparseLemmas.{word_absent, word_there, word_past, length-all_words, get_or-all_words, held_sparse}
use Rattle.lol_memory.proofs.FormLemmas.{ascend_push, word_push, length_push, old_push, last_push, held_push}

-- what is left is no lower than the number of the first that is left
raised : (ws : List SparseWord) (i n number : ℕ) → Ascend ws → IsCut ws i n → n ≤ number → (i < length ws → number ≤ number_at ws i) → IsCut ws i number
raised ws i n number ascend cut after low = record {
  in_range = cut.in_range;
  before = λ k less. omega (arith, cut.before k less, after);
  from = λ k high within. elim (cases_eq i k) [
    | inl same ↦ subst (λ k. number ≤ number_at ws k) same (low (omega arith))
    | inr other ↦ omega (arith, low (omega arith), ascend i k (omega arith) within)
  ];
}

-- no word is of a number between two that cut at one index
between : (ws : List SparseWord) (i n m q : ℕ) → IsCut ws i n → IsCut ws i m → n ≤ q → q < m → word_at ws q ≡ 0
between ws i n m q cut cut' after before =
    word_absent ws q (λ k within same. elim (cases_lt k i) [
      | inl less ↦ omega (arith, cut.before k less, same)
      | inr high ↦ omega (arith, cut'.from k high within, same)
    ])

-- past the last that is left there is none
ended : (ws : List SparseWord) (i n q : ℕ) → IsCut ws i n → length ws ≤ i → n ≤ q → word_at ws q ≡ 0
ended ws i n q cut end after = word_absent ws q (λ k within same. omega (arith, cut.before k (omega arith), same))

-- the word at an index from which on numbers are no lower, and the words after it
pub taken : (ws : List SparseWord) (i number : ℕ) → Ascend ws → IsCut ws i number → i < length ws → number_at ws i ≡ number
    → (bits_at ws i ≡ word_at ws number) × IsCut ws (i + 1) (number + 1)
taken ws i number ascend cut there is = (
  sym (word_there ws ascend number i (record { in_range = there; is = is })),
  record {
    in_range = omega (arith, there);
    before = λ k less. elim (cases_eq k i) [ inl same ↦ omega (arith, ap (number_at ws) same, is) | inr other ↦ omega (arith, cut.before k (omega arith)) ];
    from = λ k high within. omega (arith, ascend i k (omega arith) within, is);
  },
)

-- no word of the number is left
pub not_taken : (ws : List SparseWord) (i number : ℕ) → Ascend ws → IsCut ws i number → (i < length ws → number_at ws i ≢ number)
    → (0 ≡ word_at ws number) × IsCut ws i (number + 1)
not_taken ws i number ascend cut other =
    let above : (k : ℕ) → i ≤ k → k < length ws → number + 1 ≤ number_at ws k =
    λ k high within. elim (cases_eq i k) [
      | inl same ↦ subst (λ k. number + 1 ≤ number_at ws k) same (omega (arith, cut.from i (omega arith) (omega arith), other (omega arith)))
      | inr later ↦ omega (arith, cut.from i (omega arith) (omega arith), ascend i k (omega arith) within)
    ] in (
      sym (word_absent ws number (λ k within same. elim (cases_lt k i) [
        | inl less ↦ omega (arith, cut.before k less, same)
        | inr high ↦ omega (arith, above k high within, same)
      ])),
      record { in_range = cut.in_range; before = λ k less. omega (arith, cut.before k less); from = above },
    )

-- past a number the index is no lower, and higher if the word at the index was of this number
pub passed : (ws : List SparseWord) (i i' number : ℕ) → IsCut ws i number → IsCut ws i' (number + 1) → (i ≤ i') × (i < length ws → number_at ws i ≡ number → i < i')
passed ws i i' number cut next = (
  elim (cases_lt i' i) [ inl less ↦ absurd (omega (arith, cut.before i' less, next.from i' (omega arith) (omega (arith, cut.in_range)))) | inr other ↦ other ],
  λ within is. elim (cases_lt i i') [ inl less ↦ less | inr other ↦ absurd (omega (arith, next.from i other within, is)) ],
)

-- both has the words of numbers below n
pub record IsMerged (ws : List SparseWord) (i : ℕ) (vs : List SparseWord) (j : ℕ) (both : List SparseWord) (n : ℕ) : Type 0 where
  pub cut : IsCut ws i n
  pub cut' : IsCut vs j n
  pub start : length both ≡ 0 → i ≡ 0
  pub first : 0 < length both → number_at both 0 ≡ 0
  pub below : (k : ℕ) → k < length both → number_at both k < n
  pub ascend : Ascend both
  pub held : (k : ℕ) → 0 < k → k < length both → bits_at both k ≢ 0
  pub same : (q : ℕ) → q < n → word_at both q ≡ bit_or (word_at ws q) (word_at vs q)

pub merged_none : (ws vs : List SparseWord) → IsMerged ws 0 vs 0 [] 0
merged_none ws vs = record {
  cut = record { in_range = omega arith; before = λ k less. absurd (omega arith); from = λ k high within. omega arith };
  cut' = record { in_range = omega arith; before = λ k less. absurd (omega arith); from = λ k high within. omega arith };
  start = λ _. refl;
  first = λ some. absurd (omega arith);
  below = λ k within. absurd (omega arith);
  ascend = λ j k less within. absurd (omega arith);
  held = λ k after within. absurd (omega arith);
  same = λ q less. absurd (omega arith);
}

module _ (ws vs both : List SparseWord) (i j n : ℕ) (sparse : IsSparse ws) (sparse' : IsSparse vs) (merged : IsMerged ws i vs j both n) where
  module _ (number : ℕ) (lowest : IsLowest ws i vs j number) where
    after : n ≤ number
    after = elim lowest.there [
      | inl here ↦ omega (arith, merged.cut.from i (omega arith) here.0, here.1)
      | inr here ↦ omega (arith, merged.cut'.from j (omega arith) here.0, here.1)
    ]

    pub cut_first : IsCut ws i number
    cut_first = raised ws i n number sparse.ascend merged.cut after lowest.first

    pub cut_second : IsCut vs j number
    cut_second = raised vs j n number sparse'.ascend merged.cut' after lowest.second

    some_bits : number ≢ 0 → bit_or (word_at ws number) (word_at vs number) ≢ 0
    some_bits later none =
        elim lowest.there [
          | inl (there, is) ↦
              let not_first : i ≢ 0 = λ start. later (omega (arith, ap (number_at ws) start, sparse.first, is)) in
              sparse.held i (omega arith) there (omega (arith, word_there ws sparse.ascend number i (record { in_range = there; is = is }), none, le_or_l (word_at ws number) (word_at vs number)))
          | inr (there, is) ↦
              let not_first : j ≢ 0 = λ start. later (omega (arith, ap (number_at vs) start, sparse'.first, is)) in
              sparse'.held j (omega arith) there (omega (arith, word_there vs sparse'.ascend number j (record { in_range = there; is = is }), none, le_or_r (word_at ws number) (word_at vs number)))
        ]

    pub merged_more : (w : SparseWord) → w.number ≡ number → w.bits ≡ bit_or (word_at ws number) (word_at vs number)
        → (i' j' : ℕ) → IsCut ws i' (number + 1) → IsCut vs j' (number + 1) → IsMerged ws i' vs j' (both ++ w ∷ []) (number + 1)
    merged_more w is bits i' j' next next' =
        let below : (k : ℕ) → k < length both → number_at both k < w.number = λ k within. omega (arith, merged.below k within, after, is) in
        let len = length_push both w below in
        let number_of = λ (w : SparseWord). w.number in record {
          cut = next;
          cut' = next';
          start = λ none. absurd (omega (arith, len));
          first = λ _. elim (cases_eq (length both) 0) [
            | inl empty ↦
                let start = merged.start empty in
                let low : number ≡ 0 = omega (arith, lowest.first (omega (arith, sparse.some)), ap (number_at ws) start, sparse.first) in
                let last : number_at (both ++ w ∷ []) (length both) ≡ w.number = ap number_of (last_push both w below no_word) in
                ap (number_at (both ++ w ∷ [])) (sym empty) ∙ last ∙ is ∙ low
            | inr some ↦ ap number_of (old_push both w below no_word 0 (omega arith)) ∙ merged.first (omega arith)
          ];
          below = λ k within. elim (cases_eq k (length both)) [
            | inl last ↦ omega (arith, ap (number_at (both ++ w ∷ [])) last, ap number_of (last_push both w below no_word), is)
            | inr other ↦ omega (arith, ap number_of (old_push both w below no_word k (omega (arith, within, len))), below k (omega (arith, within, len)), is)
          ];
          ascend = ascend_push both w below merged.ascend;
          held = held_push both w below
              (elim (cases_eq number 0) [
                | inl first ↦ elim (cases_eq (length both) 0) [ inl empty ↦ inr empty | inr some ↦ absurd (omega (arith, merged.below 0 (omega arith), after)) ]
                | inr later ↦ inl (λ none. some_bits later (sym bits ∙ none))
              ])
              merged.held;
          same = λ q less. word_push both w below q ∙ elim (cases_eq w.number q) [
            | inl here ↦
                let test : nat_eq w.number q ≡ true = grind (arith, nat_tests) in
                rw test (bits ∙ ap (λ p. bit_or (word_at ws p) (word_at vs p)) (sym is ∙ here))
            | inr other ↦
                let test : nat_eq w.number q ≡ false = grind (arith, nat_tests) in
                rw test (elim (cases_lt q n) [
                  | inl low ↦ merged.same q low
                  | inr high ↦
                      let left = between ws i n number q merged.cut cut_first high (omega arith) in
                      let right = between vs j n number q merged.cut' cut_second high (omega arith) in
                      word_absent both q (λ k within here. omega (arith, merged.below k within, here)) ∙ sym (or_zero_l 0) ∙ rw (left, right) refl
                ])
          ];
        }

    -- fewer words are left
    pub fewer_left : (i' j' : ℕ) → IsCut ws i' (number + 1) → IsCut vs j' (number + 1) → (length ws - i') + (length vs - j') < (length ws - i) + (length vs - j)
    fewer_left i' j' next next' =
        let left = passed ws i i' number cut_first next in
        let right = passed vs j j' number cut_second next' in
        elim lowest.there [
          | inl (there, is) ↦ omega (arith, there, left.1 there is, right.0)
          | inr (there, is) ↦ omega (arith, there, right.1 there is, left.0)
        ]

  module _ (end : length ws ≤ i) (end' : length vs ≤ j) where
    pub merged_sparse : IsSparse both
    merged_sparse =
        let some : 0 < length both = elim (cases_eq (length both) 0) [ inl none ↦ absurd (omega (arith, merged.start none, sparse.some)) | inr some ↦ omega arith ] in
        record { some = some; first = merged.first some; ascend = merged.ascend; held = merged.held }

    pub merged_same : (q : ℕ) → word_at both q ≡ bit_or (word_at ws q) (word_at vs q)
    merged_same q = elim (cases_lt q n) [
      | inl low ↦ merged.same q low
      | inr high ↦
          let left = ended ws i n q merged.cut end high in
          let right = ended vs j n q merged.cut' end' high in
          word_absent both q (λ k within here. omega (arith, merged.below k within, here)) ∙ sym (or_zero_l 0) ∙ rw (left, right) refl
    ]

-- ---- the words of sets that are merged
pub placed_same : (list : List ℕ) (ws : List SparseWord) → IsScattered list (length list) ws → (j : ℕ) → word_at ws j ≡ get_or list j 0
placed_same list ws all j = elim (cases_lt j (length list)) [
  | inl near ↦ all.same j near
  | inr far ↦ word_absent ws j (λ k within same. omega (arith, all.below k within, same)) ∙ sym (get_or_past list j 0 far)
]

-- the words of both
module _ (xs ys : List ℕ) (both : List SparseWord) (trim : IsTrim xs) (trim' : IsTrim ys) (sparse : IsSparse both)
    (same : (j : ℕ) → word_at both j ≡ bit_or (get_or xs j 0) (get_or ys j 0)) where
  reaches : (n : ℕ) → (1 < n → word_at both (n - 1) ≢ 0) → n ≤ word_count both
  reaches n some = elim (cases_lt (word_count both) n) [
    | inl less ↦ absurd (some (omega arith) (word_past both sparse.ascend (n - 1) (omega arith)))
    | inr other ↦ other
  ]

  left_reaches : length xs ≤ word_count both
  left_reaches = reaches (length xs) (λ several none. trim.last several (omega (arith, same (length xs - 1), none, le_or_l (get_or xs (length xs - 1) 0) (get_or ys (length xs - 1) 0))))

  right_reaches : length ys ≤ word_count both
  right_reaches = reaches (length ys) (λ several none. trim'.last several (omega (arith, same (length ys - 1), none, le_or_r (get_or xs (length ys - 1) 0) (get_or ys (length ys - 1) 0))))

  no_further : word_count both ≤ max (length xs) (length ys)
  no_further =
      let last = length both - 1 in
      elim (cases_eq last 0) [
        | inl one ↦ omega (arith, ap (number_at both) one, sparse.first, trim.some)
        | inr several ↦ elim (cases_lt (number_at both last) (max (length xs) (length ys))) [
          | inl within ↦ omega arith
          | inr past ↦
              let left : get_or xs (number_at both last) 0 ≡ 0 = get_or_past xs (number_at both last) 0 (omega arith) in
              let right : get_or ys (number_at both last) 0 ≡ 0 = get_or_past ys (number_at both last) 0 (omega arith) in
              let at : IsAt both (number_at both last) last = record { in_range = omega (arith, sparse.some); is = refl } in
              absurd (sparse.held last (omega arith) (omega (arith, sparse.some))
              (sym (word_there both sparse.ascend (number_at both last) last at) ∙ (same (number_at both last) ∙ (rw (left, right) refl ∙ or_zero_l 0))))
        ]
      ]

  pub words_joined : IsJoined xs ys (all_words both)
  words_joined = record {
    words = omega (arith, length-all_words both, left_reaches, right_reaches, no_further);
    bits = λ j. get_or-all_words both sparse.ascend j ∙ same j;
  }

-- a list that has the words is that of all words
module _ (ws : List SparseWord) (sparse : IsSparse ws) where
  pub listed : (list : List ℕ) → length list ≡ length (all_words ws) → ((j : ℕ) → get_or list j 0 ≡ word_at ws j) → list ≡ all_words ws
  listed list long same =
      same_lists list (all_words ws) long
      (λ k d within. get_or_default list k d 0 within ∙ (same k ∙ sym (get_or-all_words ws sparse.ascend k)) ∙ get_or_default (all_words ws) k 0 d (omega (arith, within, long)))

  pub one_listed : (bits : ℕ) → bits ≡ bits_at ws 0 → length (all_words ws) ≡ 1 → bits ∷ [] ≡ all_words ws
  one_listed bits is one =
      let list : List ℕ = bits ∷ [] in
      listed list (sym one) (λ j. elim (cases_eq j 0) [
        | inl first ↦ rw first (is ∙ sym (word_there ws sparse.ascend 0 0 (record { in_range = sparse.some; is = sparse.first })))
        | inr later ↦ get_or_past list j 0 (omega arith) ∙ sym (word_past ws sparse.ascend j (omega (arith, length-all_words ws, one)))
      ])

  pub list_form : (list : List ℕ) → list ≡ all_words ws → length (all_words ws) ≢ 1 → length (all_words ws) ≤ 16 + 4 * (length ws - 1)
      → (1 < length list) × AreDense (length list) (held_words list)
  list_form list is several few =
      rw is (omega (arith, length-all_words ws), omega (arith, held_sparse ws sparse))
