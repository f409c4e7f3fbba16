-- What is left of a range is found by its hashes.
use Rattle.std.specs.Prelude.{slice_get}
use Rattle.std.specs.Option.{option_map}
use Rattle.std.specs.List.{range_with_len, list_any}
use Rattle.std.specs.declared.ops.Range.{Range}
use Rattle.std.proofs.Common.{◌≡◌, ℕ, zero, suc, ◌+◌, ◌-◌, ◌<◌, ◌≤◌, Bool, true, false, cond, List, [], ◌∷◌, ◌++◌, length, map, filter, take, get_or, Option, Some, None, Contains, ◌⊎◌, inl, inr, refl, sym, ap, ◌∙◌, arith, append_assoc, true≢false}
use Rattle.std.proofs.lemmas.Bool.{cases_lt}
use Rattle.std.proofs.lemmas.Option.{slice_get-map}
use Rattle.lol_base.specs.AscendingLaws.{Ascends}
use Rattle.lol_base.specs.MemberLaws.{Among, among_filter, any_among, among_any}
use Rattle.lol_base.specs.ListLaws.{get_or-any}
use Rattle.lol_base.specs.BoolLaws.{and_parts, not_true}
use Rattle.lol_base.specs.PlaceLaws.{some_is}
use Rattle.lol_instructions.specs.declared.instruction.Instruction.{Instruction}
use Rattle.lol_rows.specs.KeyTables.{IsEntryWithin}
use Rattle.lol_rows.specs.declared.key_table.Entry.{Entry}
use Rattle.lol_rows.specs.KeyHashes.{hash_of_name}
use Rattle.lol_rows.specs.LeftLaws.{hash_is}
use Rattle.lol_rows.specs.Rows.{keys_of, name_hash_of, is_left_by_name, is_left_open, passes, passes_at, addresses, some_pass, HasPassing, NonePasses}

-- 1. Addresses of a range

pub among_range : (start n x : ℕ) → Among (range_with_len start n) x → (start ≤ x) × (x < start + n)
among_range start zero x a = absurd a
among_range start (suc n) x (inl is) = (omega (arith, is), omega (arith, is))
among_range start (suc n) x (inr a) = let later = among_range (start + 1) n x a in (omega (arith, later.0), omega (arith, later.1))

pub range_among : (start n x : ℕ) → start ≤ x → x < start + n → Among (range_with_len start n) x
range_among start zero x low high = absurd (omega (arith, low, high))
range_among start (suc n) x low high = by_order (cases_lt start x) (λ above. range_among (start + 1) n x (omega (arith, above)) (omega (arith, high)))
  where
    by_order : (start < x) ⊎ (x ≤ start) → (start < x → Among (range_with_len (start + 1) n) x) → Among (range_with_len start (suc n)) x
    by_order (inl above) later = inr (later above)
    by_order (inr most) later = inl (omega (arith, low, most))

pub ascends_range : (start n : ℕ) → Ascends (range_with_len start n)
ascends_range start zero = tt
ascends_range start (suc n) = (λ m a. let later = among_range (start + 1) n m a in omega (arith, later.0), ascends_range (start + 1) n)

pub ascends_filter : (p : ℕ → Bool) (xs : List ℕ) → Ascends xs → Ascends (filter p xs)
ascends_filter p [] h = tt
ascends_filter p (x ∷ xs) h = by_test (p x) (ascends_filter p xs h.1)
  where
    by_test : (b : Bool) → Ascends (filter p xs) → Ascends (cond b (x ∷ filter p xs) (filter p xs))
    by_test true later = (λ m a. h.0 m (among_filter p xs m a).0, later)
    by_test false later = later

-- 2. Instructions at addresses

pub instruction_at : (p : Instruction → Bool) (o : Option Instruction) → passes p o ≡ true → (i : Instruction) × (o ≡ Some i) × (p i ≡ true)
instruction_at p None h = cc
instruction_at p (Some i) h = (i, refl, h)

pub hashed_at : (hash : Instruction → ℕ) (instructions : List Instruction) (address : ℕ) (i : Instruction) → slice_get instructions address ≡ Some i → slice_get (map hash instructions) address ≡ Some (hash i)
hashed_at hash instructions address i at = slice_get-map hash instructions address ∙ ap (option_map hash) at

-- 4. Whether one is left that is open

module _ (name : List ℕ) (instructions : List Instruction) (range : Range ℕ) where
  pub some_found : HasPassing (is_left_open name) instructions range → true ≡ some_pass (is_left_open name) instructions range
  some_found h =
      sym (any_among (passes_at (is_left_open name) instructions) (addresses range) h.address (range_among range.start (range.end - range.start) h.address h.low (omega (arith, h.low, h.high))) h.passes)

  pub none_left : (a b : ℕ) → a ≡ hash_of_name None true → b ≡ hash_of_name (Some name) true → NonePasses (is_left_open name) instructions range a → NonePasses (is_left_open name) instructions range b
      → false ≡ some_pass (is_left_open name) instructions range
  none_left a b is_a is_b none_a none_b = sym (not_true (some_pass (is_left_open name) instructions range) (λ some.
      let there = among_any (passes_at (is_left_open name) instructions) (addresses range) some in
      let bounds = among_range range.start (range.end - range.start) there.0 there.1 in
      let at = instruction_at (is_left_open name) (slice_get instructions there.0) there.2 in
      let parts = and_parts (is_left_by_name name at.0) (keys_of at.0).opens at.2 in
      let high : there.0 < range.end = omega (arith, bounds.0, bounds.1) in
      let fails : is_left_open name at.0 ≡ false =
      elim (hash_is name at.0 parts.0) [
        | inl is ↦ none_a there.0 at.0 bounds.0 high at.1 (is ∙ ap (hash_of_name None) parts.1 ∙ sym is_a)
        | inr is ↦ none_b there.0 at.0 bounds.0 high at.1 (is ∙ ap (hash_of_name (Some name)) parts.1 ∙ sym is_b)
      ] in
      true≢false (sym at.2 ∙ fails)))

  -- no entry before an index passes
  abbrev pub NoneSoFar : List Entry → ℕ → Type 0
  NoneSoFar entries n = (k : ℕ) (d : Entry) → k < n → k < length entries → passes_at (is_left_open name) instructions (get_or entries k d).address ≡ false

  pub one_less : (entries : List Entry) (n : ℕ) (d : Entry) → n < length entries → NoneSoFar entries n
      → passes_at (is_left_open name) instructions (get_or entries n d).address ≡ false → NoneSoFar entries (n + 1)
  one_less entries n d within before fails k other low inside = by_order (cases_lt k n)
    where
      by_order : (k < n) ⊎ (n ≤ k) → passes_at (is_left_open name) instructions (get_or entries k other).address ≡ false
      by_order (inl less) = before k other less inside
      by_order (inr most) =
          let here : n ≡ k = omega (arith, low, most) in
          ap (λ (e : Entry). passes_at (is_left_open name) instructions e.address) (ap (λ j. get_or entries j other) (sym here) ∙ get_or-any entries n other d within) ∙ fails

  -- an entry that passes
  pub entry_passes : (all : List ℕ) (entries : List Entry) (n hash : ℕ) (d : Entry) → n < length entries
      → ((entry : Entry) → Contains entries entry → IsEntryWithin all hash range.start range.end entry)
      → passes_at (is_left_open name) instructions (get_or entries n d).address ≡ true → HasPassing (is_left_open name) instructions range
  entry_passes all entries n hash d within entry_within passes =
      let entry = get_or entries n d in
      let w = entry_within entry (n, within, get_or-any entries n entry d within) in
      record { address = entry.address; low = w.low; high = w.high; passes = passes }

  pub none_of_hash : (entries : List Entry) (n hash : ℕ) → length entries ≤ n → NoneSoFar entries n
      → ((entry : Entry) → IsEntryWithin (map name_hash_of instructions) hash range.start range.end entry → Contains entries entry)
      → NonePasses (is_left_open name) instructions range hash
  none_of_hash entries n hash all none within address i low high at hashed =
      let entry : Entry = record { hash = hash; address = address } in
      let there = within entry (record { hashed = hashed_at name_hash_of instructions address i at ∙ ap Some hashed; same = refl; low = low; high = high }) in
      let fails = none there.0 entry (omega (arith, there.1, all)) there.1 in
      sym (ap (passes (is_left_open name)) at) ∙ (ap (λ (e : Entry). passes_at (is_left_open name) instructions e.address) (sym there.2) ∙ fails)

-- 5. The same by a look at each

module _ (q : ℕ → Bool) (range : Range ℕ) where
  -- none before an address passes
  abbrev pub NoneBefore : ℕ → Type 0
  NoneBefore address = (k : ℕ) → range.start ≤ k → k < address → q k ≡ false

  pub none_next : (address : ℕ) → NoneBefore address → q address ≡ false → NoneBefore (address + 1)
  none_next address before fails k low less = by_order (cases_lt k address)
    where
      by_order : (k < address) ⊎ (address ≤ k) → q k ≡ false
      by_order (inl early) = before k low early
      by_order (inr late) = let here : k ≡ address = omega (arith, late, less) in ap q here ∙ fails

  pub some_at : (address : ℕ) → range.start ≤ address → address < range.end → q address ≡ true → true ≡ list_any q (addresses range)
  some_at address low high passes = sym (any_among q (addresses range) address (range_among range.start (range.end - range.start) address low (omega (arith, low, high))) passes)

  pub none_at : (address : ℕ) → NoneBefore address → range.end ≤ address → false ≡ list_any q (addresses range)
  none_at address before most = sym (not_true (list_any q (addresses range)) (λ some.
      let there = among_any q (addresses range) some in
      let bounds = among_range range.start (range.end - range.start) there.0 there.1 in
      true≢false (sym there.2 ∙ before there.0 bounds.0 (omega (arith, bounds.0, bounds.1, most)))))

-- 6. Addresses of a range by their indices

pub range_at : (start n index : ℕ) → index < n → slice_get (range_with_len start n) index ≡ Some (start + index)
range_at start zero index within = absurd (omega (arith, within))
range_at start (suc n) zero within = let same : start ≡ start + 0 = omega arith in ap Some same
range_at start (suc n) (suc k) within = let same : start + 1 + k ≡ start + suc k = omega arith in range_at (start + 1) n k (omega (arith, within)) ∙ ap Some same

-- 7. Adding what passes, address by address

module _ (q : ℕ → Bool) where
  -- one more
  pub filter_next : (xs : List ℕ) (index x : ℕ) (b : Bool) → slice_get xs index ≡ Some x → q x ≡ b → filter q (take (index + 1) xs) ≡ filter q (take index xs) ++ cond b (x ∷ []) []
  filter_next [] index x b at is = cc
  filter_next (y ∷ ys) zero x b at is = (λ j. cond (q (some_is at j)) (some_is at j ∷ []) []) ∙ ap (λ k. cond k (x ∷ []) []) is
  filter_next (y ∷ ys) (suc k) x b at is =
      let count : suc k + 1 ≡ suc (k + 1) = omega arith in
      ap (λ n. filter q (take n (y ∷ ys))) count ∙ by_test (q y) (filter_next ys k x b at is)
    where
      by_test : (own : Bool) → filter q (take (k + 1) ys) ≡ filter q (take k ys) ++ cond b (x ∷ []) []
          → cond own (y ∷ filter q (take (k + 1) ys)) (filter q (take (k + 1) ys)) ≡ cond own (y ∷ filter q (take k ys)) (filter q (take k ys)) ++ cond b (x ∷ []) []
      by_test true later = ap (λ l. y ∷ l) later
      by_test false later = later

  pub next_added : (xs : List ℕ) (index x : ℕ) (b : Bool) (old before after : List ℕ) → slice_get xs index ≡ Some x → before ≡ old ++ filter q (take index xs)
      → q x ≡ b → after ≡ before ++ cond b (x ∷ []) [] → after ≡ old ++ filter q (take (index + 1) xs)
  next_added xs index x b old before after at so is added =
      added ∙ ap (λ l. l ++ cond b (x ∷ []) []) so
      ∙ (append_assoc old (filter q (take index xs)) (cond b (x ∷ []) []) ∙ ap (λ l. old ++ l) (sym (filter_next xs index x b at is)))

  -- fewer pass before one that passes
  pub filter_before : (xs : List ℕ) (index x : ℕ) → slice_get xs index ≡ Some x → q x ≡ true → length (filter q (take index xs)) < length (filter q xs)
  filter_before [] index x at is = cc
  filter_before (y ∷ ys) zero x at is = by_test (q y) (ap q (some_is at) ∙ is)
    where
      by_test : (b : Bool) → b ≡ true → 0 < length (cond b (y ∷ filter q ys) (filter q ys))
      by_test true passes = omega arith
      by_test false passes = cc
  filter_before (y ∷ ys) (suc k) x at is = by_test (q y) (filter_before ys k x at is)
    where
      by_test : (b : Bool) → length (filter q (take k ys)) < length (filter q ys) → length (cond b (y ∷ filter q (take k ys)) (filter q (take k ys))) < length (cond b (y ∷ filter q ys) (filter q ys))
      by_test true later = omega (arith, later)
      by_test false later = omega (arith, later)
