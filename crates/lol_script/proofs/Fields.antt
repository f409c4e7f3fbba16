-- Fields of a line.
use Rattle.std.proofs.Common.{◌≡◌, ◌≢◌, ℕ, suc, ◌++◌, ◌+◌, ◌-◌, ◌<◌, ◌≤◌, Bool, true, false, cond, List, [], ◌∷◌, length, get_or, take, drop, position, Some, None, refl, sym, ap, ◌∙◌, arith}
use Rattle.std.specs.Prelude.{nat_lt, Option, option_map, if◌then◌else◌, codes}
use Rattle.std.specs.Str.{is_utf8, bytes_eq}
use Rattle.std.specs.List.{slice_split, onto_first, position_or_len, join_with_byte}
use Rattle.std.proofs.lemmas.Bool.Decides.{nat_tests}
use Rattle.std.proofs.lemmas.List.Splits.{slice_split_none, slice_split_first, join_with_byte-slice_split}
use Rattle.std.proofs.Math.Decide.{dec_le}
use Rattle.std.proofs.Math.Nat.{lt_of_not-le}
use Rattle.std.proofs.Math.Seq.{drop-cons}
use Rattle.std.specs.Cmp.{unsigned_Decides}
use Rattle.std.proofs.lemmas.Slice.Eq.{bytes_eq-Decides}
use Rattle.std.proofs.lemmas.List.{get_or-drop, length-drop, take-append-drop}
use Rattle.std.proofs.lemmas.List.Sums.{fails_before_first, passes_at_first, position_or_len_is}
use Rattle.lol_base.specs.BoolLaws.{not_true}
use Rattle.lol_base.specs.CodePoints.{tab}
use Rattle.memchr.specs.Find.{IsFirstByte, Nowhere, Passes}
use Rattle.lol_script.specs.Script.{Line, Select, is_tab, limit_at, rows_at, select_at, start_at, end_at, of_kind, from_fields, line_at, number_up_to}

pub pos_in : (n m : ℕ) → cond (nat_lt n m) (Some n) None ≡ None → m ≤ n
pos_in n m h = grind (arith, nat_tests)

pub pos_at : (n m k : ℕ) → cond (nat_lt n m) (Some n) None ≡ Some k → (n < m) × (n ≡ k)
pos_at n m k h = (grind (arith, nat_tests), grind (arith, nat_tests))

pub parts_none : (p : ℕ → Bool) (xs : List ℕ) → position p xs ≡ None → slice_split p xs ≡ xs ∷ []
parts_none p xs h =
    let past = pos_in (position_or_len p xs) (length xs) h in
    slice_split_none p xs (λ k d within. fails_before_first p xs k d (omega (arith, past, within)))

pub parts_some : (p : ℕ → Bool) (xs : List ℕ) (n : ℕ) → position p xs ≡ Some n → slice_split p xs ≡ take n xs ∷ slice_split p (drop (n + 1) xs)
parts_some p xs n h =
    let at = pos_at (position_or_len p xs) (length xs) n h in
    slice_split_first p xs 0 at.0 ∙ (λ i. take (at.1 i) xs ∷ slice_split p (drop (at.1 i + 1) xs))

pub split_none : (xs : List ℕ) → position is_tab xs ≡ None → slice_split is_tab xs ≡ xs ∷ []
split_none xs h = parts_none is_tab xs h

pub split_some : (xs : List ℕ) (n : ℕ) → position is_tab xs ≡ Some n → slice_split is_tab xs ≡ take n xs ∷ slice_split is_tab (drop (n + 1) xs)
split_some xs n h = parts_some is_tab xs n h

later : (p : ℕ → Bool) (xs : List ℕ) (n k : ℕ) → n ≤ k → p (get_or (drop n xs) (k - n) 0) ≡ p (get_or xs k 0)
later p xs n k past = ap p (get_or-drop n xs (k - n) 0 ∙ ap (λ i. get_or xs i 0) (let same : n + (k - n) ≡ k = omega (arith, past) in same))

-- the first offset that a search of bytes finds
pub first_offset : (p : ℕ → Bool) (xs : List ℕ) (found : Option ℕ) → IsFirstByte p xs found → found ≡ position p xs
first_offset p xs None h =
    let at : position_or_len p xs ≡ length xs = position_or_len_is p xs (length xs) 0 (omega arith) (λ k below. not_true _ (h k (omega arith) below)) (λ below. absurd (omega (arith, below))) in
    grind (arith, nat_tests, at)
first_offset p xs (Some n) h =
    let at : position_or_len p xs ≡ n = position_or_len_is p xs n 0 (omega (arith, h.0.high)) (λ k below. not_true _ (h.0.before k (omega arith) below)) (λ below. h.1) in
    grind (arith, nat_tests, at, h.0.high)

pub within_position : (p : ℕ → Bool) (xs : List ℕ) (n : ℕ) → position p xs ≡ Some n → n < length xs
within_position p xs n h = let at = pos_at (position_or_len p xs) (length xs) n h in omega (arith, at.0, at.1)

pub within_some : (xs : List ℕ) (n : ℕ) → position is_tab xs ≡ Some n → n < length xs
within_some xs n h = within_position is_tab xs n h

-- there is always a first field
pub record HasFields (fields : List (List ℕ)) : Type 0 where
  pub first : List ℕ
  pub more : List (List ℕ)
  pub is : fields ≡ first ∷ more

has_fields : (xs : List ℕ) → HasFields (slice_split is_tab xs)
has_fields [] = record { first = []; more = []; is = refl }
has_fields (x ∷ xs) = by_case x xs (is_tab x) (has_fields xs)
  where
    by_case : (x : ℕ) (xs : List ℕ) (b : Bool) → HasFields (slice_split is_tab xs) → HasFields (cond b ([] ∷ slice_split is_tab xs) (onto_first x (slice_split is_tab xs)))
    by_case x xs true h = record { first = []; more = slice_split is_tab xs; is = refl }
    by_case x xs false h = record { first = x ∷ h.first; more = h.more; is = ap (onto_first x) h.is }

-- a `select` line by its first tab
pub select_by_cut : (id text : List ℕ) → select_at (id ∷ slice_split is_tab text) ≡ (if is_utf8 text then option_map (λ n. Select n text) (number_up_to 4294967295 id) else None)
select_by_cut id text =
    let h = has_fields text in
    let whole : join_with_byte 9 (h.first ∷ h.more) ≡ text = ap (join_with_byte 9) (sym h.is) ∙ join_with_byte-slice_split 9 text in
    ap (λ fields. select_at (id ∷ fields)) h.is ∙ ap (λ t. if is_utf8 t then option_map (λ n. Select n t) (number_up_to 4294967295 id) else None) whole

-- lines with a field too many
pub limit_too_long : (number rest : List ℕ) → limit_at (number ∷ slice_split is_tab rest) ≡ None
limit_too_long number rest = let h = has_fields rest in ap (λ fields. limit_at (number ∷ fields)) h.is

pub rows_too_long : (number rest : List ℕ) → rows_at (number ∷ slice_split is_tab rest) ≡ None
rows_too_long number rest = let h = has_fields rest in ap (λ fields. rows_at (number ∷ fields)) h.is

pub end_too_long : (name rest : List ℕ) → end_at (name ∷ slice_split is_tab rest) ≡ None
end_too_long name rest = let h = has_fields rest in ap (λ fields. end_at (name ∷ fields)) h.is

abbrev nothing : Option Line
nothing = None

-- a line of several fields is of one of the kinds that have some
pub none_of_kind : (kind rest : List ℕ) → bytes_eq kind (codes "limit") ≡ false → bytes_eq kind (codes "rows") ≡ false → bytes_eq kind (codes "select") ≡ false
    → bytes_eq kind (codes "start") ≡ false → bytes_eq kind (codes "drop") ≡ false → bytes_eq kind (codes "end") ≡ false → of_kind kind (slice_split is_tab rest) ≡ None
none_of_kind kind rest limit rows select start drops end =
    let h = has_fields rest in
    ap (of_kind kind) h.is ∙ rw limit (rw rows (rw select (rw start (rw drops (rw end (neither (bytes_eq kind (codes "esi")) (bytes_eq kind (codes "tries")) (bytes_eq kind (codes "explain"))))))))
  where
    neither : (a b c : Bool) → (if a then None else (if b then None else (if c then None else None))) ≡ nothing
    neither true b c = refl
    neither false true c = refl
    neither false false true = refl
    neither false false false = refl

-- the first offset that a search finds after n bytes that don't pass
pub far_first : (p : ℕ → Bool) (xs : List ℕ) (n : ℕ) (found : Option ℕ) → n ≤ length xs → Nowhere (Passes p xs) 0 n → IsFirstByte p (drop n xs) found
    → option_map (λ offset. n + offset) found ≡ position p xs
far_first p xs n None within near far =
    first_offset p xs None (λ k low high passes. elim (dec_le n k) [
      | yes past ↦ far (k - n) (omega arith) (omega (arith, past, high, length-drop n xs)) (later p xs n k past ∙ passes)
      | no short ↦ near k low (lt_of_not-le short) passes
    ])
far_first p xs n (Some offset) within near far =
    first_offset p xs (Some (n + offset)) (
      record {
        low = omega arith;
        high = omega (arith, far.0.high, length-drop n xs);
        before = λ k low high passes. elim (dec_le n k) [
          | yes past ↦ far.0.before (k - n) (omega arith) (omega (arith, past, high)) (later p xs n k past ∙ passes)
          | no short ↦ near k low (lt_of_not-le short) passes
        ];
      },
      ap p (sym (get_or-drop n xs offset 0)) ∙ far.1,
    )

-- a line with a tab is its first field, the tab and the rest
cut_at : (xs : List ℕ) (n : ℕ) → position is_tab xs ≡ Some n → xs ≡ take n xs ++ tab ∷ drop (n + 1) xs
cut_at xs n h =
    let at = pos_at (position_or_len is_tab xs) (length xs) n h in
    let here : is_tab (get_or xs n 0) ≡ true = ap (λ i. is_tab (get_or xs i 0)) (sym at.1) ∙ passes_at_first is_tab xs 0 at.0 in
    let rest : drop n xs ≡ get_or xs n 0 ∷ drop (n + 1) xs = drop-cons xs n 0 (within_some xs n h) ∙ ap (λ k. get_or xs n 0 ∷ drop k xs) (let more : suc n ≡ n + 1 = omega arith in more) in
    sym (take-append-drop n xs) ∙ ap (λ end. take n xs ++ end) (rest ∙ ap (λ b. b ∷ drop (n + 1) xs) ((unsigned_Decides (get_or xs n 0) tab).0 here))

isnt_kind : (bytes kind rest word : List ℕ) → bytes ≡ kind ++ tab ∷ rest → ((after : List ℕ) → bytes ≢ word ++ tab ∷ after) → bytes_eq kind word ≡ false
isnt_kind bytes kind rest word is none =
    not_true _ (λ same. none rest (is ∙ ap (λ k. k ++ tab ∷ rest) ((bytes_eq-Decides kind word).0 same)))

without_tab : (bytes word : List ℕ) (n : ℕ) → position is_tab bytes ≡ Some n → position is_tab word ≡ None → bytes_eq bytes word ≡ false
without_tab bytes word n some none =
    not_true _ (λ same. let absent : Some n ≡ None = sym some ∙ (ap (position is_tab) ((bytes_eq-Decides bytes word).0 same) ∙ none) in cc)

none_bare : (bytes : List ℕ) → bytes_eq bytes (codes "esi") ≡ false → bytes_eq bytes (codes "tries") ≡ false → bytes_eq bytes (codes "explain") ≡ false → bytes_eq bytes (codes "rows") ≡ false → of_kind bytes [] ≡ None
none_bare bytes esi tries explain rows = rw esi (rw tries (rw explain (rw rows (all_none (bytes_eq bytes (codes "limit")) (bytes_eq bytes (codes "select")) (bytes_eq bytes (codes "start")) (bytes_eq bytes (codes "drop")) (bytes_eq bytes (codes "end"))))))
  where
    all_none : (a b c d e : Bool) → (if a then nothing else (if b then nothing else (if c then nothing else (if d then nothing else (if e then nothing else nothing))))) ≡ nothing
    all_none true b c d e = refl
    all_none false true c d e = refl
    all_none false false true d e = refl
    all_none false false false true e = refl
    all_none false false false false true = refl
    all_none false false false false false = refl

-- A line that begins with none of the kinds that have fields is a bare one, or of none of the forms.
pub bare_or_none : (bytes : List ℕ) → ((rest : List ℕ) → bytes ≢ codes "start" ++ tab ∷ rest) → ((rest : List ℕ) → bytes ≢ codes "end" ++ tab ∷ rest)
    → ((rest : List ℕ) → bytes ≢ codes "drop" ++ tab ∷ rest) → ((rest : List ℕ) → bytes ≢ codes "select" ++ tab ∷ rest)
    → ((rest : List ℕ) → bytes ≢ codes "limit" ++ tab ∷ rest) → ((rest : List ℕ) → bytes ≢ codes "rows" ++ tab ∷ rest) → of_kind bytes [] ≡ line_at bytes
bare_or_none bytes start end drops select limit rows = by_tab (position is_tab bytes) refl
  where
    by_tab : (found : Option ℕ) → position is_tab bytes ≡ found → of_kind bytes [] ≡ line_at bytes
    by_tab None h = sym (ap from_fields (split_none bytes h))
    by_tab (Some n) h =
        let kind = take n bytes in
        let rest = drop (n + 1) bytes in
        let is = cut_at bytes n h in
        none_bare bytes (without_tab bytes (codes "esi") n h refl) (without_tab bytes (codes "tries") n h refl) (without_tab bytes (codes "explain") n h refl) (without_tab bytes (codes "rows") n h refl)
        ∙ sym (ap from_fields (split_some bytes n h)
        ∙ none_of_kind kind rest (isnt_kind bytes kind rest _ is limit) (isnt_kind bytes kind rest _ is rows) (isnt_kind bytes kind rest _ is select)
        (isnt_kind bytes kind rest _ is start) (isnt_kind bytes kind rest _ is drops) (isnt_kind bytes kind rest _ is end))

-- a line by what follows its kind
pub start_line_at : (bytes rest : List ℕ) → bytes ≡ codes "start" ++ tab ∷ rest → start_at true (slice_split is_tab rest) ≡ line_at bytes
start_line_at bytes rest is = sym (ap line_at is)

pub end_line_at : (bytes rest : List ℕ) → bytes ≡ codes "end" ++ tab ∷ rest → end_at (slice_split is_tab rest) ≡ line_at bytes
end_line_at bytes rest is = sym (ap line_at is)
