-- No reference has more bytes than there are.
use Rattle.std.proofs.Common.{◌≡◌, ℕ, ◌+◌, ◌≤◌, Bool, true, false, List, [], ◌∷◌, length, take, drop, Option, Some, None, refl, sym, ap, inl, inr, arith}
use Rattle.std.specs.Prelude.{◌==◌, ◌||◌, cond, nat_eq, slice_index, unwrap_or, option_and_then, find, IfSome, if◌then◌else◌}
use Rattle.std.specs.Option.{option_map_or}
use Rattle.std.specs.List.{starts_with, slice_split}
use Rattle.std.specs.Cmp.Lexicographic.{pointwise, same_text}
use Rattle.std.specs.Char.{is_digit}
use Rattle.std.proofs.lemmas.Bool.{cases_lt}
use Rattle.std.proofs.lemmas.List.{get_or_past, length-take, length-take-le}
use Rattle.std.proofs.lemmas.List.Sums.{prefix_len-le-length}
use Rattle.std.proofs.lemmas.List.Quantifiers.{position-Some}
use Rattle.lol_references.specs.References.{Reference, reference_of}
use Rattle.lol_references.specs.Numbers.{by_digits, numeric, semicolon_len, digit_count}
use Rattle.lol_references.specs.Names.{named, named_by, is_left, name_len, begins_with_name, row_of, row_among, part}
use Rattle.lol_references.specs.Decoding.{ampersand, alone}

abbrev taken_of : Option Reference → ℕ
taken_of o = (unwrap_or o alone).taken

either_within : (b : Bool) (x y : Option Reference) (n : ℕ) → taken_of x ≤ n → taken_of y ≤ n → taken_of (if b then x else y) ≤ n
either_within true x y n h k = h
either_within false x y n h k = k

semicolon_few : (b : Bool) → (if b then 1 else 0) ≤ 1
semicolon_few true = omega arith
semicolon_few false = omega arith

semicolon_within : (bytes : List ℕ) (len : ℕ) → len ≤ length bytes → len + semicolon_len (slice_index bytes len) ≤ length bytes
semicolon_within bytes len h =
    elim (cases_lt len (length bytes)) as (λ _. len + semicolon_len (slice_index bytes len) ≤ length bytes) [
      | inl short ↦ let few = semicolon_few (slice_index bytes len == 59) in omega arith
      | inr long ↦ rw (get_or_past bytes len 0 long) (omega arith)
    ]

digits_within : (base mark_len : ℕ) (bytes : List ℕ) → taken_of (by_digits base mark_len bytes) ≤ mark_len + length bytes
unfolding by_digits
digits_within base mark_len bytes =
    let len = digit_count base bytes in
    let fits = semicolon_within bytes len (prefix_len-le-length (λ b. is_digit b base) bytes) in
    either_within (len == 0) None (Some (reference_of (mark_len + (len + semicolon_len (slice_index bytes len))) _)) (mark_len + length bytes) (omega arith) (omega arith)

numeric_within : (bytes : List ℕ) → taken_of (numeric bytes) ≤ 1 + length bytes
numeric_within [] = digits_within 10 1 []
numeric_within (b ∷ bytes) =
    either_within (b == 120 || b == 88) (by_digits 16 2 bytes) (by_digits 10 1 (b ∷ bytes)) (1 + length (b ∷ bytes))
    (let h = digits_within 16 2 bytes in omega arith)
    (digits_within 10 1 (b ∷ bytes))

found_first : {X : Type 0} (test : X → Bool) (x : X) (later : Option X) (b : Bool) → test x ≡ b
    → IfSome later (λ y. test y ≡ true) → IfSome (cond b (Some x) later) (λ y. test y ≡ true)
found_first test x later true h others = h
found_first test x later false h others = others

found_passes : {X : Type 0} (test : X → Bool) (xs : List X) → IfSome (find test xs) (λ x. test x ≡ true)
found_passes test [] = tt
found_passes test (x ∷ xs) = found_first test x (find test xs) (test x) refl (found_passes test xs)

row_begins : (bytes : List ℕ) → IfSome (row_of bytes) (λ row. begins_with_name bytes row ≡ true)
unfolding row_of row_among
row_begins [] = tt
row_begins (first ∷ []) = tt
row_begins (first ∷ second ∷ bytes) =
    found_passes (begins_with_name (first ∷ second ∷ bytes)) (slice_split (λ b. b == 32) (part first second))

same_len : (xs ys : List ℕ) → pointwise nat_eq xs ys ≡ true → length xs ≡ length ys
same_len xs ys h = ap length (same_text xs ys (sym h))

-- a name with which bytes begin is no longer than they are
name_within : (bytes row : List ℕ) (o : Option ℕ) → name_len row ≡ o
    → option_map_or (λ len. starts_with nat_eq bytes (take len row)) o false ≡ true
    → taken_of (option_and_then (named_by bytes row) o) ≤ length bytes
name_within bytes row None e h = cc
name_within bytes row (Some len) e h =
    let name = take len row in
    let short = (position-Some (λ b. b == 61) row len 0 e).0 in
    let is_len : length name ≡ len = length-take-le len row (omega arith) in
    let same = same_len name (take (length name) bytes) h in
    let fits = length-take (length name) bytes in
    let within : len ≤ length bytes = omega arith in
    either_within (is_left bytes row len) None (Some (reference_of len (drop (len + 1) row))) (length bytes) (omega arith) within

row_within : (bytes : List ℕ) (o : Option (List ℕ)) → IfSome o (λ row. begins_with_name bytes row ≡ true)
    → taken_of (option_and_then (λ row. option_and_then (named_by bytes row) (name_len row)) o) ≤ length bytes
row_within bytes None h = omega arith
row_within bytes (Some row) h = name_within bytes row (name_len row) refl h

named_within : (bytes : List ℕ) → taken_of (named bytes) ≤ length bytes
unfolding named
named_within bytes = row_within bytes (row_of bytes) (row_begins bytes)

pub ampersand_within : (bytes : List ℕ) → (ampersand bytes).taken ≤ length bytes
unfolding ampersand
ampersand_within [] = named_within []
ampersand_within (b ∷ bytes) =
    either_within (b == 35) (numeric bytes) (named (b ∷ bytes)) (length (b ∷ bytes))
    (let h = numeric_within bytes in omega arith)
    (named_within (b ∷ bytes))
