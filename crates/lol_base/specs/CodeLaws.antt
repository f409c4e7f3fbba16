-- A code belongs to one name: the bytes of a code.
use Rattle.std.proofs.Common.{◌≡◌, ◌≢◌, ◌∙◌, sym, ap, refl, ℕ, zero, suc, ◌+◌, ◌-◌, ◌/◌, ◌%◌, ◌<◌, true, false, not, ◌&&◌, nat_eq, nat_lt, List, [], ◌∷◌, ◌++◌, length, fold, Some, None, arith, add-zero, true≢false}
use Rattle.std.specs.Bool.{Decides, ◌==◌}
use Rattle.std.specs.Cmp.{unsigned_Decides}
use Rattle.std.specs.List.{list_all}
use Rattle.std.proofs.lemmas.List.{append-nil}
use Rattle.std.proofs.lemmas.Bool.Decides.{nat_tests}
use Rattle.lol_base.specs.BoolLaws.{and_parts}
use Rattle.lol_base.specs.LocalNames.{is_hash_byte, is_hash, five_bits, with_byte, name_code}
use Rattle.lol_base.specs.Kept.{byte_of, bytes_before, name_of_code}

-- 1. One byte

pub five_bits-lt : (b : ℕ) → is_hash_byte b ≡ true → five_bits b < 32
five_bits-lt b is = grind (arith, nat_tests)

byte_of-five_bits : (b : ℕ) → is_hash_byte b ≡ true → byte_of (five_bits b) ≡ b
byte_of-five_bits b is = grind (arith, nat_tests)

five_bits-zero : (b : ℕ) → is_hash_byte b ≡ true → b ≢ 49 → 0 < five_bits b
five_bits-zero b is other = grind (arith, nat_tests)

-- 2. A code's bytes

module _ (b : ℕ) (is : is_hash_byte b ≡ true) where
  -- the last byte of a code is the one that was put after the others
  last_byte : (n code : ℕ) (others : List ℕ) → 0 < with_byte code b → bytes_before (suc n) (with_byte code b) others ≡ bytes_before n code (b ∷ others)
  last_byte n code others some =
      let small = five_bits-lt b is in
      let some_code : nat_eq (with_byte code b) 0 ≡ false = grind (arith, nat_tests) in
      let front : with_byte code b / 32 ≡ code = omega arith in
      let last : with_byte code b % 32 ≡ five_bits b = omega arith in
      rw (some_code, front, last, byte_of-five_bits b is) refl

no_code : (n : ℕ) (others : List ℕ) → bytes_before n 0 others ≡ others
no_code zero others = refl
no_code (suc n) others = refl

with_byte-some : (code b : ℕ) → 0 < code → 0 < with_byte code b
with_byte-some code b some = omega arith

decoded : (bs : List ℕ) (n code : ℕ) (others : List ℕ) → list_all is_hash_byte bs ≡ true → 0 < code
    → bytes_before (n + length bs) (fold with_byte code bs) others ≡ bytes_before n code (bs ++ others)
decoded [] n code others hashed some = ap (λ k. bytes_before k code others) (add-zero n)
decoded (b ∷ bs) n code others hashed some =
    let more : n + suc (length bs) ≡ suc n + length bs = omega arith in
    let front = with_byte-some code b some in
    ap (λ k. bytes_before k (fold with_byte (with_byte code b) bs) others) more
    ∙ (decoded bs (suc n) (with_byte code b) others (and_parts (is_hash_byte b) (list_all is_hash_byte bs) hashed).1 front
    ∙ last_byte b (and_parts (is_hash_byte b) (list_all is_hash_byte bs) hashed).0 n code (bs ++ others) front)

all_decoded : (b : ℕ) (bs : List ℕ) (n : ℕ) → list_all is_hash_byte (b ∷ bs) ≡ true → b ≢ 49
    → bytes_before (n + suc (length bs)) (fold with_byte 0 (b ∷ bs)) [] ≡ b ∷ bs
all_decoded b bs n hashed other =
    let first = (and_parts (is_hash_byte b) (list_all is_hash_byte bs) hashed).0 in
    let some : 0 < with_byte 0 b = omega (arith, five_bits-zero b first other) in
    let more : n + suc (length bs) ≡ suc n + length bs = omega arith in
    ap (λ k. bytes_before k (fold with_byte (with_byte 0 b) bs) []) more
    ∙ (decoded bs (suc n) (with_byte 0 b) [] (and_parts (is_hash_byte b) (list_all is_hash_byte bs) hashed).1 some
    ∙ (last_byte b first n 0 (bs ++ []) some ∙ (no_code n (b ∷ (bs ++ [])) ∙ append-nil (b ∷ bs))))

-- 3. Names that have a code

pub name_code-hash : (name : List ℕ) → is_hash name ≡ true → name_code name ≡ Some (fold with_byte 0 name)
unfolding name_code
name_code-hash name is = rw is refl

pub name_code-none : (name : List ℕ) → is_hash name ≡ false → name_code name ≡ None
unfolding name_code
name_code-none name is = rw is refl

-- a name has a code exactly if it is a hash, and then it is the fold
pub hash_of_code : (name : List ℕ) (code : ℕ) → name_code name ≡ Some code → (is_hash name ≡ true) × (fold with_byte 0 name ≡ code)
unfolding name_code
hash_of_code name code is =
    elim (is_hash name) as (λ h. is_hash name ≡ h → (is_hash name ≡ true) × (fold with_byte 0 name ≡ code)) [
      | true ↦ λ hash. (hash, let e : Some (fold with_byte 0 name) ≡ Some code = sym (name_code-hash name hash) ∙ is in cc)
      | false ↦ λ none. absurd (let e : None ≡ Some code = sym (name_code-none name none) ∙ is in cc)
    ] refl

name_of_code-is : (code : ℕ) → name_of_code code ≡ bytes_before 12 code []
unfolding name_of_code
name_of_code-is code = refl

pub name_of_code-name_code : (name : List ℕ) (code : ℕ) → name_code name ≡ Some code → name_of_code code ≡ name
name_of_code-name_code [] code is = absurd (true≢false (sym (hash_of_code [] code is).0))
name_of_code-name_code (b ∷ bs) code is =
    let h = hash_of_code (b ∷ bs) code is in
    let hashed = (and_parts (not (nat_eq b 49) && nat_lt (length bs) 12) (list_all is_hash_byte (b ∷ bs)) h.0).1 in
    let front = (and_parts (not (nat_eq b 49) && nat_lt (length bs) 12) (list_all is_hash_byte (b ∷ bs)) h.0).0 in
    let first = (and_parts (not (nat_eq b 49)) (nat_lt (length bs) 12) front).0 in
    let short = (and_parts (not (nat_eq b 49)) (nat_lt (length bs) 12) front).1 in
    let other : b ≢ 49 = λ e. grind (arith, nat_tests) in
    let few : length bs < 12 = grind (arith, nat_tests) in
    let n : ℕ = 11 - length bs in
    let all : n + suc (length bs) ≡ 12 = omega arith in
    name_of_code-is code
    ∙ (ap (λ k. bytes_before k code []) (sym all)
    ∙ (ap (λ c. bytes_before (n + suc (length bs)) c []) (sym h.1) ∙ all_decoded b bs n hashed other))

-- names of one code are the same
pub one_name : (a b : List ℕ) (code : ℕ) → name_code a ≡ Some code → name_code b ≡ Some code → a ≡ b
one_name a b code is is' = sym (name_of_code-name_code a code is) ∙ name_of_code-name_code b code is'

-- names that have codes are the same exactly if their codes are
pub codes_decide : (name other : List ℕ) (a b : ℕ) → name_code name ≡ Some a → name_code other ≡ Some b → Decides (a == b) (name ≡ other)
codes_decide name other a b is is' = (
  λ e. sym (name_of_code-name_code name a is) ∙ (ap name_of_code ((unsigned_Decides a b).0 e) ∙ name_of_code-name_code other b is'),
  λ e. (unsigned_Decides a b).1 (let same : Some a ≡ Some b = sym is ∙ (ap name_code e ∙ is') in cc),
)
