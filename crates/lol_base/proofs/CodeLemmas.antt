-- Codes of names, and what is kept of them.
use Rattle.std.proofs.Common.{◌≡◌, ◌≢◌, ◌∙◌, sym, ap, refl, ℕ, zero, suc, ◌+◌, ◌*◌, ◌^◌, ◌<◌, ◌≤◌, Bool, true, false, not, ◌&&◌, nat_eq, nat_lt, List, [], ◌∷◌, length, fold, Option, Some, None, unwrap_or, is_some, IsNone, IsTrue, ◌↔◌, get_or, arith, add-zero, true≢false}
use Rattle.std.specs.List.{list_all}
use Rattle.std.specs.Bool.{Decides, ◌==◌, if◌then◌else◌}
use Rattle.std.specs.Char.{to_ascii_lowercase}
use Rattle.std.specs.Option.{option_eq}
use Rattle.std.specs.declared.cmp.Ordering.TheVariants.{Less, Equal, Greater}
use Rattle.std.specs.declared.cmp.Ordering.{Ordering}
use Rattle.std.specs.Ordering.{MatchOrdering, nat_cmp, ordering_index, ordering_then}
use Rattle.std.specs.Cmp.{unsigned_Decides, nat_cmp_is, Equal-is}
use Rattle.std.specs.Cmp.Lexicographic.{slice_cmp, texts_ties}
use Rattle.std.proofs.lemmas.Cmp.{ranked}
use Rattle.std.proofs.lemmas.Bool.Decides.{same_from_decides}
use Rattle.std.proofs.lemmas.List.{length-map}
use Rattle.std.proofs.lemmas.Nat.{pow-add}
use Rattle.std.proofs.Math.Nat.{pow-le-pow_right}
use Rattle.std.proofs.lemmas.Bool.Decides.{nat_tests}
use Rattle.std.proofs.lemmas.Slice.Eq.{bytes_eq-Decides}
use Rattle.lol_base.specs.BoolLaws.{and_parts, and_of, and-left_false, and-right_false}
use Rattle.lol_base.specs.CodeLaws.{five_bits-lt, name_code-hash, name_code-none, hash_of_code, name_of_code-name_code, codes_decide}
use Rattle.lol_base.specs.LocalNames.{Name, code_or_last, same_local_name, local_name_cmp, is_hash_byte, is_hash, five_bits, bits_of, with_byte, name_code, local_name}
use Rattle.lol_base.specs.Names.{lowercased}
use Rattle.lol_base.specs.declared.local_name.Kept.{Kept}
use Rattle.lol_base.specs.declared.local_name.Kept.TheVariants.{Hash, Borrowed, Owned}
use Rattle.lol_base.specs.Kept.{name_of_code, spelled_name, name_of, IsKeptRight}

-- ---- codes are small

pub code_bound : (code bits k : ℕ) → code < 32 ^ k → bits < 32 → code * 32 + bits < 32 ^ (k + 1)
code_bound code bits k small few =
    let next : 32 ^ (k + 1) ≡ 32 ^ k * 32 = pow-add 32 k 1 in
    omega arith

pub code_fits : (code k : ℕ) → code < 32 ^ k → k < 12 → code < 2 ^ 55
code_fits code k small few =
    let most : 32 ^ k ≤ 32 ^ 11 = pow-le-pow_right {n = 32} (omega arith) {i = k} {j = 11} (omega arith) in
    omega (arith, most)

pub is_some-name_code : (name : List ℕ) → is_some (name_code name) ≡ is_hash name
is_some-name_code name =
    elim (is_hash name) as (λ h. is_hash name ≡ h → is_some (name_code name) ≡ h) [
      | true ↦ λ hash. ap is_some (name_code-hash name hash)
      | false ↦ λ none. ap is_some (name_code-none name none)
    ] refl

-- ---- from spelled bytes

-- a byte's lower case is the digit 1 only if the byte is
one_from_lower : (b : ℕ) → to_ascii_lowercase b ≡ 49 → b ≡ 49
one_from_lower b is = grind (arith, nat_tests)

pub bits_of-lt : (b bits : ℕ) → bits_of b ≡ Some bits → bits < 32
bits_of-lt b bits is =
    elim (is_hash_byte b) as (λ h. is_hash_byte b ≡ h → (if h then Some (five_bits b) else None) ≡ Some bits → bits < 32) [
      | true ↦ λ hash e. let same : five_bits b ≡ bits = cc in omega (arith, five_bits-lt b hash)
      | false ↦ λ none e. absurd (cc)
    ] refl is

bits_of-none : (b : ℕ) → bits_of b ≡ None → is_hash_byte b ≡ false
bits_of-none b is =
    elim (is_hash_byte b) as (λ h. (if h then Some (five_bits b) else None) ≡ None → h ≡ false) [
      | true ↦ λ e. absurd (cc)
      | false ↦ λ e. refl
    ] is

pub no_code_if_empty : (bs : List ℕ) → (length bs == 0) ≡ true → name_code (lowercased bs) ≡ None
no_code_if_empty [] empty = name_code-none [] refl
no_code_if_empty (b ∷ bs) empty = let none : suc (length bs) ≡ 0 = (unsigned_Decides (suc (length bs)) 0).0 empty in absurd (omega arith)

pub no_code_if_long : (bs : List ℕ) → 12 < length bs → name_code (lowercased bs) ≡ None
no_code_if_long [] long = absurd (omega arith)
no_code_if_long (b ∷ bs) long =
    let len : length (lowercased bs) ≡ length bs = length-map bs to_ascii_lowercase in
    let far : nat_lt (length (lowercased bs)) 12 ≡ false = grind (arith, nat_tests) in
    name_code-none (lowercased (b ∷ bs))
    (and-left_false (not (to_ascii_lowercase b == 49) && nat_lt (length (lowercased bs)) 12) (list_all is_hash_byte (lowercased (b ∷ bs)))
    (and-right_false (not (to_ascii_lowercase b == 49)) (nat_lt (length (lowercased bs)) 12) far))

pub no_code_if_one : (bs : List ℕ) → get_or bs 0 0 ≡ 49 → name_code (lowercased bs) ≡ None
no_code_if_one [] first = absurd (omega arith)
no_code_if_one (b ∷ bs) first =
    name_code-none (lowercased (b ∷ bs))
    (and-left_false (not (to_ascii_lowercase b == 49) && nat_lt (length (lowercased bs)) 12) (list_all is_hash_byte (lowercased (b ∷ bs)))
    (and-left_false (not (to_ascii_lowercase b == 49)) (nat_lt (length (lowercased bs)) 12) (rw first refl)))

other_byte : (bs : List ℕ) (i : ℕ) → i < length bs → is_hash_byte (to_ascii_lowercase (get_or bs i 0)) ≡ false → list_all is_hash_byte (lowercased bs) ≡ false
other_byte [] i within other = absurd (omega arith)
other_byte (b ∷ bs) zero within other = and-left_false (is_hash_byte (to_ascii_lowercase b)) (list_all is_hash_byte (lowercased bs)) other
other_byte (b ∷ bs) (suc i) within other =
    and-right_false (is_hash_byte (to_ascii_lowercase b)) (list_all is_hash_byte (lowercased bs)) (other_byte bs i (omega arith) other)

pub no_code_if_other : (bs : List ℕ) (i : ℕ) → i < length bs → bits_of (to_ascii_lowercase (get_or bs i 0)) ≡ None → name_code (lowercased bs) ≡ None
no_code_if_other [] i within none = absurd (omega arith)
no_code_if_other (b ∷ bs) i within none =
    let other = other_byte (b ∷ bs) i within (bits_of-none (to_ascii_lowercase (get_or (b ∷ bs) i 0)) none) in
    name_code-none (lowercased (b ∷ bs)) (and-right_false (not (to_ascii_lowercase b == 49) && nat_lt (length (lowercased bs)) 12) (list_all is_hash_byte (lowercased (b ∷ bs))) other)

pub code_if_hashed : (bs : List ℕ) → 0 < length bs → length bs ≤ 12 → get_or bs 0 0 ≢ 49 → list_all is_hash_byte (lowercased bs) ≡ true
    → name_code (lowercased bs) ≡ Some (fold with_byte 0 (lowercased bs))
code_if_hashed [] some few other hashed = absurd (omega arith)
code_if_hashed (b ∷ bs) some few other hashed =
    let len : length (lowercased bs) ≡ length bs = length-map bs to_ascii_lowercase in
    let near : nat_lt (length (lowercased bs)) 12 ≡ true = grind (arith, nat_tests) in
    let differs : to_ascii_lowercase b ≢ 49 = λ e. other (one_from_lower b e) in
    let first : not (to_ascii_lowercase b == 49) ≡ true = grind (arith, nat_tests) in
    name_code-hash (lowercased (b ∷ bs))
    (and_of (not (to_ascii_lowercase b == 49) && nat_lt (length (lowercased bs)) 12) (list_all is_hash_byte (lowercased (b ∷ bs)))
    (and_of (not (to_ascii_lowercase b == 49)) (nat_lt (length (lowercased bs)) 12) first near) hashed)

-- ---- what a name is kept as

pub hash_kept : (bs : List ℕ) (code : ℕ) → name_code (lowercased bs) ≡ Some code → IsKeptRight code Hash × (name_of code Hash ≡ local_name bs)
hash_kept bs code is =
    let name = name_of_code-name_code (lowercased bs) code is in
    let hash = (hash_of_code (lowercased bs) code is).0 in
    (ap name_code name ∙ is, rw (name, hash) refl)

pub spelled_kept : (bs : List ℕ) → name_code (lowercased bs) ≡ None → spelled_name bs ≡ local_name bs
spelled_kept bs is =
    let none : is_hash (lowercased bs) ≡ false = sym (is_some-name_code (lowercased bs)) ∙ ap is_some is in
    rw none refl

-- a test of codes tells whether a name is one that has a code
pub code_tells : (found : Option ℕ) (name other : List ℕ) (code : ℕ) → found ≡ name_code name → name_code other ≡ Some code
    → Decides (option_eq ◌==◌ found (Some code)) (name ≡ other)
code_tells None name other code is is' = (λ e. absurd (true≢false (sym e)), λ e. absurd (let none : None ≡ Some code = is ∙ (ap name_code e ∙ is') in cc))
code_tells (Some a) name other code is is' = codes_decide name other a code (sym is) is'

spelled_no_hash : (bs : List ℕ) → name_code (lowercased bs) ≡ None → IsNone (Some bs) ↔ IsTrue (is_hash (lowercased bs))
spelled_no_hash bs is =
    let none : is_hash (lowercased bs) ≡ false = sym (is_some-name_code (lowercased bs)) ∙ ap is_some is in
    (λ spelled. absurd (cc), λ hash. absurd (true≢false (sym hash ∙ none)))

-- the names that are hashes have no spelling
pub kept_hash : (code : ℕ) (kept : Kept) → IsKeptRight code kept → IsNone (name_of code kept).spelling ↔ IsTrue (is_hash (name_of code kept).lowercased)
kept_hash code Hash right = (λ none. (hash_of_code (name_of_code code) code right).0, λ hash. refl)
kept_hash code (Borrowed bytes) right = spelled_no_hash bytes.now right.1
kept_hash code (Owned bytes) right = spelled_no_hash bytes.items right.1

-- ---- the code that stands for none

fold_small : (bs : List ℕ) (code k : ℕ) → list_all is_hash_byte bs ≡ true → code < 32 ^ k → fold with_byte code bs < 32 ^ (k + length bs)
fold_small [] code k hashed small = rw (add-zero k) small
fold_small (b ∷ bs) code k hashed small =
    let first = (and_parts (is_hash_byte b) (list_all is_hash_byte bs) hashed).0 in
    let next = code_bound code (five_bits b) k small (five_bits-lt b first) in
    let more : k + suc (length bs) ≡ (k + 1) + length bs = omega arith in
    rw more (fold_small bs (with_byte code b) (k + 1) (and_parts (is_hash_byte b) (list_all is_hash_byte bs) hashed).1 (omega arith))

code_small : (name : List ℕ) (code : ℕ) → name_code name ≡ Some code → code < 2 ^ 60
code_small [] code is = absurd (true≢false (sym (hash_of_code [] code is).0))
code_small (b ∷ bs) code is =
    let h = hash_of_code (b ∷ bs) code is in
    let hashed = (and_parts (not (nat_eq b 49) && nat_lt (length bs) 12) (list_all is_hash_byte (b ∷ bs)) h.0).1 in
    let front = (and_parts (not (nat_eq b 49) && nat_lt (length bs) 12) (list_all is_hash_byte (b ∷ bs)) h.0).0 in
    let short = (and_parts (not (nat_eq b 49)) (nat_lt (length bs) 12) front).1 in
    let few : length bs < 12 = grind (arith, nat_tests) in
    let folded = fold_small (b ∷ bs) 0 0 hashed (omega arith) in
    let most : 32 ^ (0 + suc (length bs)) ≤ 32 ^ 12 = pow-le-pow_right {n = 32} (omega arith) {i = 0 + suc (length bs)} {j = 12} (omega arith) in
    omega (arith, folded, most, h.1)

-- a name is a hash exactly if its code isn't the one that stands for none
pub hash_of_none : (n : Name) → code_or_last n ≡ 18446744073709551615 → name_code n.lowercased ≡ None
hash_of_none n last =
    elim (name_code n.lowercased) as (λ found. name_code n.lowercased ≡ found → unwrap_or found 18446744073709551615 ≡ 18446744073709551615 → found ≡ None) [
      | None ↦ λ is e. refl
      | Some code ↦ λ is e. absurd (omega (arith, code_small n.lowercased code is))
    ] refl last

pub some_code : (n : Name) → code_or_last n ≢ 18446744073709551615 → name_code n.lowercased ≡ Some (code_or_last n)
some_code n other =
    elim (name_code n.lowercased) as (λ found. unwrap_or found 18446744073709551615 ≢ 18446744073709551615 → found ≡ Some (unwrap_or found 18446744073709551615)) [
      | None ↦ λ none. absurd (none refl)
      | Some code ↦ λ some. refl
    ] other

-- the code that is kept
pub kept_code : (code : ℕ) (kept : Kept) → IsKeptRight code kept → code ≡ code_or_last (name_of code kept)
kept_code code Hash right = rw right refl
kept_code code (Borrowed bytes) right = rw right.1 right.0
kept_code code (Owned bytes) right = rw right.1 right.0

-- names of one code are the same, unless it stands for none
pub one_code : (a b : Name) → code_or_last a ≡ code_or_last b → code_or_last a ≢ 18446744073709551615 → a.lowercased ≡ b.lowercased
one_code a b same other =
    let first = some_code a other in
    let second = some_code b (λ last. other (same ∙ last)) in
    (codes_decide a.lowercased b.lowercased (code_or_last a) (code_or_last b) first second).0 ((unsigned_Decides (code_or_last a) (code_or_last b)).1 same)

-- the test of names by their codes, and by what is spelled
pub same_by_code : (a b : Name) (same : Bool) → code_or_last a ≡ code_or_last b → code_or_last a ≢ 18446744073709551615 → same ≡ true → same ≡ same_local_name a b
same_by_code a b same one other is = is ∙ sym ((bytes_eq-Decides a.lowercased b.lowercased).1 (one_code a b one other))

pub same_by_spelling : (a b : Name) (spelled other : List ℕ) (same : Bool) → code_or_last a ≡ code_or_last b → code_or_last a ≡ 18446744073709551615
    → (IsNone (name_code a.lowercased) → lowercased spelled ≡ a.lowercased) → (IsNone (name_code b.lowercased) → lowercased other ≡ b.lowercased)
    → Decides same (lowercased spelled ≡ lowercased other) → same ≡ same_local_name a b
same_by_spelling a b spelled other same one last is is' decides =
    let first = is (rw (hash_of_none a last) refl) in
    let second = is' (rw (hash_of_none b (sym one ∙ last)) refl) in
    same_from_decides same (same_local_name a b) decides (rw (first, second) (bytes_eq-Decides a.lowercased b.lowercased))

-- the order of names by what is spelled, and by their codes
pub cmp_by_spelling : (a b : Name) (spelled other : List ℕ) → code_or_last a ≡ code_or_last b → code_or_last a ≡ 18446744073709551615
    → (IsNone (name_code a.lowercased) → lowercased spelled ≡ a.lowercased) → (IsNone (name_code b.lowercased) → lowercased other ≡ b.lowercased)
    → slice_cmp nat_cmp (lowercased spelled) (lowercased other) ≡ local_name_cmp a b
cmp_by_spelling a b spelled other one last is is' =
    let first = is (rw (hash_of_none a last) refl) in
    let second = is' (rw (hash_of_none b (sym one ∙ last)) refl) in
    rw (first, second, sym (nat_cmp_is (code_or_last a) (code_or_last b) Equal one)) refl

-- the order of equal bytes
same_bytes : (xs : List ℕ) → slice_cmp nat_cmp xs xs ≡ Equal
same_bytes xs = (Equal-is (slice_cmp nat_cmp xs xs)).0 (sym (texts_ties xs xs) ∙ (bytes_eq-Decides xs xs).1 refl)

pub cmp_by_code : (a b : Name) → (code_or_last a ≡ code_or_last b → code_or_last a ≢ 18446744073709551615) → nat_cmp (code_or_last a) (code_or_last b) ≡ local_name_cmp a b
cmp_by_code a b other =
    elim (nat_cmp (code_or_last a) (code_or_last b)) as
    (λ o. MatchOrdering o (code_or_last a < code_or_last b) (code_or_last a ≡ code_or_last b) (code_or_last b < code_or_last a)
    → o ≡ ordering_then o (slice_cmp nat_cmp a.lowercased b.lowercased)) [
      | Less ↦ λ less. refl
      | Equal ↦ λ equal. rw (one_code a b equal (other equal)) (sym (same_bytes b.lowercased))
      | Greater ↦ λ greater. refl
    ] (ranked (code_or_last a) (code_or_last b) (nat_cmp (code_or_last a) (code_or_last b)) refl)

pub equal_if : (a b : ℕ) (o : Ordering) → o ≡ nat_cmp a b → (ordering_index o == 1) ≡ true → a ≡ b
equal_if a b o is equal =
    elim o as (λ v. MatchOrdering v (a < b) (a ≡ b) (b < a) → (ordering_index v == 1) ≡ true → a ≡ b) [
      | Less ↦ λ less e. absurd (true≢false (sym e))
      | Equal ↦ λ same e. same
      | Greater ↦ λ greater e. absurd (true≢false (sym e))
    ] (ranked a b o is) equal

pub equal_is : (a b : ℕ) (o : Ordering) → o ≡ nat_cmp a b → (ordering_index o == 1) ≡ false → a ≢ b
equal_is a b o is other same =
    true≢false (sym (ap (λ v. ordering_index v == 1) (is ∙ sym (nat_cmp_is a b Equal same))) ∙ other)
