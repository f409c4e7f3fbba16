-- Marks: single bits, and what is marked of an element's attributes.
use Rattle.std.proofs.Common.{◌≡◌, ℕ, ◌+◌, ◌-◌, ◌*◌, ◌%◌, ◌^◌, ◌<◌, ◌≤◌, ◌≢◌, Bool, true, false, ◌||◌, List, [], length, get_or, drop, eqb, eq-eqb, max, bit_or, bit_and, refl, sym, ap, ◌∙◌, arith, inl, inr, ⊎_elim, w64, min, eqb-true, not}
use Rattle.std.specs.Bool.{OnTrue, OnFalse}
use Rattle.std.specs.Int.{bit_at, bit_not, trailing_zeros}
use Rattle.std.specs.List.{All, slice_range}
use Rattle.std.proofs.lemmas.Bool.{ne_eqb, eqb-false, not-true, not-false, cases_eq, cases_lt}
use Rattle.std.proofs.lemmas.Bool.Decides.{nat_tests}
use Rattle.std.proofs.lemmas.List.{take_rest}
use Rattle.std.proofs.lemmas.List.Elements.{All-cons, All-nil, All-same}
use Rattle.std.proofs.lemmas.Nat.{one_shl}
use Rattle.std.proofs.lemmas.Nat.Bits.{bit_at_and, bit_at_not, bit_at_or, bit_at_ones, bit_at-zero, bit_at_above, bit_at-trailing_zeros, bit_at-pow_same, bit_at-pow_other, bit_at-lt}
use Rattle.std.proofs.Math.Bool.{or-true}
use Rattle.lol_instructions.specs.Tests.{HasClass, words, is_white}
use Rattle.lol_instructions.specs.Marks.{mark_of, is_marked, KeepsMarks}
use Rattle.lol_instructions.specs.declared.marks.Marks.{Marks}
use Rattle.lol_instructions.proofs.AttributeValues.{NoWhite, none_more, words_at, words_none}

-- 1. Bits

pub all_marked : (bit : ℕ) → bit < 64 → eqb (bit_at 18446744073709551615 bit) 1 ≡ true
all_marked bit below = eq-eqb _ 1 (bit_at_ones 64 bit below)

one_at : (other bit : ℕ) → eqb (bit_at (2 ^ bit) other) 1 ≡ eqb other bit
one_at other bit =
    elim (cases_eq other bit) [
      | inl same ↦ rw same (eq-eqb _ 1 (bit_at-pow_same bit) ∙ sym (eq-eqb bit bit refl))
      | inr differs ↦ ne_eqb _ 1 (let zero_there = bit_at-pow_other bit other differs in λ one_there. absurd (omega arith)) ∙ sym (ne_eqb other bit differs)
    ]

pub one_marked : (bit other : ℕ) → bit < 64 → eqb (bit_at (1 * 2 ^ bit % 2 ^ 64) other) 1 ≡ eqb other bit
one_marked bit other below = ap (λ (n : ℕ). eqb (bit_at n other) 1) (one_shl bit 64 below) ∙ one_at other bit

either_bit : (a b : ℕ) → a < 2 → b < 2 → eqb (max a b) 1 ≡ (eqb a 1 || eqb b 1)
either_bit a b small_a small_b = grind (arith, nat_tests)

pub both_marked : (a b bit : ℕ) → eqb (bit_at (bit_or a b) bit) 1 ≡ (eqb (bit_at a bit) 1 || eqb (bit_at b bit) 1)
both_marked a b bit = ap (λ (n : ℕ). eqb n 1) (bit_at_or a b bit) ∙ either_bit (bit_at a bit) (bit_at b bit) (bit_at-lt a bit) (bit_at-lt b bit)

-- 2. Words

abbrev pub IsWordMarked : Marks → List ℕ → Type 0
IsWordMarked marks word = is_marked marks (mark_of (HasClass word)) ≡ true

-- The words before `start` are marked, and the word there doesn't end before `end`.
pub record MarkedSoFar (value : List ℕ) (marks : Marks) (start end : ℕ) : Type 0 where
  pub ordered : start ≤ end
  pub none : NoWhite value start end
  pub covered : (all : Marks) → KeepsMarks marks all → All (IsWordMarked all) (words (drop start value)) → All (IsWordMarked all) (words value)

-- these marks and that of one word more
pub record MarksWord (marks next : Marks) (word : List ℕ) : Type 0 where
  pub before : KeepsMarks marks next
  pub there : IsWordMarked next word

pub marks_word : (marks one next : Marks) (word : List ℕ) → ((bit : ℕ) → is_marked one bit ≡ eqb bit (mark_of (HasClass word))) → ((bit : ℕ) → is_marked next bit ≡ (is_marked marks bit || is_marked one bit)) → MarksWord marks next word
marks_word marks one next word is both =
    let bit = mark_of (HasClass word) in record {
      before = λ b marked. both b ∙ ap (λ (t : Bool). t || is_marked one b) marked;
      there = both bit ∙ ap (λ (t : Bool). is_marked marks bit || t) (is bit ∙ eq-eqb bit bit refl) ∙ or-true _;
    }

module _ (value : List ℕ) (marks next : Marks) (start end : ℕ) (far : MarkedSoFar value marks start end) where
  pub MarkedSoFar-next : end < length value → is_white (get_or value end 0) ≡ true → MarksWord marks next (slice_range value start end) → MarkedSoFar value next (end + 1) (end + 1)
  MarkedSoFar-next within white word = record {
    ordered = omega arith;
    none = λ k low high. absurd (omega arith);
    covered = λ all covers rest.
        far.covered all (λ bit marked. covers bit (word.before bit marked))
        (All-same (IsWordMarked all) _ _ (words_at value start end far.ordered within far.none white)
        (All-cons (IsWordMarked all) (slice_range value start end) _ (covers _ word.there) rest));
  }

  pub MarkedSoFar-end : length value ≤ end → end ≤ length value → MarksWord marks next (slice_range value start (length value)) → All (IsWordMarked next) (words value)
  MarkedSoFar-end last within word =
      let none : NoWhite value start (length value) = λ k low high. far.none k low (omega arith) in
      let ordered : start ≤ length value = omega (arith, far.ordered) in
      let there : IsWordMarked next (drop start value) = ap (λ (w : List ℕ). is_marked next (mark_of (HasClass w))) (sym (take_rest value start)) ∙ word.there in
      far.covered next word.before
      (All-same (IsWordMarked next) _ _ (words_none value start ordered none) (All-cons (IsWordMarked next) (drop start value) [] there (All-nil (IsWordMarked next))))

pub MarkedSoFar-more : (value : List ℕ) (marks : Marks) (start end : ℕ) → MarkedSoFar value marks start end → is_white (get_or value end 0) ≡ false → MarkedSoFar value marks start (end + 1)
MarkedSoFar-more value marks start end far black = record { ordered = omega (arith, far.ordered); none = none_more value start end far.none black; covered = far.covered }

-- 3. Bits that are missing

missing_bit : (needs marks : ℕ) → marks < 2 ^ 64 → bit_and needs (bit_not w64 marks) ≢ 0 → bit_and needs (bit_not w64 marks) < 2 ^ 64
    → (bit : ℕ) × (eqb (bit_at needs bit) 1 ≡ true) × (eqb (bit_at marks bit) 1 ≡ false)
missing_bit needs marks fits some small =
    let lost = bit_and needs (bit_not w64 marks) in
    let found = bit_at-trailing_zeros w64 lost (omega arith) small in
    let bit = trailing_zeros w64 lost in
    let both : min (bit_at needs bit) (1 - bit_at marks bit) ≡ 1 = ap (min (bit_at needs bit)) (sym (bit_at_not w64 marks bit fits found.0)) ∙ sym (bit_at_and needs (bit_not w64 marks) bit) ∙ found.1 in
    let needed : bit_at needs bit ≡ 1 = omega (arith, bit_at-lt needs bit, bit_at-lt marks bit, both) in
    (bit, eq-eqb _ 1 needed, ne_eqb _ 1 (λ marked. absurd (omega (arith, both, marked))))

none_missing : (needs marks : ℕ) → needs < 2 ^ 64 → marks < 2 ^ 64 → bit_and needs (bit_not w64 marks) ≡ 0 → (bit : ℕ) → eqb (bit_at needs bit) 1 ≡ true → eqb (bit_at marks bit) 1 ≡ true
none_missing needs marks fits_needs fits none bit needed =
    let one : bit_at needs bit ≡ 1 = eqb-true _ 1 needed in
    let below : bit < 64 = ⊎_elim (λ low. low) (λ high. absurd (let zero_there = bit_at_above needs 64 bit fits_needs high in omega arith)) (cases_lt bit 64) in
    let zero_there : min (bit_at needs bit) (1 - bit_at marks bit) ≡ 0 =
    ap (min (bit_at needs bit)) (sym (bit_at_not w64 marks bit fits below)) ∙ sym (bit_at_and needs (bit_not w64 marks) bit) ∙ ap (λ (n : ℕ). bit_at n bit) none ∙ bit_at-zero bit in
    eq-eqb _ 1 (omega (arith, bit_at-lt marks bit, one, zero_there))

on_true : (b : Bool) (P : Type 0) → (b ≡ true → P) → OnTrue b P
on_true true P holds = holds refl
on_true false P holds = tt

on_false : (b : Bool) (P : Type 0) → (b ≡ false → P) → OnFalse b P
on_false true P holds = tt
on_false false P holds = holds refl

module _ (marks needs : Marks) (fits : marks.bits < 2 ^ 64) (fits_needs : needs.bits < 2 ^ 64) (small : bit_and needs.bits (bit_not w64 marks.bits) < 2 ^ 64) where
  pub lack-missing : OnTrue (not (eqb (bit_and needs.bits (bit_not w64 marks.bits)) 0)) ((bit : ℕ) × (is_marked needs bit ≡ true) × (is_marked marks bit ≡ false))
  lack-missing =
      let lost = bit_and needs.bits (bit_not w64 marks.bits) in
      on_true (not (eqb lost 0)) _ (λ some. missing_bit needs.bits marks.bits fits (λ none. eqb-false lost 0 (not-true _ some) none) small)

  pub lack-none : OnFalse (not (eqb (bit_and needs.bits (bit_not w64 marks.bits)) 0)) (KeepsMarks needs marks)
  lack-none =
      let lost = bit_and needs.bits (bit_not w64 marks.bits) in
      on_false (not (eqb lost 0)) _ (λ none. none_missing needs.bits marks.bits fits_needs fits (eqb-true lost 0 (not-false _ none)))
