-- Whole steps: `step * n` for whole n at least 0.
use Rattle.std.proofs.Common.{◌≡◌, ◌≢◌, ℕ, zero, suc, ◌*◌, ◌/◌, ◌%◌, ◌<◌, true, false, not, ◌⊎◌, inl, inr, ◌↔◌, IsTrue, nat_eq, refl, sym, ap, ◌∙◌, arith, ℤ, pos, negsuc, neg_ℤ, ◌+ℤ◌, ◌-ℤ◌, ◌*ℤ◌, Bool, eqb}
use Rattle.std.proofs.Math.Nat.{mul-mod_right}
use Rattle.std.proofs.Math.IntN.{nat_abs, negsuc-*ℤ-pos, pos-*ℤ-negsuc, negsuc-*ℤ-negsuc, neg_ℤ-neg_ℤ, +ℤ-neg_ℤ_cancel, -ℤ-+ℤ_cancel, zero-*ℤ, *ℤ-zero}
use Rattle.std.proofs.lemmas.Int.{ints, to_z-of_z}
use Rattle.std.proofs.Common.{w64, of_z, to_z, SFits}
use Rattle.std.specs.Int.Signed.{lt_z}
use Rattle.std.proofs.Math.Bool.{beq}
use Rattle.std.proofs.lemmas.Bool.{eqb-true, eq-eqb}
use Rattle.std.specs.Cmp.Derive.{one_truth}
use Rattle.lol_base.specs.Progression.{Progression, Has, SameSign, LiesOn, IsWhole, is_whole, has_index}

pos_same : (a b : ℕ) → pos a ≡ pos b → a ≡ b
pos_same a b e = cc

-- ---- to and from an offset

pub has-from_whole : (p : Progression) (index : ℤ) → IsWhole p.step (index -ℤ p.offset) → Has p index
has-from_whole p index w = (w.0, sym (-ℤ-+ℤ_cancel index p.offset) ∙ ap (λ (z : ℤ). z +ℤ p.offset) w.1)

pub whole-from_has : (p : Progression) (index : ℤ) → Has p index → IsWhole p.step (index -ℤ p.offset)
whole-from_has p index w = (w.0, ap (λ (z : ℤ). z -ℤ p.offset) w.1 ∙ +ℤ-neg_ℤ_cancel (p.step *ℤ pos w.0) p.offset)

-- ---- which distances are whole steps

zero_steps : (step : ℤ) → step *ℤ pos 0 ≡ pos 0
zero_steps step = *ℤ-zero step

pub whole-zero : (step distance : ℤ) → distance ≡ pos 0 → IsWhole step distance
whole-zero step distance e = (0, e ∙ sym (zero_steps step))

pub whole-still : (step distance : ℤ) → step ≡ pos 0 → distance ≢ pos 0 → IsWhole step distance → ⊥
whole-still step distance e h w = h (w.1 ∙ ap (λ (s : ℤ). s *ℤ pos w.0) e ∙ zero-*ℤ (pos w.0))

-- what is left of a negative product
down_same : (b n : ℕ) (distance : ℤ) → distance ≡ negsuc b *ℤ pos n → neg_ℤ distance ≡ pos (suc b * n)
down_same b n distance e = ap neg_ℤ (e ∙ negsuc-*ℤ-pos b n) ∙ neg_ℤ-neg_ℤ (pos (suc b * n))

-- a distance that isn't 0 has the sign of the step
pub whole-sign : (step distance : ℤ) → distance ≢ pos 0 → IsWhole step distance → SameSign step distance
whole-sign (pos zero) distance h w = absurd (whole-still (pos zero) distance refl h w)
whole-sign (pos (suc b)) (pos zero) h w = absurd (h refl)
whole-sign (pos (suc b)) (pos (suc a)) h w = inl (omega (arith, ints), omega (arith, ints))
whole-sign (pos (suc b)) (negsuc a) h w = absurd (let e : negsuc a ≡ pos (suc b * w.0) = w.1 in cc)
whole-sign (negsuc b) (pos zero) h w = absurd (h refl)
whole-sign (negsuc b) (pos (suc a)) h w = absurd (let e : negsuc a ≡ pos (suc b * w.0) = down_same b w.0 (pos (suc a)) w.1 in cc)
whole-sign (negsuc b) (negsuc a) h w = inr (omega (arith, ints), omega (arith, ints))

not_across : (b a : ℕ) → SameSign (pos b) (negsuc a) → ⊥
not_across b a (inl p) = omega (arith, ints, p.1)
not_across b a (inr p) = omega (arith, ints, p.0)

not_back : (b a : ℕ) → SameSign (negsuc b) (pos a) → ⊥
not_back b a (inl p) = omega (arith, ints, p.0)
not_back b a (inr p) = omega (arith, ints, p.1)

above : (b a : ℕ) → SameSign (pos b) (pos a) → 0 < b
above b a (inl p) = omega (arith, ints, p.0)
above b a (inr p) = absurd (omega (arith, ints, p.0))

-- where the signs agree, the remainder tells
pub whole-by_remainder : (step distance : ℤ) → SameSign step distance → nat_abs distance % nat_abs step ≡ 0 → IsWhole step distance
whole-by_remainder (pos b) (pos a) s e = let l : 0 < b = above b a s in (a / b, ap (λ (n : ℕ). pos n) (omega arith))
whole-by_remainder (pos b) (negsuc a) s e = absurd (not_across b a s)
whole-by_remainder (negsuc b) (pos a) s e = absurd (not_back b a s)
whole-by_remainder (negsuc b) (negsuc a) s e =
    let f : suc a ≡ suc b * (suc a / suc b) = omega (arith, e) in
    (suc a / suc b, ap (λ (n : ℕ). neg_ℤ (pos n)) f ∙ sym (negsuc-*ℤ-pos b (suc a / suc b)))

pub remainder-of_whole : (step distance : ℤ) → SameSign step distance → IsWhole step distance → nat_abs distance % nat_abs step ≡ 0
remainder-of_whole (pos b) (pos a) s w = let e : a ≡ b * w.0 = pos_same a (b * w.0) w.1 in rw e (mul-mod_right b w.0)
remainder-of_whole (pos b) (negsuc a) s w = absurd (not_across b a s)
remainder-of_whole (negsuc b) (pos a) s w = absurd (not_back b a s)
remainder-of_whole (negsuc b) (negsuc a) s w =
    let e : suc a ≡ suc b * w.0 = pos_same (suc a) (suc b * w.0) (down_same b w.0 (negsuc a) w.1) in
    rw e (mul-mod_right (suc b) w.0)

-- ---- the code's test

pos_above : (b : ℕ) → lt_z (pos 0) (pos (suc b)) ≡ true
pos_above b = grind (arith, ints)

-- the signs that the test finds equal
same_sign : (step distance : ℤ) → step ≢ pos 0 → distance ≢ pos 0 → not (beq (lt_z (pos 0) distance) (lt_z (pos 0) step)) ≡ false → SameSign step distance
same_sign (pos zero) distance s d h = absurd (s refl)
same_sign (pos (suc b)) (pos zero) s d h = absurd (d refl)
same_sign (pos (suc b)) (pos (suc a)) s d h = inl (omega (arith, ints), omega (arith, ints))
same_sign (pos (suc b)) (negsuc a) s d h = let k = rw (pos_above b) at h in absurd cc
same_sign (negsuc b) (pos zero) s d h = absurd (d refl)
same_sign (negsuc b) (pos (suc a)) s d h = let k = rw (pos_above a) at h in absurd cc
same_sign (negsuc b) (negsuc a) s d h = inr (omega (arith, ints), omega (arith, ints))

pub whole-test : (step distance : ℤ) → SFits w64 step → SFits w64 distance → (x y : ℕ) → x ≡ nat_abs (to_z w64 (of_z w64 distance)) → y ≡ nat_abs (to_z w64 (of_z w64 step)) → (of_z w64 step ≡ 0 → ⊥) → (of_z w64 distance ≡ 0 → ⊥) → not (beq (lt_z (pos 0) (to_z w64 (of_z w64 distance))) (lt_z (pos 0) (to_z w64 (of_z w64 step)))) ≡ false → IsTrue (nat_eq (x % y) 0) ↔ IsWhole step distance
whole-test step distance f g x y a b s d h =
    let es : to_z w64 (of_z w64 step) ≡ step = to_z-of_z w64 step f in
    let ed : to_z w64 (of_z w64 distance) ≡ distance = to_z-of_z w64 distance g in
    let ns : step ≢ pos 0 = λ e. s (ap (λ (z : ℤ). of_z w64 z) e) in
    let nd : distance ≢ pos 0 = λ e. d (ap (λ (z : ℤ). of_z w64 z) e) in
    let sign = same_sign step distance ns nd (rw (es, ed) at h) in
    let m : x % y ≡ nat_abs distance % nat_abs step = rw (a, b, es, ed) refl in
    rw m (λ t. whole-by_remainder step distance sign (eqb-true (nat_abs distance % nat_abs step) 0 t), λ w. eq-eqb (nat_abs distance % nat_abs step) 0 (remainder-of_whole step distance sign w))

-- ---- the test that computes

zero_test : (step : ℤ) (d : ℕ) → (IsWhole step (pos d) → d ≡ 0) → IsTrue (eqb d 0) ↔ IsWhole step (pos d)
zero_test step d h = (λ t. whole-zero step (pos d) (ap (λ (n : ℕ). pos n) (eqb-true d 0 t)), λ w. eq-eqb d 0 (h w))

still_zero : (d : ℕ) → IsWhole (pos zero) (pos d) → d ≡ 0
still_zero d w = pos_same d 0 (w.1 ∙ zero-*ℤ (pos w.0))

down_zero : (b d : ℕ) → IsWhole (negsuc b) (pos d) → d ≡ 0
down_zero b zero w = refl
down_zero b (suc a) w = absurd (not_back b (suc a) (whole-sign (negsuc b) (pos (suc a)) (λ e. absurd (omega (arith, pos_same (suc a) 0 e))) w))

up_test : (b a : ℕ) → IsTrue (eqb (a % suc b) 0) ↔ IsWhole (pos (suc b)) (pos a)
up_test b a = (
  λ t. let e = eqb-true (a % suc b) 0 t in (a / suc b, ap (λ (n : ℕ). pos n) (omega arith)),
  λ w. eq-eqb (a % suc b) 0 (let e : a ≡ suc b * w.0 = pos_same a (suc b * w.0) w.1 in rw e (mul-mod_right (suc b) w.0)),
)

down_test : (b a : ℕ) → IsTrue (eqb (suc a % suc b) 0) ↔ IsWhole (negsuc b) (negsuc a)
down_test b a =
    let sign : SameSign (negsuc b) (negsuc a) = inr (omega (arith, ints), omega (arith, ints)) in
    (λ t. whole-by_remainder (negsuc b) (negsuc a) sign (eqb-true (suc a % suc b) 0 t), λ w. eq-eqb (suc a % suc b) 0 (remainder-of_whole (negsuc b) (negsuc a) sign w))

across_test : (b a : ℕ) → IsTrue false ↔ IsWhole (pos b) (negsuc a)
across_test b a = (λ t. absurd cc, λ w. absurd (not_across b a (whole-sign (pos b) (negsuc a) (λ e. absurd cc) w)))

whole_test : (step distance : ℤ) → IsTrue (is_whole step distance) ↔ IsWhole step distance
whole_test (pos zero) (pos d) = zero_test (pos zero) d (still_zero d)
whole_test (pos zero) (negsuc d) = across_test zero d
whole_test (pos (suc b)) (pos d) = up_test b d
whole_test (pos (suc b)) (negsuc d) = across_test (suc b) d
whole_test (negsuc b) (pos d) = zero_test (negsuc b) d (down_zero b d)
whole_test (negsuc b) (negsuc d) = down_test b d

pub has_index-decides : (p : Progression) (index : ℤ) → IsTrue (has_index p index) ↔ Has p index
has_index-decides p index =
    let whole = whole_test p.step (index -ℤ p.offset) in
    (λ t. has-from_whole p index (whole.0 t), λ h. whole.1 (whole-from_has p index h))

-- what decides it is the test
pub has_index-same : (p : Progression) (index : ℤ) (b : Bool) → IsTrue b ↔ Has p index → b ≡ has_index p index
has_index-same p index b h =
    let test = has_index-decides p index in
    one_truth b (has_index p index) (λ t. test.1 (h.0 t)) (λ t. h.1 (test.0 t))

-- ---- the law

zero_or_not : (z : ℤ) → (z ≡ pos 0) ⊎ (z ≢ pos 0)
zero_or_not (pos zero) = inl refl
zero_or_not (pos (suc n)) = inr (λ e. absurd (omega (arith, pos_same (suc n) 0 e)))
zero_or_not (negsuc n) = inr (λ e. absurd cc)

at_offset : (p : Progression) (index : ℤ) → index -ℤ p.offset ≡ pos 0 → index ≡ p.offset
at_offset p index e = omega (arith, ints, e)

on_of : (p : Progression) (index : ℤ) → (index -ℤ p.offset ≡ pos 0) ⊎ (index -ℤ p.offset ≢ pos 0) → IsWhole p.step (index -ℤ p.offset) → LiesOn p index
on_of p index (inl e) w = inl (at_offset p index e)
on_of p index (inr d) w = inr ((λ e. whole-still p.step (index -ℤ p.offset) e d w), (pos w.0, w.1), whole-sign p.step (index -ℤ p.offset) d w)

-- a negative multiple has the other sign
up_backwards : (b : ℕ) (distance : ℤ) (m : ℕ) → SameSign (pos b) distance → distance ≡ neg_ℤ (pos (b * suc m)) → ⊥
up_backwards b distance m (inl p) e = omega (arith, ints, p.1, e)
up_backwards b distance m (inr p) e = omega (arith, ints, p.0)

down_backwards : (b : ℕ) (distance : ℤ) (m : ℕ) → SameSign (negsuc b) distance → distance ≡ pos (suc b * suc m) → ⊥
down_backwards b distance m (inl p) e = omega (arith, ints, p.0)
down_backwards b distance m (inr p) e = omega (arith, ints, p.1, e)

whole_of : (step distance k : ℤ) → SameSign step distance → distance ≡ step *ℤ k → IsWhole step distance
whole_of step distance (pos n) s e = (n, e)
whole_of (pos b) distance (negsuc m) s e = absurd (up_backwards b distance m s (e ∙ pos-*ℤ-negsuc b m))
whole_of (negsuc b) distance (negsuc m) s e = absurd (down_backwards b distance m s (e ∙ negsuc-*ℤ-negsuc b m))

pub on-from_has : (p : Progression) (index : ℤ) → Has p index → LiesOn p index
on-from_has p index h = on_of p index (zero_or_not (index -ℤ p.offset)) (whole-from_has p index h)

has_of : (p : Progression) (index : ℤ) → LiesOn p index → Has p index
has_of p index (inl e) = has-from_whole p index (whole-zero p.step (index -ℤ p.offset) (omega (arith, ints, e)))
has_of p index (inr l) = has-from_whole p index (whole_of p.step (index -ℤ p.offset) l.1.0 l.2 l.1.1)

pub has-is_on : (p : Progression) (index : ℤ) → Has p index ↔ LiesOn p index
has-is_on p index = (on-from_has p index, has_of p index)
