-- All numbers behind the last code point stand for one character.
use Rattle.std.proofs.Common.{◌≡◌, ℕ, ◌<◌, Bool, true, false, min, refl, ap, ◌∙◌, sym, inl, inr, arith}
use Rattle.std.specs.Prelude.{◌||◌, if◌then◌else◌}
use Rattle.std.proofs.lemmas.Bool.{cases_lt, lt-ltb}
use Rattle.lol_references.specs.Numbers.{character}

one_is_true : (a c : Bool) (x y : ℕ) → (if a || true || c then x else y) ≡ x
one_is_true true c x y = refl
one_is_true false c x y = refl

beyond : (n : ℕ) → 0x10FFFF < n → character n ≡ 0xFFFD
unfolding character
beyond n h = rw (lt-ltb 0x10FFFF n h) (one_is_true _ _ _ _)

pub character_of_capped : (n : ℕ) → character (min 0x110000 n) ≡ character n
character_of_capped n =
    elim (cases_lt n 0x110000) as (λ _. character (min 0x110000 n) ≡ character n) [
      | inl below ↦ let same : min 0x110000 n ≡ n = omega arith in ap (λ m. character m) same
      | inr above ↦
          let same : min 0x110000 n ≡ 0x110000 = omega arith in
          ap (λ m. character m) same ∙ beyond 0x110000 (omega arith) ∙ sym (beyond n (omega arith))
    ]
