-- A code belongs to one name.
use Rattle.std.proofs.Common.{◌≡◌, ◌≢◌, ℕ, ◌+◌, ◌-◌, ◌*◌, ◌%◌, ◌<◌, ◌^◌, List, [], ◌∷◌, ◌++◌, refl, sym, ◌∙◌, ap, arith}
use Rattle.std.specs.Prelude.{Bool, true, false, ◌&&◌, nat_lt, if◌then◌else◌, fold, map}
use Rattle.std.specs.Char.{to_ascii_lowercase}
use Rattle.std.proofs.lemmas.List.{append-nil}
use Rattle.std.proofs.lemmas.Bool.{ltb-true}
use Rattle.std.proofs.lemmas.Bool.Decides.{nat_tests}
use Rattle.lol_base.specs.Names.{lowercased}
use Rattle.lol_tags.specs.States.{is_letter}
use Rattle.lol_tags.specs.Reading.{with_byte, name_code}

-- 1. One byte

letter-some : (b : ℕ) → is_letter b ≡ true → 0 < b % 32
letter-some b h = grind (arith, nat_tests)

letter-alike : (a b : ℕ) → is_letter a ≡ true → is_letter b ≡ true → a % 32 ≡ b % 32 → to_ascii_lowercase a ≡ to_ascii_lowercase b
letter-alike a b h k e = grind (arith, nat_tests)

-- 2. Names by their last byte first

code : List ℕ → ℕ
code [] = 0
code (b ∷ name) = with_byte (code name) b

IsOne : ℕ → Type 0
IsOne c = c ≢ 2 ^ 64 - 1

spelled-code : (c b : ℕ) (few letter : Bool) → nat_lt c (2 ^ 55) ≡ few → is_letter b ≡ letter → IsOne (if few && letter then c * 32 + b % 32 else 2 ^ 64 - 1)
    → ((if few && letter then c * 32 + b % 32 else 2 ^ 64 - 1) ≡ c * 32 + b % 32) × (c < 2 ^ 55) × (is_letter b ≡ true)
unfolding IsOne
spelled-code c b true true f l h = (refl, ltb-true c (2 ^ 55) f, l)
spelled-code c b true false f l h = absurd (h refl)
spelled-code c b false letter f l h = absurd (h refl)

more-code : (c b : ℕ) → IsOne (with_byte c b) → (with_byte c b ≡ c * 32 + b % 32) × (c < 2 ^ 55) × (is_letter b ≡ true)
unfolding IsOne
more-code c b h = spelled-code c b (nat_lt c (2 ^ 55)) (is_letter b) refl refl h

codes-alike : (a b : List ℕ) → code a ≡ code b → IsOne (code a) → map to_ascii_lowercase a ≡ map to_ascii_lowercase b
unfolding code IsOne
codes-alike [] [] e h = refl
codes-alike [] (y ∷ b) e h =
    let last = more-code (code b) y (λ is. h (e ∙ is)) in
    absurd (omega (arith, last.0, e, letter-some y last.2))
codes-alike (x ∷ a) [] e h =
    let last = more-code (code a) x h in
    absurd (omega (arith, last.0, e, letter-some x last.2))
codes-alike (x ∷ a) (y ∷ b) e h =
    let one = more-code (code a) x h in
    let other = more-code (code b) y (λ is. h (e ∙ is)) in
    let both : code a * 32 + x % 32 ≡ code b * 32 + y % 32 = sym one.0 ∙ e ∙ other.0 in
    let front : code a ≡ code b = omega (arith, both) in
    let last : x % 32 ≡ y % 32 = omega (arith, both, front) in
    let few = one.1 in
    let others = codes-alike a b front (λ is. absurd (omega (arith, few, is))) in
    ap (λ c. c ∷ map to_ascii_lowercase a) (letter-alike x y one.2 other.2 last) ∙ ap (λ cs. to_ascii_lowercase y ∷ cs) others

onto : List ℕ → List ℕ → List ℕ
onto [] others = others
onto (x ∷ name) others = onto name (x ∷ others)

code-onto : (name others : List ℕ) → fold with_byte (code others) name ≡ code (onto name others)
unfolding code onto
code-onto [] others = refl
code-onto (x ∷ name) others = code-onto name (x ∷ others)

map-onto : (f : ℕ → ℕ) (name others : List ℕ) → map f (onto name others) ≡ onto (map f name) (map f others)
unfolding onto
map-onto f [] others = refl
map-onto f (x ∷ name) others = map-onto f name (x ∷ others)

onto-onto : (name others last : List ℕ) → onto (onto name others) last ≡ onto others (name ++ last)
unfolding onto
onto-onto [] others last = refl
onto-onto (x ∷ name) others last = onto-onto name (x ∷ others) last

onto-twice : (name : List ℕ) → onto (onto name []) [] ≡ name
unfolding onto
onto-twice name = onto-onto name [] [] ∙ append-nil name

pub one-name : (a b : List ℕ) → name_code a ≡ name_code b → name_code a ≢ 2 ^ 64 - 1 → lowercased a ≡ lowercased b
unfolding code IsOne onto
one-name a b e h =
    let f = to_ascii_lowercase in
    let same : map f (onto a []) ≡ map f (onto b []) =
    codes-alike (onto a []) (onto b []) (sym (code-onto a []) ∙ e ∙ code-onto b []) (λ last. h (code-onto a [] ∙ last)) in
    sym (onto-twice (map f a)) ∙ ap (λ x. onto x []) (sym (map-onto f a []) ∙ same ∙ map-onto f b []) ∙ onto-twice (map f b)
