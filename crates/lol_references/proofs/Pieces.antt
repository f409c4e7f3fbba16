-- Decoding goes piece by piece.
use Rattle.std.proofs.Common.{◌≡◌, ℕ, zero, suc, ◌<◌, Bool, true, false, List, [], ◌∷◌, ◌++◌, length, get_or, take, drop, refl, sym, ◌∙◌, ap, append_assoc, Option, Some, None, Result, Ok, Err, arith}
use Rattle.std.specs.Prelude.{◌==◌, is_ok, OnOk, if◌then◌else◌, ◌≢◌, All}
use Rattle.std.proofs.lemmas.Bool.{eqb-true}
use Rattle.std.proofs.Math.Seq.{drop-cons, drop-length, take-length}
use Rattle.std.proofs.lemmas.List.{append-nil}
use Rattle.std.specs.Option.{is_some}
use Rattle.std.specs.List.{list_any}
use Rattle.std.proofs.Math.Bool.{or-true}
use Rattle.memchr.specs.Find.{Nowhere, Passes, IsFirstByte, is_byte}
use Rattle.lol_references.specs.Decoding.{decoded, decoded_behind, piece, ampersand}

not_true : (x : Bool) → ¬ (x ≡ true) → x ≡ false
not_true true h = absurd (h refl)
not_true false h = refl

-- a byte that isn't an ampersand stands for itself
plain : (b : ℕ) (bytes : List ℕ) → (b == 38) ≡ false → decoded (b ∷ bytes) ≡ b ∷ decoded bytes
unfolding piece
plain b bytes h = rw h refl

pub others_stay : (before later : List ℕ) → All (λ b. b ≢ 38) before → decoded (before ++ later) ≡ before ++ decoded later
others_stay [] later h = refl
others_stay (b ∷ before) later h =
    let other : (b == 38) ≡ false = not_true (b == 38) (λ e. h 0 0 (omega arith) (eqb-true b 38 e)) in
    plain b (before ++ later) other
    ∙ ap (λ (x : List ℕ). b ∷ x) (others_stay before later (λ k d short. h (suc k) d (omega arith)))

behind : (taken : ℕ) (bytes : List ℕ) → decoded_behind taken bytes ≡ decoded (drop taken bytes)
behind zero [] = refl
behind zero (b ∷ bytes) = refl
behind (suc taken) [] = refl
behind (suc taken) (b ∷ bytes) = behind taken bytes

-- an ampersand stands for what the bytes behind it make of it
at_ampersand : (bytes : List ℕ) → decoded (38 ∷ bytes) ≡ (ampersand bytes).characters ++ decoded (drop (ampersand bytes).taken bytes)
unfolding piece
at_ampersand bytes = ap (λ (later : List ℕ). (ampersand bytes).characters ++ later) (behind (ampersand bytes).taken bytes)

pub without_ampersand : (bytes : List ℕ) (n : ℕ) → Nowhere (Passes (is_byte 38) bytes) 0 n → decoded bytes ≡ take n bytes ++ decoded (drop n bytes)
without_ampersand [] zero h = refl
without_ampersand [] (suc n) h = refl
without_ampersand (b ∷ bytes) zero h = refl
without_ampersand (b ∷ bytes) (suc n) h =
    plain b bytes (not_true (b == 38) (h 0 (omega arith) (omega arith)))
    ∙ ap (λ (later : List ℕ). b ∷ later) (without_ampersand bytes n (λ k low high. h (suc k) (omega arith) (omega arith)))

-- up to an ampersand, and what it stands for
pub to_ampersand : (bytes : List ℕ) (place : ℕ) → Nowhere (Passes (is_byte 38) bytes) 0 place → place < length bytes → get_or bytes place 0 ≡ 38
    → let later = drop (suc place) bytes in
    decoded bytes ≡ take place bytes ++ ((ampersand later).characters ++ decoded (drop (ampersand later).taken later))
to_ampersand bytes place none short is =
    without_ampersand bytes place none
    ∙ ap (λ (later : List ℕ). take place bytes ++ decoded later) (drop-cons bytes place 0 short ∙ ap (λ b. b ∷ drop (suc place) bytes) is)
    ∙ ap (λ (later : List ℕ). take place bytes ++ later) (at_ampersand (drop (suc place) bytes))

pub without_any : (bytes : List ℕ) → IsFirstByte (is_byte 38) bytes None → decoded bytes ≡ bytes
without_any bytes none =
    without_ampersand bytes (length bytes) none
    ∙ ap (λ (later : List ℕ). take (length bytes) bytes ++ decoded later) (drop-length bytes)
    ∙ append-nil (take (length bytes) bytes)
    ∙ take-length bytes

pub unless_some : (bytes : List ℕ) (o : Option ℕ) → IsFirstByte (is_byte 38) bytes o → is_some o ≡ false → decoded bytes ≡ bytes
unless_some bytes None none h = without_any bytes none
unless_some bytes (Some place) first h = cc

none_of : (bytes : List ℕ) → Nowhere (Passes (is_byte 38) bytes) 0 (length bytes) → list_any (λ b. b == 38) bytes ≡ false
none_of [] none = refl
none_of (b ∷ bytes) none =
    rw (not_true (b == 38) (none 0 (omega arith) (omega arith))) (none_of bytes (λ k low high. none (suc k) (omega arith) (omega arith)))

one_of : (bytes : List ℕ) (place : ℕ) → place < length bytes → (get_or bytes place 0 == 38) ≡ true → list_any (λ b. b == 38) bytes ≡ true
one_of [] place short is = absurd (omega arith)
one_of (b ∷ bytes) zero short is = rw is refl
one_of (b ∷ bytes) (suc place) short is = rw (one_of bytes place (omega arith) is) (or-true (b == 38))

-- an ampersand was found, if there is one
pub any_found : (bytes : List ℕ) (o : Option ℕ) → IsFirstByte (is_byte 38) bytes o → is_some o ≡ list_any (λ b. b == 38) bytes
any_found bytes None none = sym (none_of bytes none)
any_found bytes (Some place) first = sym (one_of bytes place first.0.high first.1)

-- what stands up to an ampersand, and what that one stands for, are added
pub part_added : (before between after rest behind left : List ℕ) (place taken : ℕ) → IsFirstByte (is_byte 38) rest (Some place)
    → between ≡ before ++ take place rest → after ≡ between ++ (ampersand behind).characters
    → behind ≡ drop (suc place) rest → taken ≡ (ampersand behind).taken → left ≡ drop taken behind
    → after ++ decoded left ≡ before ++ decoded rest
part_added before between after rest behind left place taken first is_between is_after is_behind is_taken is_left =
    let text = take place rest in
    let characters = (ampersand behind).characters in
    ap (λ (x : List ℕ). x ++ decoded left) (is_after ∙ ap (λ (x : List ℕ). x ++ characters) is_between)
    ∙ append_assoc (before ++ text) characters (decoded left)
    ∙ append_assoc before text (characters ++ decoded left)
    ∙ ap (λ (x : List ℕ). before ++ (text ++ (characters ++ decoded x))) (is_left ∙ ap (λ n. drop n behind) is_taken)
    ∙ ap (λ (x : List ℕ). before ++ (text ++ ((ampersand x).characters ++ decoded (drop (ampersand x).taken x)))) is_behind
    ∙ ap (λ (x : List ℕ). before ++ x) (sym (to_ampersand rest place first.0.before first.0.high (eqb-true (get_or rest place 0) 38 first.1)))

-- all that is left is added
pub rest_added : {E : Type 0} (r : Result (Unit {0}) E) (before after rest all : List ℕ) → IsFirstByte (is_byte 38) rest None
    → after ≡ (if is_ok r then before ++ rest else before) → before ++ decoded rest ≡ all → OnOk r (after ≡ all)
rest_added (Ok x) before after rest all none added told = added ∙ ap (λ (x : List ℕ). before ++ x) (sym (without_any rest none)) ∙ told
rest_added (Err e) before after rest all none added told = tt
