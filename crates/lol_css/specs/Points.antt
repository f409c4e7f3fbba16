-- Texts as lists of code points: preprocessing, escapes, and what a place starts (CSS Syntax 3, sections 3.3 and 4.3).
use Rattle.std.specs.Prelude.{ℕ, zero, suc, ◌+◌, ◌-◌, ◌*◌, Bool, false, not, ◌&&◌, ◌||◌, ◌==◌, nat_le, if◌then◌else◌, List, [], ◌∷◌, ◌++◌, map, length, drop, Option, Some, None}
use Rattle.std.specs.Char.{digit_value, is_digit}
use Rattle.std.specs.Str.{all_scalars, byte}
use Rattle.lol_base.specs.CodePoints.{tab, line_feed, form_feed, carriage_return}

-- ---- lists

abbrev pub is : ℕ → ℕ → Bool
is c d = d == c

-- what stands at the front passes; at the end nothing does
abbrev pub first_passes : {A : Type 0} → (A → Bool) → List A → Bool
first_passes p [] = false
first_passes p (x ∷ xs) = p x

-- one more place on, where what stands there passes
abbrev pub past : {A : Type 0} → (A → Bool) → List A → List A
past p [] = []
past p (x ∷ xs) = if p x then xs else x ∷ xs

-- what was taken once, and then again and again, with what is left
abbrev pub took : {A B : Type 0} → Option (A × List B) → (List B → List A × List B) → List B → List A × List B
took None again text = ([], text)
took (Some taken) again text = let others = again taken.1 in (taken.0 ∷ others.0, others.1)

-- at most n times what a step takes from the front, and what is left
unfoldable pub at_most : {A B : Type 0} → ℕ → (List B → Option (A × List B)) → List B → List A × List B
at_most zero step text = ([], text)
at_most (suc n) step text = took (step text) (at_most n step) text

-- as often as the step takes something from the front (each time one place at least), and what is left
abbrev pub many : {A B : Type 0} → (List B → Option (A × List B)) → List B → List A × List B
many step text = at_most (length text) step text

-- one that passes
abbrev pub first_that : {B : Type 0} → (B → Bool) → List B → Option (B × List B)
first_that p [] = None
first_that p (x ∷ xs) = if p x then Some (x, xs) else None

-- the first of two that is there
infixr 4 ◌or◌
abbrev pub ◌or◌ : {A : Type 0} → Option A → Option A → Option A
None or other = other
(Some x) or other = Some x

-- ---- code points (section 4.2)

abbrev pub is_newline : ℕ → Bool
is_newline c = c == line_feed

abbrev pub is_white_space : ℕ → Bool
is_white_space c = c == byte " " || c == tab || c == line_feed

abbrev pub is_decimal : ℕ → Bool
is_decimal c = nat_le (byte "0") c && nat_le c (byte "9")

abbrev pub is_letter : ℕ → Bool
is_letter c = (nat_le (byte "A") c && nat_le c (byte "Z")) || (nat_le (byte "a") c && nat_le c (byte "z"))

-- a letter, `_`, or not ASCII
abbrev pub is_name_start : ℕ → Bool
is_name_start c = is_letter c || c == byte "_" || nat_le 128 c

abbrev pub is_in_name : ℕ → Bool
is_in_name c = is_name_start c || is_decimal c || c == byte "-"

-- `+` or `-`
abbrev pub is_sign : ℕ → Bool
is_sign c = c == byte "+" || c == byte "-"

-- ---- preprocessing (section 3.3)

-- CR and form feed become LF, NUL becomes U+FFFD
abbrev pub clean_point : ℕ → ℕ
clean_point c = if c == carriage_return || c == form_feed then line_feed else (if c == 0 then 0xFFFD else c)

-- what a code point becomes after another: an LF after CR is none of its own
abbrev pub clean_points_after : ℕ → ℕ → List ℕ
clean_points_after before c = if before == carriage_return && c == line_feed then [] else clean_point c ∷ []

unfoldable pub preprocessed_after : ℕ → List ℕ → List ℕ
preprocessed_after before [] = []
preprocessed_after before (c ∷ cs) = clean_points_after before c ++ preprocessed_after c cs

abbrev pub preprocessed : List ℕ → List ℕ
preprocessed text = preprocessed_after 0 text

-- ---- escapes (sections 4.3.7 and 4.3.8)

-- the number that the digits write in this base, after a number
abbrev pub number_after : ℕ → ℕ → List ℕ → ℕ
number_after base n [] = n
number_after base n (d ∷ ds) = number_after base (n * base + d) ds

-- the number that decimal digits write
abbrev pub decimal : List ℕ → ℕ
decimal digits = number_after 10 0 (map (λ c. c - byte "0") digits)

-- a digit in this base, as its value
abbrev pub digit : ℕ → List ℕ → Option (ℕ × List ℕ)
digit base [] = None
digit base (c ∷ cs) = if is_digit c base then Some (digit_value c, cs) else None

-- the code point of a number: U+FFFD for 0, a surrogate, or what is too large
abbrev pub code_point : ℕ → ℕ
code_point n = if n == 0 || not (all_scalars (n ∷ [])) then 0xFFFD else n

-- the number that at most six digits write
unfoldable pub hexadecimal : List ℕ → ℕ × List ℕ
hexadecimal text = let digits = at_most 6 (digit 16) text in (number_after 16 0 digits.0, digits.1)

-- after the backslash: the code point, and what is left
unfoldable pub escaped_point : List ℕ → ℕ × List ℕ
escaped_point [] = (0xFFFD, [])
escaped_point (c ∷ cs) =
    let number = hexadecimal (c ∷ cs) in
    if is_digit c 16 then (code_point number.0, past is_white_space number.1) else (c, cs)

-- a backslash begins an escape unless LF follows
abbrev pub begins_escape : List ℕ → Bool
begins_escape [] = false
begins_escape (c ∷ cs) = c == byte "\\" && not (first_passes is_newline cs)

-- ---- names and numbers (sections 4.3.9 to 4.3.11)

-- a code point of a name, plain or escaped
unfoldable pub name_point : List ℕ → Option (ℕ × List ℕ)
name_point text =
    if first_passes is_in_name text then first_that is_in_name text
    else (if begins_escape text then Some (escaped_point (drop 1 text)) else None)

-- the longest name, and what is left
abbrev pub name : List ℕ → List ℕ × List ℕ
name text = many name_point text

abbrev pub begins_name : List ℕ → Bool
begins_name text = first_passes is_name_start text || begins_escape text

abbrev pub starts_identifier : List ℕ → Bool
starts_identifier text =
    begins_name text || (first_passes (is (byte "-")) text && (first_passes (is (byte "-")) (drop 1 text) || begins_name (drop 1 text)))

abbrev pub starts_number : List ℕ → Bool
starts_number text = first_passes is_decimal (past (is (byte ".")) (past is_sign text))
