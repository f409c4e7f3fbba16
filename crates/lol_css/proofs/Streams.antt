-- One token after the other, and one piece of a string after the other.
use Rattle.std.proofs.Common.{◌≡◌, ℕ, zero, suc, ◌+◌, ◌-◌, ◌<◌, ◌≤◌, Bool, true, false, cond, eqb, ◌&&◌, ◌||◌, List, [], ◌∷◌, ◌++◌, length, drop, Option, Some, None, refl, sym, ap, ◌∙◌, arith, append_assoc, length-drop}
use Rattle.std.proofs.lemmas.List.{append-nil}
use Rattle.std.proofs.lemmas.Bool.{eqb-true}
use Rattle.std.proofs.lemmas.Str.{encodes-append}
use Rattle.std.specs.Str.{encode_utf8_all}
use Rattle.std.specs.Option.{option_map}
use Rattle.lol_css.specs.Points.{is, first_passes, past, many, first_that, ◌or◌, is_decimal, is_sign, is_in_name, is_name_start, is_newline, is_white_space, begins_escape, begins_name, starts_identifier, starts_number, escaped_point, name, name_point}
use Rattle.std.specs.Str.{byte}
use Rattle.lol_base.specs.declared.comparison.AttrSelectorOperator.{AttrSelectorOperator}
use Rattle.lol_css.specs.Tokens.{match_operator, Token, Space, Quoted, BadString, Hash, Number, Dimension, Percentage, Function, Ident, Match, Delim, Cdc, comment, in_comment, space, string_escape, string_piece, string_text, string_after, string, hash, after_fraction, after_exponent, numeral, number, cdc, identifier, match_sign, delim, next, somes, with_first, tokens_of, concatenation}
use Rattle.lol_css.proofs.Many.{Shrinks, many-some, many-none, some_same, at_most-shorter, past-shorter, escaped_point-shorter, name_point-shrinks, name-first}
use Rattle.lol_css.proofs.Loops.{one-shrinks, in_comment-shrinks}

-- ---- each row takes something

-- an option of a row, whose rest is this
abbrev Leaves : Option (Option Token × List ℕ) → ℕ → Type 0
Leaves o n = (x : Option Token) (rest : List ℕ) → o ≡ Some (x, rest) → length rest < n

none_leaves : (n : ℕ) → Leaves None n
none_leaves n x rest e = absurd cc

some_leaves : (y : Option Token) (left : List ℕ) (n : ℕ) → length left < n → Leaves (Some (y, left)) n
some_leaves y left n l x rest e =
    let same : (y, left) ≡ (x, rest) = some_same (y, left) (x, rest) e in
    let r : left ≡ rest = ap (λ (p : Option Token × List ℕ). p.1) same in
    rw (← r) l

if_leaves : (b : Bool) (o u : Option (Option Token × List ℕ)) (n : ℕ) → Leaves o n → Leaves u n → Leaves (cond b o u) n
if_leaves true o u n p q = p
if_leaves false o u n p q = q

if_leaves_at : (b : Bool) (o u : Option (Option Token × List ℕ)) (n : ℕ) → (b ≡ true → Leaves o n) → Leaves u n → Leaves (cond b o u) n
if_leaves_at true o u n p q = p refl
if_leaves_at false o u n p q = q

or_leaves : (o u : Option (Option Token × List ℕ)) (n : ℕ) → Leaves o n → Leaves u n → Leaves (o or u) n
or_leaves None u n p q = q
or_leaves (Some y) u n p q = p

-- what is left after many is no longer
after_many : {A B : Type 0} (step : List B → Option (A × List B)) → Shrinks step → (text : List B) → length (many step text).1 ≤ length text
after_many step shrinks text = at_most-shorter step shrinks (length text) text

comment_leaves : (text : List ℕ) → Leaves (comment text) (length text)
unfolding comment
comment_leaves [] = none_leaves 0
comment_leaves (c ∷ cs) =
    if_leaves (eqb c (byte "/") && first_passes (is (byte "*")) cs) (Some (None, drop 2 (many in_comment (drop 1 cs)).1)) None (length (c ∷ cs))
    (some_leaves None (drop 2 (many in_comment (drop 1 cs)).1) (length (c ∷ cs)) (omega (arith, length-drop 2 (many in_comment (drop 1 cs)).1, after_many in_comment in_comment-shrinks (drop 1 cs), length-drop 1 cs)))
    (none_leaves (length (c ∷ cs)))

space_leaves_of : (b : Bool) (c : ℕ) (cs : List ℕ) → Leaves (option_map (λ (taken : ℕ × List ℕ). (Some Space, (many (first_that is_white_space) taken.1).1)) (cond {A = Option (ℕ × List ℕ)} b (Some (c, cs)) None)) (length (c ∷ cs))
space_leaves_of true c cs = some_leaves (Some Space) (many (first_that is_white_space) cs).1 (length (c ∷ cs)) (omega (arith, after_many (first_that is_white_space) (one-shrinks is_white_space) cs))
space_leaves_of false c cs = none_leaves (length (c ∷ cs))

space_leaves : (text : List ℕ) → Leaves (space text) (length text)
unfolding space
space_leaves [] = none_leaves 0
space_leaves (c ∷ cs) = space_leaves_of (is_white_space c) c cs

-- ---- pieces of a string

string_escape_shorter_of : (b : Bool) (c : ℕ) (cs : List ℕ) → length (cond {A = List ℕ × List ℕ} b ([], cs) ((escaped_point (c ∷ cs)).0 ∷ [], (escaped_point (c ∷ cs)).1)).1 ≤ length (c ∷ cs)
string_escape_shorter_of true c cs = omega arith
string_escape_shorter_of false c cs = omega (arith, escaped_point-shorter (c ∷ cs))

string_escape-shorter : (text : List ℕ) → length (string_escape text).1 ≤ length text
unfolding string_escape
string_escape-shorter [] = omega arith
string_escape-shorter (c ∷ cs) = string_escape_shorter_of (is_newline c) c cs

string_piece_shorter_of : (a b : Bool) (c : ℕ) (cs points rest : List ℕ) → cond {A = Option (List ℕ × List ℕ)} a None (cond b (Some (string_escape cs)) (Some (c ∷ [], cs))) ≡ Some (points, rest) → length rest < length (c ∷ cs)
string_piece_shorter_of true b c cs points rest e = absurd cc
string_piece_shorter_of false true c cs points rest e =
    let same : string_escape cs ≡ (points, rest) = some_same (string_escape cs) (points, rest) e in
    let r : (string_escape cs).1 ≡ rest = ap (λ (p : List ℕ × List ℕ). p.1) same in
    rw (← r) (omega (arith, string_escape-shorter cs))
string_piece_shorter_of false false c cs points rest e =
    let one_point : List ℕ × List ℕ = (c ∷ [], cs) in
    let same : one_point ≡ (points, rest) = some_same one_point (points, rest) e in
    let r : cs ≡ rest = ap (λ (p : List ℕ × List ℕ). p.1) same in
    rw (← r) (omega arith)

string_piece_shorter : (quote : ℕ) (text points rest : List ℕ) → string_piece quote text ≡ Some (points, rest) → length rest < length text
unfolding string_piece
string_piece_shorter quote [] points rest e = absurd cc
string_piece_shorter quote (c ∷ cs) points rest e = string_piece_shorter_of (eqb c quote || is_newline c) (eqb c (byte "\\")) c cs points rest e

pub string_piece-shrinks : (quote : ℕ) → Shrinks (string_piece quote)
string_piece-shrinks quote = record { shorter = string_piece_shorter quote }

string_text-shorter : (quote : ℕ) (text : List ℕ) → length (string_text quote text).1 ≤ length text
string_text-shorter quote text = after_many (string_piece quote) (string_piece-shrinks quote) text

string_leaves_of : (c : ℕ) (cs : List ℕ) (b : Bool) → Leaves (Some (cond b (Some BadString, (string_text c cs).1) (Some (Quoted (string_text c cs).0), drop 1 (string_text c cs).1))) (length (c ∷ cs))
string_leaves_of c cs true = some_leaves (Some BadString) (string_text c cs).1 (length (c ∷ cs)) (omega (arith, string_text-shorter c cs))
string_leaves_of c cs false =
    some_leaves (Some (Quoted (string_text c cs).0)) (drop 1 (string_text c cs).1) (length (c ∷ cs)) (omega (arith, length-drop 1 (string_text c cs).1, string_text-shorter c cs))

string_leaves : (text : List ℕ) → Leaves (string text) (length text)
unfolding string
string_leaves [] = none_leaves 0
string_leaves (c ∷ cs) =
    if_leaves (eqb c (byte "\"") || eqb c (byte "'")) (Some (string_after c cs)) None (length (c ∷ cs)) (string_leaves_of c cs (first_passes is_newline (string_text c cs).1)) (none_leaves (length (c ∷ cs)))

hash_leaves : (text : List ℕ) → Leaves (hash text) (length text)
unfolding hash
hash_leaves [] = none_leaves 0
hash_leaves (c ∷ cs) =
    if_leaves (eqb c (byte "#") && (first_passes is_in_name cs || begins_escape cs)) (Some (Some (Hash (name cs).0 (starts_identifier cs)), (name cs).1)) None (length (c ∷ cs))
    (some_leaves (Some (Hash (name cs).0 (starts_identifier cs))) (name cs).1 (length (c ∷ cs)) (omega (arith, after_many name_point name_point-shrinks cs)))
    (none_leaves (length (c ∷ cs)))

-- numbers

after_one-shorter : (p : ℕ → Bool) (text : List ℕ) → length (many (first_that p) text).1 ≤ length text
after_one-shorter p text = after_many (first_that p) (one-shrinks p) text

if_shorter : (b : Bool) (l r : List ℕ) (n : ℕ) → length l ≤ n → length r ≤ n → length (cond b l r) ≤ n
if_shorter true l r n p q = p
if_shorter false l r n p q = q

after_fraction-shorter : (text : List ℕ) → length (after_fraction text) ≤ length text
unfolding after_fraction
after_fraction-shorter text =
    if_shorter (first_passes (is (byte ".")) text && first_passes is_decimal (drop 1 text)) (many (first_that is_decimal) (drop 1 text)).1 text (length text) (omega (arith, after_one-shorter is_decimal (drop 1 text), length-drop 1 text)) (omega arith)

after_exponent-shorter : (text : List ℕ) → length (after_exponent text) ≤ length text
unfolding after_exponent
after_exponent-shorter text =
    if_shorter (first_passes (λ c. eqb c (byte "E") || eqb c (byte "e")) text && first_passes is_decimal (past is_sign (drop 1 text))) (many (first_that is_decimal) (past is_sign (drop 1 text))).1 text (length text)
    (omega (arith, after_one-shorter is_decimal (past is_sign (drop 1 text)), past-shorter is_sign (drop 1 text), length-drop 1 text)) (omega arith)

-- digits, or a point with digits, take something
point_shrinks : (cs : List ℕ) → first_passes is_decimal cs ≡ true → length (after_fraction (byte "." ∷ cs)) < length (byte "." ∷ cs)
unfolding after_fraction
point_shrinks cs h = rw h (omega (arith, after_one-shorter is_decimal cs))

digits_shrink : (c : ℕ) (cs : List ℕ) → is_decimal c ≡ true → length (many (first_that is_decimal) (c ∷ cs)).1 < length (c ∷ cs)
digits_shrink c cs h =
    let taken : first_that is_decimal (c ∷ cs) ≡ Some (c, cs) = rw h refl in
    rw (many-some (first_that is_decimal) (one-shrinks is_decimal) (c ∷ cs) c cs taken) (omega (arith, after_one-shorter is_decimal cs))

unsigned_shrinks_of : (b : Bool) (c : ℕ) (cs : List ℕ) → eqb c (byte ".") ≡ b → first_passes is_decimal (cond b cs (c ∷ cs)) ≡ true → length (after_fraction (many (first_that is_decimal) (c ∷ cs)).1) < length (c ∷ cs)
unsigned_shrinks_of true c cs e h =
    rw (eqb-true c (byte ".") e) (rw (many-none (first_that is_decimal) (byte "." ∷ cs) refl) (point_shrinks cs h))
unsigned_shrinks_of false c cs e h = omega (arith, after_fraction-shorter (many (first_that is_decimal) (c ∷ cs)).1, digits_shrink c cs h)

unsigned_shrinks : (text : List ℕ) → first_passes is_decimal (past (is (byte ".")) text) ≡ true → length (after_fraction (many (first_that is_decimal) text).1) < length text
unsigned_shrinks [] h = absurd cc
unsigned_shrinks (c ∷ cs) h = unsigned_shrinks_of (eqb c (byte ".")) c cs refl h

numeral_shrinks : (text : List ℕ) → starts_number text ≡ true → length (numeral text).1 < length text
unfolding numeral
numeral_shrinks text h =
    omega (arith, unsigned_shrinks (past is_sign text) h, past-shorter is_sign text, after_exponent-shorter (after_fraction (many (first_that is_decimal) (past is_sign text)).1))

number_leaves : (text : List ℕ) → Leaves (number text) (length text)
unfolding number
number_leaves text =
    let n = numeral text in
    if_leaves_at (starts_number text)
    (cond (starts_identifier n.1) (Some (Some (Dimension n.0 (name n.1).0), (name n.1).1)) (cond (first_passes (is (byte "%")) n.1) (Some (Some Percentage, drop 1 n.1)) (Some (Some (Number n.0), n.1))))
    None (length text)
    (λ h.
    if_leaves (starts_identifier n.1) (Some (Some (Dimension n.0 (name n.1).0), (name n.1).1)) (cond (first_passes (is (byte "%")) n.1) (Some (Some Percentage, drop 1 n.1)) (Some (Some (Number n.0), n.1))) (length text)
    (some_leaves (Some (Dimension n.0 (name n.1).0)) (name n.1).1 (length text) (omega (arith, numeral_shrinks text h, after_many name_point name_point-shrinks n.1)))
    (if_leaves (first_passes (is (byte "%")) n.1) (Some (Some Percentage, drop 1 n.1)) (Some (Some (Number n.0), n.1)) (length text)
    (some_leaves (Some Percentage) (drop 1 n.1) (length text) (omega (arith, numeral_shrinks text h, length-drop 1 n.1)))
    (some_leaves (Some (Number n.0)) n.1 (length text) (numeral_shrinks text h))))
    (none_leaves (length text))

cdc_leaves : (text : List ℕ) → Leaves (cdc text) (length text)
unfolding cdc
cdc_leaves [] = none_leaves 0
cdc_leaves (c ∷ cs) =
    if_leaves (eqb c (byte "-") && first_passes (is (byte "-")) cs && first_passes (is (byte ">")) (drop 1 cs)) (Some (Some Cdc, drop 2 cs)) None (length (c ∷ cs))
    (some_leaves (Some Cdc) (drop 2 cs) (length (c ∷ cs)) (omega (arith, length-drop 2 cs)))
    (none_leaves (length (c ∷ cs)))

-- names

abbrev Takes : Option (ℕ × List ℕ) → Type 0
Takes o = (c : ℕ) × (rest : List ℕ) × (o ≡ Some (c, rest))

identifier_takes_of : (start decimal minus escape more : Bool) (c : ℕ) (cs : List ℕ) → ((start || escape) || (minus && more)) ≡ true → Takes (cond ((start || decimal) || minus) (cond {A = Option (ℕ × List ℕ)} ((start || decimal) || minus) (Some (c, cs)) None) (cond escape (Some (escaped_point cs)) None))
identifier_takes_of true decimal minus escape more c cs h = (c, cs, refl)
identifier_takes_of false true minus escape more c cs h = (c, cs, refl)
identifier_takes_of false false true escape more c cs h = (c, cs, refl)
identifier_takes_of false false false true more c cs h = ((escaped_point cs).0, (escaped_point cs).1, refl)
identifier_takes_of false false false false more c cs h = absurd cc

identifier_takes : (text : List ℕ) → starts_identifier text ≡ true → Takes (name_point text)
unfolding name_point
identifier_takes [] h = absurd cc
identifier_takes (c ∷ cs) h = identifier_takes_of (is_name_start c) (is_decimal c) (eqb c (byte "-")) (begins_escape (c ∷ cs)) (first_passes (is (byte "-")) cs || begins_name cs) c cs h

identifier_shrinks : (text : List ℕ) → starts_identifier text ≡ true → length (name text).1 < length text
identifier_shrinks text h =
    let t = identifier_takes text h in
    let whole : (name text).1 ≡ (name t.1).1 = ap (λ (p : List ℕ × List ℕ). p.1) (name-first text t.0 t.1 t.2) in
    rw whole (omega (arith, after_many name_point name_point-shrinks t.1, name_point-shrinks.shorter text t.0 t.1 t.2))

identifier_leaves : (text : List ℕ) → Leaves (identifier text) (length text)
unfolding identifier
identifier_leaves text =
    let n = name text in
    if_leaves_at (starts_identifier text) (cond (first_passes (is (byte "(")) n.1) (Some (Some (Function n.0), drop 1 n.1)) (Some (Some (Ident n.0), n.1))) None (length text)
    (λ h.
    if_leaves (first_passes (is (byte "(")) n.1) (Some (Some (Function n.0), drop 1 n.1)) (Some (Some (Ident n.0), n.1)) (length text)
    (some_leaves (Some (Function n.0)) (drop 1 n.1) (length text) (omega (arith, identifier_shrinks text h, length-drop 1 n.1)))
    (some_leaves (Some (Ident n.0)) n.1 (length text) (identifier_shrinks text h)))
    (none_leaves (length text))

operator_leaves : (o : Option AttrSelectorOperator) (c : ℕ) (cs : List ℕ) → Leaves (option_map (λ operator. (Some (Match operator), drop 1 cs)) o) (length (c ∷ cs))
operator_leaves None c cs = none_leaves (length (c ∷ cs))
operator_leaves (Some operator) c cs = some_leaves (Some (Match operator)) (drop 1 cs) (length (c ∷ cs)) (omega (arith, length-drop 1 cs))

match_sign_leaves : (text : List ℕ) → Leaves (match_sign text) (length text)
unfolding match_sign
match_sign_leaves [] = none_leaves 0
match_sign_leaves (c ∷ cs) =
    if_leaves (first_passes (is (byte "=")) cs) (option_map (λ operator. (Some (Match operator), drop 1 cs)) (match_operator c)) None (length (c ∷ cs))
    (operator_leaves (match_operator c) c cs)
    (none_leaves (length (c ∷ cs)))

delim_leaves : (text : List ℕ) → Leaves (delim text) (length text)
unfolding delim
delim_leaves [] = none_leaves 0
delim_leaves (c ∷ cs) = some_leaves (Some (Delim c)) cs (length (c ∷ cs)) (omega arith)

next_shorter : (text : List ℕ) → Leaves (next text) (length text)
unfolding next
next_shorter text =
    or_leaves (comment text) _ (length text) (comment_leaves text)
    (or_leaves (space text) _ (length text) (space_leaves text)
    (or_leaves (string text) _ (length text) (string_leaves text)
    (or_leaves (hash text) _ (length text) (hash_leaves text)
    (or_leaves (number text) _ (length text) (number_leaves text)
    (or_leaves (cdc text) _ (length text) (cdc_leaves text)
    (or_leaves (identifier text) _ (length text) (identifier_leaves text)
    (or_leaves (match_sign text) (delim text) (length text) (match_sign_leaves text) (delim_leaves text))))))))

pub next-shrinks : Shrinks next
next-shrinks = record { shorter = next_shorter }

-- ---- one round

-- what stands first, and the tokens of what is left
pub tokens-goes_on : (text : List ℕ) (found : Option Token) (rest : List ℕ) → next text ≡ Some (found, rest) → tokens_of text ≡ with_first found (tokens_of rest)
unfolding tokens_of
tokens-goes_on text found rest e = ap (λ (p : List (Option Token) × List ℕ). somes p.0) (many-some next next-shrinks text found rest e)

pub tokens-stops : (text : List ℕ) → next text ≡ None → tokens_of text ≡ []
unfolding tokens_of
tokens-stops text e = ap (λ (p : List (Option Token) × List ℕ). somes p.0) (many-none next text e)

pub tokens-first : (text : List ℕ) (first : Token) (rest : List ℕ) → next text ≡ Some (Some first, rest) → tokens_of text ≡ first ∷ tokens_of rest
tokens-first text first rest e = tokens-goes_on text (Some first) rest e

pub tokens-passes : (text rest : List ℕ) → next text ≡ Some (None, rest) → tokens_of text ≡ tokens_of rest
tokens-passes text rest e = tokens-goes_on text None rest e

pub next-shorter : (text : List ℕ) (found : Option Token) (rest : List ℕ) → next text ≡ Some (found, rest) → length rest < length text
next-shorter text found rest e = next-shrinks.shorter text found rest e

pub string-goes_on : (quote : ℕ) (front text points rest : List ℕ) → string_piece quote text ≡ Some (points, rest) → front ++ encode_utf8_all (string_text quote text).0 ≡ front ++ encode_utf8_all points ++ encode_utf8_all (string_text quote rest).0
string-goes_on quote front text points rest e =
    rw (many-some (string_piece quote) (string_piece-shrinks quote) text points rest e)
    (ap (λ (bytes : List ℕ). front ++ bytes) (encodes-append points (concatenation (many (string_piece quote) rest).0)) ∙ sym (append_assoc front (encode_utf8_all points) (encode_utf8_all (concatenation (many (string_piece quote) rest).0))))

pub string-stops : (quote : ℕ) (front text : List ℕ) → string_piece quote text ≡ None → front ++ encode_utf8_all (string_text quote text).0 ≡ front
string-stops quote front text e = rw (many-none (string_piece quote) text e) (append-nil front)

pub string_end-goes_on : (quote : ℕ) (text points rest : List ℕ) → string_piece quote text ≡ Some (points, rest) → (string_text quote text).1 ≡ (string_text quote rest).1
string_end-goes_on quote text points rest e = rw (many-some (string_piece quote) (string_piece-shrinks quote) text points rest e) refl

pub string_end-stops : (quote : ℕ) (text : List ℕ) → string_piece quote text ≡ None → (string_text quote text).1 ≡ text
string_end-stops quote text e = rw (many-none (string_piece quote) text e) refl

pub ruleset token_steps = (tokens-first, tokens-passes, tokens-stops, next-shorter)

pub ruleset string_steps = (string-goes_on, string-stops, append-nil)

pub ruleset string_end_steps = (string_end-goes_on, string_end-stops)
