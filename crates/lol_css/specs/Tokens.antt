-- The tokens of a text: at each place the first fitting row decides, and takes as much as it can (CSS Syntax 3, section 4).
-- Departures from the standard: `~=`, `|=`, `^=`, `$=` and `*=` are tokens of their own (row 8). `<!--`, `@` with a name,
-- colon, semicolon, comma, brackets, parentheses and braces have none, so each of their signs is a Delim (row 9).
-- `url(` is an ordinary Function.
use Rattle.std.specs.Prelude.{ℕ, Bool, ◌&&◌, ◌||◌, ◌==◌, if◌then◌else◌, List, [], ◌∷◌, length, drop, Option, Some, None, ◌++◌}
use Rattle.std.specs.Option.{option_map}
use Rattle.std.specs.Str.{byte}
use Rattle.lol_css.specs.declared.syntax.tokens.Sign.{Sign}
use Rattle.lol_css.specs.declared.syntax.tokens.Sign.TheVariants.{Plus, Minus}
use Rattle.lol_base.specs.declared.comparison.AttrSelectorOperator.{AttrSelectorOperator}
use Rattle.lol_base.specs.declared.comparison.AttrSelectorOperator.TheVariants.{Includes, DashMatch, Prefix, Suffix, Substring}
use Rattle.lol_css.specs.Points.{is, first_passes, past, many, first_that, is_newline, is_white_space, is_decimal, is_sign, decimal, ◌or◌, escaped_point, begins_escape, is_in_name, name, starts_identifier, starts_number, preprocessed}

-- a number as it is written: its sign if one stands there, and its digits' value if it has neither fraction nor exponent
pub record Numeral : Type 0 where
  pub sign : Option Sign
  pub integer : Option ℕ

-- names and texts are lists of code points
pub data Token : Type 0 where
  Space : Token
  Quoted : List ℕ → Token
  BadString : Token
  Hash : List ℕ → Bool → Token  -- the name, and whether it is an id
  Number : Numeral → Token
  Dimension : Numeral → List ℕ → Token
  Percentage : Token
  Cdc : Token
  Function : List ℕ → Token
  Ident : List ℕ → Token
  Match : AttrSelectorOperator → Token  -- `~=` and the like
  Delim : ℕ → Token

-- what a row gives: nothing where it doesn't fit, else its token (none for a comment) and what is left
abbrev pub Row : Type 0
Row = List ℕ → Option (Option Token × List ℕ)

-- row 1 (4.3.2): a comment, up to `*/` or the end
unfoldable pub in_comment : List ℕ → Option (ℕ × List ℕ)
in_comment [] = None
in_comment (c ∷ cs) = if c == byte "*" && first_passes (is (byte "/")) cs then None else Some (c, cs)

unfoldable pub comment : Row
comment text = if first_passes (is (byte "/")) text && first_passes (is (byte "*")) (drop 1 text) then Some (None, drop 2 (many in_comment (drop 2 text)).1) else None

-- row 2: white space
unfoldable pub space : Row
space text = option_map (λ taken. (Some Space, (many (first_that is_white_space) taken.1).1)) (first_that is_white_space text)

-- row 3 (4.3.5): a string, up to the same quote or the end
-- what an escape in a string stands for, after the backslash: at the end and before LF nothing
unfoldable pub string_escape : List ℕ → List ℕ × List ℕ
string_escape [] = ([], [])
string_escape (c ∷ cs) = if is_newline c then ([], cs) else (let point = escaped_point (c ∷ cs) in (point.0 ∷ [], point.1))

unfoldable pub string_piece : ℕ → List ℕ → Option (List ℕ × List ℕ)
string_piece quote [] = None
string_piece quote (c ∷ cs) =
    if c == quote || is_newline c then None
    else (if c == byte "\\" then Some (string_escape cs) else Some (c ∷ [], cs))

abbrev pub concatenation : List (List ℕ) → List ℕ
concatenation [] = []
concatenation (points ∷ pieces) = points ++ concatenation pieces

-- the text up to the quote, and what is left from there
abbrev pub string_text : ℕ → List ℕ → List ℕ × List ℕ
string_text quote text = let pieces = many (string_piece quote) text in (concatenation pieces.0, pieces.1)

-- at an unescaped LF it is a BadString, which ends before it
abbrev pub string_after : ℕ → List ℕ → Option Token × List ℕ
string_after quote text =
    let taken = string_text quote text in
    if first_passes is_newline taken.1 then (Some BadString, taken.1) else (Some (Quoted taken.0), drop 1 taken.1)

unfoldable pub string : Row
string [] = None
string (c ∷ cs) = if c == byte "\"" || c == byte "'" then Some (string_after c cs) else None

-- row 4: `#` and a name
unfoldable pub hash : Row
hash [] = None
hash (c ∷ cs) =
    if c == byte "#" && (first_passes is_in_name cs || begins_escape cs) then (let n = name cs in Some (Some (Hash n.0 (starts_identifier cs)), n.1))
    else None

-- row 5 (4.3.3 and 4.3.12): a number, alone, with a unit or with `%`
abbrev pub sign_of : ℕ → Option Sign
sign_of c = if c == byte "+" then Some Plus else (if c == byte "-" then Some Minus else None)

abbrev pub leading_sign : List ℕ → Option Sign
leading_sign [] = None
leading_sign (c ∷ cs) = sign_of c

-- after a fraction and after an exponent, where one stands
unfoldable pub after_fraction : List ℕ → List ℕ
after_fraction text = if first_passes (is (byte ".")) text && first_passes is_decimal (drop 1 text) then (many (first_that is_decimal) (drop 1 text)).1 else text

unfoldable pub after_exponent : List ℕ → List ℕ
after_exponent text =
    if first_passes (λ c. c == byte "E" || c == byte "e") text && first_passes is_decimal (past is_sign (drop 1 text)) then (many (first_that is_decimal) (past is_sign (drop 1 text))).1 else text

unfoldable pub numeral : List ℕ → Numeral × List ℕ
numeral text =
    let digits = many (first_that is_decimal) (past is_sign text) in
    let rest = after_exponent (after_fraction digits.1) in
    (record { sign = leading_sign text; integer = if length rest == length digits.1 then Some (decimal digits.0) else None }, rest)

unfoldable pub number : Row
number text =
    let n = numeral text in
    if starts_number text then
    (if starts_identifier n.1 then (let unit = name n.1 in Some (Some (Dimension n.0 unit.0), unit.1))
    else (if first_passes (is (byte "%")) n.1 then Some (Some Percentage, drop 1 n.1) else Some (Some (Number n.0), n.1)))
    else None

-- row 6: `-->`
unfoldable pub cdc : Row
cdc text = if first_passes (is (byte "-")) text && first_passes (is (byte "-")) (drop 1 text) && first_passes (is (byte ">")) (drop 2 text) then Some (Some Cdc, drop 3 text) else None

-- row 7 (4.3.4): a name, which takes a `(` directly after it
unfoldable pub identifier : Row
identifier text =
    if starts_identifier text then
    (let n = name text in if first_passes (is (byte "(")) n.1 then Some (Some (Function n.0), drop 1 n.1) else Some (Some (Ident n.0), n.1))
    else None

-- row 8: `~=`, `|=`, `^=`, `$=`, `*=`
abbrev pub match_operator : ℕ → Option AttrSelectorOperator
match_operator c =
    if c == byte "~" then Some Includes
    else (if c == byte "|" then Some DashMatch
    else (if c == byte "^" then Some Prefix
    else (if c == byte "$" then Some Suffix
    else (if c == byte "*" then Some Substring else None))))

unfoldable pub match_sign : Row
match_sign [] = None
match_sign (c ∷ cs) = if first_passes (is (byte "=")) cs then option_map (λ operator. (Some (Match operator), drop 1 cs)) (match_operator c) else None

-- row 9: anything else
unfoldable pub delim : Row
delim [] = None
delim (c ∷ cs) = Some (Some (Delim c), cs)

-- the first fitting row decides
unfoldable pub next : Row
next text = comment text or space text or string text or hash text or number text or cdc text or identifier text or match_sign text or delim text

abbrev pub with_first : {A : Type 0} → Option A → List A → List A
with_first None all = all
with_first (Some first) all = first ∷ all

-- those that are there
abbrev pub somes : {A : Type 0} → List (Option A) → List A
somes [] = []
somes (first ∷ all) = with_first first (somes all)

-- the tokens of a text that is preprocessed, and of a text
unfoldable pub tokens_of : List ℕ → List Token
tokens_of text = somes (many next text).0

abbrev pub tokens : List ℕ → List Token
tokens text = tokens_of (preprocessed text)
