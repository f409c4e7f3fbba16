-- An+B: the tokens between the parentheses of `:nth-child(` and its kin (CSS Syntax 3, section 6.2).
-- Departures: A and B lie in i32, and each refusal has a cause.
use Rattle.std.specs.Prelude.{ℕ, Bool, ◌&&◌, ◌==◌, nat_le, if◌then◌else◌, List, [], ◌∷◌, drop, take, Option, Some, None, Ok, ℤ, pos, negsuc, neg_ℤ, unwrap_or, codes}
use Rattle.std.specs.List.{list_all}
use Rattle.std.specs.Option.{option_map}
use Rattle.std.specs.Str.{byte}
use Rattle.lol_css.specs.Points.{is, first_passes, is_decimal, decimal}
use Rattle.lol_css.specs.Tokens.{Token, Numeral, sign_of, Number, Dimension, Ident, Delim}
use Rattle.lol_css.specs.Rules.{Read, refused, ◌>>=◌, giving, skip_space, InFunction, required_token, block_end, says, ident_of}
use Rattle.lol_css.specs.declared.syntax.tokens.Sign.{Sign}
use Rattle.lol_css.specs.declared.syntax.tokens.Sign.TheVariants.{Plus, Minus}
use Rattle.lol_css.specs.declared.error.SelectorError.TheVariants.{UnexpectedToken}

-- a number with its sign
abbrev pub with_sign : Sign → ℕ → ℤ
with_sign Plus n = pos n
with_sign Minus n = neg_ℤ (pos n)

-- the value of an integer; none of what has a fraction or an exponent
abbrev pub integer_value : Numeral → Option ℤ
integer_value n = option_map (with_sign (unwrap_or n.sign Plus)) n.integer

-- an integer without a sign
abbrev pub unsigned_integer : Token → Option ℕ
unsigned_integer (Number n) = elim n.sign [ None ↦ n.integer | Some sign ↦ None ]
unsigned_integer _ = None

abbrev pub in_i32 : ℤ → Bool
in_i32 (pos n) = nat_le n 2147483647
in_i32 (negsuc n) = nat_le n 2147483647

-- A or B, which the first token writes, or ends
unfoldable pub bounded_integer : ℤ → List Token → Read ℤ
bounded_integer x tokens = if in_i32 x then Ok (x, drop 1 tokens) else refused UnexpectedToken tokens

-- white space and a number without a sign, of which B is made
unfoldable pub digits_of_b : Sign → List Token → Read ℤ
digits_of_b sign tokens = do
  digits ← required_token InFunction unsigned_integer UnexpectedToken (skip_space tokens)
  bounded_integer (with_sign sign digits.0) (skip_space tokens)

-- B after `n` and white space: a sign and a number, a number with a sign, or nothing
unfoldable pub after_n : List Token → Read ℤ
after_n [] = Ok (pos 0, [])
after_n (Delim c ∷ tokens) = elim (sign_of c) [ None ↦ Ok (pos 0, Delim c ∷ tokens) | Some sign ↦ digits_of_b sign tokens ]
after_n (Number n ∷ tokens) =
    elim n.sign [
      | None ↦ Ok (pos 0, Number n ∷ tokens)
      | Some sign ↦ elim (integer_value n) [ None ↦ Ok (pos 0, Number n ∷ tokens) | Some b ↦ bounded_integer b (Number n ∷ tokens) ]
    ]
after_n (token ∷ tokens) = Ok (pos 0, token ∷ tokens)

-- `n-`, and after it nothing but digits
abbrev pub is_n_and_digits : List ℕ → Bool
is_n_and_digits name = says (codes "n-") (take 2 name) && list_all is_decimal (drop 2 name)

-- the rest, of which a name holds the beginning: the name ends the first token
unfoldable pub rest_of : List ℕ → List Token → Read ℤ
rest_of name tokens =
    if says (codes "n") name then after_n (skip_space (drop 1 tokens))
    else (if says (codes "n-") name then digits_of_b Minus (drop 1 tokens)
    else (if is_n_and_digits name then bounded_integer (with_sign Minus (decimal (drop 2 name))) tokens
    else refused UnexpectedToken tokens))

abbrev pub with_step : ℤ → Read ℤ → Read (ℤ × ℤ)
with_step a b = giving (λ x. (a, x)) b

-- an integer, which the first token writes, or begins with
unfoldable pub integer : Numeral → List Token → Read ℤ
integer n tokens = elim (integer_value n) [ None ↦ refused UnexpectedToken tokens | Some x ↦ bounded_integer x tokens ]

-- an integer and its unit, which holds the rest: both are the first token
unfoldable pub an_plus_b_of_dimension : Numeral → List ℕ → List Token → Read (ℤ × ℤ)
an_plus_b_of_dimension n unit tokens = integer n tokens >>= λ step. with_step step.0 (rest_of unit tokens)

-- A and B from their first token on
unfoldable pub an_plus_b_of : Token → List Token → Read (ℤ × ℤ)
an_plus_b_of (Ident name) tokens =
    if says (codes "even") name then Ok ((pos 2, pos 0), drop 1 tokens)
    else (if says (codes "odd") name then Ok ((pos 2, pos 1), drop 1 tokens)
    else (if first_passes (is (byte "-")) name then with_step (with_sign Minus 1) (rest_of (drop 1 name) tokens) else with_step (pos 1) (rest_of name tokens)))
an_plus_b_of (Number n) tokens = with_step (pos 0) (integer n tokens)
an_plus_b_of (Dimension n unit) tokens = an_plus_b_of_dimension n unit tokens
an_plus_b_of (Delim c) tokens =
    if c == byte "+" then (required_token InFunction ident_of UnexpectedToken (drop 1 tokens) >>= λ name. with_step (pos 1) (rest_of name.0 (drop 1 tokens)))
    else refused UnexpectedToken tokens
an_plus_b_of _ tokens = refused UnexpectedToken tokens

-- after the parenthesis, up to the one that closes it
unfoldable pub an_plus_b : List Token → Read (ℤ × ℤ)
an_plus_b tokens = do
  token ← required_token InFunction (λ t. Some t) UnexpectedToken (skip_space tokens)
  nth ← an_plus_b_of token.0 (skip_space tokens)
  end ← block_end InFunction nth.1
  Ok (nth.0, end.1)
