-- What the rules of the grammar are made of: each goes from a list of tokens to what is read and the tokens left, or to a refusal.
use Rattle.std.specs.Prelude.{ℕ, Bool, true, false, ◌||◌, ◌==◌, if◌then◌else◌, List, [], ◌∷◌, map, drop, Option, Some, None, Result, Ok, Err}
use Rattle.std.specs.Char.{to_ascii_lowercase}
use Rattle.std.specs.Str.{bytes_eq, byte}
use Rattle.lol_css.specs.Points.{first_passes}
use Rattle.lol_css.specs.Tokens.{Token, Space, Ident, Delim}
use Rattle.lol_css.specs.declared.error.SelectorError.{SelectorError}
use Rattle.lol_css.specs.declared.error.SelectorError.TheVariants.{UnexpectedToken, UnexpectedEnd}

-- why a rule refuses, and the tokens left from the first that it refuses: none where it refuses the text's end
pub record Refusal : Type 0 where
  pub cause : SelectorError
  pub left : List Token

-- what a rule reads from the front, with the tokens left, or its refusal
abbrev pub Read : Type 0 → Type 0
Read A = Result (A × List Token) Refusal

-- the first of these tokens is refused
abbrev pub refused : {A : Type 0} → SelectorError → List Token → Read A
refused cause tokens = Err (record { cause = cause; left = tokens })

-- one after the other, up to the first that refuses
infixl 10 ◌>>=◌
abbrev pub ◌>>=◌ : {A B E : Type 0} → Result A E → (A → Result B E) → Result B E
(Ok x) >>= f = f x
(Err error) >>= f = Err error

-- what is read, changed
abbrev pub giving : {A B : Type 0} → (A → B) → Read A → Read B
giving f (Ok x) = Ok (f x.0, x.1)
giving f (Err refusal) = Err refusal

abbrev pub is_delim : ℕ → Token → Bool
is_delim c (Delim d) = d == c
is_delim c _ = false

abbrev pub is_space : Token → Bool
is_space Space = true
is_space _ = false

unfoldable pub skip_space : List Token → List Token
skip_space [] = []
skip_space (token ∷ tokens) = if is_space token then skip_space tokens else token ∷ tokens

-- what is open innermost
pub data Nesting : Type 0 where
  Outside : Nesting
  InFunction : Nesting
  InBrackets : Nesting

-- `)` and `]` close what is open innermost
abbrev pub closes : Nesting → Token → Bool
closes Outside token = false
closes InFunction token = is_delim (byte ")") token
closes InBrackets token = is_delim (byte "]") token

-- End: what closes it, or the text's end, which closes everything
abbrev pub at_end : Nesting → List Token → Bool
at_end nesting [] = true
at_end nesting (token ∷ tokens) = closes nesting token

-- Stop: End, or a comma of the list
abbrev pub at_stop : Nesting → List Token → Bool
at_stop nesting tokens = at_end nesting tokens || first_passes (is_delim (byte ",")) tokens

-- a token of a kind that is wanted here: End is UnexpectedEnd, another token has the cause given
unfoldable pub required_token : {A : Type 0} → Nesting → (Token → Option A) → SelectorError → List Token → Read A
required_token nesting kind other [] = refused UnexpectedEnd []
required_token nesting kind other (token ∷ tokens) =
    if closes nesting token then refused UnexpectedEnd (token ∷ tokens)
    else elim (kind token) [ None ↦ refused other (token ∷ tokens) | Some x ↦ Ok (x, tokens) ]

-- white space, and then End, which is taken
unfoldable pub block_end : Nesting → List Token → Read (Unit {0})
block_end nesting tokens = if at_end nesting (skip_space tokens) then Ok (tt, drop 1 (skip_space tokens)) else refused UnexpectedToken (skip_space tokens)

-- names of pseudo-classes, flags and An+B are compared up to ASCII case
abbrev pub lowercase : List ℕ → List ℕ
lowercase name = map to_ascii_lowercase name

abbrev pub says : List ℕ → List ℕ → Bool
says word name = bytes_eq (lowercase name) word

abbrev pub ident_of : Token → Option (List ℕ)
ident_of (Ident name) = Some name
ident_of _ = None
