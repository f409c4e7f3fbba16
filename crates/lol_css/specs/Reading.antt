-- The grammar (Selectors 4, sections 3, 4, 6 and 18.1): each rule from a list of tokens to what is read and the tokens left, or a refusal.
use Rattle.std.specs.Prelude.{ℕ, zero, suc, ◌+◌, Bool, true, false, ◌==◌, if◌then◌else◌, List, [], ◌∷◌, length, drop, Option, Some, None, Ok, pos, codes}
use Rattle.std.specs.List.{list_any}
use Rattle.std.specs.Option.{option_map}
use Rattle.std.specs.Str.{bytes_eq, byte, encode_utf8_all}
use Rattle.lol_css.specs.Points.{first_passes}
use Rattle.lol_css.specs.Tokens.{Token, Quoted, Hash, Function, Ident, Match, Delim}
use Rattle.lol_css.specs.CaselessAttributes.{caseless_attributes}
use Rattle.lol_css.specs.Trees.{Simple, LocalName, AnyName, NoNamespace, Id, Class, Exists, Compares, Nth}
use Rattle.lol_css.specs.Drafts.{Step, PlacedStep, By, NextSibling, SubsequentSibling, DraftPart, Plain, LatePseudoClass, LateNamespace, Logical, DraftCompound, Nothing, With, DraftItem, First, Then, DraftItems, NoItems, And}
use Rattle.lol_css.specs.Rules.{Read, refused, ◌>>=◌, giving, is_delim, is_space, skip_space, Nesting, Outside, InFunction, InBrackets, at_end, at_stop, required_token, block_end, lowercase, says, ident_of}
use Rattle.lol_css.specs.AnPlusB.{an_plus_b}
use Rattle.lol_base.specs.declared.comparison.AttrSelectorOperator.{AttrSelectorOperator}
use Rattle.lol_base.specs.declared.comparison.AttrSelectorOperator.TheVariants.{Equal}
use Rattle.lol_base.specs.declared.comparison.ParsedCaseSensitivity.{ParsedCaseSensitivity}
use Rattle.lol_base.specs.declared.comparison.ParsedCaseSensitivity.TheVariants.{ExplicitCaseSensitive, AsciiCaseInsensitive, CaseSensitive, AsciiCaseInsensitiveIfInHtmlElementInHtmlDocument}
use Rattle.lol_css.specs.declared.selector.Combinator.TheVariants.{Child, Descendant}
use Rattle.lol_css.specs.declared.selectors.logical.LogicalCombination.{LogicalCombination}
use Rattle.lol_css.specs.declared.selectors.logical.LogicalCombination.TheVariants.{Not, Is, Where}
use Rattle.lol_css.specs.declared.error.SelectorError.{SelectorError}
use Rattle.lol_css.specs.declared.error.SelectorError.TheVariants.{UnexpectedToken, UnexpectedEnd, MissingAttributeName, EmptySelector, DanglingCombinator, UnexpectedTokenInAttribute, UnsupportedPseudoClassOrElement, NamespacedSelector, InvalidClassName, UnsupportedSyntax}

-- a text in UTF-8
abbrev pub utf8 : List ℕ → List ℕ
utf8 points = encode_utf8_all points

-- ---- attributes, after the `[` (Selectors 4, section 6)

-- `|` and `*|` before a name; the name, and whether `*|` stands before it
abbrev pub name_after_bar : Bool → List Token → Read (List ℕ × Bool)
name_after_bar any tokens = giving (λ name. (name, any)) (required_token InBrackets ident_of UnexpectedTokenInAttribute tokens)

abbrev pub bar_of : Token → Option ℕ
bar_of (Delim c) = if c == byte "|" then Some c else None
bar_of _ = None

unfoldable pub attribute_name : List Token → Read (List ℕ × Bool)
attribute_name [] = refused UnexpectedEnd []
attribute_name (Ident name ∷ tokens) = if first_passes (is_delim (byte "|")) tokens then refused NamespacedSelector tokens else Ok ((name, false), tokens)
attribute_name (Delim c ∷ tokens) =
    if c == byte "]" then refused UnexpectedEnd (Delim c ∷ tokens)
    else (if c == byte "|" then name_after_bar false tokens
    else (if c == byte "*" then (required_token InBrackets bar_of UnexpectedTokenInAttribute tokens >>= λ bar. name_after_bar true bar.1)
    else refused MissingAttributeName (Delim c ∷ tokens)))
attribute_name (token ∷ tokens) = refused MissingAttributeName (token ∷ tokens)

abbrev pub operator_of : Token → Option AttrSelectorOperator
operator_of (Delim c) = if c == byte "=" then Some Equal else None
operator_of (Match operator) = Some operator
operator_of _ = None

abbrev pub written_value : Token → Option (List ℕ)
written_value (Ident name) = Some name
written_value (Quoted text) = Some text
written_value _ = None

abbrev pub flag_named : List ℕ → Option ParsedCaseSensitivity
flag_named name =
    if says (codes "i") name then Some AsciiCaseInsensitive else (if says (codes "s") name then Some ExplicitCaseSensitive else None)

abbrev pub flag_of : Token → Option ParsedCaseSensitivity
flag_of (Ident name) = flag_named name
flag_of _ = None

-- how an attribute of this name, lowercased, is compared where no flag stands
abbrev pub default_case_sensitivity : List ℕ → ParsedCaseSensitivity
default_case_sensitivity name =
    if list_any (λ other. bytes_eq name other) caseless_attributes then AsciiCaseInsensitiveIfInHtmlElementInHtmlDocument else CaseSensitive

-- the flag, and the end
unfoldable pub case_sensitivity : List ℕ → List Token → Read ParsedCaseSensitivity
case_sensitivity name tokens =
    if at_end InBrackets tokens then Ok (default_case_sensitivity name, drop 1 tokens)
    else (do
      flag ← required_token InBrackets flag_of UnexpectedToken tokens
      end ← block_end InBrackets flag.1
      Ok (flag.0, end.1))

-- after the name
unfoldable pub comparison : List ℕ → List Token → Read Simple
comparison name tokens =
    if at_end InBrackets tokens then Ok (Exists name, drop 1 tokens)
    else (do
      operator ← required_token InBrackets operator_of UnexpectedTokenInAttribute tokens
      value ← required_token InBrackets written_value UnexpectedTokenInAttribute (skip_space operator.1)
      case ← case_sensitivity name (skip_space value.1)
      Ok (Compares name operator.0 (utf8 value.0) case.0, case.1))

-- names are kept ASCII-lowercased
unfoldable pub attribute : List Token → Read DraftPart
attribute tokens = do
  name ← attribute_name (skip_space tokens)
  part ← comparison (utf8 (lowercase name.0.0)) (skip_space name.1)
  Ok ((if name.0.1 then LateNamespace (skip_space tokens) else Plain part.0), part.1)

-- ---- the other parts

-- directly after a `.`
unfoldable pub class_name : Nesting → List Token → Read Simple
class_name nesting tokens =
    if at_stop nesting tokens then refused UnexpectedEnd tokens
    else giving (λ name. Class (utf8 name)) (required_token nesting ident_of InvalidClassName tokens)

abbrev pub is_one_of : List (List ℕ) → List ℕ → Bool
is_one_of words name = list_any (λ word. says word name) words

-- the functions that take a list (Selectors 4, section 4, "Logical Combinations")
abbrev pub combination_named : List ℕ → Option LogicalCombination
combination_named name =
    if says (codes "not") name then Some Not
    else (if says (codes "is") name then Some Is else (if says (codes "where") name then Some Where else None))

-- a pseudo-class with another argument: the first token is its name with the parenthesis
unfoldable pub function_part : List ℕ → List Token → Read DraftPart
function_part name tokens =
    if says (codes "nth-child") name then giving (λ nth. Plain (Nth false nth.0 nth.1)) (an_plus_b (drop 1 tokens))
    else (if says (codes "nth-of-type") name then giving (λ nth. Plain (Nth true nth.0 nth.1)) (an_plus_b (drop 1 tokens))
    else (if is_one_of (codes "nth-last-child" ∷ codes "nth-last-of-type" ∷ []) name then giving (λ nth. LatePseudoClass tokens) (an_plus_b (drop 1 tokens))
    else refused UnsupportedPseudoClassOrElement tokens))

-- the pseudo-classes without an argument that are refused late
abbrev pub late_words : List (List ℕ)
late_words = codes "last-child" ∷ codes "only-child" ∷ codes "last-of-type" ∷ codes "only-of-type" ∷ codes "root" ∷ codes "empty" ∷ codes "scope" ∷ []

-- a pseudo-class without an argument, which is the first token
unfoldable pub ident_part : List ℕ → List Token → Read DraftPart
ident_part name tokens =
    if says (codes "first-child") name then Ok (Plain (Nth false (pos 0) (pos 1)), drop 1 tokens)
    else (if says (codes "first-of-type") name then Ok (Plain (Nth true (pos 0) (pos 1)), drop 1 tokens)
    else (if is_one_of late_words name then Ok (LatePseudoClass tokens, drop 1 tokens)
    else refused UnsupportedPseudoClassOrElement tokens))

-- after a colon; inner reads the list of a logical combination. After a second colon no name is known
unfoldable pub pseudo : (List Token → Read DraftItems) → Nesting → List Token → Read DraftPart
pseudo inner nesting [] = refused UnexpectedEnd []
pseudo inner nesting (token ∷ tokens) =
    if at_stop nesting (token ∷ tokens) then refused UnexpectedEnd (token ∷ tokens)
    else elim token [
      | Ident name ↦ ident_part name (Ident name ∷ tokens)
      | Function name ↦ elim (combination_named name) [
        | None ↦ function_part name (Function name ∷ tokens)
        | Some combination ↦ giving (Logical combination) (inner tokens)
      ]
      | Delim c ↦
          if c == byte ":" then (if at_stop nesting tokens then refused UnexpectedEnd tokens else refused UnsupportedPseudoClassOrElement tokens)
          else refused UnsupportedPseudoClassOrElement (Delim c ∷ tokens)
      | other ↦ refused UnsupportedPseudoClassOrElement (other ∷ tokens)
    ]

abbrev pub some : DraftPart → Option DraftPart
some found = Some found

-- one more part, where the token begins one
unfoldable pub part : (List Token → Read DraftItems) → Nesting → List Token → Read (Option DraftPart)
part inner nesting [] = Ok (None, [])
part inner nesting (Hash name is_id ∷ tokens) = if is_id then Ok (some (Plain (Id (utf8 name))), tokens) else Ok (None, Hash name is_id ∷ tokens)
part inner nesting (Delim c ∷ tokens) =
    if c == byte "." then giving (λ found. some (Plain found)) (class_name nesting tokens)
    else (if c == byte "[" then giving some (attribute tokens)
    else (if c == byte ":" then giving some (pseudo inner nesting tokens)
    else Ok (None, Delim c ∷ tokens)))
part inner nesting (token ∷ tokens) = Ok (None, token ∷ tokens)

-- parts as long as a token begins one; each takes one token at least, so there are at most n
unfoldable pub parts_at_most : ℕ → (List Token → Read DraftItems) → Nesting → DraftCompound → List Token → Read DraftCompound
parts_at_most zero inner nesting parts tokens = Ok (parts, tokens)
parts_at_most (suc n) inner nesting parts tokens = part inner nesting tokens >>= λ x. elim x.0 [
  | None ↦ Ok (parts, x.1)
  | Some found ↦ parts_at_most n inner nesting (With parts found) x.1
]

abbrev pub more_parts : (List Token → Read DraftItems) → Nesting → DraftCompound → List Token → Read DraftCompound
more_parts inner nesting parts tokens = parts_at_most (length tokens) inner nesting parts tokens

-- directly after a bar: a name or `*`; at Stop the compound counts as one that reads nothing (None)
unfoldable pub after_bar : Nesting → List Token → Read (Option Simple)
after_bar nesting [] = Ok (None, [])
after_bar nesting (token ∷ tokens) =
    if at_stop nesting (token ∷ tokens) then Ok (None, token ∷ tokens)
    else elim token [
      | Ident name ↦ Ok (Some (LocalName (utf8 name)), tokens)
      | Delim c ↦ if c == byte "*" then Ok (Some AnyName, tokens) else refused UnexpectedToken (Delim c ∷ tokens)
      | other ↦ refused UnexpectedToken (other ∷ tokens)
    ]

-- the type part, where one stands
unfoldable pub type_part : Nesting → List Token → Read (Option DraftCompound)
type_part nesting [] = Ok (Some Nothing, [])
type_part nesting (Ident name ∷ tokens) =
    if first_passes (is_delim (byte "|")) tokens then refused NamespacedSelector tokens else Ok (Some (With Nothing (Plain (LocalName (utf8 name)))), tokens)
type_part nesting (Delim c ∷ tokens) =
    if c == byte "*" then
    (if first_passes (is_delim (byte "|")) tokens then giving (option_map (λ name. With Nothing (Plain name))) (after_bar nesting (drop 1 tokens))
    else Ok (Some (With Nothing (Plain AnyName)), tokens))
    else (if c == byte "|" then giving (option_map (λ name. With (With Nothing (Plain NoNamespace)) (Plain name))) (after_bar nesting tokens)
    else Ok (Some Nothing, Delim c ∷ tokens))
type_part nesting (token ∷ tokens) = Ok (Some Nothing, token ∷ tokens)

abbrev pub is_nothing : DraftCompound → Bool
is_nothing Nothing = true
is_nothing (With front last) = false

-- a compound; one that reads nothing is refused with the cause given
unfoldable pub compound : (List Token → Read DraftItems) → Nesting → SelectorError → List Token → Read DraftCompound
compound inner nesting empty tokens = do
  type ← type_part nesting tokens
  elim type.0 [
    | None ↦ refused empty type.1
    | Some start ↦ more_parts inner nesting start type.1 >>= λ parts. if is_nothing parts.0 then refused empty parts.1 else Ok parts
  ]

-- ---- items and lists

abbrev pub step_of : Token → Option Step
step_of (Delim c) =
    if c == byte ">" then Some (By Child)
    else (if c == byte "+" then Some NextSibling else (if c == byte "~" then Some SubsequentSibling else None))
step_of _ = None

-- the step, and the tokens where its compound is to be read: `>`, `+` and `~` are taken, after white space anything else is a descendant
unfoldable pub step : Bool → List Token → Read Step
step after_space [] = refused UnexpectedToken []
step after_space (token ∷ tokens) = elim (step_of token) [
  | Some found ↦ Ok (found, skip_space tokens)
  | None ↦ if after_space then Ok (By Descendant, token ∷ tokens) else refused UnexpectedToken (token ∷ tokens)
]

-- the step after a compound and white space; at Stop there is none
unfoldable pub next_step : Nesting → List Token → Read (Option PlacedStep)
next_step nesting tokens =
    if at_stop nesting (skip_space tokens) then Ok (None, skip_space tokens)
    else giving (λ found. Some (record { step = found; left = skip_space tokens })) (step (first_passes is_space tokens) (skip_space tokens))

-- the rest of an item, to which so many compounds may be added; a step past the last is refused where it is recognised
unfoldable pub further : ℕ → (List Token → Read DraftItems) → Nesting → DraftItem → List Token → Read DraftItem
further zero inner nesting item tokens = next_step nesting tokens >>= λ found. elim found.0 [
  | None ↦ Ok (item, found.1)
  | Some step ↦ refused UnsupportedSyntax found.1
]
further (suc left) inner nesting item tokens = next_step nesting tokens >>= λ found. elim found.0 [
  | None ↦ Ok (item, found.1)
  | Some step ↦ compound inner nesting DanglingCombinator found.1 >>= λ next. further left inner nesting (Then item step next.0) next.1
]

-- an item has at most 1,024 compounds
unfoldable pub item : (List Token → Read DraftItems) → Nesting → List Token → Read DraftItem
item inner nesting tokens = do
  first ← compound inner nesting EmptySelector (skip_space tokens)
  further 1023 inner nesting (First first.0) first.1

-- the rest of a list, with the end that closes it; each item begins after a comma, so there are at most n
unfoldable pub items_at_most : ℕ → (List Token → Read DraftItems) → Nesting → DraftItems → List Token → Read DraftItems
items_at_most zero inner nesting items tokens = Ok (items, tokens)
items_at_most (suc n) inner nesting items tokens =
    if at_end nesting tokens then Ok (items, drop 1 tokens)
    else item inner nesting (drop 1 tokens) >>= λ x. items_at_most n inner nesting (And items x.0) x.1

unfoldable pub list : (List Token → Read DraftItems) → Nesting → List Token → Read DraftItems
list inner nesting tokens = do
  first ← item inner nesting tokens
  items_at_most (length first.1 + 1) inner nesting (And NoItems first.0) first.1

-- the list of a logical combination, after its parenthesis, where combinations may be opened so deep, this one included
unfoldable pub inner_list : ℕ → List Token → Read DraftItems
inner_list zero tokens = refused UnsupportedSyntax tokens
inner_list (suc depth) tokens = list (inner_list depth) InFunction tokens

-- all of the tokens; a logical combination stands inside at most 127 others
unfoldable pub selector : List Token → Read DraftItems
selector tokens = list (inner_list 128) Outside tokens
