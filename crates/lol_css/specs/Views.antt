-- What the code's values stand for.
use Rattle.std.specs.Prelude.{◌≡◌, ℕ, Bool, true, false, List, [], ◌∷◌, ◌-◌, length, drop, Option, Some, None, Result, Ok, Err}
use Rattle.std.specs.Option.{option_map}
use Rattle.lol_css.specs.Points.{decimal, name}
use Rattle.lol_css.specs.Tokens as tokens
use Rattle.lol_css.specs.Tokens.{string_text}
use Rattle.lol_css.specs.Trees.{Item}
use Rattle.lol_css.specs.Rules as rules
use Rattle.lol_css.specs.Rules.{Read, refused, giving, at_end}
use Rattle.lol_css.specs.Reading.{inner_list}
use Rattle.lol_css.specs.Reading as reading
use Rattle.lol_css.specs.Accepting.{judged_item}
use Rattle.lol_css.specs.declared.selector.Combinator.{Combinator}
use Rattle.lol_css.specs.declared.error.SelectorError.{SelectorError}
use Rattle.lol_css.specs.declared.error.SelectorError.TheVariants.{UnexpectedEnd, Memory}
use Rattle.lol_css.specs.declared.selectors.refusals.RefusedItem.{RefusedItem}
use Rattle.lol_css.specs.declared.selectors.judged.Refusal.{Refusal}
use Rattle.lol_css.specs.declared.selectors.parser.Context.{Context}
use Rattle.lol_css.specs.declared.syntax.reader.Nesting.{Nesting}
use Rattle.lol_css.specs.declared.syntax.reader.Nesting.TheVariants.{Outside, InFunction, InBrackets}
use Rattle.lol_css.specs.declared.syntax.texts.Name.{Name}
use Rattle.lol_css.specs.declared.syntax.texts.Quoted as texts
use Rattle.lol_css.specs.declared.syntax.tokens.Numeral.{Numeral}
use Rattle.lol_css.specs.declared.syntax.tokens.Token.{Token}
use Rattle.lol_css.specs.declared.syntax.tokens.Token.TheVariants.{Space, Quoted, BadString, Hash, Number, Dimension, Percentage, Cdc, Function, Ident, Match, Delim}

-- what was taken from the front, seen by view, is this
abbrev pub Took : {X Y : Type 0} → (X → Y) → Option X → Option Y → Type 0
Took view None taken = taken ≡ None
Took view (Some x) taken = taken ≡ Some (view x)

-- the code points of a name, and of a quoted text
unfoldable pub points_of : Name → List ℕ
points_of n = (name n.text.now).0

unfoldable pub quoted_points : texts.Quoted → List ℕ
quoted_points q = (string_text q.quote q.text.now).0

-- the first code point and the rest of a name, where it has one
abbrev pub IsSplit : List ℕ → Option (ℕ × Name) → Type 0
IsSplit points None = points ≡ []
IsSplit points (Some x) = points ≡ x.0 ∷ points_of x.1

abbrev pub numeral_of : Numeral → tokens.Numeral
numeral_of n = record { sign = n.sign; integer = option_map (λ digits. decimal digits.now) n.integer }

abbrev pub token_of : Token → tokens.Token
token_of Space = tokens.Space
token_of (Quoted text) = tokens.Quoted (quoted_points text)
token_of BadString = tokens.BadString
token_of (Hash name is_id) = tokens.Hash (points_of name) is_id
token_of (Number n) = tokens.Number (numeral_of n)
token_of (Dimension n unit) = tokens.Dimension (numeral_of n) (points_of unit)
token_of Percentage = tokens.Percentage
token_of Cdc = tokens.Cdc
token_of (Function name) = tokens.Function (points_of name)
token_of (Ident name) = tokens.Ident (points_of name)
token_of (Match operator) = tokens.Match operator
token_of (Delim c) = tokens.Delim c

-- a list, what stands first in it, and the rest
abbrev pub IsFirst : {A : Type 0} → List A → Option A → List A → Type 0
IsFirst whole None rest = (whole ≡ []) × (rest ≡ [])
IsFirst whole (Some x) rest = whole ≡ x ∷ rest

-- what a rule answered, seen by view, with the tokens that are left, is what reading gives
abbrev pub Reads : {X Y : Type 0} → (X → Y) → Result X SelectorError → List tokens.Token → Read Y → Type 0
Reads view (Ok x) rest read = read ≡ Ok (view x, rest)
Reads view (Err cause) rest read = read ≡ refused cause rest

-- the same of an answer about the first token, which isn't taken yet
abbrev pub ReadsFirst : {X Y : Type 0} → (X → Y) → Result X SelectorError → List tokens.Token → Read Y → Type 0
ReadsFirst view (Ok x) tokens read = read ≡ Ok (view x, drop 1 tokens)
ReadsFirst view (Err cause) tokens read = read ≡ refused cause tokens

-- a cause, with the tokens from the first refused on, is what reading gives, unless it is out of memory
abbrev pub FailsUnlessMemory : {Y : Type 0} → SelectorError → List tokens.Token → Read Y → Type 0
FailsUnlessMemory Memory left read = Unit {0}
FailsUnlessMemory cause left read = read ≡ refused cause left

-- the same as `Reads`, but that a rule that allocates may be out of memory
abbrev pub ReadsUnlessMemory : {X Y : Type 0} → (X → Y) → Result X SelectorError → List tokens.Token → Read Y → Type 0
ReadsUnlessMemory view (Ok x) rest read = read ≡ Ok (view x, rest)
ReadsUnlessMemory view (Err cause) rest read = FailsUnlessMemory cause rest read

-- the token that is wanted comes next, unless what is open innermost ends there
abbrev pub IsRequired : rules.Nesting → Result Token SelectorError → List tokens.Token → Type 0
IsRequired nesting (Ok token) tokens = (at_end nesting tokens ≡ false) × (tokens ≡ token_of token ∷ drop 1 tokens)
IsRequired nesting (Err cause) tokens = (at_end nesting tokens ≡ true) × (cause ≡ UnexpectedEnd)

abbrev pub nesting_of : Nesting → rules.Nesting
nesting_of Outside = rules.Outside
nesting_of InFunction = rules.InFunction
nesting_of InBrackets = rules.InBrackets

-- whether the list of a logical combination is read
abbrev pub is_inside : Nesting → Bool
is_inside InFunction = true
is_inside _ = false

-- what reading an item gives under what is open, with the item judged
abbrev pub judged_item_in : Context → List tokens.Token → Read (Result Item rules.Refusal)
judged_item_in context tokens =
    giving (judged_item (is_inside context.nesting))
    (reading.item (inner_list context.depth_left) (nesting_of context.nesting) tokens)

abbrev pub refusal_of : Refusal → rules.Refusal
refusal_of refusal = record { cause = refusal.cause; left = tokens.tokens_of refusal.left.now }

-- what is kept, seen by view, or why it is refused late
abbrev pub judgement : {X Y : Type 0} → (X → Y) → Result X Refusal → Result Y rules.Refusal
judgement view (Ok x) = Ok (view x)
judgement view (Err refusal) = Err (refusal_of refusal)

abbrev pub step_judgement : Result Combinator Refusal → Result Combinator rules.Refusal
step_judgement step = judgement (λ combinator. combinator) step

-- what a rule reads, unless it refuses
abbrev pub read_of : {Y : Type 0} → Read Y → Option Y
read_of (Ok x) = Some x.0
read_of (Err refusal) = None

-- the tokens after what a rule reads, or from the first that it refuses on
abbrev pub left_of : {Y : Type 0} → Read Y → List tokens.Token
left_of (Ok x) = x.1
left_of (Err refusal) = refusal.left

-- an item that is refused, by its number and the token's
abbrev pub numbers : RefusedItem → ℕ × ℕ
numbers item = (item.number, item.token)

-- the place of what is refused late: the item's number, and the token's of so many
abbrev pub late_place : {X : Type 0} → ℕ → ℕ → Result X rules.Refusal → Option (ℕ × ℕ)
late_place number all (Ok x) = None
late_place number all (Err refusal) = Some (number, all - length refusal.left)
