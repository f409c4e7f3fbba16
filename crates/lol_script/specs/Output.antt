-- What the program writes.
use Rattle.std.specs.Prelude.{ℕ, Bool, map, reverse, if◌then◌else◌, List, [], ◌∷◌, ◌++◌, codes, decimal}
use Rattle.std.specs.Char.{encode_utf8}
use Rattle.std.specs.List.{join_with_byte, flat_map}
use Rattle.std.specs.Str.{byte}
use Rattle.lol_base.specs.CodePoints.{tab, line_feed}
use Rattle.lol_css.specs.declared.error.SelectorError.{SelectorError}
use Rattle.lol_css.specs.declared.error.SelectorError.TheVariants.{UnexpectedToken, UnexpectedEnd, MissingAttributeName, EmptySelector, DanglingCombinator, UnexpectedTokenInAttribute, UnsupportedPseudoClassOrElement, NestedNegation, NamespacedSelector, InvalidClassName, EmptyNegation, UnsupportedCombinator, UnsupportedSyntax, Memory}
use Rattle.lol_reasons.specs.Explanations.{Reason}
use Rattle.lol_machine.specs.Answers.{Match, Answer, Started, Dropped, Ended}
use Rattle.lol_script.specs.declared.bad_line.BadLine.{BadLine}
use Rattle.lol_script.specs.declared.bad_line.Cause.{Cause}
use Rattle.lol_script.specs.declared.bad_line.Cause.TheVariants.{Form, Selector}

-- fields separated by commas, or `-` where there are none
abbrev pub comma_list : List (List ℕ) → List ℕ
comma_list [] = codes "-"
comma_list (field ∷ fields) = join_with_byte (byte ",") (field ∷ fields)

-- an id, with `/` after it where the element has no content
abbrev pub shown_match : Match → List ℕ
shown_match found = decimal found.id ++ (if found.with_content then [] else codes "/")

-- the field of the tries, where tries are shown
abbrev pub tries_field : Bool → ℕ → ℕ → List ℕ
tries_field shows names attributes = if shows then tab ∷ codes "tries " ++ (decimal names ++ byte " " ∷ decimal attributes) else []

-- the line of an answer
abbrev pub shown_answer : Bool → Answer → List ℕ
shown_answer shows (Started matched asked names attributes) =
    codes "start" ++ (tab ∷ comma_list (map shown_match matched) ++ ((if asked then tab ∷ codes "asked" else []) ++ tries_field shows names attributes))
shown_answer shows Dropped = codes "dropped"
shown_answer shows (Ended closed) = codes "end" ++ tab ∷ comma_list (map decimal closed)

-- The line of a reason: its id, the number of the `select` line, the item of its list, and the start tags whose elements the item's
-- compounds are passed by, the outermost first.
abbrev pub shown_reason : ℕ → Reason → List ℕ
shown_reason line reason =
    codes "why" ++ (tab ∷ decimal reason.id ++ (tab ∷ decimal line ++ (tab ∷ decimal reason.item ++ tab ∷ comma_list (map decimal (reverse reason.witness)))))

-- lines, each of which LF ends
abbrev pub lines_of : List (List ℕ) → List ℕ
lines_of lines = flat_map (λ line. line ++ line_feed ∷ []) lines

-- the name of a variant
abbrev pub variant_name : SelectorError → List ℕ
variant_name UnexpectedToken = codes "UnexpectedToken"
variant_name UnexpectedEnd = codes "UnexpectedEnd"
variant_name MissingAttributeName = codes "MissingAttributeName"
variant_name EmptySelector = codes "EmptySelector"
variant_name DanglingCombinator = codes "DanglingCombinator"
variant_name UnexpectedTokenInAttribute = codes "UnexpectedTokenInAttribute"
variant_name UnsupportedPseudoClassOrElement = codes "UnsupportedPseudoClassOrElement"
variant_name NestedNegation = codes "NestedNegation"
variant_name NamespacedSelector = codes "NamespacedSelector"
variant_name InvalidClassName = codes "InvalidClassName"
variant_name EmptyNegation = codes "EmptyNegation"
variant_name (UnsupportedCombinator sign) = codes "UnsupportedCombinator"
variant_name UnsupportedSyntax = codes "UnsupportedSyntax"
variant_name Memory = codes "Memory"

-- the sign of a combinator, in parentheses
abbrev pub combinator_sign : SelectorError → List ℕ
combinator_sign (UnsupportedCombinator sign) = codes "(" ++ (encode_utf8 sign ++ codes ")")
combinator_sign other = []

-- a cause, as in `UnsupportedCombinator(+)`
abbrev pub error_name : SelectorError → List ℕ
error_name error = variant_name error ++ combinator_sign error

abbrev pub cause_name : Cause → List ℕ
cause_name Form = codes "form"
cause_name (Selector error) = error_name error

-- the line for the first bad line of a script
abbrev pub bad_line : BadLine → List ℕ
bad_line bad = codes "bad line " ++ (decimal bad.number ++ (codes ": " ++ (cause_name bad.cause ++ line_feed ∷ [])))
