-- What C gets of a run, and the numbers that stand for what is answered.
use Rattle.std.specs.Prelude.{ℕ, zero, suc, ◌≡◌, ◌⊎◌, Bool, not, nat_eq, List, [], ◌∷◌, ◌++◌, take, drop, length, Option, Some, None}
use Rattle.lol_base.specs.declared.namespace.Namespace.{Namespace}
use Rattle.lol_base.specs.declared.namespace.Namespace.TheVariants.{Html, Svg, MathML}
use Rattle.lol_css.specs.declared.error.SelectorError.{SelectorError}
use Rattle.lol_css.specs.declared.error.SelectorError.TheVariants as causes
use Rattle.lol_matcher.specs.declared.error.MatcherError.{MatcherError}
use Rattle.lol_matcher.specs.declared.error.MatcherError.TheVariants.{MemoryLimitExceeded, Memory, CounterFull, Failed, NotAsked, OutsideInput}
use Rattle.lol_script.specs.declared.program.Status.{Status}
use Rattle.lol_script.specs.declared.program.Status.TheVariants.{Good, BadLine, Refused}

-- the beginning of a list that fits into a buffer, and then what is left of the buffer
abbrev pub overwritten : {A : Type 0} → List A → List A → List A
overwritten text buffer = take (length buffer) text ++ drop (length text) buffer

-- the number of a status: the program's exit status
abbrev pub status_number : Status → ℕ
status_number Good = 0
status_number BadLine = 2
status_number Refused = 3

-- the number of the error that a matcher answers a tag with
abbrev pub error_number : MatcherError → ℕ
error_number MemoryLimitExceeded = 12
error_number CounterFull = 13
error_number Memory = 14
error_number Failed = 15
error_number NotAsked = 16
error_number OutsideInput = 17

-- the namespace of a number
abbrev pub numbered_namespace : ℕ → Option Namespace
numbered_namespace zero = Some Html
numbered_namespace (suc zero) = Some Svg
numbered_namespace (suc (suc zero)) = Some MathML
numbered_namespace (suc (suc (suc n))) = None

-- the number of a cause for which a text isn't accepted: its place among lol_html's
abbrev pub cause_number : SelectorError → ℕ
cause_number causes.UnexpectedToken = 0
cause_number causes.UnexpectedEnd = 1
cause_number causes.MissingAttributeName = 2
cause_number causes.EmptySelector = 3
cause_number causes.DanglingCombinator = 4
cause_number causes.UnexpectedTokenInAttribute = 5
cause_number causes.UnsupportedPseudoClassOrElement = 6
cause_number causes.NestedNegation = 7
cause_number causes.NamespacedSelector = 8
cause_number causes.InvalidClassName = 9
cause_number causes.EmptyNegation = 10
cause_number (causes.UnsupportedCombinator c) = 11
cause_number causes.UnsupportedSyntax = 12
cause_number causes.Memory = 13

-- the combinator that isn't supported, or 0
abbrev pub combinator_of : SelectorError → ℕ
combinator_of (causes.UnsupportedCombinator c) = c
combinator_of cause = 0

-- whether a number is a yes: each but 0 is
abbrev pub is_flag : ℕ → Bool
is_flag n = not (nat_eq n 0)

-- a number is one of these
abbrev pub IsOneOf : List ℕ → ℕ → Type 0
IsOneOf [] n = ⊥
IsOneOf (m ∷ ms) n = (n ≡ m) ⊎ IsOneOf ms n
