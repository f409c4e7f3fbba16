-- Skipping white space among tokens.
use Rattle.std.proofs.Common.{◌≡◌, List, [], ◌∷◌, false, refl}
use Rattle.lol_css.specs.Tokens.{Token, Space}
use Rattle.lol_css.specs.Rules.{Read, refused, skip_space, is_space}
use Rattle.lol_css.specs.Views.{FailsUnlessMemory}
use Rattle.lol_css.specs.declared.error.SelectorError.{SelectorError}
use Rattle.lol_css.specs.declared.error.SelectorError.TheVariants as errors

pub skip-space : (tokens : List Token) → skip_space (Space ∷ tokens) ≡ skip_space tokens
unfolding skip_space
skip-space tokens = refl

pub skip-other : (token : Token) (tokens : List Token) → is_space token ≡ false → skip_space (token ∷ tokens) ≡ token ∷ tokens
unfolding skip_space
skip-other token tokens e = rw e refl

pub skip-end : skip_space [] ≡ []
unfolding skip_space
skip-end = refl

pub ruleset space_steps = (skip-space, skip-other, skip-end)

pub fails : {Y : Type 0} (e : SelectorError) (left : List Token) (read : Read Y) → read ≡ refused e left → FailsUnlessMemory e left read
fails errors.Memory left read h = tt
fails errors.UnexpectedToken left read h = h
fails errors.UnexpectedEnd left read h = h
fails errors.MissingAttributeName left read h = h
fails errors.EmptySelector left read h = h
fails errors.DanglingCombinator left read h = h
fails errors.UnexpectedTokenInAttribute left read h = h
fails errors.UnsupportedPseudoClassOrElement left read h = h
fails errors.NestedNegation left read h = h
fails errors.NamespacedSelector left read h = h
fails errors.InvalidClassName left read h = h
fails errors.EmptyNegation left read h = h
fails (errors.UnsupportedCombinator c) left read h = h
fails errors.UnsupportedSyntax left read h = h
