-- The bytes of an attribute's name, up to its value, where its outline is read.
use Rattle.std.proofs.Common.{◌≡◌, ◌<◌, ℕ, ◌+◌, ◌-◌, List, [], ◌∷◌, None, length, refl, ◌∙◌, ap, arith}
use Rattle.std.specs.Prelude.{true, false, if◌then◌else◌}
use Rattle.lol_tags.specs.States.{next, next_in_script}
use Rattle.lol_tags.specs.Runs.{with_some, run, given}
use Rattle.lol_tags.specs.Attributes.{is_attribute_name, is_quoted, is_value, is_in_attribute, next_of, noted_attribute, attribute_step, attribute_ended, completes}
use Rattle.lol_tags.specs.Idling.{Each, in_name, may_name}
use Rattle.lol_tags.proofs.Names.{name-next, names}
use Rattle.lol_tags.specs.declared.state.State.{State}
use Rattle.lol_tags.specs.declared.state.State.TheVariants.{BeforeAttributeName, AttributeName, AttributeValueDoubleQuoted}
use Rattle.lol_tags.specs.declared.attributes.AttributeReader.{AttributeReader}

-- where the name begins that the next byte goes on with
abbrev pub first_of : AttributeReader → ℕ
first_of r = if is_attribute_name r.state then r.name_start else r.at

-- one byte of a name
abbrev named_on : AttributeReader → AttributeReader
named_on r = record { state = AttributeName; at = r.at + 1; name_start = first_of r; name_end = r.at + 1; value_start = r.at }

name-noted : (s : State) (r : AttributeReader) → may_name s ≡ true → noted_attribute AttributeName (record r { state = s }) ≡ named_on (record r { state = s })
unfolding may_name is_attribute_name is_value is_quoted
name-noted BeforeAttributeName r e = refl
name-noted AttributeName r e = refl
name-noted _ r e = cc

name-incomplete : (s : State) → may_name s ≡ true → completes s AttributeName ≡ false
unfolding may_name is_attribute_name is_in_attribute
name-incomplete BeforeAttributeName e = refl
name-incomplete AttributeName e = refl
name-incomplete _ e = cc

name-step : (r : AttributeReader) (b : ℕ) → may_name r.state ≡ true → in_name b ≡ true → attribute_step r b ≡ named_on r
unfolding attribute_step
name-step r b e h = ap (λ s. noted_attribute s r) (name-next r.state b false false false e h) ∙ name-noted r.state r e

name-ended : (r : AttributeReader) (b : ℕ) → may_name r.state ≡ true → in_name b ≡ true → attribute_ended r b ≡ None
unfolding attribute_ended
name-ended r b e h =
    let goes_on : completes r.state (next_of r b) ≡ false = ap (λ s. completes r.state s) (name-next r.state b false false false e h) ∙ name-incomplete r.state e in
    rw goes_on refl

is-name-in-name : is_attribute_name AttributeName ≡ true
unfolding is_attribute_name
is-name-in-name = refl

pub name-run : (r : AttributeReader) (bytes : List ℕ) → 0 < length bytes → may_name r.state ≡ true → Each in_name bytes
    → run attribute_step r bytes
    ≡ record { state = AttributeName; at = r.at + length bytes; name_start = first_of r; name_end = r.at + length bytes; value_start = r.at + length bytes - 1 }
name-run r [] some e h = absurd (omega arith)
name-run r (b ∷ []) some e h =
    name-step r b e h.0
    ∙ ap (λ n. record { state = AttributeName; at = r.at + 1; name_start = first_of r; name_end = r.at + 1; value_start = n }) (omega arith)
name-run r (b ∷ c ∷ bytes) some e h =
    let others = name-run (named_on r) (c ∷ bytes) (omega arith) names h.1 in
    let start : first_of (named_on r) ≡ first_of r = rw is-name-in-name refl in
    let n = r.at + length (b ∷ c ∷ bytes) in
    let places : (r.at + 1 + length (c ∷ bytes) ≡ n) = omega arith in
    ap (λ s. run attribute_step s (c ∷ bytes)) (name-step r b e h.0) ∙ others
    ∙ ap (λ m. record { state = AttributeName; at = m; name_start = first_of (named_on r); name_end = m; value_start = m - 1 }) places
    ∙ ap (λ start. record { state = AttributeName; at = n; name_start = start; name_end = n; value_start = n - 1 }) start

pub name-given : (r : AttributeReader) (bytes : List ℕ) → may_name r.state ≡ true → Each in_name bytes → given attribute_step attribute_ended r bytes ≡ []
name-given r [] e h = refl
name-given r (b ∷ bytes) e h =
    ap (λ x. with_some x (given attribute_step attribute_ended (attribute_step r b) bytes)) (name-ended r b e h.0)
    ∙ ap (λ s. given attribute_step attribute_ended s bytes) (name-step r b e h.0)
    ∙ name-given (named_on r) bytes names h.1

pub quote-run : (r : AttributeReader) → r.state ≡ AttributeName
    → run attribute_step r (61 ∷ 34 ∷ []) ≡ record r { state = AttributeValueDoubleQuoted; at = r.at + 2; value_start = r.at + 2 }
unfolding attribute_step next next_in_script is_attribute_name is_value is_quoted
quote-run r e = rw e (ap (λ n. record r { state = AttributeValueDoubleQuoted; at = n; value_start = n }) (omega arith))

pub quote-given : (r : AttributeReader) → r.state ≡ AttributeName → given attribute_step attribute_ended r (61 ∷ 34 ∷ []) ≡ []
unfolding attribute_step attribute_ended next next_in_script is_attribute_name is_value is_quoted is_in_attribute
quote-given r e = rw e refl
