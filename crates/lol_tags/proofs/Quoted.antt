-- Bytes of a quoted value only move the place.
use Rattle.std.proofs.Common.{◌≡◌, ℕ, ◌+◌, List, [], ◌∷◌, Some, None, length, refl, sym, ◌∙◌, ap, arith, add-zero}
use Rattle.std.specs.Prelude.{false, ◌==◌}
use Rattle.lol_tags.specs.States.{next, next_in_script}
use Rattle.lol_tags.specs.Runs.{with_some, run, given}
use Rattle.lol_tags.specs.Attributes.{is_attribute_name, is_quoted, is_value, is_in_attribute, next_of, noted_attribute, attribute_step, attribute_ended, completes}
use Rattle.lol_tags.specs.Idling.{quote, Lacks}
use Rattle.lol_tags.proofs.Idle.{unlike}
use Rattle.lol_tags.specs.declared.state.State.{State}
use Rattle.lol_tags.specs.declared.state.State.TheVariants.{AttributeValueDoubleQuoted, AttributeValueSingleQuoted}
use Rattle.lol_tags.specs.declared.attributes.AttributeReader.{AttributeReader}

quoted-next : (s : State) (c b : ℕ) → quote s ≡ Some c → (b == c) ≡ false → next s b false false false ≡ s
unfolding quote next next_in_script
quoted-next AttributeValueDoubleQuoted c b e h = rw (unlike b c 34 e h) refl
quoted-next AttributeValueSingleQuoted c b e h = rw (unlike b c 39 e h) refl
quoted-next _ c b e h = cc

quoted-noted : (s : State) (r : AttributeReader) (c : ℕ) → quote s ≡ Some c → noted_attribute s (record r { state = s }) ≡ record r { state = s; at = r.at + 1 }
unfolding quote is_attribute_name is_value is_quoted
quoted-noted AttributeValueDoubleQuoted r c e = refl
quoted-noted AttributeValueSingleQuoted r c e = refl
quoted-noted _ r c e = cc

quoted-incomplete : (s : State) (c : ℕ) → quote s ≡ Some c → completes s s ≡ false
unfolding quote is_attribute_name is_in_attribute
quoted-incomplete AttributeValueDoubleQuoted c e = refl
quoted-incomplete AttributeValueSingleQuoted c e = refl
quoted-incomplete _ c e = cc

quoted-step : (r : AttributeReader) (c b : ℕ) → quote r.state ≡ Some c → (b == c) ≡ false → attribute_step r b ≡ record r { at = r.at + 1 }
unfolding attribute_step
quoted-step r c b e h = ap (λ s. noted_attribute s r) (quoted-next r.state c b e h) ∙ quoted-noted r.state r c e

quoted-ended : (r : AttributeReader) (c b : ℕ) → quote r.state ≡ Some c → (b == c) ≡ false → attribute_ended r b ≡ None
unfolding attribute_ended
quoted-ended r c b e h =
    let open_value : completes r.state (next_of r b) ≡ false = ap (λ s. completes r.state s) (quoted-next r.state c b e h) ∙ quoted-incomplete r.state c e in
    rw open_value refl

pub quoted-run : (r : AttributeReader) (c : ℕ) (bytes : List ℕ) → quote r.state ≡ Some c → Lacks c bytes → run attribute_step r bytes ≡ record r { at = r.at + length bytes }
quoted-run r c [] e h = ap (λ n. record r { at = n }) (sym (add-zero r.at))
quoted-run r c (b ∷ bytes) e h =
    let first = quoted-step r c b e h.0 in
    let others = quoted-run (record r { at = r.at + 1 }) c bytes e h.1 in
    ap (λ s. run attribute_step s bytes) first ∙ others ∙ ap (λ n. record r { at = n }) (omega arith)

pub quoted-given : (r : AttributeReader) (c : ℕ) (bytes : List ℕ) → quote r.state ≡ Some c → Lacks c bytes → given attribute_step attribute_ended r bytes ≡ []
quoted-given r c [] e h = refl
quoted-given r c (b ∷ bytes) e h =
    ap (λ x. with_some x (given attribute_step attribute_ended (attribute_step r b) bytes)) (quoted-ended r c b e h.0)
    ∙ ap (λ s. given attribute_step attribute_ended s bytes) (quoted-step r c b e h.0)
    ∙ quoted-given (record r { at = r.at + 1 }) c bytes e h.1
