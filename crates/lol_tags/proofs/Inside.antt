-- Attributes stand inside their tag.
use Rattle.std.proofs.Common.{◌≡◌, ℕ, ◌+◌, ◌-◌, ◌≤◌, ◌<◌, List, [], ◌∷◌, ◌++◌, Result, Ok, Err, OnOk, take, ap, sym, ◌∙◌, Some, None, length, drop, subst, arith, length-drop}
use Rattle.std.specs.Prelude.{Bool, true, false, ◌&&◌, not, if◌then◌else◌, All}
use Rattle.std.proofs.lemmas.List.Elements.{All-cons, All-nil, All-append}
use Rattle.std.proofs.lemmas.List.{take_rest}
use Rattle.lol_base.specs.StartTags.{IsInside, OutlineIsInside}
use Rattle.lol_base.specs.declared.start_tag.AttributeOutline.{AttributeOutline}
use Rattle.lol_tags.specs.Runs.{with_some, given}
use Rattle.lol_tags.specs.Attributes.{is_attribute_name, is_value, is_quoted, completes, next_of, noted_attribute, attribute_step, attribute_ended, outline_at, value_range, range, behind_name, outlines_of}
use Rattle.lol_tags.specs.declared.state.State.{State}
use Rattle.lol_tags.specs.declared.attributes.AttributeReader.{AttributeReader}

record Ordered (r : AttributeReader) : Type 0 where
  name : r.name_start ≤ r.name_end
  behind : r.name_end ≤ r.at
  value : r.value_start ≤ r.at

name-le : (a n : Bool) (at s e : ℕ) → s ≤ e → e ≤ at → (if a && not n then at else s) ≤ (if a then at + 1 else e)
name-le true true at s e h k = omega arith
name-le true false at s e h k = omega arith
name-le false n at s e h k = h

end-le : (a : Bool) (at e : ℕ) → e ≤ at → (if a then at + 1 else e) ≤ at + 1
end-le true at e h = omega arith
end-le false at e h = omega arith

value-le : (v q : Bool) (at s : ℕ) → s ≤ at → (if v then s else (if q then at + 1 else at)) ≤ at + 1
value-le true q at s h = omega arith
value-le false true at s h = omega arith
value-le false false at s h = omega arith

ordered-noted : (to : State) (r : AttributeReader) → Ordered r → Ordered (noted_attribute to r)
ordered-noted to r h = record {
  name = name-le (is_attribute_name to) (is_attribute_name r.state) r.at r.name_start r.name_end h.name h.behind;
  behind = end-le (is_attribute_name to) r.at r.name_end h.behind;
  value = value-le (is_value r.state) (is_quoted to) r.at r.value_start h.value;
}

-- What holds of the outline that an ordered reader has inside a tag holds of all.
all-with : (P : AttributeOutline → Type 0) (r : AttributeReader) (c : Bool) (others : List AttributeOutline) → P (outline_at r) → All P others
    → All P (with_some (if c then Some (outline_at r) else None) others)
all-with P r true others p h = All-cons P (outline_at r) others p h
all-with P r false others p h = h

all-given : (P : AttributeOutline → Type 0) (n : ℕ) → ((r : AttributeReader) → Ordered r → r.at < n → P (outline_at r))
    → (r : AttributeReader) (bytes : List ℕ) → Ordered r → length bytes ≤ n - r.at → All P (given attribute_step attribute_ended r bytes)
unfolding attribute_step attribute_ended
all-given P n each r [] o h = All-nil P
all-given P n each r (b ∷ bytes) o h =
    all-with P r (completes r.state (next_of r b)) (given attribute_step attribute_ended (noted_attribute (next_of r b) r) bytes)
    (each r o (omega arith))
    (all-given P n each (noted_attribute (next_of r b) r) bytes (ordered-noted (next_of r b) r o) (omega arith))

all-outlines : (P : AttributeOutline → Type 0) (tag : List ℕ) (name_end : ℕ)
    → ((r : AttributeReader) → Ordered r → r.at < length tag → P (outline_at r)) → All P (outlines_of tag name_end)
all-outlines P tag name_end each =
    all-given P (length tag) each (behind_name name_end) (drop name_end tag)
    (record { name = omega arith; behind = omega arith; value = omega arith })
    (omega (arith, length-drop name_end tag))

value-inside : (tag : List ℕ) (r : AttributeReader) (c : Bool) → Ordered r → r.at < length tag
    → IsInside tag (if c then range r.value_start r.at else range r.name_end r.name_end)
value-inside tag r true o h = (o.value, omega arith)
value-inside tag r false o h = (omega arith, omega (arith, o.behind))

outline-inside : (tag : List ℕ) (r : AttributeReader) → Ordered r → r.at < length tag → OutlineIsInside tag (outline_at r)
outline-inside tag r o h = (
  (o.name, omega (arith, o.behind)),
  λ x e. let same : value_range r ≡ x = cc in subst (IsInside tag) same (value-inside tag r (is_value r.state) o h),
)

raw-inside : (tag : List ℕ) (r : AttributeReader) (q v : Bool) → Ordered r → r.at < length tag
    → IsInside tag (range r.name_start (if q then r.at + 1 else (if v then range r.value_start r.at else range r.name_end r.name_end).end))
raw-inside tag r true v o h = (omega (arith, o.name, o.behind), omega arith)
raw-inside tag r false true o h = (omega (arith, o.name, o.behind), omega arith)
raw-inside tag r false false o h = (o.name, omega (arith, o.behind))

pub inside : (tag : List ℕ) (name_end : ℕ) → All (OutlineIsInside tag) (outlines_of tag name_end)
inside tag name_end = all-outlines (OutlineIsInside tag) tag name_end (outline-inside tag)

pub wholly-inside : (tag : List ℕ) (name_end : ℕ) → All (λ outline. IsInside tag outline.raw_range) (outlines_of tag name_end)
wholly-inside tag name_end =
    all-outlines (λ outline. IsInside tag outline.raw_range) tag name_end (λ r o h. raw-inside tag r (is_quoted r.state) (is_value r.state) o h)

-- the outlines that the code pushed behind others
pub pushed-inside : {A E : Type 0} (tag : List ℕ) (name_end : ℕ) (r : AttributeReader) (result : Result A E) (old new : List AttributeOutline)
    → r ≡ behind_name name_end
    → OnOk result (new ≡ old ++ given attribute_step attribute_ended r (take (length tag - name_end) (drop name_end tag)))
    → OnOk result (All (OutlineIsInside tag) old → All (OutlineIsInside tag) new)
pushed-inside tag name_end r (Err e) old new s h = h
pushed-inside tag name_end r (Ok x) old new s h = λ before.
    let same : new ≡ old ++ outlines_of tag name_end =
    h ∙ ap (λ bytes. old ++ given attribute_step attribute_ended r bytes) (take_rest tag name_end)
    ∙ ap (λ q. old ++ given attribute_step attribute_ended q (drop name_end tag)) s in
    subst (All (OutlineIsInside tag)) (sym same) (All-append (OutlineIsInside tag) old (outlines_of tag name_end) before (inside tag name_end))
