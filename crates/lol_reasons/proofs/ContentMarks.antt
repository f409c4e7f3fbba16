-- Content marks, and what end tags close.
use Rattle.std.proofs.Common.{◌≡◌, ◌≢◌, ℕ, Bool, true, false, ◌||◌, not, ◌⊎◌, ◌↔◌, inl, inr, refl, sym, ap, subst, Contains, ◌&&◌}
use Rattle.lol_base.specs.Names.{is_void, is_esi}
use Rattle.lol_base.specs.StartTags.{StartTag}
use Rattle.lol_base.specs.declared.namespace.Namespace.{Namespace}
use Rattle.lol_base.specs.declared.namespace.Namespace.TheVariants.{Html, Svg, MathML}
use Rattle.lol_machine.specs.Events.{has_content, has_content_in}
use Rattle.lol_machine.specs.Documents.{element_of}
use Rattle.lol_machine.specs.Answers.{Match, Started, is_dropped, report, matching_ids}
use Rattle.lol_base.specs.BoolLaws.{and_parts, and_of, or_parts, or_of}
use Rattle.lol_base.specs.MemberLaws.{among_from_contains, among_map}
use Rattle.lol_reasons.specs.RunLaws.{MarksTellContent}
use Rattle.lol_machine.specs.AnswerLaws.{started_if}

abbrev NoContentIn : Namespace → Bool → StartTag → Type 0
NoContentIn namespace esi tag =
    ((namespace ≡ Html) × ((is_void tag.name ≡ true) ⊎ ((esi ≡ true) × (is_esi tag.name ≡ true))))
    ⊎ ((namespace ≢ Html) × (tag.self_closing ≡ true))

not_false : (b : Bool) → not b ≡ false → b ≡ true
not_false true h = refl
not_false false h = cc

void_or_esi : (void esi named : Bool) → (void || (esi && named)) ≡ true → (void ≡ true) ⊎ ((esi ≡ true) × (named ≡ true))
void_or_esi void esi named h = elim (or_parts void (esi && named) h) [ inl v ↦ inl v | inr both ↦ inr (and_parts esi named both) ]

is_void_or_esi : (void esi named : Bool) → (void ≡ true) ⊎ ((esi ≡ true) × (named ≡ true)) → not (void || (esi && named)) ≡ false
is_void_or_esi void esi named (inl v) = ap not (or_of void (esi && named) (inl v))
is_void_or_esi void esi named (inr both) = ap not (or_of void (esi && named) (inr (and_of esi named both.0 both.1)))

foreign : (namespace : Namespace) (esi : Bool) (tag : StartTag) → namespace ≢ Html → (not tag.self_closing ≡ false) ↔ NoContentIn namespace esi tag
foreign namespace esi tag other = (
  λ h. inr (other, not_false tag.self_closing h),
  λ h. elim h [ inl html ↦ absurd (other html.0) | inr closes ↦ ap not closes.1 ],
)

no_content : (namespace : Namespace) (esi : Bool) (tag : StartTag) → (has_content_in namespace esi tag ≡ false) ↔ NoContentIn namespace esi tag
no_content Html esi tag = (
  λ h. inl (refl, void_or_esi (is_void tag.name) esi (is_esi tag.name) (not_false (is_void tag.name || (esi && is_esi tag.name)) h)),
  λ h. elim h [ inl html ↦ is_void_or_esi (is_void tag.name) esi (is_esi tag.name) html.1 | inr other ↦ absurd (other.0 refl) ],
)
no_content Svg esi tag = foreign Svg esi tag (λ h. cc)
no_content MathML esi tag = foreign MathML esi tag (λ h. cc)

pub marks_tell_content : MarksTellContent
marks_tell_content s esi d tag matched asked names attributes is m h =
    let e = element_of d tag in
    let all : report s esi e d.open_elements ≡ matched = by_test (is_dropped s e d.open_elements) is in
    let at = among_map (λ (id : ℕ). record { id = id; with_content = has_content esi tag }) (matching_ids s.pairs e d.open_elements) m
    (among_from_contains (report s esi e d.open_elements) m (subst (λ ms. Contains ms m) (sym all) h)) in
    let mark : has_content esi tag ≡ m.with_content = ap (λ (x : Match). x.with_content) at.2 in
    subst (λ b. (b ≡ false) ↔ NoContentIn tag.namespace esi tag) mark (no_content tag.namespace esi tag)
  where
    by_test : (dropped : Bool) → started_if s esi (element_of d tag) d.open_elements dropped ≡ Started matched asked names attributes → report s esi (element_of d tag) d.open_elements ≡ matched
    by_test true e = cc
    by_test false e = cc
