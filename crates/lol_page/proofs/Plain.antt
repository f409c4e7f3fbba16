-- Plain bytes: those that end no line move the column alone, and values without an ampersand stand for themselves.
use Rattle.std.proofs.Common.{◌≡◌, ◌<◌, ℕ, ◌+◌, ◌-◌, ◌==◌, ◌||◌, Bool, true, false, drop, List, [], ◌∷◌, ◌++◌, map, Option, Some, None, zero, suc, length, length-drop, ◌≤◌, get_or, take, refl, sym, ◌∙◌, ap, arith, add-one}
use Rattle.std.proofs.Math.Seq.{take-suc, take-add}
use Rattle.std.proofs.lemmas.List.{take_rest}
use Rattle.std.proofs.lemmas.List.Sums.{fold-append}
use Rattle.std.proofs.lemmas.Bool.Decides.{nat_tests}
use Rattle.std.specs.List.{list_any}
use Rattle.std.specs.Option.{option_map}
use Rattle.memchr.specs.Find.{Nowhere, Passes, is_byte2}
use Rattle.lol_base.specs.BoolLaws.{not_true}
use Rattle.lol_base.specs.StartTags.{attribute_of, bytes_at}
use Rattle.lol_base.specs.declared.bytes.Range.{Range}
use Rattle.lol_base.specs.declared.start_tag.AttributeOutline.{AttributeOutline}
use Rattle.lol_references.specs.Attributes.{decoded_attribute}
use Rattle.lol_references.specs.Decoding.{decoded, piece}
use Rattle.lol_tags.specs.Attributes.{attributes_of, outlines_of}
use Rattle.lol_page.specs.Pages.{attributes_read}
use Rattle.lol_page.specs.Positions.{ArePlain, moved_by, moved_over}
use Rattle.lol_page.specs.declared.position.Position.{Position}

neither : (x y : Bool) → (x || y) ≡ false → (x ≡ false) × (y ≡ false)
neither true y h = absurd (cc)
neither false y h = (refl, h)

-- 1. Lines

plain-step : (p : Position) (b : ℕ) → (b == 13) ≡ false → (b == 10) ≡ false → moved_by p b ≡ record { line_ends = p.line_ends; column = p.column + 1; after_return = false }
unfolding moved_by
plain-step p b h k = rw (h, k) refl

pub plain-run : (p : Position) (bytes : List ℕ) → 0 < length bytes → ArePlain bytes
    → moved_over p bytes ≡ record { line_ends = p.line_ends; column = p.column + length bytes; after_return = false }
plain-run p [] some h = absurd (omega arith)
plain-run p (b ∷ []) some h = plain-step p b h.0 h.1
plain-run p (b ∷ c ∷ bytes) some h =
    let others = plain-run (record { line_ends = p.line_ends; column = p.column + 1; after_return = false }) (c ∷ bytes) (omega arith) h.2 in
    ap (λ s. moved_over s (c ∷ bytes)) (plain-step p b h.0 h.1) ∙ others
    ∙ ap (λ n. record { line_ends = p.line_ends; column = n; after_return = false }) (omega arith)

pub plain-append : (xs ys : List ℕ) → ArePlain xs → ArePlain ys → ArePlain (xs ++ ys)
plain-append [] ys h k = k
plain-append (x ∷ xs) ys h k = (h.0, h.1, plain-append xs ys h.2 k)

pub plain-more : (s : List ℕ) (i : ℕ) → i < length s → ArePlain (take i s) → 13 < get_or s i 0 → ArePlain (take (i + 1) s)
plain-more s i h before high =
    let b = get_or s i 0 in
    let no_return : (b == 13) ≡ false = grind (arith, nat_tests) in
    let no_feed : (b == 10) ≡ false = grind (arith, nat_tests) in
    rw (add-one i, take-suc s i 0 h) (plain-append (take i s) (b ∷ []) before (no_return, no_feed, tt))

pub plain-take : (bytes : List ℕ) (n : ℕ) → Nowhere (Passes (is_byte2 10 13) bytes) 0 n → ArePlain (take n bytes)
plain-take [] zero h = tt
plain-take [] (suc n) h = tt
plain-take (b ∷ bytes) zero h = tt
plain-take (b ∷ bytes) (suc n) h =
    let first = neither (b == 10) (b == 13) (not_true (b == 10 || b == 13) (h 0 (omega arith) (omega arith))) in
    (first.1, first.0, plain-take bytes n (λ k low high. h (suc k) (omega arith) (omega arith)))

-- The bytes from a place on, as the code has them, come behind those before it.
pub plain-part : (s : List ℕ) (i n : ℕ) → ArePlain (take i s) → ArePlain (take n (take (length s - i) (drop i s))) → ArePlain (take (i + n) s)
plain-part s i n before more = rw (take-add i n s) (plain-append (take i s) (take n (drop i s)) before (rw (take_rest s i) at more))

pub over-part : (p q : Position) (s : List ℕ) (i n : ℕ) → q ≡ moved_over p (take i s)
    → moved_over q (take n (take (length s - i) (drop i s))) ≡ moved_over p (take (i + n) s)
over-part p q s i n e =
    ap (λ x. moved_over q (take n x)) (take_rest s i) ∙ ap (λ x. moved_over x (take n (drop i s))) e
    ∙ sym (fold-append moved_by p (take i s) (take n (drop i s))) ∙ ap (moved_over p) (sym (take-add i n s))

-- one byte more
pub over-more : (p q : Position) (s : List ℕ) (i : ℕ) → i < length s → q ≡ moved_over p (take i s) → moved_by q (get_or s i 0) ≡ moved_over p (take (i + 1) s)
over-more p q s i h e =
    rw (add-one i, take-suc s i 0 h) (ap (λ x. moved_by x (get_or s i 0)) e ∙ sym (fold-append moved_by p (take i s) (get_or s i 0 ∷ [])))

pub part-within : (s : List ℕ) (i n : ℕ) → i ≤ length s → n ≤ length (take (length s - i) (drop i s)) → i + n ≤ length s
part-within s i n h k =
    let len : length (take (length s - i) (drop i s)) ≡ length s - i = ap length (take_rest s i) ∙ length-drop i s in omega arith

-- 2. Values

abbrev has_ampersand : List ℕ → Bool
has_ampersand bytes = list_any (λ b. b == 38) bytes

first_stays : (b : ℕ) (bytes : List ℕ) → (b == 38) ≡ false → decoded (b ∷ bytes) ≡ b ∷ decoded bytes
unfolding piece
first_stays b bytes h = rw h refl

stays : (bytes : List ℕ) → has_ampersand bytes ≡ false → decoded bytes ≡ bytes
stays [] none = refl
stays (b ∷ bytes) none =
    let h = neither (b == 38) (has_ampersand bytes) none in
    first_stays b bytes h.0 ∙ ap (λ (l : List ℕ). b ∷ l) (stays bytes h.1)

none_behind : (n : ℕ) (bytes : List ℕ) → has_ampersand bytes ≡ false → has_ampersand (drop n bytes) ≡ false
none_behind zero bytes none = none
none_behind (suc n) [] none = refl
none_behind (suc n) (b ∷ bytes) none = none_behind n bytes (neither (b == 38) (has_ampersand bytes) none).1

none_before : (n : ℕ) (bytes : List ℕ) → has_ampersand bytes ≡ false → has_ampersand (take n bytes) ≡ false
none_before zero bytes none = refl
none_before (suc n) [] none = refl
none_before (suc n) (b ∷ bytes) none =
    let h = neither (b == 38) (has_ampersand bytes) none in
    ap (λ x. x || has_ampersand (take n bytes)) h.0 ∙ none_before n bytes h.1

value_stays : (text : List ℕ) (value : Option Range) → has_ampersand text ≡ false
    → option_map (λ range. decoded (bytes_at text range)) value ≡ option_map (bytes_at text) value
value_stays text None none = refl
value_stays text (Some range) none =
    ap Some (stays (bytes_at text range) (none_before (range.end - range.start) (drop range.start text) (none_behind range.start text none)))

attributes_stay : (text : List ℕ) (outlines : List AttributeOutline) → has_ampersand text ≡ false
    → map (decoded_attribute text) outlines ≡ map (attribute_of text) outlines
attributes_stay text [] none = refl
attributes_stay text (o ∷ outlines) none =
    λ i. record { name = bytes_at text o.name; value = value_stays text o.value none i } ∷ attributes_stay text outlines none i

pub plain_read : (is_set : Bool) (text : List ℕ) (name_end : ℕ) → has_ampersand text ≡ false
    → attributes_of text name_end ≡ attributes_read is_set text name_end
plain_read true text name_end none = sym (attributes_stay text (outlines_of text name_end) none)
plain_read false text name_end none = refl
