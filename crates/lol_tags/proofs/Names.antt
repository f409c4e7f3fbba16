-- Names are read byte by byte: a tag's letters, and the bytes of an attribute's name up to its value.
use Rattle.std.proofs.Common.{◌≡◌, ◌<◌, ℕ, ◌+◌, List, [], ◌∷◌, None, ◌++◌, length, get_or, take, refl, sym, ◌∙◌, ap, arith, add-one, add-zero}
use Rattle.std.proofs.Math.Seq.{take-suc}
use Rattle.std.proofs.lemmas.Bool.{eqb-true}
use Rattle.std.specs.Prelude.{Bool, true, false, ◌==◌, fold}
use Rattle.lol_tags.specs.States.{next, next_in_script, is_space, is_letter, tag_name, attribute_name}
use Rattle.lol_tags.specs.Runs.{with_some}
use Rattle.lol_tags.specs.Reading.{with_byte, script, step, ended, noted, after, tags_from}
use Rattle.lol_tags.specs.Attributes.{is_attribute_name}
use Rattle.lol_tags.specs.Idling.{Each, in_name, may_spell, may_name}
use Rattle.lol_tags.specs.declared.state.State.{State}
use Rattle.lol_tags.specs.declared.state.State.TheVariants.{TagOpen, EndTagOpen, TagName, BeforeAttributeName, AttributeName, AttributeValueDoubleQuoted}
use Rattle.lol_tags.specs.declared.reader.TagReader.{TagReader}

-- a byte that passes a test isn't one that doesn't
other-by : (x : Bool) (b c : ℕ) (p : ℕ → Bool) → (b == c) ≡ x → p c ≡ false → p b ≡ true → (b == c) ≡ false
other-by true b c p e unlike like = let same : b ≡ c = eqb-true b c e in cc
other-by false b c p e unlike like = e

pub other : (b c : ℕ) (p : ℕ → Bool) → p c ≡ false → p b ≡ true → (b == c) ≡ false
other b c p unlike like = other-by (b == c) b c p refl unlike like

each-append : (test : ℕ → Bool) (bytes : List ℕ) (b : ℕ) → Each test bytes → test b ≡ true → Each test (bytes ++ b ∷ [])
each-append test [] b h last = (last, tt)
each-append test (c ∷ bytes) b h last = (h.0, each-append test bytes b h.1 last)

pub each-more : (test : ℕ → Bool) (s : List ℕ) (i : ℕ) → i < length s → Each test (take i s) → test (get_or s i 0) ≡ true → Each test (take (i + 1) s)
each-more test s i h before last = rw (add-one i, take-suc s i 0 h) (each-append test (take i s) (get_or s i 0) before last)

-- 1. Letters of a tag's name

letter : (b c : ℕ) → is_letter c ≡ false → is_letter b ≡ true → (b == c) ≡ false
letter b c unlike h = other b c (λ b. is_letter b) unlike h

letter-goes-on : (b : ℕ) → is_letter b ≡ true → tag_name b ≡ TagName
letter-goes-on b h = rw (letter b 32 refl h, letter b 10 refl h, letter b 9 refl h, letter b 13 refl h, letter b 12 refl h, letter b 47 refl h, letter b 62 refl h) refl

letter-next : (s : State) (b : ℕ) (named is_script foreign : Bool) → may_spell s ≡ true → is_letter b ≡ true → next s b named is_script foreign ≡ TagName
unfolding may_spell next next_in_script
letter-next TagOpen b named is_script foreign e h = rw h refl
letter-next EndTagOpen b named is_script foreign e h = rw h refl
letter-next TagName b named is_script foreign e h = letter-goes-on b h
letter-next _ b named is_script foreign e h = cc

letter-step : (r : TagReader) (b : ℕ) → may_spell r.state ≡ true → is_letter b ≡ true
    → step r b ≡ record r { state = TagName; code = with_byte r.code b; name_end = r.at + 1; at = r.at + 1 }
unfolding step noted
letter-step r b e h = rw (letter b 62 refl h, letter-next r.state b (r.code == r.text_code) (r.text_code == script) r.foreign e h) refl

-- no byte but a `>` ends a tag
not-ended : (r : TagReader) (b : ℕ) → (b == 62) ≡ false → ended r b ≡ None
unfolding ended
not-ended r b h = rw h refl

spells : may_spell TagName ≡ true
unfolding may_spell
spells = refl

pub letters-run : (r : TagReader) (bytes : List ℕ) → 0 < length bytes → may_spell r.state ≡ true → Each is_letter bytes
    → after r bytes ≡ record r { state = TagName; code = fold with_byte r.code bytes; name_end = r.at + length bytes; at = r.at + length bytes }
letters-run r [] some e h = absurd (omega arith)
letters-run r (b ∷ []) some e h = letter-step r b e h.0
letters-run r (b ∷ c ∷ bytes) some e h =
    let first = letter-step r b e h.0 in
    let others = letters-run (record r { state = TagName; code = with_byte r.code b; name_end = r.at + 1; at = r.at + 1 }) (c ∷ bytes) (omega arith) spells h.1 in
    ap (λ s. after s (c ∷ bytes)) first ∙ others
    ∙ ap (λ n. record r { state = TagName; code = fold with_byte r.code (b ∷ c ∷ bytes); name_end = n; at = n }) (omega arith)

pub letters-tags : (r : TagReader) (bytes : List ℕ) → may_spell r.state ≡ true → Each is_letter bytes → tags_from r bytes ≡ []
letters-tags r [] e h = refl
letters-tags r (b ∷ bytes) e h =
    ap (λ tag. with_some tag (tags_from (step r b) bytes)) (not-ended r b (letter b 62 refl h.0))
    ∙ ap (λ s. tags_from s bytes) (letter-step r b e h.0)
    ∙ letters-tags (record r { state = TagName; code = with_byte r.code b; name_end = r.at + 1; at = r.at + 1 }) bytes spells h.1

-- 2. Spaces before an attribute

space-step : (r : TagReader) (b : ℕ) → r.state ≡ BeforeAttributeName → is_space b ≡ true → step r b ≡ record r { at = r.at + 1 }
unfolding step next next_in_script noted
space-step r b e h = rw (other b 62 (λ b. is_space b) refl h, e, h) refl

pub spaces-run : (r : TagReader) (bytes : List ℕ) → r.state ≡ BeforeAttributeName → Each is_space bytes → after r bytes ≡ record r { at = r.at + length bytes }
spaces-run r [] e h = ap (λ n. record r { at = n }) (sym (add-zero r.at))
spaces-run r (b ∷ bytes) e h =
    let others = spaces-run (record r { at = r.at + 1 }) bytes e h.1 in
    ap (λ s. after s bytes) (space-step r b e h.0) ∙ others ∙ ap (λ n. record r { at = n }) (omega arith)

pub spaces-tags : (r : TagReader) (bytes : List ℕ) → r.state ≡ BeforeAttributeName → Each is_space bytes → tags_from r bytes ≡ []
spaces-tags r [] e h = refl
spaces-tags r (b ∷ bytes) e h =
    ap (λ tag. with_some tag (tags_from (step r b) bytes)) (not-ended r b (other b 62 (λ b. is_space b) refl h.0))
    ∙ ap (λ s. tags_from s bytes) (space-step r b e h.0)
    ∙ spaces-tags (record r { at = r.at + 1 }) bytes e h.1

-- 3. Bytes of an attribute's name

named : (b c : ℕ) → in_name c ≡ false → in_name b ≡ true → (b == c) ≡ false
named b c unlike h = other b c (λ b. in_name b) unlike h

pub is-name : (s : State) → is_attribute_name s ≡ true → s ≡ AttributeName
unfolding is_attribute_name
is-name AttributeName h = refl
is-name _ h = cc

pub name-next : (s : State) (b : ℕ) (named is_script foreign : Bool) → may_name s ≡ true → in_name b ≡ true → next s b named is_script foreign ≡ AttributeName
unfolding may_name next next_in_script is_attribute_name
name-next BeforeAttributeName b x y z e h = rw (named b 32 refl h, named b 10 refl h, named b 9 refl h, named b 13 refl h, named b 12 refl h, named b 47 refl h, named b 62 refl h) refl
name-next AttributeName b x y z e h = is-name (attribute_name b) h
name-next _ b x y z e h = cc

not-closing : (b : ℕ) → in_name b ≡ true → (b == 62) ≡ false
unfolding is_attribute_name
not-closing b h = named b 62 refl h

name-step : (r : TagReader) (b : ℕ) → may_name r.state ≡ true → in_name b ≡ true → step r b ≡ record r { state = AttributeName; at = r.at + 1 }
unfolding step noted
name-step r b e h = rw (not-closing b h, name-next r.state b (r.code == r.text_code) (r.text_code == script) r.foreign e h) refl

pub names : may_name AttributeName ≡ true
unfolding may_name
names = refl

pub name-run : (r : TagReader) (bytes : List ℕ) → 0 < length bytes → may_name r.state ≡ true → Each in_name bytes
    → after r bytes ≡ record r { state = AttributeName; at = r.at + length bytes }
name-run r [] some e h = absurd (omega arith)
name-run r (b ∷ []) some e h = name-step r b e h.0
name-run r (b ∷ c ∷ bytes) some e h =
    let others = name-run (record r { state = AttributeName; at = r.at + 1 }) (c ∷ bytes) (omega arith) names h.1 in
    ap (λ s. after s (c ∷ bytes)) (name-step r b e h.0) ∙ others ∙ ap (λ n. record r { state = AttributeName; at = n }) (omega arith)

pub name-tags : (r : TagReader) (bytes : List ℕ) → may_name r.state ≡ true → Each in_name bytes → tags_from r bytes ≡ []
name-tags r [] e h = refl
name-tags r (b ∷ bytes) e h =
    ap (λ tag. with_some tag (tags_from (step r b) bytes)) (not-ended r b (not-closing b h.0))
    ∙ ap (λ s. tags_from s bytes) (name-step r b e h.0)
    ∙ name-tags (record r { state = AttributeName; at = r.at + 1 }) bytes names h.1

-- 4. An equals sign, and the quote behind it

pub quote-run : (r : TagReader) → r.state ≡ AttributeName → after r (61 ∷ 34 ∷ []) ≡ record r { state = AttributeValueDoubleQuoted; at = r.at + 2 }
unfolding step next next_in_script noted
quote-run r e = rw e (ap (λ n. record r { state = AttributeValueDoubleQuoted; at = n }) (omega arith))

pub quote-tags : (r : TagReader) → tags_from r (61 ∷ 34 ∷ []) ≡ []
unfolding ended
quote-tags r = refl
