-- What is read of a stream: parts, the tag that ends a part, and the bytes that are kept of it.
use Rattle.std.proofs.Common.{◌≡◌, ℕ, ◌+◌, ◌-◌, ◌≤◌, ◌<◌, List, [], ◌∷◌, ◌++◌, Option, Some, None, ◌⊎◌, inl, inr, length, take, drop, refl, sym, ◌∙◌, ap, subst, arith, length-append}
use Rattle.std.specs.Prelude.{Bool, true, false, if◌then◌else◌}
use Rattle.std.proofs.Math.Seq.{take-append-add, drop-append-add, drop-length}
use Rattle.std.proofs.lemmas.List.{take-append-drop, take-append-le, drop-append-le, length-take}
use Rattle.std.proofs.lemmas.List.Sums.{fold-append}
use Rattle.std.proofs.lemmas.Bool.{le-leb}
use Rattle.std.proofs.Math.Dec.{leb}
use Rattle.std.proofs.lemmas.Option.{slice_get_within}
use Rattle.std.specs.Prelude.{IfSome, IfNone}
use Rattle.lol_tags.specs.Places.{name_start, HasRead, needed_from, GoesOn, StandsFrom, StandApart}
use Rattle.lol_tags.specs.Reading.{step, ended, ends, tag_at, closed, advanced, after, tags_from, may_be_tag, text_state, told_foreign}
use Rattle.lol_tags.specs.Runs.{with_some, run-append, given-append}
use Rattle.lol_tags.specs.declared.reader.Tag.{Tag}
use Rattle.lol_tags.specs.declared.reader.TagReader.{TagReader}
use Rattle.lol_page.specs.Keeping.{HoldsFrom, HoldsTag, IsKept, IsLong, start_of}
use Rattle.lol_page.specs.declared.kept_tags.KeptTags.{KeptTags}
use Rattle.lol_page.specs.Positions.{moved_by, moved_over, origin, position_behind}
use Rattle.lol_page.specs.declared.position.Position.{Position}

-- 1. Steps

either-at : (c : Bool) (r : TagReader) → (if c then r else record r { text_code = r.code; state = text_state r.code r.scripting }).at ≡ r.at
either-at true r = refl
either-at false r = refl

at-if : (r : TagReader) (b : ℕ) (e : Bool) → (if e then closed (advanced r b) else advanced r b).at ≡ r.at + 1
at-if r b true = either-at (advanced r b).is_end (advanced r b)
at-if r b false = refl

pub at-step : (r : TagReader) (b : ℕ) → (step r b).at ≡ r.at + 1
unfolding step
at-step r b = at-if r b (ends r b)

pub at-after : (r : TagReader) (bytes : List ℕ) → (after r bytes).at ≡ r.at + length bytes
at-after r [] = omega arith
at-after r (b ∷ bytes) =
    let more = at-after (step r b) bytes in
    let one = at-step r b in
    let len : length (b ∷ bytes) ≡ length bytes + 1 = omega arith in
    omega (arith, more, one, len)

tag-at-if : (r : TagReader) (tag : Tag) (e : Bool) → (if e then Some (tag_at r) else None) ≡ Some tag → tag ≡ tag_at r
tag-at-if r tag true e = cc
tag-at-if r tag false e = cc

pub ended-tag : (r : TagReader) (b : ℕ) (tag : Tag) → ended r b ≡ Some tag → tag ≡ tag_at r
unfolding ended
ended-tag r b tag e = tag-at-if r tag (ends r b) e

-- 2. The tag that ends a part

-- It ends at the last byte, and none before it.
pub record LastTag (r : TagReader) (bytes : List ℕ) (tag : Tag) : Type 0 where
  pub before : List ℕ
  pub last : ℕ
  pub whole : bytes ≡ before ++ last ∷ []
  pub none : tags_from r before ≡ []
  pub ends_it : ended (after r before) last ≡ Some tag

with-none : (o : Option Tag) (tags : List Tag) → with_some o tags ≡ [] → (o ≡ None) × (tags ≡ [])
with-none None tags e = (refl, e)
with-none (Some t) tags e = cc

pub none-first : (r : TagReader) (b : ℕ) (bytes : List ℕ) → tags_from r (b ∷ bytes) ≡ [] → (ended r b ≡ None) × (tags_from (step r b) bytes ≡ [])
none-first r b bytes e = with-none (ended r b) (tags_from (step r b) bytes) e

no-bytes : (bytes : List ℕ) → length bytes ≡ 0 → bytes ≡ []
no-bytes [] e = refl
no-bytes (b ∷ bytes) e = absurd (omega (arith, e))

last-at : (r : TagReader) (b : ℕ) (bytes : List ℕ) (tag : Tag) (o : Option Tag) → ended r b ≡ o → with_some o (tags_from (step r b) bytes) ≡ tag ∷ []
    → tag.end ≡ (after (step r b) bytes).at → (tags_from (step r b) bytes ≡ tag ∷ [] → LastTag (step r b) bytes tag) → LastTag r (b ∷ bytes) tag
last-at r b bytes tag None e tags end more =
    let m = more tags in
    record {
      before = b ∷ m.before;
      last = m.last;
      whole = ap (λ (l : List ℕ). b ∷ l) m.whole;
      none = ap (λ (o : Option Tag). with_some o (tags_from (step r b) m.before)) e ∙ m.none;
      ends_it = m.ends_it;
    }
last-at r b bytes tag (Some t) e tags end more =
    let same : t ≡ tag = cc in
    let stands : tag.end ≡ r.at + 1 = ap (λ (x : Tag). x.end) (sym same ∙ ended-tag r b t e) in
    let empty : bytes ≡ [] = no-bytes bytes (omega (arith, end, stands, at-after (step r b) bytes, at-step r b)) in
    record {
      before = [];
      last = b;
      whole = ap (λ (l : List ℕ). b ∷ l) empty;
      none = refl;
      ends_it = e ∙ ap Some same;
    }

pub last-tag : (r : TagReader) (bytes : List ℕ) (tag : Tag) → tags_from r bytes ≡ tag ∷ [] → tag.end ≡ (after r bytes).at → LastTag r bytes tag
last-tag r [] tag tags end = cc
last-tag r (b ∷ bytes) tag tags end = last-at r b bytes tag (ended r b) refl tags end (λ more. last-tag (step r b) bytes tag more end)

-- 3. Where it begins

-- the laws of lol_tags
abbrev pub GoOn : Type 0
GoOn = (r : TagReader) (bytes : List ℕ) → GoesOn r (after r bytes)

abbrev pub EndsOpen : Type 0
EndsOpen = (r : TagReader) (b : ℕ) (tag : Tag) → ended r b ≡ Some tag → (may_be_tag r.state ≡ true) × (may_be_tag (step r b).state ≡ false)

abbrev pub Begins : TagReader → ℕ → Type 0
Begins r start = ((may_be_tag r.state ≡ true) × (start ≡ r.start)) ⊎ (r.at ≤ start)

pub tag-begins : GoOn → EndsOpen → (r : TagReader) (bytes : List ℕ) (tag : Tag) → LastTag r bytes tag → Begins r tag.start
tag-begins go ends r bytes tag l =
    let start : tag.start ≡ (after r l.before).start = ap (λ (x : Tag). x.start) (ended-tag (after r l.before) l.last tag l.ends_it) in
    elim (go r l.before (ends (after r l.before) l.last tag l.ends_it).0) [
      | inl was ↦ inl (was.0, start ∙ was.1)
      | inr low ↦ inr (omega (arith, low, start))
    ]

pub none-left : EndsOpen → (r : TagReader) (bytes : List ℕ) (tag : Tag) → LastTag r bytes tag → may_be_tag (after r bytes).state ≡ false
none-left ends r bytes tag l =
    ap (λ (x : List ℕ). may_be_tag (after r x).state) l.whole
    ∙ ap (λ (x : TagReader). may_be_tag x.state) (run-append step r l.before (l.last ∷ []))
    ∙ (ends (after r l.before) l.last tag l.ends_it).1

-- 4. Lines and columns

moved-lines : (p : Position) (b : ℕ) → (moved_by p b).line_ends ≤ p.line_ends + 1
unfolding moved_by
moved-lines p b = grind arith

moved-columns : (p : Position) (b : ℕ) → (moved_by p b).column ≤ p.column + 1
unfolding moved_by
moved-columns p b = grind arith

pub lines-within : (p : Position) (bytes : List ℕ) → (moved_over p bytes).line_ends ≤ p.line_ends + length bytes
lines-within p [] = omega arith
lines-within p (b ∷ bytes) =
    let more = lines-within (moved_by p b) bytes in
    let one = moved-lines p b in
    let len : length (b ∷ bytes) ≡ length bytes + 1 = omega arith in
    omega (arith, more, one, len)

pub columns-within : (p : Position) (bytes : List ℕ) → (moved_over p bytes).column ≤ p.column + length bytes
columns-within p [] = omega arith
columns-within p (b ∷ bytes) =
    let more = columns-within (moved_by p b) bytes in
    let one = moved-columns p b in
    let len : length (b ∷ bytes) ≡ length bytes + 1 = omega arith in
    omega (arith, more, one, len)

pub over-parts : (p : Position) (n : ℕ) (bytes : List ℕ) → moved_over (moved_over p (take n bytes)) (drop n bytes) ≡ moved_over p bytes
over-parts p n bytes = sym (fold-append moved_by p (take n bytes) (drop n bytes)) ∙ ap (moved_over p) (take-append-drop n bytes)

pub behind-more : (read part : List ℕ) → moved_over (position_behind read) part ≡ position_behind (read ++ part)
behind-more read part = sym (fold-append moved_by origin read part)

-- 5. What is kept

open-within : (read : List ℕ) (r : TagReader) → HasRead read r → may_be_tag r.state ≡ true → r.start < length read
open-within read r h m = slice_get_within read r.start 60 (h.opened m)

needed-at : (read : List ℕ) (r : TagReader) (m : Bool) → may_be_tag r.state ≡ m → HasRead read r → (if m then r.start else r.at) ≤ r.at
needed-at read r true m h = omega (arith, open-within read r h m, h.at)
needed-at read r false m h = omega arith

pub needed-within : (read : List ℕ) (r : TagReader) → HasRead read r → needed_from r ≤ r.at
needed-within read r h = needed-at read r (may_be_tag r.state) refl h

name-behind : (start : ℕ) (b : Bool) → start ≤ name_start start b
name-behind start true = omega arith
name-behind start false = omega arith

pub tag-within : (read : List ℕ) (tag : Tag) → StandsFrom read 0 tag → tag.start ≤ tag.end
tag-within read tag s = omega (arith, name-behind tag.start tag.is_end, s.named, s.some)

pub stands-tag : (read : List ℕ) (from : ℕ) (tag : Option Tag) → StandApart read from (with_some tag []) → IfSome tag (StandsFrom read 0)
stands-tag read from None s = tt
stands-tag read from (Some tag) s = record { low = omega arith; named = s.0.named; some = s.0.some; opens = s.0.opens; closes = s.0.closes }

pub orders-tag : (read : List ℕ) (tag : Option Tag) → IfSome tag (StandsFrom read 0) → IfSome tag (λ tag. tag.start ≤ tag.end)
orders-tag read None s = tt
orders-tag read (Some tag) s = tag-within read tag s

pub start-within : (read : List ℕ) (r : TagReader) (tag : Option Tag) → HasRead read r → IfSome tag (StandsFrom read 0) → IfSome tag (λ tag. tag.end ≡ r.at)
    → start_of r tag ≤ r.at
start-within read r None h s e = needed-within read r h
start-within read r (Some tag) h s e = omega (arith, tag-within read tag s, e)

-- 6. The first tag of a chunk

with-more : (tag : Option Tag) (more : List Tag) → with_some tag [] ++ more ≡ with_some tag more
with-more None more = refl
with-more (Some tag) more = refl

pub tags-first : (r : TagReader) (n : ℕ) (chunk : List ℕ) (tag : Option Tag) → with_some tag [] ≡ tags_from r (take n chunk)
    → tags_from r chunk ≡ with_some tag (tags_from (after r (take n chunk)) (drop n chunk))
tags-first r n chunk tag e =
    let more = tags_from (after r (take n chunk)) (drop n chunk) in
    ap (tags_from r) (sym (take-append-drop n chunk)) ∙ given-append step ended r (take n chunk) (drop n chunk)
    ∙ ap (λ (tags : List Tag). tags ++ more) (sym e) ∙ with-more tag more

long-first : (limit : ℕ) (tag : Option Tag) (more : List Tag) → IsLong limit (with_some tag []) → IsLong limit (with_some tag more)
long-first limit None more l = absurd l
long-first limit (Some tag) more l = l

pub long-chunk : (limit : ℕ) (r : TagReader) (n : ℕ) (chunk : List ℕ) (tag : Option Tag) → with_some tag [] ≡ tags_from r (take n chunk)
    → IsLong limit (with_some tag []) → IsLong limit (tags_from r chunk)
long-chunk limit r n chunk tag e l =
    subst (IsLong limit) (sym (tags-first r n chunk tag e)) (long-first limit tag (tags_from (after r (take n chunk)) (drop n chunk)) l)

none-behind : (r : TagReader) (n : ℕ) (chunk : List ℕ) → n ≡ length chunk → tags_from r (drop n chunk) ≡ []
none-behind r n chunk e = ap (tags_from r) (ap (λ (k : ℕ). drop k chunk) e ∙ drop-length chunk)

short-first : (limit : ℕ) (tag : Option Tag) (more : List Tag) → (IsLong limit (with_some tag []) → ⊥) → IfNone tag (more ≡ []) → IsLong limit (with_some tag more) → ⊥
short-first limit None more s none l = subst (IsLong limit) none l
short-first limit (Some tag) more s none l = s l

pub none-more : (r : TagReader) (n : ℕ) (chunk : List ℕ) (tag : Option Tag) → IfNone tag (n ≡ length chunk)
    → IfNone tag (tags_from (after r (take n chunk)) (drop n chunk) ≡ [])
none-more r n chunk None e = none-behind (after r (take n chunk)) n chunk e
none-more r n chunk (Some tag) e = tt

pub short-chunk : (limit : ℕ) (r : TagReader) (n : ℕ) (chunk : List ℕ) (tag : Option Tag) → with_some tag [] ≡ tags_from r (take n chunk)
    → IfNone tag (n ≡ length chunk) → (IsLong limit (with_some tag []) → ⊥) → IsLong limit (tags_from r chunk) → ⊥
short-chunk limit r n chunk tag e whole s l =
    short-first limit tag (tags_from (after r (take n chunk)) (drop n chunk)) s (none-more r n chunk tag whole) (subst (IsLong limit) (tags-first r n chunk tag e) l)

-- 7. What is kept of one part more

begins-open : GoOn → (r : TagReader) (part : List ℕ) (m : Bool) → may_be_tag (after r part).state ≡ m
    → Begins r (if m then (after r part).start else (after r part).at)
begins-open go r part true m = go r part m
begins-open go r part false m = inr (omega (arith, at-after r part))

pub begins-at : GoOn → EndsOpen → (r : TagReader) (part : List ℕ) (tag : Option Tag) → with_some tag [] ≡ tags_from r part
    → IfSome tag (λ tag. tag.end ≡ (after r part).at) → Begins r (start_of (after r part) tag)
begins-at go ends r part None e last = begins-open go r part (may_be_tag (after r part).state) refl
begins-at go ends r part (Some tag) e last = tag-begins go ends r part tag (last-tag r part tag (sym e) last)

pub none-unfinished : EndsOpen → (r : TagReader) (part : List ℕ) (tag : Option Tag) → with_some tag [] ≡ tags_from r part
    → IfSome tag (λ tag. tag.end ≡ (after r part).at) → IfSome tag (λ tag. may_be_tag (after r part).state ≡ false)
none-unfinished ends r part None e last = tt
none-unfinished ends r part (Some tag) e last = none-left ends r part tag (last-tag r part tag (sym e) last)

abbrev pub Starts : KeptTags → KeptTags → List ℕ → ℕ → ℕ → Bool → Type 0
Starts k new part begun start fits =
    (start < begun → (new.from ≡ k.from) × (fits ≡ true → new.bytes.items ≡ k.bytes.items ++ part))
    × (begun ≤ start → (new.from ≡ moved_over k.at (take (start - begun) part)) × (fits ≡ true → new.bytes.items ≡ drop (start - begun) part))

pub holds-more : (k new : KeptTags) (part : List ℕ) (begun start : ℕ) (fits : Bool) → begun ≡ k.reader.at → IsKept k → Begins k.reader start
    → new.past.read ≡ k.past.read ++ part → new.limit ≡ k.limit → Starts k new part begun start fits
    → (length (k.past.read ++ part) - start ≤ k.limit → fits ≡ true) → HoldsFrom new start
holds-more k new part begun start fits here kept (inl was) read limit starts fitting =
    let within : k.reader.start < length k.past.read = open-within k.past.read k.reader kept.read was.0 in
    let low : start < begun = omega (arith, within, was.1, kept.read.at, here) in
    let inside : start ≤ length k.past.read = omega (arith, low, kept.read.at, here) in
    let held = kept.holds was.0 in
    let now = starts.0 low in
    record {
      from =
          now.0 ∙ held.from ∙ ap (λ (n : ℕ). position_behind (take n k.past.read)) (sym was.1)
          ∙ sym (ap position_behind (take-append-le start k.past.read part inside)) ∙ ap (λ (l : List ℕ). position_behind (take start l)) (sym read);
      bytes = λ short.
          let now-short : length (k.past.read ++ part) - start ≤ k.limit = subst (λ (l : List ℕ). length l - start ≤ k.limit) read (subst (λ (n : ℕ). length new.past.read - start ≤ n) limit short) in
          let was-short : length k.past.read - k.reader.start ≤ k.limit = omega (arith, now-short, was.1, length-append k.past.read part) in
          now.1 (fitting now-short)
          ∙ ap (λ (l : List ℕ). l ++ part) (held.bytes was-short ∙ ap (λ (n : ℕ). drop n k.past.read) (sym was.1))
          ∙ sym (drop-append-le start k.past.read part inside) ∙ ap (drop start) (sym read);
    }
holds-more k new part begun start fits here kept (inr low) read limit starts fitting =
    let now = starts.1 (omega (arith, low, here)) in
    let n = start - begun in
    let count : start ≡ length k.past.read + n = omega (arith, low, kept.read.at, here) in
    record {
      from =
          now.0 ∙ ap (λ (p : Position). moved_over p (take n part)) kept.at ∙ behind-more k.past.read (take n part)
          ∙ ap position_behind (sym (take-append-add k.past.read part n) ∙ ap (λ (m : ℕ). take m (k.past.read ++ part)) (sym count) ∙ ap (take start) (sym read));
      bytes = λ short.
          let now-short : length (k.past.read ++ part) - start ≤ k.limit = subst (λ (l : List ℕ). length l - start ≤ k.limit) read (subst (λ (m : ℕ). length new.past.read - start ≤ m) limit short) in
          now.1 (fitting now-short)
          ∙ sym (drop-append-add k.past.read part n) ∙ ap (λ (m : ℕ). drop m (k.past.read ++ part)) (sym count) ∙ ap (drop start) (sym read);
    }

holds-if : (new : KeptTags) (m : Bool) → may_be_tag new.reader.state ≡ m → HoldsFrom new (if m then new.reader.start else new.reader.at)
    → may_be_tag new.reader.state ≡ true → HoldsFrom new new.reader.start
holds-if new true e h m = h
holds-if new false e h m = cc

pub kept-open : (new : KeptTags) (tag : Option Tag) → HoldsFrom new (start_of new.reader tag) → IfSome tag (λ tag. may_be_tag new.reader.state ≡ false)
    → may_be_tag new.reader.state ≡ true → HoldsFrom new new.reader.start
kept-open new None h none m = holds-if new (may_be_tag new.reader.state) refl h m
kept-open new (Some tag) h none m = cc

-- a part more was read, and kept from the start of its tag, or of one that isn't whole, on
pub kept-more : (k new : KeptTags) (part : List ℕ) (tag : Option Tag) → IsKept k → HasRead (k.past.read ++ part) (after k.reader part)
    → new.reader ≡ after k.reader part → new.past.read ≡ k.past.read ++ part → new.at ≡ moved_over k.at part
    → HoldsFrom new (start_of new.reader tag) → IfSome tag (λ tag. may_be_tag new.reader.state ≡ false) → IsKept new
kept-more k new part tag kept has reader read at holds none = record {
  read = subst (HasRead new.past.read) (sym reader) (subst (λ (l : List ℕ). HasRead l (after k.reader part)) (sym read) has);
  at = at ∙ ap (λ (p : Position). moved_over p part) kept.at ∙ behind-more k.past.read part ∙ ap position_behind (sym read);
  holds = kept-open new tag holds none;
}

abbrev pub ReadsOn : Type 0
ReadsOn = (before bytes : List ℕ) (r : TagReader) → HasRead before r → HasRead (before ++ bytes) (after r bytes)

abbrev pub TagsStand : Type 0
TagsStand = (before bytes : List ℕ) (r : TagReader) → HasRead before r → StandApart (before ++ bytes) (needed_from r) (tags_from r bytes)

-- a part was read, to a tag that ends it or to its end
pub record PartRead (k : KeptTags) (part : List ℕ) (tag : Option Tag) (q : TagReader) : Type 0 where
  pub has : HasRead (k.past.read ++ part) q
  pub stands : IfSome tag (StandsFrom (k.past.read ++ part) 0)
  pub ordered : IfSome tag (λ tag. tag.start ≤ tag.end)
  pub within : start_of q tag ≤ q.at
  pub begins : Begins k.reader (start_of q tag)
  pub none : IfSome tag (λ tag. may_be_tag q.state ≡ false)
  pub at : q.at ≡ k.reader.at + length part
  pub lines : k.at.line_ends ≤ k.reader.at
  pub columns : k.at.column ≤ k.reader.at

part-after : ReadsOn → TagsStand → GoOn → EndsOpen → (k : KeptTags) (part : List ℕ) (tag : Option Tag) → IsKept k
    → with_some tag [] ≡ tags_from k.reader part → IfSome tag (λ tag. tag.end ≡ (after k.reader part).at) → PartRead k part tag (after k.reader part)
part-after on stand go ends k part tag kept tags last =
    let read = k.past.read ++ part in
    let has : HasRead read (after k.reader part) = on k.past.read part k.reader kept.read in
    let stands : IfSome tag (StandsFrom read 0) =
    stands-tag read (needed_from k.reader) tag (subst (StandApart read (needed_from k.reader)) (sym tags) (stand k.past.read part k.reader kept.read)) in
    record {
      has = has;
      stands = stands;
      ordered = orders-tag read tag stands;
      within = start-within read (after k.reader part) tag has stands last;
      begins = begins-at go ends k.reader part tag tags last;
      none = none-unfinished ends k.reader part tag tags last;
      at = at-after k.reader part;
      lines = let h = lines-within origin k.past.read in omega (arith, ap (λ (p : Position). p.line_ends) kept.at, h, kept.read.at);
      columns = let h = columns-within origin k.past.read in omega (arith, ap (λ (p : Position). p.column) kept.at, h, kept.read.at);
    }

pub part-read : ReadsOn → TagsStand → GoOn → EndsOpen → (k : KeptTags) (part : List ℕ) (tag : Option Tag) (q : TagReader) → IsKept k
    → q ≡ after k.reader part → with_some tag [] ≡ tags_from k.reader part → IfSome tag (λ tag. tag.end ≡ q.at) → PartRead k part tag q
part-read on stand go ends k part tag q kept e tags last =
    subst (PartRead k part tag) (sym e)
    (part-after on stand go ends k part tag kept tags (subst (λ (x : TagReader). IfSome tag (λ tag. tag.end ≡ x.at)) e last))

pub room-of : (n m : ℕ) → (n ≤ m → false ≡ true) → m < n
room-of n m h = let no : n ≤ m → ⊥ = λ e. (let x = h e in cc) in omega (arith, no)

not-long : (a b : ℕ) → (a < b → ⊥) → b ≤ a
not-long a b h = omega (arith, h)

-- the tag's bytes
pub holds-tag : (new : KeptTags) (read : List ℕ) (tag : Option Tag) (limit : ℕ) → new.past.read ≡ read → new.limit ≡ limit → new.reader.at ≡ length read
    → IfSome tag (StandsFrom read 0) → IfSome tag (λ tag. tag.end ≡ new.reader.at) → HoldsFrom new (start_of new.reader tag)
    → (IsLong limit (with_some tag []) → ⊥) → IfSome tag (HoldsTag new)
holds-tag new read None limit e f at stands last holds short = tt
holds-tag new read (Some tag) limit e f at stands last holds short =
    let size : length new.past.read - tag.start ≤ new.limit =
    omega (arith, not-long limit (tag.end - tag.start) short, f, ap length e, at, last) in
    record {
      stands = subst (λ (l : List ℕ). StandsFrom l 0 tag) (sym e) stands;
      last = last;
      text = holds.bytes size;
      from = holds.from;
    }

fits-if : (k : KeptTags) (part : List ℕ) (q : TagReader) (place start : ℕ) → HasRead (k.past.read ++ part) q → place ≡ q.at
    → length (k.past.read ++ part) - start ≤ k.limit → leb (place - start) k.limit ≡ true
fits-if k part q place start has here short = le-leb (place - start) k.limit (omega (arith, short, here, has.at))

-- what is kept behind a part
pub next-holds : (k new : KeptTags) (part : List ℕ) (tag : Option Tag) (q : TagReader) (begun place start : ℕ) → IsKept k → PartRead k part tag q
    → begun ≡ k.reader.at → place ≡ q.at → start ≡ start_of q tag → new.past.read ≡ k.past.read ++ part → new.limit ≡ k.limit → new.reader ≡ q
    → Starts k new part begun start (leb (place - start) k.limit) → HoldsFrom new (start_of new.reader tag)
next-holds k new part tag q begun place start kept p here end from read limit reader starts =
    subst (λ (r : TagReader). HoldsFrom new (start_of r tag)) (sym reader)
    (subst (HoldsFrom new) from
    (holds-more k new part begun start (leb (place - start) k.limit) here kept (subst (Begins k.reader) (sym from) p.begins) read limit starts
    (fits-if k part q place start p.has end)))

pub next-kept : (k new : KeptTags) (part : List ℕ) (tag : Option Tag) (q : TagReader) → IsKept k → PartRead k part tag q → q ≡ after k.reader part
    → new.past.read ≡ k.past.read ++ part → new.reader ≡ q → new.at ≡ moved_over k.at part → HoldsFrom new (start_of new.reader tag) → IsKept new
next-kept k new part tag q kept p is read reader at holds =
    kept-more k new part tag kept (subst (HasRead (k.past.read ++ part)) is p.has) (reader ∙ is) read at holds
    (subst (λ (r : TagReader). IfSome tag (λ _. may_be_tag r.state ≡ false)) (sym reader) p.none)

told-state : (k : KeptTags) (foreign : Bool) → IsKept k → may_be_tag (told_foreign foreign k.reader).state ≡ true → HoldsFrom k (told_foreign foreign k.reader).start
unfolding may_be_tag
told-state k true kept m = cc
told-state k false kept m = kept.holds m

-- The reader is told of a foreign element: the same is kept.
pub told-kept : (k : KeptTags) (r : TagReader) (foreign : Bool) → IsKept k → r ≡ told_foreign foreign k.reader → HasRead k.past.read (told_foreign foreign k.reader)
    → IsKept (record { reader = r; bytes = k.bytes; from = k.from; at = k.at; limit = k.limit; past = k.past })
told-kept k r foreign kept e has =
    let P : TagReader → Type 0 = λ x. IsKept (record { reader = x; bytes = k.bytes; from = k.from; at = k.at; limit = k.limit; past = k.past }) in
    subst P (sym e) (record {
      read = has;
      at = kept.at;
      holds = λ m. (let h = told-state k foreign kept m in record { from = h.from; bytes = h.bytes });
    })

-- the line and the column of a tag
pub tag-lines : (k : KeptTags) (tag : Tag) → HoldsTag k tag → k.from.line_ends + 1 ≤ k.reader.at
tag-lines k tag h =
    let lines = lines-within origin (take tag.start k.past.read) in
    let size = length-take tag.start k.past.read in
    let low = name-behind tag.start tag.is_end in
    omega (arith, ap (λ (p : Position). p.line_ends) h.from, lines, size, low, h.stands.named, h.stands.some, h.last)

pub tag-columns : (k : KeptTags) (tag : Tag) → HoldsTag k tag → k.from.column + 1 ≤ k.reader.at
tag-columns k tag h =
    let columns = columns-within origin (take tag.start k.past.read) in
    let size = length-take tag.start k.past.read in
    let low = name-behind tag.start tag.is_end in
    omega (arith, ap (λ (p : Position). p.column) h.from, columns, size, low, h.stands.named, h.stands.some, h.last)
