-- Why tags stand apart, and each from a `<` to behind a `>`.
use Rattle.std.proofs.Common.{◌≡◌, ℕ, ◌+◌, ◌-◌, ◌≤◌, ◌<◌, List, [], ◌∷◌, ◌++◌, Some, None, ◌⊎◌, inl, inr, length, refl, sym, ◌∙◌, ap, subst, arith, append_assoc, length-append}
use Rattle.std.proofs.lemmas.Bool.{eqb-true}
use Rattle.std.proofs.lemmas.Option.{slice_get_within, slice_get-get_or, get_or_from_slice_get}
use Rattle.std.proofs.lemmas.List.{get_or_append_left, append-nil}
use Rattle.std.proofs.Math.Seq.{get_or-append_seam}
use Rattle.std.specs.Prelude.{Bool, true, false, cond, ◌==◌, ◌&&◌, ◌||◌, not, if◌then◌else◌, slice_get}
use Rattle.lol_tags.specs.States.{next, next_in_script, is_in_tag}
use Rattle.lol_tags.specs.Runs.{with_some}
use Rattle.lol_tags.specs.Reading.{fresh, step, ended, ends, tag_at, closed, advanced, is_named, is_script, noted, spelled, after, tags_from, may_be_tag, text_state, told_foreign}
use Rattle.lol_tags.specs.Places.{is_at_start, is_at_slash, has_name, name_start, HasRead, needed_from, GoesOn, StandsFrom, StandApart}
use Rattle.lol_tags.specs.declared.state.State.{State}
use Rattle.lol_tags.specs.declared.state.State.TheVariants.{Data, TagOpen, RawTextLessThanSign, ScriptDataEscapedLessThanSign, ScriptDataDoubleEscapedLessThanSign, ScriptDataDoubleEscapeEnd, TagName, RawTextEndTagName, ScriptDataEscapedEndTagName, EndTagOpen, RawTextEndTagOpen, ScriptDataEscapedEndTagOpen}
use Rattle.lol_tags.specs.declared.reader.Tag.{Tag}
use Rattle.lol_tags.specs.declared.reader.TagReader.{TagReader}

-- the states that a `<` leads to, whose place is noted
unfoldable opens : State → Bool
opens TagOpen = true
opens RawTextLessThanSign = true
opens ScriptDataEscapedLessThanSign = true
opens ScriptDataDoubleEscapedLessThanSign = true
opens _ = false

-- A byte may lead to a state: by `<`, or to one in which no tag is open, or where one was open before.
unfoldable fits : Bool → ℕ → State → Bool
fits tag b s = cond (opens s) (b == 60) (cond (may_be_tag s) tag true)

either : (tag : Bool) (b : ℕ) (c : Bool) (x y : State) → fits tag b x ≡ true → fits tag b y ≡ true → fits tag b (if c then x else y) ≡ true
either tag b true x y p q = p
either tag b false x y p q = q

opening-at : (tag : Bool) (b : ℕ) (c : Bool) (x y : State) → (b == 60) ≡ c → opens x ≡ true → fits tag b y ≡ true → fits tag b (if c then x else y) ≡ true
unfolding fits
opening-at tag b true x y e o p = rw (o, e) refl
opening-at tag b false x y e o p = p

opening : (tag : Bool) (b : ℕ) (x y : State) → opens x ≡ true → fits tag b y ≡ true → fits tag b (if b == 60 then x else y) ≡ true
opening tag b x y o p = opening-at tag b (b == 60) x y refl o p

next-fits : (s : State) (b : ℕ) (named is_script foreign : Bool) → fits (may_be_tag s) b (next s b named is_script foreign) ≡ true
unfolding next next_in_script may_be_tag fits opens
next-fits Data b named is_script foreign = search (opening, either)
next-fits _ b named is_script foreign = search (opening, either)

fits-open : (tag : Bool) (b : ℕ) (s : State) → fits tag b s ≡ true → opens s ≡ true → b ≡ 60
unfolding fits
fits-open tag b s h o = eqb-true b 60 (rw o at h)

fits-kept : (tag : Bool) (b : ℕ) (s : State) → fits tag b s ≡ true → opens s ≡ false → may_be_tag s ≡ true → tag ≡ true
unfolding fits
fits-kept tag b s h o m = rw m at (rw o at h)

-- what is noted of the place of a `<`
opened-here : (s : State) (r : TagReader) (b : ℕ) → opens s ≡ true → (noted s r b).start ≡ r.at
unfolding opens noted
opened-here TagOpen r b e = refl
opened-here RawTextLessThanSign r b e = refl
opened-here ScriptDataEscapedLessThanSign r b e = refl
opened-here ScriptDataDoubleEscapedLessThanSign r b e = refl
opened-here _ r b e = cc

either-start : (r x y : TagReader) (c : Bool) → x.start ≡ r.start → y.start ≡ r.start → (if c then x else y).start ≡ r.start
either-start r x y true p q = p
either-start r x y false p q = q

opened-before : (s : State) (r : TagReader) (b : ℕ) → opens s ≡ false → (noted s r b).start ≡ r.start
unfolding opens noted
opened-before TagOpen r b e = cc
opened-before RawTextLessThanSign r b e = cc
opened-before ScriptDataEscapedLessThanSign r b e = cc
opened-before ScriptDataDoubleEscapedLessThanSign r b e = cc
opened-before ScriptDataDoubleEscapeEnd r b e = either-start r r (spelled r b) (b == 47) refl refl
opened-before _ r b e = refl

-- `>` in a tag
in-tag : (s : State) (named : Bool) → is_in_tag s named ≡ true → may_be_tag s ≡ true
unfolding is_in_tag may_be_tag
in-tag Data named e = cc
in-tag _ named e = search e

closes : (s : State) (named is_script foreign : Bool) → is_in_tag s named ≡ true → may_be_tag (next s 62 named is_script foreign) ≡ false
unfolding is_in_tag may_be_tag next next_in_script
closes Data named is_script foreign e = cc
closes _ named is_script foreign e = search e

either-none : (c : Bool) (x y : State) → may_be_tag x ≡ false → may_be_tag y ≡ false → may_be_tag (if c then x else y) ≡ false
either-none true x y p q = p
either-none false x y p q = q

text-none : (code : ℕ) (scripting : Bool) → may_be_tag (text_state code scripting) ≡ false
unfolding may_be_tag
text-none code scripting = search (either-none)

and_left : (a b : Bool) → (a && b) ≡ true → a ≡ true
and_left true b e = refl
and_left false b e = cc

and_right : (a b : Bool) → (a && b) ≡ true → b ≡ true
and_right true b e = e
and_right false b e = cc

or_cases : (a b : Bool) → (a || b) ≡ true → (a ≡ true) ⊎ (b ≡ true)
or_cases true b e = inl refl
or_cases false b e = inr e

-- the states of a tag's name
unfoldable spells : State → Bool
spells TagName = true
spells RawTextEndTagName = true
spells ScriptDataEscapedEndTagName = true
spells _ = false

-- A byte leads behind `</` from `<` alone, and into a name from there or from inside it.
unfoldable fits-slash : State → State → Bool
fits-slash from to = cond (is_at_slash to) (is_at_start from) true

unfoldable fits-name : State → State → Bool
fits-name from to = cond (has_name to) (has_name from || (spells to && (is_at_start from || is_at_slash from))) true

either-slash : (from : State) (c : Bool) (x y : State) → fits-slash from x ≡ true → fits-slash from y ≡ true → fits-slash from (if c then x else y) ≡ true
either-slash from true x y p q = p
either-slash from false x y p q = q

either-name : (from : State) (c : Bool) (x y : State) → fits-name from x ≡ true → fits-name from y ≡ true → fits-name from (if c then x else y) ≡ true
either-name from true x y p q = p
either-name from false x y p q = q

next-slash : (s : State) (b : ℕ) (named is_script foreign : Bool) → fits-slash s (next s b named is_script foreign) ≡ true
unfolding next next_in_script is_at_start is_at_slash fits-slash
next-slash Data b named is_script foreign = search either-slash
next-slash _ b named is_script foreign = search either-slash

next-name : (s : State) (b : ℕ) (named is_script foreign : Bool) → fits-name s (next s b named is_script foreign) ≡ true
unfolding next next_in_script may_be_tag is_at_start is_at_slash spells fits-name
next-name Data b named is_script foreign = search either-name
next-name _ b named is_script foreign = search either-name

slash-before : (from to : State) → fits-slash from to ≡ true → is_at_slash to ≡ true → is_at_start from ≡ true
unfolding fits-slash
slash-before from to h e = rw e at h

name-before : (from to : State) → fits-name from to ≡ true → has_name to ≡ true
    → (has_name from || (spells to && (is_at_start from || is_at_slash from))) ≡ true
unfolding fits-name
name-before from to h e = rw e at h

-- what is noted at these states
noted-start : (s : State) (r : TagReader) (b : ℕ) → is_at_start s ≡ true → ((noted s r b).start ≡ r.at) × ((noted s r b).is_end ≡ false)
unfolding is_at_start noted
noted-start TagOpen r b e = (refl, refl)
noted-start RawTextLessThanSign r b e = (refl, refl)
noted-start ScriptDataEscapedLessThanSign r b e = (refl, refl)
noted-start _ r b e = absurd (cc)

noted-slash : (s : State) (r : TagReader) (b : ℕ) → is_at_slash s ≡ true → noted s r b ≡ record r { is_end = true }
unfolding is_at_slash noted
noted-slash EndTagOpen r b e = refl
noted-slash RawTextEndTagOpen r b e = refl
noted-slash ScriptDataEscapedEndTagOpen r b e = refl
noted-slash _ r b e = cc

noted-name : (s : State) (r : TagReader) (b : ℕ) → spells s ≡ true → noted s r b ≡ spelled r b
unfolding spells noted
noted-name TagName r b e = refl
noted-name RawTextEndTagName r b e = refl
noted-name ScriptDataEscapedEndTagName r b e = refl
noted-name _ r b e = cc

noted-nothing : (s : State) (r : TagReader) (b : ℕ) → has_name s ≡ true → spells s ≡ false → noted s r b ≡ r
unfolding may_be_tag is_at_start is_at_slash spells noted
noted-nothing Data r b e f = cc
noted-nothing _ r b e f = search (e, f)

in-tag-named : (s : State) (named : Bool) → is_in_tag s named ≡ true → has_name s ≡ true
unfolding is_in_tag may_be_tag is_at_start is_at_slash
in-tag-named Data named e = cc
in-tag-named _ named e = search e

start-is-open : (s : State) → is_at_start s ≡ true → may_be_tag s ≡ true
unfolding is_at_start may_be_tag
start-is-open Data e = cc
start-is-open _ e = search e

slash-is-open : (s : State) → is_at_slash s ≡ true → may_be_tag s ≡ true
unfolding is_at_slash may_be_tag
slash-is-open Data e = cc
slash-is-open _ e = search e

-- 2. What has been read

get-left : (xs ys : List ℕ) (i x : ℕ) → slice_get xs i ≡ Some x → slice_get (xs ++ ys) i ≡ Some x
get-left xs ys i x e =
    let within = slice_get_within xs i x e in
    slice_get-get_or (xs ++ ys) i 0 (omega (arith, within, length-append xs ys))
    ∙ ap Some (get_or_append_left xs ys 0 i within ∙ get_or_from_slice_get xs i x 0 e)

get-seam : (xs : List ℕ) (x : ℕ) (ys : List ℕ) → slice_get (xs ++ x ∷ ys) (length xs) ≡ Some x
get-seam xs x ys =
    slice_get-get_or (xs ++ x ∷ ys) (length xs) 0 (omega (arith, length-append xs (x ∷ ys)))
    ∙ ap Some (get_or-append_seam xs x ys 0)

-- a byte that ends no tag
kept-open-at : (before : List ℕ) (r : TagReader) (b : ℕ) (s : State) (o : Bool) → opens s ≡ o → HasRead before r → fits (may_be_tag r.state) b s ≡ true → may_be_tag s ≡ true
    → slice_get (before ++ b ∷ []) (noted s r b).start ≡ Some 60
kept-open-at before r b s true o h f m =
    ap (slice_get (before ++ b ∷ [])) (opened-here s r b o ∙ h.at) ∙ get-seam before b [] ∙ ap Some (fits-open (may_be_tag r.state) b s f o)
kept-open-at before r b s false o h f m =
    ap (slice_get (before ++ b ∷ [])) (opened-before s r b o)
    ∙ get-left before (b ∷ []) r.start 60 (h.opened (fits-kept (may_be_tag r.state) b s f o m))

kept-open : (before : List ℕ) (r : TagReader) (b : ℕ) (s : State) → HasRead before r → fits (may_be_tag r.state) b s ≡ true → may_be_tag s ≡ true
    → slice_get (before ++ b ∷ []) (noted s r b).start ≡ Some 60
kept-open before r b s h f m = kept-open-at before r b s (opens s) refl h f m

-- a byte of a name, or behind it
spelled-named : (r : TagReader) (bytes : List ℕ) → HasRead bytes r → (has_name r.state ≡ true) ⊎ (is_at_start r.state ≡ true) ⊎ (is_at_slash r.state ≡ true)
    → name_start r.start r.is_end < r.at + 1
spelled-named r bytes h (inl e) = omega (arith, (h.named e).0, (h.named e).1)
spelled-named r bytes h (inr (inl e)) = rw (h.at_start e).1 (omega (arith, (h.at_start e).0))
spelled-named r bytes h (inr (inr e)) = rw (h.at_slash e).1 (omega (arith, (h.at_slash e).0))

Named : TagReader → ℕ → Type 0
Named r at = (name_start r.start r.is_end < r.name_end) × (r.name_end ≤ at)

advanced-named : (before : List ℕ) (r : TagReader) (b : ℕ) (s : State) (o : Bool) → spells s ≡ o → HasRead before r → fits-name r.state s ≡ true → has_name s ≡ true
    → Named (noted s r b) (r.at + 1)
unfolding Named
advanced-named before r b s true o h f e =
    let from = or_cases (has_name r.state) (spells s && (is_at_start r.state || is_at_slash r.state)) (name-before r.state s f e) in
    let low = spelled-named r before h (elim from [
      | inl x ↦ inl x
      | inr x ↦ inr (or_cases (is_at_start r.state) (is_at_slash r.state) (and_right (spells s) (is_at_start r.state || is_at_slash r.state) x))
    ]) in
    subst (λ (q : TagReader). Named q (r.at + 1)) (sym (noted-name s r b o)) (low, omega arith)
advanced-named before r b s false o h f e =
    let from = or_cases (has_name r.state) (spells s && (is_at_start r.state || is_at_slash r.state)) (name-before r.state s f e) in
    let was : has_name r.state ≡ true = elim from [ inl x ↦ x | inr x ↦ absurd (let y = and_left (spells s) (is_at_start r.state || is_at_slash r.state) x in cc) ] in
    subst (λ (q : TagReader). Named q (r.at + 1)) (sym (noted-nothing s r b e o)) ((h.named was).0, omega (arith, (h.named was).1))

advanced-slash : (before : List ℕ) (r : TagReader) (b : ℕ) (s : State) → HasRead before r → fits-slash r.state s ≡ true → is_at_slash s ≡ true
    → (r.at + 1 ≡ (noted s r b).start + 2) × ((noted s r b).is_end ≡ true)
advanced-slash before r b s h f e =
    let was = h.at_start (slash-before r.state s f e) in
    let P : TagReader → Type 0 = λ q. (r.at + 1 ≡ q.start + 2) × (q.is_end ≡ true) in
    subst P (sym (noted-slash s r b e)) (omega (arith, was.0), refl)

read-advanced : (before : List ℕ) (r : TagReader) (b : ℕ) → HasRead before r → HasRead (before ++ b ∷ []) (advanced r b)
unfolding Named
read-advanced before r b h =
    let s = next r.state b (is_named r) (is_script r) r.foreign in
    record {
      at = omega (arith, h.at, length-append before (b ∷ []));
      opened = λ m. kept-open before r b s h (next-fits r.state b (is_named r) (is_script r) r.foreign) m;
      at_start = λ e. (omega (arith, (noted-start s r b e).0), (noted-start s r b e).1);
      at_slash = λ e. advanced-slash before r b s h (next-slash r.state b (is_named r) (is_script r) r.foreign) e;
      named = λ e. advanced-named before r b s (spells s) refl h (next-name r.state b (is_named r) (is_script r) r.foreign) e;
    }

-- Where no tag is open nothing is said of one.
read-none : (bytes : List ℕ) (r : TagReader) → r.at ≡ length bytes → may_be_tag r.state ≡ false → HasRead bytes r
read-none bytes r at none = record {
  at = at;
  opened = λ m. absurd (cc);
  at_start = λ e. absurd (let open_tag = start-is-open r.state e in cc);
  at_slash = λ e. absurd (let open_tag = slash-is-open r.state e in cc);
  named = λ e. absurd (let open_tag = and_left (may_be_tag r.state) (not (is_at_start r.state || is_at_slash r.state)) e in cc);
}

either-none-state : (c : Bool) (x y : TagReader) → may_be_tag x.state ≡ false → may_be_tag y.state ≡ false → may_be_tag (if c then x else y).state ≡ false
either-none-state true x y p q = p
either-none-state false x y p q = q

either-at : (c : Bool) (r : TagReader) → (if c then r else record r { text_code = r.code; state = text_state r.code r.scripting }).at ≡ r.at
either-at true r = refl
either-at false r = refl

-- a byte that ends a tag leads to a state in which none is open
closed-none : (r : TagReader) → may_be_tag r.state ≡ false → may_be_tag (closed r).state ≡ false
closed-none r h = either-none-state r.is_end r (record r { text_code = r.code; state = text_state r.code r.scripting }) h (text-none r.code r.scripting)

closed-at : (r : TagReader) → (closed r).at ≡ r.at
closed-at r = either-at r.is_end r

ends-none : (r : TagReader) (b : ℕ) → ends r b ≡ true → may_be_tag (closed (advanced r b)).state ≡ false
ends-none r b e = closed-none (advanced r b) (
    let is : b ≡ 62 = eqb-true b 62 (and_left (b == 62) (is_in_tag r.state (is_named r)) e) in
    ap (λ (x : ℕ). may_be_tag (next r.state x (is_named r) (is_script r) r.foreign)) is
    ∙ closes r.state (is_named r) (is_script r) r.foreign (and_right (b == 62) (is_in_tag r.state (is_named r)) e))

read-at : (before : List ℕ) (r : TagReader) (b : ℕ) (e : Bool) → ends r b ≡ e → HasRead before r
    → HasRead (before ++ b ∷ []) (if e then closed (advanced r b) else advanced r b)
read-at before r b true e h =
    read-none (before ++ b ∷ []) (closed (advanced r b)) (closed-at (advanced r b) ∙ (read-advanced before r b h).at) (ends-none r b e)
read-at before r b false e h = read-advanced before r b h

read-step : (before : List ℕ) (r : TagReader) (b : ℕ) → HasRead before r → HasRead (before ++ b ∷ []) (step r b)
unfolding step
read-step before r b h = read-at before r b (ends r b) refl h

-- 3. Tags

stand-low : (bytes : List ℕ) (a b : ℕ) (tags : List Tag) → a ≤ b → StandApart bytes b tags → StandApart bytes a tags
stand-low bytes a b [] h s = tt
stand-low bytes a b (tag ∷ tags) h s =
    let first = s.0 in
    (record { low = omega (arith, h, first.low); named = first.named; some = first.some; opens = first.opens; closes = first.closes }, s.1)

needed-low : (before : List ℕ) (r : TagReader) (m : Bool) → may_be_tag r.state ≡ m → HasRead before r → (if m then r.start else r.at) ≤ r.at
needed-low before r true m h = omega (arith, slice_get_within before r.start 60 (h.opened m), h.at)
needed-low before r false m h = omega arith

needed-grows-at : (before : List ℕ) (r : TagReader) (b : ℕ) (s : State) (m o : Bool)
    → may_be_tag s ≡ m → opens s ≡ o → HasRead before r → fits (may_be_tag r.state) b s ≡ true
    → needed_from r ≤ (if m then (noted s r b).start else r.at + 1)
needed-grows-at before r b s false o m e h f = omega (arith, needed-low before r (may_be_tag r.state) refl h)
needed-grows-at before r b s true true m e h f = omega (arith, needed-low before r (may_be_tag r.state) refl h, opened-here s r b e)
needed-grows-at before r b s true false m e h f =
    let was = fits-kept (may_be_tag r.state) b s f e m in
    rw was (omega (arith, opened-before s r b e))

needed-grows : (before : List ℕ) (r : TagReader) (b : ℕ) → HasRead before r → needed_from r ≤ needed_from (advanced r b)
needed-grows before r b h =
    let s = next r.state b (is_named r) (is_script r) r.foreign in
    needed-grows-at before r b s (may_be_tag s) (opens s) refl refl h (next-fits r.state b (is_named r) (is_script r) r.foreign)

tag-stands : (before bytes : List ℕ) (r : TagReader) (b : ℕ) → ends r b ≡ true → HasRead before r → StandsFrom (before ++ b ∷ bytes) (needed_from r) (tag_at r)
tag-stands before bytes r b e h =
    let is : b ≡ 62 = eqb-true b 62 (and_left (b == 62) (is_in_tag r.state (is_named r)) e) in
    let open_tag : may_be_tag r.state ≡ true = in-tag r.state (is_named r) (and_right (b == 62) (is_in_tag r.state (is_named r)) e) in
    let named = h.named (in-tag-named r.state (is_named r) (and_right (b == 62) (is_in_tag r.state (is_named r)) e)) in
    let last : r.at + 1 - 1 ≡ length before = omega (arith, h.at) in
    record {
      low = rw open_tag (omega arith);
      named = named.0;
      some = omega (arith, named.1);
      opens = get-left before (b ∷ bytes) r.start 60 (h.opened open_tag);
      closes = ap (slice_get (before ++ b ∷ bytes)) last ∙ get-seam before b bytes ∙ ap Some is;
    }

stand-at : (before bytes : List ℕ) (r : TagReader) (b : ℕ) (e : Bool) → ends r b ≡ e → HasRead before r
    → StandApart (before ++ b ∷ bytes) (needed_from (if e then closed (advanced r b) else advanced r b)) (tags_from (if e then closed (advanced r b) else advanced r b) bytes)
    → StandApart (before ++ b ∷ bytes) (needed_from r) (with_some (if e then Some (tag_at r) else None) (tags_from (if e then closed (advanced r b) else advanced r b) bytes))
stand-at before bytes r b true e h others =
    let none = ends-none r b e in
    let past : r.at + 1 ≤ needed_from (closed (advanced r b)) = rw none (omega (arith, closed-at (advanced r b))) in
    (tag-stands before bytes r b e h, stand-low (before ++ b ∷ bytes) (r.at + 1) (needed_from (closed (advanced r b))) (tags_from (closed (advanced r b)) bytes) past others)
stand-at before bytes r b false e h others =
    stand-low (before ++ b ∷ bytes) (needed_from r) (needed_from (advanced r b)) (tags_from (advanced r b) bytes) (needed-grows before r b h) others

stand-step : (before bytes : List ℕ) (r : TagReader) (b : ℕ) → HasRead before r
    → StandApart (before ++ b ∷ bytes) (needed_from (step r b)) (tags_from (step r b) bytes)
    → StandApart (before ++ b ∷ bytes) (needed_from r) (tags_from r (b ∷ bytes))
unfolding step ended
stand-step before bytes r b h others = stand-at before bytes r b (ends r b) refl h others

pub stand-apart : (before bytes : List ℕ) (r : TagReader) → HasRead before r → StandApart (before ++ bytes) (needed_from r) (tags_from r bytes)
stand-apart before [] r h = tt
stand-apart before (b ∷ bytes) r h =
    stand-step before bytes r b h
    (let P : List ℕ → Type 0 = λ whole. StandApart whole (needed_from (step r b)) (tags_from (step r b) bytes) in
    subst P (append_assoc before (b ∷ []) bytes) (stand-apart (before ++ b ∷ []) bytes (step r b) (read-step before r b h)))

-- 4. Readers

pub read-fresh : (scripting : Bool) → HasRead [] (fresh scripting)
unfolding may_be_tag
read-fresh scripting = read-none [] (fresh scripting) refl refl

pub read-after : (before bytes : List ℕ) (r : TagReader) → HasRead before r → HasRead (before ++ bytes) (after r bytes)
read-after before [] r h = let P : List ℕ → Type 0 = λ whole. HasRead whole r in subst P (sym (append-nil before)) h
read-after before (b ∷ bytes) r h =
    let P : List ℕ → Type 0 = λ whole. HasRead whole (after (step r b) bytes) in
    subst P (append_assoc before (b ∷ []) bytes) (read-after (before ++ b ∷ []) bytes (step r b) (read-step before r b h))

pub read-told : (before : List ℕ) (foreign : Bool) (r : TagReader) → HasRead before r → HasRead before (told_foreign foreign r)
unfolding may_be_tag
read-told before true r h = read-none before (told_foreign true r) h.at refl
read-told before false r h = record { at = h.at; opened = h.opened; at_start = h.at_start; at_slash = h.at_slash; named = h.named }

-- 5. Unfinished tags

goes-on-at : (r : TagReader) (b : ℕ) (s : State) (o : Bool) → opens s ≡ o → fits (may_be_tag r.state) b s ≡ true → may_be_tag s ≡ true
    → ((may_be_tag r.state ≡ true) × ((noted s r b).start ≡ r.start)) ⊎ (r.at ≤ (noted s r b).start)
goes-on-at r b s true o f m = inr (omega (arith, opened-here s r b o))
goes-on-at r b s false o f m = inl (fits-kept (may_be_tag r.state) b s f o m, opened-before s r b o)

goes-on-if : (r : TagReader) (b : ℕ) (e : Bool) → ends r b ≡ e → GoesOn r (if e then closed (advanced r b) else advanced r b)
goes-on-if r b true e m = absurd (let none = ends-none r b e in cc)
goes-on-if r b false e m =
    let s = next r.state b (is_named r) (is_script r) r.foreign in
    goes-on-at r b s (opens s) refl (next-fits r.state b (is_named r) (is_script r) r.foreign) m

goes-on-step : (r : TagReader) (b : ℕ) → GoesOn r (step r b)
unfolding step
goes-on-step r b = goes-on-if r b (ends r b) refl

at-if : (r : TagReader) (b : ℕ) (e : Bool) → (if e then closed (advanced r b) else advanced r b).at ≡ r.at + 1
at-if r b true = closed-at (advanced r b)
at-if r b false = refl

at-step : (r : TagReader) (b : ℕ) → (step r b).at ≡ r.at + 1
unfolding step
at-step r b = at-if r b (ends r b)

goes-on-from : (r q new : TagReader) → q.at ≡ r.at + 1 → GoesOn r q → ((may_be_tag q.state ≡ true) × (new.start ≡ q.start)) ⊎ (q.at ≤ new.start)
    → ((may_be_tag r.state ≡ true) × (new.start ≡ r.start)) ⊎ (r.at ≤ new.start)
goes-on-from r q new at first (inl more) = elim (first more.0) [
  | inl was ↦ inl (was.0, more.1 ∙ was.1)
  | inr low ↦ inr (omega (arith, low, more.1))
]
goes-on-from r q new at first (inr low) = inr (omega (arith, at, low))

pub goes-on : (r : TagReader) (bytes : List ℕ) → GoesOn r (after r bytes)
goes-on r [] m = inl (m, refl)
goes-on r (b ∷ bytes) m = goes-on-from r (step r b) (after (step r b) bytes) (at-step r b) (goes-on-step r b) (goes-on (step r b) bytes m)

ends-at : (r : TagReader) (b : ℕ) (tag : Tag) (e : Bool) → ends r b ≡ e → (if e then Some (tag_at r) else None) ≡ Some tag
    → (may_be_tag r.state ≡ true) × (may_be_tag (if e then closed (advanced r b) else advanced r b).state ≡ false)
ends-at r b tag true e some =
    (in-tag r.state (is_named r) (and_right (b == 62) (is_in_tag r.state (is_named r)) e), ends-none r b e)
ends-at r b tag false e some = cc

pub ends-open : (r : TagReader) (b : ℕ) (tag : Tag) → ended r b ≡ Some tag → (may_be_tag r.state ≡ true) × (may_be_tag (step r b).state ≡ false)
unfolding step ended
ends-open r b tag some = ends-at r b tag (ends r b) refl some
