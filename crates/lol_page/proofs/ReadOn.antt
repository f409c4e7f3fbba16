-- What a part more adds to a page.
use Rattle.std.proofs.Common.{◌≡◌, ℕ, ◌+◌, ◌-◌, List, [], ◌∷◌, ◌++◌, Option, Some, None, length, take, drop, refl, sym, ◌∙◌, ap, subst, arith, append_assoc, length-append, length-drop, take-append-drop, take_all}
use Rattle.std.specs.Option.{option_map}
use Rattle.std.proofs.lemmas.List.{append-nil}
use Rattle.lol_tags.specs.Reading.{step, ended, after, tags_from}
use Rattle.lol_tags.specs.Runs.{with_some, run-append, given-append}
use Rattle.lol_tags.specs.declared.reader.Tag.{Tag}
use Rattle.lol_tags.specs.declared.reader.TagReader.{TagReader}
use Rattle.lol_page.specs.Keeping.{IsLong}
use Rattle.lol_page.specs.PageTags.{PageTag}
use Rattle.lol_page.specs.Pages.{Page, read_on, moved, behind, behind_tag, page_tag, page_step, page_ended, page_after, page_tags_from}
use Rattle.lol_page.specs.Readings.{FirstIsLonger}
use Rattle.lol_page.specs.declared.error.PageReadError.{PageReadError}
use Rattle.lol_page.specs.declared.error.PageReadError.TheVariants.{PageTooLong, TagTooLong, Ambiguous, Memory, Failed}
use Rattle.lol_page.proofs.Tape.{last-tag, none-first, at-step, ended-tag}

-- 1. One byte

pub step-none : (p : Page) (b : ℕ) → ended p.reader b ≡ None → page_step p b ≡ moved p b
unfolding page_step
step-none p b e = ap (behind (moved p b)) e

pub ended-none : (p : Page) (b : ℕ) → ended p.reader b ≡ None → page_ended p b ≡ None
unfolding page_ended
ended-none p b e = ap (option_map (page_tag (moved p b))) e

pub step-some : (p : Page) (b : ℕ) (tag : Tag) → ended p.reader b ≡ Some tag → page_step p b ≡ behind_tag (moved p b) tag
unfolding page_step
step-some p b tag e = ap (behind (moved p b)) e

pub ended-some : (p : Page) (b : ℕ) (tag : Tag) → ended p.reader b ≡ Some tag → page_ended p b ≡ Some (page_tag (moved p b) tag)
unfolding page_ended
ended-some p b tag e = ap (option_map (page_tag (moved p b))) e

-- 2. Bytes that end no tag

on-nothing : (p : Page) → p ≡ read_on p p.reader []
on-nothing p = ap (λ (l : List ℕ). record { reader = p.reader; read = l; elements = p.elements; decoded = p.decoded }) (sym (append-nil p.read))

on-more : (p : Page) (r q : TagReader) (b : ℕ) (bytes : List ℕ) → read_on (read_on p r (b ∷ [])) q bytes ≡ read_on p q (b ∷ bytes)
on-more p r q b bytes = ap (λ (l : List ℕ). record { reader = q; read = l; elements = p.elements; decoded = p.decoded }) (append_assoc p.read (b ∷ []) bytes)

pub quiet-after : (p : Page) (bytes : List ℕ) → tags_from p.reader bytes ≡ [] → page_after p bytes ≡ read_on p (after p.reader bytes) bytes
quiet-after p [] e = on-nothing p
quiet-after p (b ∷ bytes) e =
    let first = none-first p.reader b bytes e in
    ap (λ (q : Page). page_after q bytes) (step-none p b first.0)
    ∙ quiet-after (moved p b) bytes first.1
    ∙ on-more p (step p.reader b) (after (step p.reader b) bytes) b bytes

pub quiet-tags : (p : Page) (bytes : List ℕ) → tags_from p.reader bytes ≡ [] → page_tags_from p bytes ≡ []
quiet-tags p [] e = refl
quiet-tags p (b ∷ bytes) e =
    let first = none-first p.reader b bytes e in
    ap (λ (o : Option PageTag). with_some o (page_tags_from (page_step p b) bytes)) (ended-none p b first.0)
    ∙ ap (λ (q : Page). page_tags_from q bytes) (step-none p b first.0)
    ∙ quiet-tags (moved p b) bytes first.1

-- 3. Bytes that a tag ends

moved-to : (p : Page) (before : List ℕ) (b : ℕ) → moved (read_on p (after p.reader before) before) b ≡ read_on p (after p.reader (before ++ b ∷ [])) (before ++ b ∷ [])
moved-to p before b =
    ap (λ (l : List ℕ). record { reader = step (after p.reader before) b; read = l; elements = p.elements; decoded = p.decoded }) (append_assoc p.read before (b ∷ []))
    ∙ ap (λ (r : TagReader). record { reader = r; read = p.read ++ (before ++ b ∷ []); elements = p.elements; decoded = p.decoded }) (sym (run-append step p.reader before (b ∷ [])))

tag-after-last : (p : Page) (before : List ℕ) (b : ℕ) (tag : Tag) → tags_from p.reader before ≡ [] → ended (after p.reader before) b ≡ Some tag
    → page_after p (before ++ b ∷ []) ≡ behind_tag (read_on p (after p.reader (before ++ b ∷ [])) (before ++ b ∷ [])) tag
tag-after-last p before b tag none e =
    run-append page_step p before (b ∷ [])
    ∙ ap (λ (q : Page). page_step q b) (quiet-after p before none)
    ∙ step-some (read_on p (after p.reader before) before) b tag e
    ∙ ap (λ (q : Page). behind_tag q tag) (moved-to p before b)

tag-tags-last : (p : Page) (before : List ℕ) (b : ℕ) (tag : Tag) → tags_from p.reader before ≡ [] → ended (after p.reader before) b ≡ Some tag
    → page_tags_from p (before ++ b ∷ []) ≡ page_tag (read_on p (after p.reader (before ++ b ∷ [])) (before ++ b ∷ [])) tag ∷ []
tag-tags-last p before b tag none e =
    given-append page_step page_ended p before (b ∷ [])
    ∙ ap (λ (tags : List PageTag). tags ++ with_some (page_ended (page_after p before) b) []) (quiet-tags p before none)
    ∙ ap (λ (q : Page). with_some (page_ended q b) []) (quiet-after p before none)
    ∙ ap (λ (o : Option PageTag). with_some o []) (ended-some (read_on p (after p.reader before) before) b tag e)
    ∙ ap (λ (q : Page). page_tag q tag ∷ []) (moved-to p before b)

pub tag-after : (p : Page) (bytes : List ℕ) (tag : Tag) → tags_from p.reader bytes ≡ tag ∷ [] → tag.end ≡ (after p.reader bytes).at
    → page_after p bytes ≡ behind_tag (read_on p (after p.reader bytes) bytes) tag
tag-after p bytes tag e end =
    let l = last-tag p.reader bytes tag e end in
    subst (λ (x : List ℕ). page_after p x ≡ behind_tag (read_on p (after p.reader x) x) tag) (sym l.whole) (tag-after-last p l.before l.last tag l.none l.ends_it)

pub tag-tags : (p : Page) (bytes : List ℕ) (tag : Tag) → tags_from p.reader bytes ≡ tag ∷ [] → tag.end ≡ (after p.reader bytes).at
    → page_tags_from p bytes ≡ page_tag (read_on p (after p.reader bytes) bytes) tag ∷ []
tag-tags p bytes tag e end =
    let l = last-tag p.reader bytes tag e end in
    subst (λ (x : List ℕ). page_tags_from p x ≡ page_tag (read_on p (after p.reader x) x) tag ∷ []) (sym l.whole) (tag-tags-last p l.before l.last tag l.none l.ends_it)

-- 4. The first tag of a chunk

size-of : (p : Page) (b : ℕ) (tag : Tag) → p.reader.at ≡ length p.read → ended p.reader b ≡ Some tag → length (page_tag (moved p b) tag).text ≡ tag.end - tag.start
size-of p b tag here e =
    let end : tag.end ≡ p.reader.at + 1 = ap (λ (t : Tag). t.end) (ended-tag p.reader b tag e) in
    let len : length (p.read ++ b ∷ []) ≡ length p.read + 1 = length-append p.read (b ∷ []) in
    length-drop tag.start (p.read ++ b ∷ []) ∙ omega (arith, end, len, here)

record Alike (limit : ℕ) (tags : List Tag) (page_tags : List PageTag) : Type 0 where
  longer : IsLong limit tags → FirstIsLonger limit page_tags
  shorter : FirstIsLonger limit page_tags → IsLong limit tags

alike-at : (limit : ℕ) (p : Page) (b : ℕ) (bytes : List ℕ) (o : Option Tag) → p.reader.at ≡ length p.read → ended p.reader b ≡ o
    → Alike limit (tags_from (step p.reader b) bytes) (page_tags_from (moved p b) bytes)
    → Alike limit (with_some o (tags_from (step p.reader b) bytes)) (page_tags_from p (b ∷ bytes))
alike-at limit p b bytes None here e more =
    let same : page_tags_from p (b ∷ bytes) ≡ page_tags_from (moved p b) bytes =
    ap (λ (o : Option PageTag). with_some o (page_tags_from (page_step p b) bytes)) (ended-none p b e)
    ∙ ap (λ (q : Page). page_tags_from q bytes) (step-none p b e) in
    subst (λ (tags : List PageTag). Alike limit (tags_from (step p.reader b) bytes) tags) (sym same) more
alike-at limit p b bytes (Some tag) here e more =
    let size = size-of p b tag here e in
    let same : page_tags_from p (b ∷ bytes) ≡ page_tag (moved p b) tag ∷ page_tags_from (page_step p b) bytes =
    ap (λ (o : Option PageTag). with_some o (page_tags_from (page_step p b) bytes)) (ended-some p b tag e) in
    subst (λ (tags : List PageTag). Alike limit (tag ∷ tags_from (step p.reader b) bytes) tags) (sym same)
    (record { longer = λ l. omega (arith, l, size); shorter = λ l. omega (arith, l, size) })

alike : (limit : ℕ) (p : Page) (bytes : List ℕ) → p.reader.at ≡ length p.read → Alike limit (tags_from p.reader bytes) (page_tags_from p bytes)
alike limit p [] here = record { longer = λ l. l; shorter = λ l. l }
alike limit p (b ∷ bytes) here =
    alike-at limit p b bytes (ended p.reader b) here refl
    (alike limit (moved p b) bytes (omega (arith, at-step p.reader b, length-append p.read (b ∷ []), here)))

pub long-page : (limit : ℕ) (p : Page) (bytes : List ℕ) → p.reader.at ≡ length p.read → IsLong limit (tags_from p.reader bytes) → FirstIsLonger limit (page_tags_from p bytes)
long-page limit p bytes here l = (alike limit p bytes here).longer l

pub short-page : (limit : ℕ) (p : Page) (bytes : List ℕ) → p.reader.at ≡ length p.read → FirstIsLonger limit (page_tags_from p bytes) → IsLong limit (tags_from p.reader bytes)
short-page limit p bytes here l = (alike limit p bytes here).shorter l

-- 5. What is read next

pub next-none : (p new : Page) (part : List ℕ) → new ≡ read_on p (after p.reader part) part → [] ≡ tags_from p.reader part → new ≡ page_after p part
next-none p new part e tags = e ∙ sym (quiet-after p part (sym tags))

pub next-some : (p q new : Page) (part : List ℕ) (tag : Tag) → q ≡ read_on p (after p.reader part) part → tag ∷ [] ≡ tags_from p.reader part
    → tag.end ≡ (after p.reader part).at → new ≡ behind_tag q tag → new ≡ page_after p part
next-some p q new part tag e tags last behind =
    behind ∙ ap (λ (x : Page). behind_tag x tag) e ∙ sym (tag-after p part tag (sym tags) last)

pub next-tag : (p q : Page) (part : List ℕ) (tag : Tag) (t : PageTag) → q ≡ read_on p (after p.reader part) part → tag ∷ [] ≡ tags_from p.reader part
    → tag.end ≡ (after p.reader part).at → t ≡ page_tag q tag → t ∷ [] ≡ page_tags_from p part
next-tag p q part tag t e tags last is =
    ap (λ (x : PageTag). x ∷ []) (is ∙ ap (λ (x : Page). page_tag x tag) e) ∙ sym (tag-tags p part tag (sym tags) last)

pub read-page : (p : Page) (r : TagReader) (read : List ℕ) (part : List ℕ) → r ≡ after p.reader part → read ≡ p.read ++ part
    → record { reader = r; read = read; elements = p.elements; decoded = p.decoded } ≡ read_on p (after p.reader part) part
read-page p r read part e f =
    ap (λ (x : TagReader). record { reader = x; read = read; elements = p.elements; decoded = p.decoded }) e
    ∙ ap (λ (l : List ℕ). record { reader = after p.reader part; read = l; elements = p.elements; decoded = p.decoded }) f

-- 6. The tags of a whole chunk, by those of its first bytes

pub first_of_part : (p : Page) (bytes : List ℕ) (n : ℕ) (t : PageTag) → t ∷ [] ≡ page_tags_from p (take n bytes)
    → page_tags_from p bytes ≡ t ∷ page_tags_from (page_after p (take n bytes)) (drop n bytes)
first_of_part p bytes n t first =
    let more = page_tags_from (page_after p (take n bytes)) (drop n bytes) in
    ap (page_tags_from p) (sym (take-append-drop n bytes)) ∙ given-append page_step page_ended p (take n bytes) (drop n bytes)
    ∙ ap (λ (l : List PageTag). l ++ more) (sym first)

pub none_in_whole : (p : Page) (bytes : List ℕ) (n : ℕ) → [] ≡ page_tags_from p (take n bytes) → n ≡ length bytes → [] ≡ page_tags_from p bytes
none_in_whole p bytes n none whole = none ∙ ap (page_tags_from p) (ap (λ (k : ℕ). take k bytes) whole ∙ take_all (length bytes) bytes (omega arith))

-- 7. Why a chunk is refused

-- what is known of the tags, as the reader's value has it
pub not_longer : (n limit : ℕ) (p q : Page) (bytes : List ℕ) → p.reader.at ≡ length p.read → n ≡ limit → p ≡ q → (IsLong n (tags_from p.reader bytes) → ⊥)
    → FirstIsLonger limit (page_tags_from q bytes) → ⊥
not_longer n limit p q bytes here same is short l =
    short (short-page n p bytes here (subst (λ (m : ℕ). FirstIsLonger m (page_tags_from p bytes)) (sym same)
    (subst (λ (x : Page). FirstIsLonger limit (page_tags_from x bytes)) (sym is) l)))

pub only-long : (e : PageReadError) (room long : Type 0) → (e ≡ PageTooLong → room → ⊥) → (e ≡ Memory → long → ⊥) → (e ≡ Ambiguous → ⊥) → (e ≡ Failed → ⊥) → room → long → e ≡ TagTooLong
only-long PageTooLong room long a b c d r l = absurd (a refl r)
only-long TagTooLong room long a b c d r l = refl
only-long Ambiguous room long a b c d r l = absurd (c refl)
only-long Memory room long a b c d r l = absurd (b refl l)
only-long Failed room long a b c d r l = absurd (d refl)
