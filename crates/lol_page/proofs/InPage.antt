-- Where the tags of a page stand.
use Rattle.std.proofs.Common.{◌≡◌, ℕ, ◌+◌, ◌-◌, ◌≤◌, List, [], ◌∷◌, ◌++◌, Option, Some, None, length, take, drop, refl, sym, ◌∙◌, ap, subst, arith, append_assoc, length-append, length-drop}
use Rattle.std.specs.Prelude.{Bool, All, slice_range}
use Rattle.std.proofs.Math.Seq.{take-append_seam}
use Rattle.std.proofs.lemmas.List.{drop-append-le, take-append-le}
use Rattle.std.proofs.lemmas.List.Elements.{All-nil, All-cons}
use Rattle.lol_tags.specs.Places.{HasRead, StandsFrom, StandApart, needed_from}
use Rattle.lol_tags.specs.Reading.{step, ended, tags_from, told_foreign}
use Rattle.lol_tags.specs.Runs.{with_some}
use Rattle.lol_tags.specs.declared.reader.Tag.{Tag}
use Rattle.lol_tags.specs.declared.reader.TagReader.{TagReader}
use Rattle.lol_page.specs.Namespaces.{is_foreign}
use Rattle.lol_page.specs.PagePlaces.{StandsInPage}
use Rattle.lol_page.specs.PageTags.{PageTag}
use Rattle.lol_page.specs.Pages.{Page, moved, behind_tag, page_tag, page_step, page_tags_from}
use Rattle.lol_page.specs.Positions.{position_behind}
use Rattle.lol_page.proofs.ReadOn.{step-none, ended-none, step-some, ended-some}
use Rattle.lol_page.proofs.Tape.{ReadsOn, TagsStand, ended-tag, tag-within}

abbrev pub ToldStands : Type 0
ToldStands = (before : List ℕ) (foreign : Bool) (r : TagReader) → HasRead before r → HasRead before (told_foreign foreign r)

text-at : (read more : List ℕ) (start end : ℕ) → start ≤ end → end ≡ length read → drop start read ≡ slice_range (read ++ more) start end
text-at read more start end low e =
    let inside : start ≤ length read = omega (arith, low, e) in
    let size : length (drop start read) ≡ end - start = length-drop start read ∙ ap (λ (n : ℕ). n - start) (sym e) in
    sym (ap (take (end - start)) (drop-append-le start read more inside)
    ∙ ap (λ (n : ℕ). take n (drop start read ++ more)) (sym size) ∙ take-append_seam (drop start read) more)

tag-in : (p : Page) (b : ℕ) (bytes : List ℕ) (tag : Tag) → HasRead p.read p.reader → ended p.reader b ≡ Some tag → StandsFrom (p.read ++ b ∷ bytes) 0 tag
    → StandsInPage ((p.read ++ b ∷ []) ++ bytes) (page_tag (moved p b) tag)
tag-in p b bytes tag has e stands =
    let read = p.read ++ b ∷ [] in
    let whole : p.read ++ b ∷ bytes ≡ read ++ bytes = sym (append_assoc p.read (b ∷ []) bytes) in
    let here : StandsFrom (read ++ bytes) 0 tag = subst (λ (l : List ℕ). StandsFrom l 0 tag) whole stands in
    let low : tag.start ≤ tag.end = tag-within (read ++ bytes) tag here in
    let end : tag.end ≡ length read = omega (arith, ap (λ (t : Tag). t.end) (ended-tag p.reader b tag e), has.at, length-append p.read (b ∷ [])) in
    let inside : tag.start ≤ length read = omega (arith, low, end) in
    record {
      stands = here;
      text = text-at read bytes tag.start tag.end low end;
      line = ap (λ (l : List ℕ). (position_behind l).line_ends + 1) (sym (take-append-le tag.start read bytes inside));
      column = ap (λ (l : List ℕ). (position_behind l).column + 1) (sym (take-append-le tag.start read bytes inside));
    }

first-stands : TagsStand → (p : Page) (b : ℕ) (bytes : List ℕ) (tag : Tag) → HasRead p.read p.reader → ended p.reader b ≡ Some tag → StandsFrom (p.read ++ b ∷ bytes) 0 tag
first-stands stand p b bytes tag has e =
    let apart = stand p.read (b ∷ bytes) p.reader has in
    let first : StandApart (p.read ++ b ∷ bytes) (needed_from p.reader) (with_some (Some tag) (tags_from (step p.reader b) bytes)) =
    subst (λ (o : Option Tag). StandApart (p.read ++ b ∷ bytes) (needed_from p.reader) (with_some o (tags_from (step p.reader b) bytes))) e apart in
    record { low = omega arith; named = first.0.named; some = first.0.some; opens = first.0.opens; closes = first.0.closes }

abbrev AllStand : Page → List ℕ → Type 0
AllStand p bytes = All (StandsInPage (p.read ++ bytes)) (page_tags_from p bytes)

stand-at : TagsStand → ToldStands → (p : Page) (b : ℕ) (bytes : List ℕ) (o : Option Tag) → ended p.reader b ≡ o → HasRead p.read p.reader
    → HasRead (p.read ++ b ∷ []) (step p.reader b) → ((q : Page) → HasRead q.read q.reader → AllStand q bytes) → AllStand p (b ∷ bytes)
stand-at stand told p b bytes None e has on more =
    let tags : page_tags_from p (b ∷ bytes) ≡ page_tags_from (moved p b) bytes =
    ap (λ (o : Option PageTag). with_some o (page_tags_from (page_step p b) bytes)) (ended-none p b e)
    ∙ ap (λ (q : Page). page_tags_from q bytes) (step-none p b e) in
    subst (λ (l : List PageTag). All (StandsInPage (p.read ++ b ∷ bytes)) l) (sym tags)
    (subst (λ (l : List ℕ). All (StandsInPage l) (page_tags_from (moved p b) bytes)) (append_assoc p.read (b ∷ []) bytes) (more (moved p b) on))
stand-at stand told p b bytes (Some tag) e has on more =
    let q = behind_tag (moved p b) tag in
    let tags : page_tags_from p (b ∷ bytes) ≡ page_tag (moved p b) tag ∷ page_tags_from q bytes =
    ap (λ (o : Option PageTag). with_some o (page_tags_from (page_step p b) bytes)) (ended-some p b tag e)
    ∙ ap (λ (x : Page). page_tag (moved p b) tag ∷ page_tags_from x bytes) (step-some p b tag e) in
    subst (λ (l : List PageTag). All (StandsInPage (p.read ++ b ∷ bytes)) l) (sym tags)
    (subst (λ (l : List ℕ). All (StandsInPage l) (page_tag (moved p b) tag ∷ page_tags_from q bytes)) (append_assoc p.read (b ∷ []) bytes)
    (All-cons (StandsInPage ((p.read ++ b ∷ []) ++ bytes)) (page_tag (moved p b) tag) (page_tags_from q bytes)
    (tag-in p b bytes tag has e (first-stands stand p b bytes tag has e))
    (more q (told (p.read ++ b ∷ []) (is_foreign q.elements) (step p.reader b) on))))

all-stand : ReadsOn → TagsStand → ToldStands → (bytes : List ℕ) (p : Page) → HasRead p.read p.reader → AllStand p bytes
all-stand on stand told [] p has = All-nil (StandsInPage (p.read ++ []))
all-stand on stand told (b ∷ bytes) p has =
    stand-at stand told p b bytes (ended p.reader b) refl has (on p.read (b ∷ []) p.reader has) (all-stand on stand told bytes)

pub page-stands : ReadsOn → TagsStand → ToldStands → (p : Page) (bytes : List ℕ) → HasRead p.read p.reader → All (StandsInPage (p.read ++ bytes)) (page_tags_from p bytes)
page-stands on stand told p bytes has = all-stand on stand told bytes p has
