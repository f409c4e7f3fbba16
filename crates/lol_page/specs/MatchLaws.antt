-- The matches of a page's parts, one after the other.
use Rattle.std.proofs.Common.{ℕ, suc, ◌≡◌, Bool, List, [], ◌∷◌, ◌++◌, length, take, drop, Option, Some, None, refl, sym, ap, subst, ◌∙◌, append_assoc}
use Rattle.std.proofs.lemmas.List.{append-nil}
use Rattle.std.proofs.lemmas.List.Sums.{fold-append}
use Rattle.std.proofs.Math.Seq.{take-append_seam, drop-append_seam}
use Rattle.lol_program.specs.Paths.{Selectors}
use Rattle.lol_tags.specs.Reading.{ended}
use Rattle.lol_tags.specs.Runs.{with_some, run-append, given-append}
use Rattle.lol_tags.specs.declared.reader.Tag.{Tag}
use Rattle.lol_machine.specs.Answers.{after, answers_from, document, document_from}
use Rattle.lol_machine.specs.AnswerLaws.{answers_append}
use Rattle.lol_machine.specs.Documents.{Document, empty}
use Rattle.lol_machine.specs.Events.{Event}
use Rattle.lol_machine.specs.Views.{selectors}
use Rattle.lol_matcher.specs.Told.{Told, heard}
use Rattle.lol_page.specs.PageTags.{PageTag}
use Rattle.lol_page.specs.Pages as pages
use Rattle.lol_page.specs.Pages.{behind, moved, page_step, page_ended, page_after, page_tags_from, events_of, events_of_tags}
use Rattle.lol_page.specs.Readings.{doubts_after, doubts_more}
use Rattle.lol_page.specs.PageMatches.{HearsOn, PageMatch, ReadsOn, match_if, matched_of, matches_by, matches_told}
use Rattle.lol_page.specs.declared.page.Page.{Page}

pub events_append : (decoded : Bool) (xs ys : List PageTag) → events_of_tags decoded (xs ++ ys) ≡ events_of_tags decoded xs ++ events_of_tags decoded ys
events_append decoded [] ys = refl
events_append decoded (x ∷ xs) ys =
    ap (λ (l : List Event). events_of decoded x ++ l) (events_append decoded xs ys)
    ∙ sym (append_assoc (events_of decoded x) (events_of_tags decoded xs) (events_of_tags decoded ys))

-- A page keeps its setting.
behind_decoded : (p : pages.Page) (tag : Option Tag) → (behind p tag).decoded ≡ p.decoded
behind_decoded p None = refl
behind_decoded p (Some tag) = refl

step_decoded : (p : pages.Page) (b : ℕ) → (page_step p b).decoded ≡ p.decoded
unfolding page_step
step_decoded p b = behind_decoded (moved p b) (ended p.reader b)

pub stays_decoded : (p : pages.Page) (bytes : List ℕ) → (page_after p bytes).decoded ≡ p.decoded
stays_decoded p [] = refl
stays_decoded p (b ∷ bytes) = stays_decoded (page_step p b) bytes ∙ step_decoded p b

with_append : (x : Option PageMatch) (xs ys : List PageMatch) → with_some x (xs ++ ys) ≡ with_some x xs ++ ys
with_append None xs ys = refl
with_append (Some x) xs ys = refl

module _ (s : Selectors) (esi decoded : Bool) where
  document_append : (d : Document) (xs ys : List Event) → document_from s esi d (xs ++ ys) ≡ document_from s esi (document_from s esi d xs) ys
  document_append d [] ys = refl
  document_append d (x ∷ xs) ys = document_append (after s esi d x) xs ys

  answers_length : (d : Document) (events : List Event) → length (answers_from s esi d events) ≡ length events
  answers_length d [] = refl
  answers_length d (x ∷ events) = ap (λ (n : ℕ). suc n) (answers_length (after s esi d x) events)

  pub matches_step : (d : Document) (tag : PageTag) (tags : List PageTag) (events : List Event)
      → matches_by decoded (tag ∷ tags) (answers_from s esi d (events_of decoded tag ++ events))
      ≡ with_some (match_if tag (matched_of (answers_from s esi d (events_of decoded tag)))) (matches_by decoded tags (answers_from s esi (document_from s esi d (events_of decoded tag)) events))
  matches_step d tag tags events =
      let own = events_of decoded tag in
      let first = answers_from s esi d own in
      let more = answers_from s esi (document_from s esi d own) events in
      let whole : answers_from s esi d (own ++ events) ≡ first ++ more = answers_append s esi d own events in
      let many : length own ≡ length first = sym (answers_length d own) in
      let taken : take (length own) (answers_from s esi d (own ++ events)) ≡ first = (λ i. take (many i) (whole i)) ∙ take-append_seam first more in
      let left : drop (length own) (answers_from s esi d (own ++ events)) ≡ more = (λ i. drop (many i) (whole i)) ∙ drop-append_seam first more in
      λ i. with_some (match_if tag (matched_of (taken i))) (matches_by decoded tags (left i))

  matches_append : (d : Document) (xs ys : List PageTag)
      → matches_by decoded (xs ++ ys) (answers_from s esi d (events_of_tags decoded (xs ++ ys)))
      ≡ matches_by decoded xs (answers_from s esi d (events_of_tags decoded xs)) ++ matches_by decoded ys (answers_from s esi (document_from s esi d (events_of_tags decoded xs)) (events_of_tags decoded ys))
  matches_append d [] ys = refl
  matches_append d (x ∷ xs) ys =
      let next = document_from s esi d (events_of decoded x) in
      let first = match_if x (matched_of (answers_from s esi d (events_of decoded x))) in
      matches_step d x (xs ++ ys) (events_of_tags decoded (xs ++ ys))
      ∙ (ap (with_some first) (matches_append next xs ys)
      ∙ (with_append first (matches_by decoded xs (answers_from s esi next (events_of_tags decoded xs))) _
      ∙ (λ i. sym (matches_step d x xs (events_of_tags decoded xs)) i ++ matches_by decoded ys (answers_from s esi (sym (document_append d (events_of decoded x) (events_of_tags decoded xs)) i) (events_of_tags decoded ys)))))

-- The matches of tags that are told in two parts are those of the first part, and then those of the second.
pub matches_on : (decoded : Bool) (old new : Told) (xs ys : List PageTag) → HearsOn old new (events_of_tags decoded xs)
    → matches_told decoded old (xs ++ ys) ≡ matches_told decoded old xs ++ matches_told decoded new ys
matches_on decoded old new xs ys on =
    let s = selectors old.ast in
    let document_is : document (selectors new.ast) new.esi (heard new) ≡ document_from s old.esi (document s old.esi (heard old)) (events_of_tags decoded xs) =
    (λ i. document (selectors (on.ast i)) (on.esi i) (on.heard_is i)) ∙ document_append s old.esi decoded empty (heard old) (events_of_tags decoded xs) in
    matches_append s old.esi decoded (document s old.esi (heard old)) xs ys
    ∙ (λ i. matches_told decoded old xs ++ matches_by decoded ys (answers_from (selectors (sym on.ast i)) (sym on.esi i) (sym document_is i) (events_of_tags decoded ys)))

hears_nothing : (t : Told) → HearsOn t t []
hears_nothing t = record { ast = refl; esi = refl; heard_is = sym (append-nil (heard t)) }

hears_both : (first next last : Told) (xs ys : List Event) → HearsOn first next xs → HearsOn next last ys → HearsOn first last (xs ++ ys)
hears_both first next last xs ys one two = record {
  ast = two.ast ∙ one.ast;
  esi = two.esi ∙ one.esi;
  heard_is = two.heard_is ∙ (ap (λ l. l ++ ys) one.heard_is ∙ append_assoc (heard first) xs ys);
}

-- Pages that are read on: by nothing, and by bytes and more of them.
module _ {T : Type 0} where
  pub reads_nothing : (p : Page T) → ReadsOn p p []
  reads_nothing p = record {
    page = refl;
    told = hears_nothing p.matcher.told;
    doubts = refl;
    reader_failed = refl;
    matcher_failed = refl;
    max_tag_bytes = refl;
    max_memory = refl;
    element_bytes = refl;
  }

  module _ (p q : Page T) (xs ys : List ℕ) (first : ReadsOn p q xs) where
    tags_both : page_tags_from p.reader.page (xs ++ ys) ≡ page_tags_from p.reader.page xs ++ page_tags_from q.reader.page ys
    tags_both =
        given-append page_step page_ended p.reader.page xs ys
        ∙ ap (λ (x : pages.Page). page_tags_from p.reader.page xs ++ page_tags_from x ys) (sym first.page)

    -- the setting of the page that was read on
    decoded_is : q.reader.page.decoded ≡ p.reader.page.decoded
    decoded_is = ap (λ (x : pages.Page). x.decoded) first.page ∙ stays_decoded p.reader.page xs

    pub reads_both : (r : Page T) → ReadsOn q r ys → ReadsOn p r (xs ++ ys)
    reads_both r then =
        let decoded = p.reader.page.decoded in
        let tags = page_tags_from p.reader.page xs in
        let more = page_tags_from q.reader.page ys in
        record {
          page = then.page ∙ ap (λ (x : pages.Page). page_after x ys) first.page ∙ sym (run-append page_step p.reader.page xs ys);
          told = subst (λ events. HearsOn p.matcher.told r.matcher.told events) (sym (ap (events_of_tags decoded) tags_both ∙ events_append decoded tags more))
              (hears_both p.matcher.told q.matcher.told r.matcher.told (events_of_tags decoded tags) (events_of_tags decoded more) first.told
              (subst (λ (d : Bool). HearsOn q.matcher.told r.matcher.told (events_of_tags d more)) decoded_is then.told));
          doubts =
              then.doubts ∙ ap (λ d. doubts_after d more) first.doubts ∙ sym (fold-append doubts_more p.reader.doubts tags more)
              ∙ ap (doubts_after p.reader.doubts) (sym tags_both);
          reader_failed = then.reader_failed ∙ first.reader_failed;
          matcher_failed = then.matcher_failed ∙ first.matcher_failed;
          max_tag_bytes = then.max_tag_bytes ∙ first.max_tag_bytes;
          max_memory = then.max_memory ∙ first.max_memory;
          element_bytes = then.element_bytes ∙ first.element_bytes;
        }

    -- their matches
    pub matches_both : matches_told p.reader.page.decoded p.matcher.told (page_tags_from p.reader.page (xs ++ ys))
        ≡ matches_told p.reader.page.decoded p.matcher.told (page_tags_from p.reader.page xs)
        ++ matches_told q.reader.page.decoded q.matcher.told (page_tags_from q.reader.page ys)
    matches_both =
        let decoded = p.reader.page.decoded in
        let tags = page_tags_from p.reader.page xs in
        let more = page_tags_from q.reader.page ys in
        ap (matches_told decoded p.matcher.told) tags_both ∙ matches_on decoded p.matcher.told q.matcher.told tags more first.told
        ∙ ap (λ (d : Bool). matches_told decoded p.matcher.told tags ++ matches_told d q.matcher.told more) (sym decoded_is)
