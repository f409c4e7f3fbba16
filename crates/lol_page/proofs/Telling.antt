-- What is told of a tag, and why it is refused.
use Rattle.std.proofs.Common.{◌≡◌, ℕ, ◌-◌, ◌^◌, ◌≤◌, ◌<◌, arith, false, true, refl, Bool, List, [], ◌∷◌, ◌++◌, length, take, drop, Option, Some, None, sym, ap, subst, ◌∙◌}
use Rattle.std.specs.Prelude.{IfSome, is_some, map}
use Rattle.lol_base.specs.StartTags.{Attribute, StartTag}
use Rattle.lol_base.specs.declared.namespace.Namespace.{Namespace}
use Rattle.lol_stack.specs.Calls.{IsCalledAtEach}
use Rattle.lol_tags.specs.Runs.{with_some}
use Rattle.lol_tags.specs.declared.reader.Tag.{Tag}
use Rattle.lol_memory.specs.declared.match_info.MatchInfo.{MatchInfo}
use Rattle.lol_matcher.specs.Keeping.{IsRefusal}
use Rattle.lol_matcher.specs.Refusing.{RefusesStartWith}
use Rattle.lol_machine.specs.Answers.{Match, document}
use Rattle.lol_machine.specs.Views.{match_of, selectors}
use Rattle.lol_matcher.specs.Told.{Matching, Told, heard}
use Rattle.lol_matcher.specs.declared.error.MatcherError.{MatcherError}
use Rattle.lol_matcher.specs.declared.error.MatcherError.TheVariants as refused
use Rattle.lol_matcher.specs.declared.open_element.OpenElement.{OpenElement}
use Rattle.lol_page.specs.PageTags.{PageTag}
use Rattle.lol_page.specs.Pages as pages
use Rattle.lol_page.specs.Pages.{events_of, page_tags_from, attributes_read, written_name, written_start}
use Rattle.lol_page.specs.Readings.{tag_read, with_text}
use Rattle.lol_page.specs.declared.page_reader.PlacedTag.{PlacedTag}
use Rattle.lol_page.specs.MatchLaws.{matches_step}
use Rattle.lol_page.specs.PageMatches.{answers_told, handed_out, handed_out_by, match_if, match_read, matched_of, matches_told}
use Rattle.lol_page.specs.PageRefusals.{FitsFirst, FitsTag, Refuses, RefusesFirst, RefusesStart, RefusesTag}
use Rattle.lol_page.specs.declared.error.PageError.{PageError}
use Rattle.lol_page.specs.declared.error.PageError.TheVariants.{Read, Matcher, Failed, Memory}
use Rattle.lol_page.specs.declared.page.Page.{Page}
use Rattle.lol_page.proofs.ReadOn.{first_of_part, none_in_whole}

abbrev pub start_tag : List ℕ → Namespace → List Attribute → Bool → StartTag
start_tag name ns attributes self_closing = record { name = name; namespace = ns; attributes = attributes; self_closing = self_closing; finish = true }

-- The start tag that is handed over has the name and the attributes of the tag's own bytes: `mid` is these bytes, as they are passed on.
pub written_is : (decoded passed : Bool) (text mid name : List ℕ) (tag : Tag) (ns : Namespace) (name_end : ℕ) (attributes : List Attribute) (closing : Bool)
    → passed ≡ decoded → mid ≡ text → name ≡ written_name mid tag → name_end ≡ tag.name_end - tag.start
    → attributes ≡ attributes_read passed mid name_end → closing ≡ tag.self_closing
    → start_tag name ns attributes closing ≡ written_start decoded text tag ns
written_is decoded passed text mid name tag ns name_end attributes closing passed_is mid_is name_is end_is read closing_is =
    let names : name ≡ written_name text tag = name_is ∙ ap (λ (x : List ℕ). written_name x tag) mid_is in
    let all : attributes ≡ attributes_read decoded text (tag.name_end - tag.start) = read ∙ (λ i. attributes_read (passed_is i) (mid_is i) (end_is i)) in
    λ i. start_tag (names i) ns (all i) (closing_is i)

pub has_room : (failed : Bool) (n : ℕ) → (failed ≡ true → ⊥) → ((failed ≡ false) × (2 ^ 64 ≤ n) → ⊥) → n < 2 ^ 64
has_room true n whole short = absurd (whole refl)
has_room false n whole short = let not_long : 2 ^ 64 ≤ n → ⊥ = λ long. short (refl, long) in omega arith

module _ {T : Type 0} where
  pub refuses_start : (m : Matching T) (tag : StartTag) (error : MatcherError) → (error ≡ refused.Failed → m.failed ≡ true) → (error ≡ refused.NotAsked → ⊥)
      → (error ≡ refused.OutsideInput → ⊥) → (IsRefusal error → RefusesStartWith error m tag) → RefusesStart error m tag
  refuses_start m tag refused.MemoryLimitExceeded failed asked inside is = is tt
  refuses_start m tag refused.Memory failed asked inside is = is tt
  refuses_start m tag refused.CounterFull failed asked inside is = is tt
  refuses_start m tag refused.Failed failed asked inside is = failed refl
  refuses_start m tag refused.NotAsked failed asked inside is = absurd (asked refl)
  refuses_start m tag refused.OutsideInput failed asked inside is = absurd (inside refl)

  refuses_if : (error : PageError) (p : Page T) (bytes : List ℕ) (t : PageTag) (tags : List PageTag) → page_tags_from p.reader.page bytes ≡ t ∷ tags
      → RefusesTag p.reader.page.decoded error p.matcher t.text t.tag t.namespace → Refuses error p bytes
  refuses_if (Read error) p bytes t tags first is = absurd is
  refuses_if (Matcher error) p bytes t tags first is = subst (RefusesFirst p.reader.page.decoded (Matcher error) p.matcher) (sym first) is
  refuses_if Failed p bytes t tags first is = absurd is
  refuses_if Memory p bytes t tags first is = subst (RefusesFirst p.reader.page.decoded Memory p.matcher) (sym first) is

  pub refuses_first : (error : PageError) (p : Page T) (bytes : List ℕ) (n : ℕ) (t : PageTag) → t ∷ [] ≡ page_tags_from p.reader.page (take n bytes)
      → RefusesTag p.reader.page.decoded error p.matcher t.text t.tag t.namespace → Refuses error p bytes
  refuses_first error p bytes n t first is = refuses_if error p bytes t _ (first_of_part p.reader.page bytes n t first) is

  pub fits_first : (decoded : Bool) (m : Matching T) (p : pages.Page) (bytes : List ℕ) (n : ℕ) (t : PageTag) → t ∷ [] ≡ page_tags_from p (take n bytes)
      → FitsTag decoded m t.text t.tag t.namespace → FitsFirst decoded m (page_tags_from p bytes)
  fits_first decoded m p bytes n t first fits = subst (FitsFirst decoded m) (sym (first_of_part p bytes n t first)) fits

  pub fits_none : (decoded : Bool) (m : Matching T) (p : pages.Page) (bytes : List ℕ) (n : ℕ) → [] ≡ page_tags_from p (take n bytes) → n ≡ length bytes
      → FitsFirst decoded m (page_tags_from p bytes)
  fits_none decoded m p bytes n none whole =
      subst (FitsFirst decoded m) (none_in_whole p bytes n none whole) tt

  module _ {F : Type 0} (step : F → OpenElement T → Unit {0} → F → Type 0) (f : F) (m : Matching T) where
    pub closes_some : (g h : F) (text mid : List ℕ) (read : Option PlacedTag) (placed : PlacedTag) → h ≡ g → text ≡ mid → read ≡ Some placed
        → IsCalledAtEach step f (handed_out_by m mid placed.tag placed.namespace) g → IsCalledAtEach step f (handed_out m (tag_read text read)) h
    closes_some g h text mid read placed handler texts is calls =
        subst (λ (x : F). IsCalledAtEach step f (handed_out m (tag_read text read)) x) (sym handler)
        (subst (λ (o : Option PlacedTag). IsCalledAtEach step f (handed_out m (tag_read text o)) g) (sym is)
        (subst (λ (x : List ℕ). IsCalledAtEach step f (handed_out_by m x placed.tag placed.namespace) g) (sym texts) calls))

    pub closes_none : (h : F) (text : List ℕ) (read : Option PlacedTag) → h ≡ f → read ≡ None → IsCalledAtEach step f (handed_out m (tag_read text read)) h
    closes_none h text read handler none = subst (λ (o : Option PlacedTag). IsCalledAtEach step f (handed_out m (tag_read text o)) h) (sym none) (sym handler)

pub none_read : (text : List ℕ) (matched : List MatchInfo) (read : Option PlacedTag) → is_some read ≡ false → with_some (match_read text matched read) [] ≡ []
none_read text matched None is = refl
none_read text matched (Some placed) is = cc

-- A tag that was told, and is reported, is the one match among the tags that were read.
pub read_matches : (decoded : Bool) (told : Told) (text : List ℕ) (matched : List MatchInfo) (tag : Option PlacedTag) (tags : List PageTag)
    → with_some (tag_read text tag) [] ≡ tags → IfSome tag (λ placed. map match_of matched ≡ matched_of (answers_told told (events_of decoded (with_text text placed))))
    → (matched ≡ [] → ⊥) → with_some (match_read text matched tag) [] ≡ matches_told decoded told tags
read_matches decoded told text matched None tags first reported some = ap (matches_told decoded told) first
read_matches decoded told text [] (Some placed) tags first reported some = absurd (some refl)
read_matches decoded told text (i ∷ matched) (Some placed) tags first reported some =
    let s = selectors told.ast in
    let t = with_text text placed in
    ap (λ (ms : List Match). with_some (match_if t ms) []) reported
    ∙ sym (matches_step s told.esi decoded (document s told.esi (heard told)) t [] [])
    ∙ ap (matches_told decoded told) first
