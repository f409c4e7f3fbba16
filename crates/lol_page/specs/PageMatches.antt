-- What matches in a page.
use Rattle.std.specs.Prelude.{ℕ, ◌≡◌, Bool, List, [], ◌∷◌, ◌++◌, length, map, flat_map, take, drop, Option, Some, None}
use Rattle.std.specs.Option.{option_map}
use Rattle.lol_base.specs.declared.namespace.Namespace.{Namespace}
use Rattle.lol_memory.specs.declared.match_info.MatchInfo.{MatchInfo}
use Rattle.lol_program.specs.Paths.{Selectors}
use Rattle.lol_tags.specs.Runs.{with_some}
use Rattle.lol_tags.specs.declared.reader.Tag.{Tag}
use Rattle.lol_machine.specs.Answers.{Answer, Match, answers, answers_from, document}
use Rattle.lol_machine.specs.Events.{Event}
use Rattle.lol_machine.specs.Views.{match_of, selectors}
use Rattle.lol_machine.specs.Vms.{open_after}
use Rattle.lol_matcher.specs.Last.{matches_in}
use Rattle.lol_matcher.specs.Told.{Matching, Told, heard}
use Rattle.lol_matcher.specs.declared.open_element.OpenElement.{OpenElement}
use Rattle.lol_page.specs.PageTags.{PageTag}
use Rattle.lol_page.specs.Pages.{events_of, events_of_tags, page_after, page_tags, page_tags_from, page_events, written_name}
use Rattle.lol_page.specs.Readings.{doubts_after, with_text}
use Rattle.lol_page.specs.declared.page_reader.PlacedTag.{PlacedTag}
use Rattle.lol_page.specs.declared.page.Page.{Page}

-- a tag, and what its events are reported under
pub record PageMatch : Type 0 where
  pub tag : PageTag
  pub matched : List Match

-- one that is reported under something
abbrev pub match_if : PageTag → List Match → Option PageMatch
match_if tag [] = None
match_if tag (m ∷ matched) = Some (record { tag = tag; matched = m ∷ matched })

-- what answers report, in order
abbrev pub matched_of : List Answer → List Match
matched_of answers = flat_map matches_in answers

-- the matches of tags, whose values are decoded or not, by the answers to all their events
abbrev pub matches_by : Bool → List PageTag → List Answer → List PageMatch
matches_by decoded [] answers = []
matches_by decoded (tag ∷ tags) answers =
    let count = length (events_of decoded tag) in
    with_some (match_if tag (matched_of (take count answers))) (matches_by decoded tags (drop count answers))

-- The matches of a page: what lol_vm answers to the events of the whole page. The last two `Bool`s are those of `page_tags`.
abbrev pub page_matches : Selectors → Bool → Bool → Bool → List ℕ → List PageMatch
page_matches s esi scripting decoded page = matches_by decoded (page_tags scripting decoded page) (answers s esi (page_events scripting decoded page))

-- the answers to events that come after what a matcher has heard
abbrev pub answers_told : Told → List Event → List Answer
answers_told t events = answers_from (selectors t.ast) t.esi (document (selectors t.ast) t.esi (heard t)) events

-- the matches of tags that a matcher is told of, after what it has heard
abbrev pub matches_told : Bool → Told → List PageTag → List PageMatch
matches_told decoded t tags = matches_by decoded tags (answers_told t (events_of_tags decoded tags))

-- A matcher heard these events more.
pub record HearsOn (old new : Told) (events : List Event) : Type 0 where
  pub ast : new.ast ≡ old.ast
  pub esi : new.esi ≡ old.esi
  pub heard_is : heard new ≡ heard old ++ events

-- a tag that a reader gave with its bytes, and what it is reported under
abbrev pub match_read : List ℕ → List MatchInfo → Option PlacedTag → Option PageMatch
match_read text matched tag = option_map (λ placed. record { tag = with_text text placed; matched = map match_of matched }) tag

-- A page was read on by some bytes: its matcher was told of their tags, and of nothing else, and what is doubted follows from them. The bounds of
-- both stay, and whether they have failed.
pub record ReadsOn {T : Type 0} (old new : Page T) (bytes : List ℕ) : Type 0 where
  pub page : new.reader.page ≡ page_after old.reader.page bytes
  pub told : HearsOn old.matcher.told new.matcher.told (events_of_tags old.reader.page.decoded (page_tags_from old.reader.page bytes))
  pub doubts : new.reader.doubts ≡ doubts_after old.reader.doubts (page_tags_from old.reader.page bytes)
  pub reader_failed : new.reader.failed ≡ old.reader.failed
  pub matcher_failed : new.matcher.failed ≡ old.matcher.failed
  pub max_tag_bytes : new.reader.limit ≡ old.reader.limit
  pub max_memory : new.matcher.max_memory ≡ old.matcher.max_memory
  pub element_bytes : new.matcher.element_bytes ≡ old.matcher.element_bytes

-- What a tag with these bytes closes, the outermost first: what a matcher keeps of the elements that aren't open after an end tag.
abbrev pub handed_out_by : {T : Type 0} → Matching T → List ℕ → Tag → Option Namespace → List (OpenElement T)
handed_out_by m text tag None = drop (length (open_after (written_name text tag) m.open_elements)) m.kept
handed_out_by m text tag (Some ns) = []

abbrev pub handed_out : {T : Type 0} → Matching T → Option PageTag → List (OpenElement T)
handed_out m None = []
handed_out m (Some t) = handed_out_by m t.text t.tag t.namespace
