-- Why a page isn't read on.
use Rattle.std.specs.Prelude.{ℕ, Bool, ◌≡◌, ◌+◌, ◌^◌, ◌≤◌, ◌<◌, true, List, [], ◌∷◌, length, take, drop, Option, Some, None}
use Rattle.lol_base.specs.declared.namespace.Namespace.{Namespace}
use Rattle.lol_base.specs.StartTags.{StartTag}
use Rattle.lol_tags.specs.declared.reader.Tag.{Tag}
use Rattle.lol_matcher.specs.Refusing.{RefusesStartWith, refusal_of}
use Rattle.lol_matcher.specs.Told.{Matching, heard}
use Rattle.lol_matcher.specs.declared.error.MatcherError as matcher
use Rattle.lol_matcher.specs.declared.error.MatcherError.TheVariants as refused
use Rattle.lol_page.specs.Pages.{page_tags_from, written_start}
use Rattle.lol_page.specs.PageTags.{PageTag}
use Rattle.lol_page.specs.Readings.{FirstIs, FirstIsAmbiguous, FirstIsLonger, Reading}
use Rattle.lol_page.specs.declared.error.PageReadError as reader
use Rattle.lol_page.specs.declared.error.PageReadError.TheVariants as unread
use Rattle.lol_page.specs.PageMatches.{ReadsOn, matches_told}
use Rattle.lol_page.specs.declared.error.PageError.{PageError}
use Rattle.lol_page.specs.declared.error.PageError.TheVariants.{Read, Matcher, Memory}
use Rattle.lol_page.specs.declared.page.Page.{Page}

-- A reader of a page refuses these bytes for this.
abbrev pub RefusesBytes : reader.PageReadError → Reading → List ℕ → Type 0
RefusesBytes unread.PageTooLong r bytes = 2 ^ 64 ≤ r.page.reader.at + length bytes
RefusesBytes unread.TagTooLong r bytes = (r.page.reader.at + length bytes < 2 ^ 64) × FirstIsLonger r.limit (page_tags_from r.page bytes)
RefusesBytes unread.Ambiguous r bytes =
    (r.page.reader.at + length bytes < 2 ^ 64) × (FirstIsLonger r.limit (page_tags_from r.page bytes) → ⊥)
    × FirstIsAmbiguous r.doubts (page_tags_from r.page bytes)
RefusesBytes unread.Memory r bytes = (r.page.reader.at + length bytes < 2 ^ 64) × (FirstIsLonger r.limit (page_tags_from r.page bytes) → ⊥)
RefusesBytes unread.Failed r bytes = r.failed ≡ true

-- A matcher refuses a start tag for this.
abbrev pub RefusesStart : {T : Type 0} → matcher.MatcherError → Matching T → StartTag → Type 0
RefusesStart refused.Failed m tag = m.failed ≡ true
RefusesStart error m tag = RefusesStartWith error m tag

-- The tag with these bytes is refused for this: `Memory` is of its attributes. An end tag never is.
abbrev pub RefusesTag : {T : Type 0} → Bool → PageError → Matching T → List ℕ → Tag → Option Namespace → Type 0
RefusesTag decoded (Matcher error) m text tag (Some ns) = RefusesStart error m (written_start decoded text tag ns)
RefusesTag decoded Memory m text tag (Some ns) = Unit {0}
RefusesTag decoded error m text tag ns = ⊥

-- the first of some tags
abbrev pub RefusesFirst : {T : Type 0} → Bool → PageError → Matching T → List PageTag → Type 0
RefusesFirst decoded error m tags = FirstIs (λ t. RefusesTag decoded error m t.text t.tag t.namespace) tags

-- With these bytes next, a page isn't read on for this: the reader refuses them, or the matcher the first tag that ends in them.
abbrev pub Refuses : {T : Type 0} → PageError → Page T → List ℕ → Type 0
Refuses (Read error) p bytes = RefusesBytes error p.reader bytes
Refuses error p bytes = RefusesFirst p.reader.page.decoded error p.matcher (page_tags_from p.reader.page bytes)

-- the tag with these bytes isn't refused, memory aside
abbrev pub FitsTag : {T : Type 0} → Bool → Matching T → List ℕ → Tag → Option Namespace → Type 0
FitsTag decoded m text tag None = Unit {0}
FitsTag decoded m text tag (Some ns) = refusal_of m (heard m.told) (written_start decoded text tag ns) ≡ None

-- the first of some tags
abbrev pub FitsFirst : {T : Type 0} → Bool → Matching T → List PageTag → Type 0
FitsFirst decoded m [] = Unit {0}
FitsFirst decoded m (t ∷ tags) = FitsTag decoded m t.text t.tag t.namespace

-- With these bytes next, nothing but want of memory keeps a page from being read on up to the first tag that ends in them.
pub record Accepts {T : Type 0} (p : Page T) (bytes : List ℕ) : Type 0 where
  pub room : p.reader.page.reader.at + length bytes < 2 ^ 64
  pub short : FirstIsLonger p.reader.limit (page_tags_from p.reader.page bytes) → ⊥
  pub clear : FirstIsAmbiguous p.reader.doubts (page_tags_from p.reader.page bytes) → ⊥
  pub fits : FitsFirst p.reader.page.decoded p.matcher (page_tags_from p.reader.page bytes)

-- A matcher was told of nothing more: what is open stays open, and what is kept of it stays.
pub record StaysAsTold {T : Type 0} (old new : Matching T) : Type 0 where
  pub told : new.told ≡ old.told
  pub open_elements : new.open_elements ≡ old.open_elements
  pub kept : new.kept ≡ old.kept

-- A page was refused for this in a chunk: so many bytes were read, none of whose tags is reported, and then what comes next was refused.
pub record IsRefused {T : Type 0} (error : PageError) (old new : Page T) (chunk : List ℕ) : Type 0 where
  pub taken : ℕ
  pub within : taken ≤ length chunk
  pub before : Page T
  pub read : ReadsOn old before (take taken chunk)
  pub unreported : matches_told old.reader.page.decoded old.matcher.told (page_tags_from old.reader.page (take taken chunk)) ≡ []
  pub refused : Refuses error before (drop taken chunk)
  pub untold : StaysAsTold before.matcher new.matcher
