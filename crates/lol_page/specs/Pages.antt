-- The tags of a page, over the whole stream of its bytes, and what is told of them. Where a definition takes two `Bool`s, they are whether scripts
-- run and whether the values of attributes are decoded.
use Rattle.std.specs.Prelude.{ℕ, ◌+◌, ◌-◌, Bool, true, if◌then◌else◌, List, [], ◌∷◌, ◌++◌, map, take, drop, slice_range, Option, Some, None}
use Rattle.std.specs.Option.{option_map}
use Rattle.lol_base.specs.LocalNames.{local_name}
use Rattle.lol_base.specs.StartTags.{Attribute, StartTag}
use Rattle.lol_base.specs.declared.namespace.Namespace.{Namespace}
use Rattle.lol_machine.specs.Events.{Event, Start, End}
use Rattle.lol_references.specs.Attributes.{decoded_attribute}
use Rattle.lol_tags.specs.Attributes.{attributes_of, outlines_of}
use Rattle.lol_tags.specs.Places.{name_start}
use Rattle.lol_tags.specs.Reading.{step, ended, fresh, told_foreign}
use Rattle.lol_tags.specs.Runs.{run, given}
use Rattle.lol_tags.specs.declared.reader.Tag.{Tag}
use Rattle.lol_tags.specs.declared.reader.TagReader.{TagReader}
use Rattle.lol_page.specs.Namespaces.{OpenElement, left_by, namespace_in, opened_by, left_open, is_foreign}
use Rattle.lol_page.specs.PageTags.{PageTag}
use Rattle.lol_page.specs.Positions.{position_behind}

-- 1. What a tag says, by its bytes

abbrev pub written_name : List ℕ → Tag → List ℕ
written_name text tag = slice_range text (name_start 0 tag.is_end) (tag.name_end - tag.start)

-- The attributes of a tag whose name ends at this place, with their values decoded or as they are written.
abbrev pub attributes_read : Bool → List ℕ → ℕ → List Attribute
attributes_read decoded text name_end = if decoded then map (decoded_attribute text) (outlines_of text name_end) else attributes_of text name_end

abbrev pub written_start : Bool → List ℕ → Tag → Namespace → StartTag
written_start decoded text tag ns = record {
  name = written_name text tag;
  namespace = ns;
  attributes = attributes_read decoded text (tag.name_end - tag.start);
  self_closing = tag.self_closing;
  finish = true;
}

-- Each tag is told as one event today. A stage that builds a tree tells more of some, and less of others.
abbrev pub events_by : Bool → List ℕ → Tag → Option Namespace → List Event
events_by decoded text tag None = End (written_name text tag) ∷ []
events_by decoded text tag (Some ns) = Start (written_start decoded text tag ns) ∷ []

abbrev pub events_of : Bool → PageTag → List Event
events_of decoded t = events_by decoded t.text t.tag t.namespace

-- 2. One byte

-- A page as far as it was read: the reader, all bytes so far, the open elements, the innermost first, and whether values are decoded.
pub record Page : Type 0 where
  pub reader : TagReader
  pub read : List ℕ
  pub elements : List OpenElement
  pub decoded : Bool

abbrev pub read_on : Page → TagReader → List ℕ → Page
read_on p reader bytes = record { reader = reader; read = p.read ++ bytes; elements = p.elements; decoded = p.decoded }

-- the elements that a start tag stands in; what it leaves depends on no value
abbrev pub entered_by : List OpenElement → List ℕ → Tag → List OpenElement
entered_by elements text tag = left_by (local_name (written_name text tag)) (attributes_of text (tag.name_end - tag.start)) elements

abbrev pub start_namespace : List OpenElement → List ℕ → Tag → Namespace
start_namespace elements text tag = namespace_in (entered_by elements text tag) (local_name (written_name text tag))

-- the namespace of a start tag, and none of an end tag
abbrev pub tag_namespace : List OpenElement → List ℕ → Tag → Option Namespace
tag_namespace elements text tag = if tag.is_end then None else Some (start_namespace elements text tag)

-- the open elements behind a tag
abbrev pub elements_behind : Bool → List OpenElement → List ℕ → Tag → List OpenElement
elements_behind decoded elements text tag =
    if tag.is_end then left_open (local_name (written_name text tag)) elements
    else opened_by (written_start decoded text tag (start_namespace elements text tag)) (entered_by elements text tag)

-- A tag that ends where a page was read to: its bytes, line and column, each counted from 1.
abbrev pub page_tag : Page → Tag → PageTag
page_tag p tag = record {
  tag = tag;
  text = drop tag.start p.read;
  namespace = tag_namespace p.elements (drop tag.start p.read) tag;
  line = (position_behind (take tag.start p.read)).line_ends + 1;
  column = (position_behind (take tag.start p.read)).column + 1;
}

-- The reader is told whether the innermost element is one of HTML.
abbrev pub behind_tag : Page → Tag → Page
behind_tag p tag =
    let elements = elements_behind p.decoded p.elements (drop tag.start p.read) tag in
    record { reader = told_foreign (is_foreign elements) p.reader; read = p.read; elements = elements; decoded = p.decoded }

abbrev pub behind : Page → Option Tag → Page
behind p None = p
behind p (Some tag) = behind_tag p tag

abbrev pub moved : Page → ℕ → Page
moved p b = read_on p (step p.reader b) (b ∷ [])

unfoldable pub page_step : Page → ℕ → Page
page_step p b = behind (moved p b) (ended p.reader b)

-- the tag that a byte ends
unfoldable pub page_ended : Page → ℕ → Option PageTag
page_ended p b = option_map (page_tag (moved p b)) (ended p.reader b)

-- 3. All bytes

-- the start of a page
abbrev pub fresh_page : Bool → Bool → Page
fresh_page scripting decoded = record { reader = fresh scripting; read = []; elements = []; decoded = decoded }

-- where a page stands after more bytes
abbrev pub page_after : Page → List ℕ → Page
page_after p bytes = run page_step p bytes

-- the tags that end in them
abbrev pub page_tags_from : Page → List ℕ → List PageTag
page_tags_from p bytes = given page_step page_ended p bytes

-- The tags of a page.
abbrev pub page_tags : Bool → Bool → List ℕ → List PageTag
page_tags scripting decoded bytes = page_tags_from (fresh_page scripting decoded) bytes

abbrev pub events_of_tags : Bool → List PageTag → List Event
events_of_tags decoded [] = []
events_of_tags decoded (t ∷ tags) = events_of decoded t ++ events_of_tags decoded tags

-- The events that are told of a page.
abbrev pub page_events : Bool → Bool → List ℕ → List Event
page_events scripting decoded bytes = events_of_tags decoded (page_tags scripting decoded bytes)
