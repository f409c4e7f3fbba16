-- The namespace of a start tag, by the elements that are open (HTML Standard, 13.2.6, "Tree construction dispatcher", and 13.2.6.5, "The rules
-- for parsing tokens in foreign content"). No tree is built: an element is open from its start tag to an end tag that closes it.
use Rattle.std.specs.Prelude.{ℕ, Bool, true, false, not, ◌&&◌, ◌||◌, if◌then◌else◌, List, [], ◌∷◌, Option, Some, None, codes}
use Rattle.std.specs.List.{list_any}
use Rattle.lol_base.specs.Names.{same_name}
use Rattle.lol_base.specs.LocalNames.{Name, local_name, same_local_name}
use Rattle.lol_base.specs.StartTags.{Attribute, StartTag}
use Rattle.lol_base.specs.declared.namespace.Namespace.{Namespace}
use Rattle.lol_base.specs.declared.namespace.Namespace.TheVariants.{Html, Svg, MathML}
use Rattle.lol_instructions.specs.Attributes.{value_among}
use Rattle.lol_instructions.specs.Tests.{has_value}
use Rattle.lol_machine.specs.Events.{has_content}

-- 1. Elements

-- An open element. In one that holds HTML, start tags are read by the rules for HTML: an element of HTML is such a one, an HTML integration
-- point and a MathML text integration point.
pub record OpenElement : Type 0 where
  pub name : Name
  pub namespace : Namespace
  pub holds_html : Bool

abbrev pub is_spelled : Name → List ℕ → Bool
is_spelled name other = same_local_name name (local_name other)

abbrev pub is_among : Name → List (List ℕ) → Bool
is_among name others = list_any (is_spelled name) others

unfoldable pub svg_points : List (List ℕ)
svg_points = codes "foreignObject" ∷ codes "desc" ∷ codes "title" ∷ []

unfoldable pub text_points : List (List ℕ)
text_points = codes "mi" ∷ codes "mo" ∷ codes "mn" ∷ codes "ms" ∷ codes "mtext" ∷ []

abbrev pub annotation : List ℕ
annotation = codes "annotation-xml"

abbrev pub is_html_type : Option (List ℕ) → Bool
is_html_type None = false
is_html_type (Some value) = same_name value (codes "text/html") || same_name value (codes "application/xhtml+xml")

-- Whether the element of a start tag holds HTML ("HTML integration point", "MathML text integration point").
abbrev pub holds_html_in : Namespace → Name → List Attribute → Bool
holds_html_in Html name attributes = true
holds_html_in Svg name attributes = is_among name svg_points
holds_html_in MathML name attributes = is_among name text_points || (is_spelled name annotation && is_html_type (value_among (codes "encoding") attributes))

-- Whether a start tag of a name is read by the rules for HTML in an element ("Tree construction dispatcher").
abbrev pub takes_html_in : Namespace → OpenElement → Name → Bool
takes_html_in Html e name = true
takes_html_in Svg e name = e.holds_html
takes_html_in MathML e name =
    if e.holds_html then not (is_among e.name text_points && is_among name (codes "mglyph" ∷ codes "malignmark" ∷ []))
    else is_spelled e.name annotation && is_spelled name (codes "svg")

-- 2. Start tags

-- the namespace of a start tag that is read by the rules for HTML (13.2.6.4.7)
abbrev pub entered : Name → Namespace
entered name = if is_spelled name (codes "svg") then Svg else (if is_spelled name (codes "math") then MathML else Html)

-- The namespace of a start tag inside these elements, the innermost first.
abbrev pub namespace_in : List OpenElement → Name → Namespace
namespace_in [] name = entered name
namespace_in (e ∷ outer) name = if takes_html_in e.namespace e name then entered name else e.namespace

-- the start tags that are HTML in any content (13.2.6.5)
unfoldable pub breakouts : List (List ℕ)
breakouts =
    codes "b" ∷ codes "big" ∷ codes "blockquote" ∷ codes "body" ∷ codes "br" ∷ codes "center" ∷ codes "code" ∷ codes "dd" ∷ codes "div"
    ∷ codes "dl" ∷ codes "dt" ∷ codes "em" ∷ codes "embed" ∷ codes "h1" ∷ codes "h2" ∷ codes "h3" ∷ codes "h4" ∷ codes "h5" ∷ codes "h6"
    ∷ codes "head" ∷ codes "hr" ∷ codes "i" ∷ codes "img" ∷ codes "li" ∷ codes "listing" ∷ codes "menu" ∷ codes "meta" ∷ codes "nobr"
    ∷ codes "ol" ∷ codes "p" ∷ codes "pre" ∷ codes "ruby" ∷ codes "s" ∷ codes "small" ∷ codes "span" ∷ codes "strong" ∷ codes "strike"
    ∷ codes "sub" ∷ codes "sup" ∷ codes "table" ∷ codes "tt" ∷ codes "u" ∷ codes "ul" ∷ codes "var" ∷ []

abbrev pub has_one_of : List (List ℕ) → List Attribute → Bool
has_one_of names attributes = list_any (λ name. has_value (value_among name attributes) (λ value. true)) names

abbrev pub breaks_out : Name → List Attribute → Bool
breaks_out name attributes =
    is_among name breakouts || (is_spelled name (codes "font") && has_one_of (codes "color" ∷ codes "face" ∷ codes "size" ∷ []) attributes)

-- the elements from the innermost that holds HTML on
abbrev pub html_part : List OpenElement → List OpenElement
html_part [] = []
html_part (e ∷ outer) = if e.holds_html then e ∷ outer else html_part outer

-- A start tag that breaks out leaves the elements that hold no HTML.
abbrev pub left_by : Name → List Attribute → List OpenElement → List OpenElement
left_by name attributes elements = if breaks_out name attributes then html_part elements else elements

-- A start tag opens its element, if that has content.
abbrev pub opened_by : StartTag → List OpenElement → List OpenElement
opened_by tag elements =
    if has_content false tag
    then record { name = local_name tag.name; namespace = tag.namespace; holds_html = holds_html_in tag.namespace (local_name tag.name) tag.attributes } ∷ elements
    else elements

-- 3. End tags

abbrev pub is_html : Namespace → Bool
is_html Html = true
is_html Svg = false
is_html MathML = false

-- the elements outside HTML that no end tag of HTML passes: "special" ones (13.2.4.2)
abbrev pub is_point_in : Namespace → Name → Bool
is_point_in Html name = false
is_point_in Svg name = is_among name svg_points
is_point_in MathML name = is_among name text_points || is_spelled name annotation

-- An element of HTML isn't closed from inside such a one, and another element not from inside an element of HTML.
abbrev pub shields : Namespace → OpenElement → Bool
shields Html inner = is_point_in inner.namespace inner.name
shields Svg inner = is_html inner.namespace
shields MathML inner = is_html inner.namespace

-- The elements around the innermost one of a name, and those inside it.
abbrev pub around : Name → List OpenElement → List OpenElement
around name [] = []
around name (e ∷ outer) = if same_local_name e.name name then e ∷ outer else around name outer

abbrev pub inside : Name → List OpenElement → List OpenElement
inside name [] = []
inside name (e ∷ outer) = if same_local_name e.name name then [] else e ∷ inside name outer

abbrev pub closed_at : List OpenElement → List OpenElement → List OpenElement → List OpenElement
closed_at elements inner [] = elements
closed_at elements inner (e ∷ outer) = if list_any (shields e.namespace) inner then elements else outer

-- An end tag closes the innermost element of its name and all inside it, if none of those shields it.
abbrev pub closed_by : Name → List OpenElement → List OpenElement
closed_by name elements = closed_at elements (inside name elements) (around name elements)

-- `</p>` and `</br>` break out too (13.2.6.5).
abbrev pub left_open : Name → List OpenElement → List OpenElement
left_open name elements = closed_by name (if is_among name (codes "br" ∷ codes "p" ∷ []) then html_part elements else elements)

-- whether the innermost element is another than one of HTML, where CDATA sections are read (13.2.5.42) and no text is raw
abbrev pub is_foreign : List OpenElement → Bool
is_foreign [] = false
is_foreign (e ∷ outer) = not (is_html e.namespace)
