-- Pages and their tags, worked by hand from the HTML Standard.
use Rattle.std.specs.Prelude.{ℕ, Bool, true, false, if◌then◌else◌, List, [], ◌∷◌, ◌++◌, Option, Some, None, map, codes}
use Rattle.lol_base.specs.StartTags.{Attribute}
use Rattle.lol_base.specs.declared.namespace.Namespace.{Namespace}
use Rattle.lol_base.specs.declared.namespace.Namespace.TheVariants.{Html, Svg, MathML}
use Rattle.lol_machine.specs.Events.{Event, Start}
use Rattle.lol_page.specs.Ambiguity.{first_doubts}
use Rattle.lol_page.specs.PageTags.{PageTag}
use Rattle.lol_page.specs.Pages.{page_tags}
use Rattle.lol_page.specs.Readings.{doubts_more, is_ambiguous_tag}
use Rattle.lol_page.specs.declared.tree_doubts.TreeDoubts.{TreeDoubts}

-- the bytes of a tag, and its namespace, if it is a start tag
pub record BriefTag : Type 0 where
  pub text : List ℕ
  pub namespace : Option Namespace

abbrev pub html : List ℕ → BriefTag
html text = record { text = text; namespace = Some Html }

abbrev pub svg : List ℕ → BriefTag
svg text = record { text = text; namespace = Some Svg }

abbrev pub math : List ℕ → BriefTag
math text = record { text = text; namespace = Some MathML }

abbrev pub end : List ℕ → BriefTag
end text = record { text = text; namespace = None }

abbrev pub brief : PageTag → BriefTag
brief t = record { text = t.text; namespace = t.namespace }

-- a page and its tags
pub record PageRow : Type 0 where
  pub page : List ℕ
  pub tags : List BriefTag

abbrev pub reads : List ℕ → List BriefTag → PageRow
reads page tags = record { page = page; tags = tags }

abbrev pub tags_read : Bool → List PageRow → List (List BriefTag)
tags_read decoded rows = map (λ (row : PageRow). map brief (page_tags false decoded row.page)) rows

abbrev pub tags_said : List PageRow → List (List BriefTag)
tags_said rows = map (λ (row : PageRow). row.tags) rows

-- texts of elements: raw in HTML alone
abbrev pub page_text_rows : List PageRow
page_text_rows =
    reads (codes "<svg><style><g/></style></svg><style><g/></style>")
    (svg (codes "<svg>") ∷ svg (codes "<style>") ∷ svg (codes "<g/>") ∷ end (codes "</style>") ∷ end (codes "</svg>")
    ∷ html (codes "<style>") ∷ end (codes "</style>") ∷ [])
    ∷ reads (codes "<math><xmp><q></xmp><mtext><xmp><q></xmp>")
    (math (codes "<math>") ∷ math (codes "<xmp>") ∷ math (codes "<q>") ∷ end (codes "</xmp>") ∷ math (codes "<mtext>")
    ∷ html (codes "<xmp>") ∷ end (codes "</xmp>") ∷ [])
    ∷ reads (codes "<svg/><xmp><i></xmp>") (svg (codes "<svg/>") ∷ html (codes "<xmp>") ∷ end (codes "</xmp>") ∷ [])
    ∷ reads (codes "<svg><style/><g>") (svg (codes "<svg>") ∷ svg (codes "<style/>") ∷ svg (codes "<g>") ∷ [])
    ∷ reads (codes "<svg><![CDATA[<b>]]></svg><![CDATA[<b>]]><i>") (svg (codes "<svg>") ∷ end (codes "</svg>") ∷ html (codes "<i>") ∷ [])
    ∷ reads (codes "<svg><desc><br><![CDATA[<b>]]><a>") (svg (codes "<svg>") ∷ svg (codes "<desc>") ∷ html (codes "<br>") ∷ html (codes "<a>") ∷ [])
    ∷ []

-- integration points
abbrev pub point_rows : List PageRow
point_rows =
    reads (codes "<svg><title><b></b></title><a>")
    (svg (codes "<svg>") ∷ svg (codes "<title>") ∷ html (codes "<b>") ∷ end (codes "</b>") ∷ end (codes "</title>") ∷ svg (codes "<a>") ∷ [])
    ∷ reads (codes "<svg><FOREIGNOBJECT><g><math><mi><a>")
    (svg (codes "<svg>") ∷ svg (codes "<FOREIGNOBJECT>") ∷ html (codes "<g>") ∷ math (codes "<math>") ∷ math (codes "<mi>") ∷ html (codes "<a>") ∷ [])
    ∷ reads (codes "<math><mi><mglyph/><malignmark/><a>")
    (math (codes "<math>") ∷ math (codes "<mi>") ∷ math (codes "<mglyph/>") ∷ math (codes "<malignmark/>") ∷ html (codes "<a>") ∷ [])
    ∷ reads (codes "<math><annotation-xml><svg></svg><a>")
    (math (codes "<math>") ∷ math (codes "<annotation-xml>") ∷ svg (codes "<svg>") ∷ end (codes "</svg>") ∷ math (codes "<a>") ∷ [])
    ∷ reads (codes "<math><annotation-xml ENCODING='Text/HTML'><a>")
    (math (codes "<math>") ∷ math (codes "<annotation-xml ENCODING='Text/HTML'>") ∷ html (codes "<a>") ∷ [])
    ∷ reads (codes "<math><annotation-xml encoding=application/xhtml+xml><a>")
    (math (codes "<math>") ∷ math (codes "<annotation-xml encoding=application/xhtml+xml>") ∷ html (codes "<a>") ∷ [])
    ∷ reads (codes "<math><annotation-xml encoding=x encoding=text/html><a>")
    (math (codes "<math>") ∷ math (codes "<annotation-xml encoding=x encoding=text/html>") ∷ math (codes "<a>") ∷ [])
    ∷ []

-- an integration point, if its `encoding` is decoded: the namespace of what stands inside
abbrev pub coded_point_rows : Namespace → List PageRow
coded_point_rows ns =
    reads (codes "<math><annotation-xml encoding='text&#47;html'><a>")
    (math (codes "<math>") ∷ math (codes "<annotation-xml encoding='text&#47;html'>") ∷ record { text = codes "<a>"; namespace = Some ns } ∷ [])
    ∷ []

-- what breaks out
abbrev pub breakout_rows : List PageRow
breakout_rows =
    reads (codes "<svg><g><br><style><i></style>")
    (svg (codes "<svg>") ∷ svg (codes "<g>") ∷ html (codes "<br>") ∷ html (codes "<style>") ∷ end (codes "</style>") ∷ [])
    ∷ reads (codes "<svg><font><g>") (svg (codes "<svg>") ∷ svg (codes "<font>") ∷ svg (codes "<g>") ∷ [])
    ∷ reads (codes "<svg><font COLOR=x><g>") (svg (codes "<svg>") ∷ html (codes "<font COLOR=x>") ∷ html (codes "<g>") ∷ [])
    ∷ reads (codes "<svg><font a face><g>") (svg (codes "<svg>") ∷ html (codes "<font a face>") ∷ html (codes "<g>") ∷ [])
    ∷ reads (codes "<math><font size=1><g>") (math (codes "<math>") ∷ html (codes "<font size=1>") ∷ html (codes "<g>") ∷ [])
    ∷ reads (codes "<svg><font x='color'><g>") (svg (codes "<svg>") ∷ svg (codes "<font x='color'>") ∷ svg (codes "<g>") ∷ [])
    ∷ reads (codes "<svg><g></p><a>") (svg (codes "<svg>") ∷ svg (codes "<g>") ∷ end (codes "</p>") ∷ html (codes "<a>") ∷ [])
    ∷ reads (codes "<svg><g></q><a>") (svg (codes "<svg>") ∷ svg (codes "<g>") ∷ end (codes "</q>") ∷ svg (codes "<a>") ∷ [])
    ∷ []

-- what an end tag closes
abbrev pub end_rows : List PageRow
end_rows =
    reads (codes "<q><svg></Q><a>") (html (codes "<q>") ∷ svg (codes "<svg>") ∷ end (codes "</Q>") ∷ html (codes "<a>") ∷ [])
    ∷ reads (codes "<q><svg><desc></q></desc><a>")
    (html (codes "<q>") ∷ svg (codes "<svg>") ∷ svg (codes "<desc>") ∷ end (codes "</q>") ∷ end (codes "</desc>") ∷ svg (codes "<a>") ∷ [])
    ∷ reads (codes "<svg><desc><q></desc><a></q></desc><a>")
    (svg (codes "<svg>") ∷ svg (codes "<desc>") ∷ html (codes "<q>") ∷ end (codes "</desc>") ∷ html (codes "<a>") ∷ end (codes "</q>")
    ∷ end (codes "</desc>") ∷ svg (codes "<a>") ∷ [])
    ∷ reads (codes "<svg><desc><svg><g></desc><a>")
    (svg (codes "<svg>") ∷ svg (codes "<desc>") ∷ svg (codes "<svg>") ∷ svg (codes "<g>") ∷ end (codes "</desc>") ∷ svg (codes "<a>") ∷ [])
    ∷ reads (codes "<q><math><annotation-xml></q><a>")
    (html (codes "<q>") ∷ math (codes "<math>") ∷ math (codes "<annotation-xml>") ∷ end (codes "</q>") ∷ math (codes "<a>") ∷ [])
    ∷ []

-- a line and a column
pub record Place : Type 0 where
  pub line : ℕ
  pub column : ℕ

abbrev pub place : ℕ → ℕ → Place
place line column = record { line = line; column = column }

abbrev pub places_read : List ℕ → List Place
places_read page = map (λ (t : PageTag). place t.line t.column) (page_tags false false page)

-- 10 and 13 are the bytes that end lines.
abbrev pub lines_page : List ℕ
lines_page =
    codes "a<b>" ++ 10 ∷ codes "<b>" ++ 13 ∷ 10 ∷ codes " <i" ++ 10 ∷ codes "><i>" ++ 13 ∷ codes "<u>" ++ 10 ∷ 10 ∷ codes "<s>" ++ 13 ∷ 13 ∷ 10 ∷ codes "<s>"

abbrev pub attribute : List ℕ → List ℕ → Attribute
attribute name value = record { name = name; value = Some value }

abbrev pub start : List ℕ → Namespace → List Attribute → Bool → Event
start name ns attributes self_closing =
    Start (record { name = name; namespace = ns; attributes = attributes; self_closing = self_closing; finish = true })

-- the first ambiguous one of some tags, if there is one
abbrev pub first_ambiguous : Option TreeDoubts → List PageTag → List BriefTag
first_ambiguous doubts [] = []
first_ambiguous doubts (t ∷ tags) = if is_ambiguous_tag doubts t then brief t ∷ [] else first_ambiguous (doubts_more doubts t) tags

-- the first ambiguous tags of pages, where scripts run or don't
abbrev pub refusals_read : Bool → List PageRow → List (List BriefTag)
refusals_read scripting rows = map (λ (row : PageRow). first_ambiguous (first_doubts true scripting) (page_tags scripting false row.page)) rows

abbrev pub reads_on : List ℕ → PageRow
reads_on page = reads page []

-- in a `select`
abbrev pub select_rows : List PageRow
select_rows =
    reads (codes "<select><option><title>") (html (codes "<title>") ∷ [])
    ∷ reads (codes "<select><style>") (html (codes "<style>") ∷ [])
    ∷ reads (codes "<SELECT><XMP>") (html (codes "<XMP>") ∷ [])
    ∷ reads (codes "<select><iframe>") (html (codes "<iframe>") ∷ [])
    ∷ reads (codes "<select><noembed>") (html (codes "<noembed>") ∷ [])
    ∷ reads (codes "<select><noframes>") (html (codes "<noframes>") ∷ [])
    ∷ reads (codes "<select><noscript>") (html (codes "<noscript>") ∷ [])
    ∷ reads (codes "<select><plaintext>") (html (codes "<plaintext>") ∷ [])
    ∷ reads (codes "<select><svg>") (svg (codes "<svg>") ∷ [])
    ∷ reads (codes "<select><math>") (math (codes "<math>") ∷ [])
    ∷ reads_on (codes "<select><script></script><b></select><xmp>")
    ∷ reads_on (codes "<select><textarea></textarea><xmp>")
    ∷ reads_on (codes "<select><input><keygen><xmp>")
    ∷ reads (codes "<select><select><xmp>") (html (codes "<xmp>") ∷ [])
    ∷ reads (codes "<p><select></p><xmp>") (html (codes "<xmp>") ∷ [])
    ∷ reads_on (codes "<table><tr><xmp></xmp><svg></svg><select>")
    ∷ []

-- behind a `frameset`
abbrev pub frameset_rows : List PageRow
frameset_rows =
    reads (codes "<frameset><script>") (html (codes "<script>") ∷ [])
    ∷ reads (codes "<frameset></frameset><textarea>") (html (codes "<textarea>") ∷ [])
    ∷ reads_on (codes "<frameset><frame><noframes></noframes>")
    ∷ reads (codes "<frameset><select><noframes>") (html (codes "<noframes>") ∷ [])
    ∷ reads_on (codes "<style></style><frameset>")
    ∷ []

-- in templates
abbrev pub template_rows : List PageRow
template_rows =
    reads (codes "<template><col><script>") (html (codes "<script>") ∷ [])
    ∷ reads (codes "<template><col><template></template><xmp>") (html (codes "<xmp>") ∷ [])
    ∷ reads_on (codes "<template><col></template><script>")
    ∷ reads_on (codes "<template><tr><script>")
    ∷ reads_on (codes "<table><col><script>")
    ∷ reads (codes "<select><template><script>") (html (codes "<script>") ∷ [])
    ∷ reads (codes "<select><template></select></template><xmp>") (html (codes "<xmp>") ∷ [])
    ∷ reads_on (codes "<select><template></template></select><xmp>")
    ∷ []
