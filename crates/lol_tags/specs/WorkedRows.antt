-- Texts and their tags, worked by hand from the HTML Standard.
use Rattle.std.specs.Prelude.{ℕ, Bool, true, false, List, [], ◌∷◌, ◌++◌, Some, map, slice_range, codes}
use Rattle.lol_base.specs.StartTags.{Attribute}
use Rattle.lol_base.specs.declared.start_tag.AttributeOutline.{AttributeOutline}
use Rattle.lol_tags.specs.Attributes.{range}
use Rattle.lol_tags.specs.Reading.{fresh, after, tags_from, told_foreign}
use Rattle.lol_tags.specs.declared.reader.Tag.{Tag}
use Rattle.lol_tags.specs.declared.reader.TagReader.{TagReader}

-- a text, and the texts of its tags
pub record TextRow : Type 0 where
  pub text : List ℕ
  pub tags : List (List ℕ)

abbrev pub has : List ℕ → List (List ℕ) → TextRow
has text tags = record { text = text; tags = tags }

abbrev pub tag_texts : TagReader → List ℕ → List (List ℕ)
tag_texts r bytes = map (λ (tag : Tag). slice_range bytes tag.start tag.end) (tags_from r bytes)

-- what a reader gives for the texts of some rows, and what they say
abbrev pub tags_by : TagReader → List TextRow → List (List (List ℕ))
tags_by r rows = map (λ (row : TextRow). tag_texts r row.text) rows

abbrev pub said : List TextRow → List (List (List ℕ))
said rows = map (λ (row : TextRow). row.tags) rows

-- tags and what is none, and attributes
abbrev pub tag_rows : List TextRow
tag_rows =
    has (codes "a<b>c</b >d") (codes "<b>" ∷ codes "</b >" ∷ [])
    ∷ has (codes "a<b") []
    ∷ has (codes "<3>a < b>") []
    ∷ has (codes "<<b>") (codes "<b>" ∷ [])
    ∷ has (codes "</></ a></3><?x><!x>") []
    ∷ has (codes "<!DOCTYPE a \"b>c\"><i>") (codes "<i>" ∷ [])
    ∷ has (codes "<a b=\">\"c='>'d = e\">") (codes "<a b=\">\"c='>'d = e\">" ∷ [])
    ∷ has (codes "<a  b  =  '>'  c d='>' e=f g='>' //h='>'>") (codes "<a  b  =  '>'  c d='>' e=f g='>' //h='>'>" ∷ [])
    ∷ has (codes "<?a<a><!a<b></ <c><!-a<d><i>") (codes "<i>" ∷ [])
    ∷ has (codes "</a b></a b=c></a b=></a b ></a/><i>")
    (codes "</a b>" ∷ codes "</a b=c>" ∷ codes "</a b=>" ∷ codes "</a b >" ∷ codes "</a/>" ∷ codes "<i>" ∷ [])
    ∷ has (codes "<a/b=c/d>") (codes "<a/b=c/d>" ∷ [])
    ∷ has (codes "<a =\"b>\">") (codes "<a =\"b>" ∷ [])
    ∷ has (codes "<a b=>c>") (codes "<a b=>" ∷ [])
    ∷ has (codes "<a b/=\">\">") (codes "<a b/=\">" ∷ [])
    ∷ has (codes "<a" ++ 13 ∷ codes "b" ++ 13 ∷ codes "=" ++ 13 ∷ codes "'>'>") ((codes "<a" ++ 13 ∷ codes "b" ++ 13 ∷ codes "=" ++ 13 ∷ codes "'>'>") ∷ [])
    ∷ has (codes "<a b=" ++ 12 ∷ codes "'>'c=" ++ 9 ∷ codes "'>'d=" ++ 10 ∷ codes "'>'>") ((codes "<a b=" ++ 12 ∷ codes "'>'c=" ++ 9 ∷ codes "'>'d=" ++ 10 ∷ codes "'>'>") ∷ [])
    ∷ has (codes "<a" ++ 0 ∷ codes "b>") ((codes "<a" ++ 0 ∷ codes "b>") ∷ [])
    ∷ []

-- comments
abbrev pub comment_rows : List TextRow
comment_rows =
    has (codes "<!--><a><!---><b><!----><i>") (codes "<a>" ∷ codes "<b>" ∷ codes "<i>" ∷ [])
    ∷ has (codes "<!--a--!><b>") (codes "<b>" ∷ [])
    ∷ has (codes "<!--!><a>--><b>") (codes "<b>" ∷ [])
    ∷ has (codes "<!--a--!-><b>-- ><i>--><u>") (codes "<u>" ∷ [])
    ∷ has (codes "<!---a><i>--><b><!--a---><u>") (codes "<b>" ∷ codes "<u>" ∷ [])
    ∷ has (codes "<!--a--!b><i>--><b>") (codes "<b>" ∷ [])
    ∷ has (codes "<!----<a><a>--><b><!--a---<i><i>--><u>") (codes "<b>" ∷ codes "<u>" ∷ [])
    ∷ has (codes "<!--a<!--><b>") (codes "<b>" ∷ [])
    ∷ has (codes "<!-a--><b>") (codes "<b>" ∷ [])
    ∷ has (codes "<![CDATA[<a><b>]]><i>") (codes "<b>" ∷ codes "<i>" ∷ [])
    ∷ []

-- texts of elements
abbrev pub text_rows : List TextRow
text_rows =
    has (codes "<title><a></titles></TITLE b='>'><i>") (codes "<title>" ∷ codes "</TITLE b='>'>" ∷ codes "<i>" ∷ [])
    ∷ has (codes "<title></titles<a></b <i></ <u></title><b>") (codes "<title>" ∷ codes "</title>" ∷ codes "<b>" ∷ [])
    ∷ has (codes "<TextArea></a></textarea/><i>") (codes "<TextArea>" ∷ codes "</textarea/>" ∷ codes "<i>" ∷ [])
    ∷ has (codes "<style><!--<a></style>--><i>") (codes "<style>" ∷ codes "</style>" ∷ codes "<i>" ∷ [])
    ∷ has (codes "<xmp></ xmp><</xmp ><i>") (codes "<xmp>" ∷ codes "</xmp >" ∷ codes "<i>" ∷ [])
    ∷ has (codes "<iframe><a></iframe><i>") (codes "<iframe>" ∷ codes "</iframe>" ∷ codes "<i>" ∷ [])
    ∷ has (codes "<noembed><a></noembed><i>") (codes "<noembed>" ∷ codes "</noembed>" ∷ codes "<i>" ∷ [])
    ∷ has (codes "<noframes><a></noframes><i>") (codes "<noframes>" ∷ codes "</noframes>" ∷ codes "<i>" ∷ [])
    ∷ has (codes "<plaintext></plaintext><i>") (codes "<plaintext>" ∷ [])
    ∷ []

-- what stands in a script, and is none of its tags
abbrev pub in_script : List ℕ → TextRow
in_script text = has (codes "<script>" ++ text ++ codes "</script b>") (codes "<script>" ∷ codes "</script b>" ∷ [])

-- scripts, and what begins like a comment in them
abbrev pub script_rows : List TextRow
script_rows =
    in_script (codes "<a>")
    ∷ in_script (codes "<!--a-b--c---d< e</ f</g</h><i<j><script></script>")
    ∷ in_script (codes "<!<a><!-<b></ <i></scripts<u>")
    ∷ in_script (codes "<!--< <a></ <b></scripts<u><i<b>")
    ∷ in_script (codes "<!--<script>---<a>--><script>")
    ∷ in_script (codes "<!--<script></script><a>-->")
    ∷ in_script (codes "<!--<SCRIPT/</script><a>")
    ∷ in_script (codes "<!--<script></script><script></script>")
    ∷ in_script (codes "<!--<scripts>")
    ∷ in_script (codes "<!--<script->")
    ∷ in_script (codes "<!--><script>")
    ∷ in_script (codes "<!-<script>")
    ∷ in_script (codes "<!a--<script>")
    ∷ in_script (codes "<!--a--><script>")
    ∷ in_script (codes "<!--a---><script>")
    ∷ in_script (codes "<!--<script>---><a></b><script>")
    ∷ in_script (codes "<!--<script>-a--b---c</d><</script->< /script></script>")
    ∷ has (codes "<script><!--</script><i>") (codes "<script>" ∷ codes "</script>" ∷ codes "<i>" ∷ [])
    ∷ has (codes "<script><!--<script>--!></script><i>") (codes "<script>" ∷ [])
    ∷ []

-- where scripts run and where they don't
abbrev pub noscript : List ℕ
noscript = codes "<noscript><b></noscript>"

abbrev pub with_scripting : List TextRow
with_scripting = has noscript (codes "<noscript>" ∷ codes "</noscript>" ∷ []) ∷ []

abbrev pub without_scripting : List TextRow
without_scripting = has noscript (codes "<noscript>" ∷ codes "<b>" ∷ codes "</noscript>" ∷ []) ∷ []

-- in an element that is no HTML element
abbrev pub in_foreign : TagReader
in_foreign = told_foreign true (fresh false)

abbrev pub foreign_rows : List TextRow
foreign_rows =
    has (codes "<![CDATA[<a>]]]><i>") (codes "<i>" ∷ [])
    ∷ has (codes "<![CDATA[a]]b>]><a>]]><i>") (codes "<i>" ∷ [])
    ∷ has (codes "<![CDATA[a]<a>]]]<b><b>]]><i>") (codes "<i>" ∷ [])
    ∷ has (codes "<![CDATA><b><![cdata[<a><i>") (codes "<b>" ∷ codes "<i>" ∷ [])
    ∷ has (codes "<![><a><![C><b><![CD><i><![CDA><u><![CDAT><s>") (codes "<a>" ∷ codes "<b>" ∷ codes "<i>" ∷ codes "<u>" ∷ codes "<s>" ∷ [])
    ∷ []

-- `<style>` was read, and the reader told that it is no HTML element
abbrev pub in_foreign_style : TagReader
in_foreign_style = told_foreign true (after (fresh false) (codes "<style>"))

-- a tag's places and marks
abbrev pub tag : ℕ → ℕ → ℕ → Bool → Bool → Tag
tag start name_end end is_end self_closing =
    record { start = start; name_end = name_end; end = end; is_end = is_end; self_closing = self_closing }

-- a tag, where its name ends, and its attributes
pub record AttributeRow : Type 0 where
  pub tag : List ℕ
  pub name_end : ℕ
  pub attributes : List Attribute

abbrev pub has_attributes : List ℕ → ℕ → List Attribute → AttributeRow
has_attributes tag name_end attributes = record { tag = tag; name_end = name_end; attributes = attributes }

abbrev pub valued : List ℕ → List ℕ → Attribute
valued name value = record { name = name; value = Some value }

abbrev pub attribute_rows : List AttributeRow
attribute_rows =
    has_attributes (codes "<a>") 2 []
    ∷ has_attributes (codes "<a b/>") 2 (valued (codes "b") [] ∷ [])
    ∷ has_attributes (codes "<a b=c/ d>") 2 (valued (codes "b") (codes "c/") ∷ valued (codes "d") [] ∷ [])
    ∷ has_attributes (codes "<a/b=/c>") 2 (valued (codes "b") (codes "/c") ∷ [])
    ∷ has_attributes (codes "<a/b/c=\"\">") 2 (valued (codes "b") [] ∷ valued (codes "c") [] ∷ [])
    ∷ has_attributes (codes "<a B = 'x>\"'c=\"y'>\"d>") 2 (valued (codes "B") (codes "x>\"") ∷ valued (codes "c") (codes "y'>") ∷ valued (codes "d") [] ∷ [])
    ∷ has_attributes (codes "<a =\"y\">") 2 (valued (codes "=\"y\"") [] ∷ [])
    ∷ has_attributes (codes "<a ==x =y>") 2 (valued (codes "=") (codes "x") ∷ valued (codes "=y") [] ∷ [])
    ∷ has_attributes (codes "<a b c = d e= >") 2 (valued (codes "b") [] ∷ valued (codes "c") (codes "d") ∷ valued (codes "e") [] ∷ [])
    ∷ has_attributes (codes "<a b=x\"y b='z'>") 2 (valued (codes "b") (codes "x\"y") ∷ valued (codes "b") (codes "z") ∷ [])
    ∷ has_attributes (codes "</a b='c'/>") 3 (valued (codes "b") (codes "c") ∷ [])
    ∷ []

-- an attribute's name, its value, and the whole of it
abbrev pub outline : ℕ → ℕ → ℕ → ℕ → ℕ → AttributeOutline
outline name_start name_end value_start value_end end =
    record { name = range name_start name_end; value = Some (range value_start value_end); raw_range = range name_start end }
