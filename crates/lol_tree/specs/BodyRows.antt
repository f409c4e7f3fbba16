-- Worked rows of the rules for bodies (HTML Standard, 13.2.6.4.7), from the tree construction tests of html5lib.
use Rattle.std.specs.Prelude.{ℕ, List, [], ◌∷◌, ◌++◌, map, codes}
use Prim.Native.String.{String}
use Rattle.std.specs.List.{concat}
use Rattle.lol_tree.specs.Scopes.{names}
use Rattle.lol_tree.specs.Insertions.{plain_tag}
use Rattle.lol_tree.specs.Told.{TreeToken, StartToken, EndToken}
use Rattle.lol_tree.specs.TreeRows.{TreeRow, has_tree, attribute, closing, html_doctype, end, white_space, start, start_with, some_text}

-- `p`: what closes it, where a button keeps it open, in which mode a table does, and a stray `</p>`
abbrev pub paragraph_rows : List TreeRow
paragraph_rows =
    has_tree (html_doctype ∷ start "p" ∷ some_text ∷ start "article" ∷ some_text ∷ start "p" ∷ some_text ∷ []) "html .head .body ..p ..article ...p"
    ∷ has_tree (html_doctype ∷ start "p" ∷ some_text ∷ start "center" ∷ some_text ∷ start "p" ∷ some_text ∷ []) "html .head .body ..p ..center ...p"
    ∷ has_tree (html_doctype ∷ start "p" ∷ start "button" ∷ start "p" ∷ []) "html .head .body ..p ...button ....p"
    ∷ has_tree (html_doctype ∷ start "p" ∷ end "h3" ∷ some_text ∷ []) "html .head .body ..p"
    ∷ has_tree (start "p" ∷ start "hr" ∷ end "p" ∷ []) "html .head .body ..p ..hr ..p"
    ∷ has_tree (html_doctype ∷ start "html" ∷ start "body" ∷ start "p" ∷ start "table" ∷ end "table" ∷ end "body" ∷ end "html" ∷ [])
    "html .head .body ..p ..table"
    ∷ has_tree (start "p" ∷ start "table" ∷ end "table" ∷ []) "html .head .body ..p ...table"
    ∷ has_tree (start "p" ∷ start "xmp" ∷ end "xmp" ∷ []) "html .head .body ..p ..xmp"
    ∷ []

-- `li`, `dd` and `dt`
abbrev pub item_rows : List TreeRow
item_rows =
    has_tree (start "ul" ∷ start "li" ∷ some_text ∷ end "li" ∷ white_space ∷ start "li" ∷ some_text ∷ end "li" ∷ end "ul" ∷ [])
    "html .head .body ..ul ...li ...li"
    ∷ has_tree (start "dd" ∷ start "dd" ∷ start "dt" ∷ start "dt" ∷ start "dd" ∷ start "li" ∷ start "li" ∷ [])
    "html .head .body ..dd ..dd ..dt ..dt ..dd ...li ...li"
    ∷ has_tree (html_doctype ∷ start "li" ∷ start "menuitem" ∷ start "li" ∷ []) "html .head .body ..li ...menuitem ..li"
    ∷ has_tree (html_doctype ∷ start "dt" ∷ start "div" ∷ start "dd" ∷ []) "html .head .body ..dt ...div ..dd"
    ∷ has_tree (html_doctype ∷ start "html" ∷ start "head" ∷ end "head" ∷ start "body" ∷ start "ul" ∷ start "li" ∷ start "div" ∷ start "p"
    ∷ start "li" ∷ end "ul" ∷ end "body" ∷ end "html" ∷ [])
    "html .head .body ..ul ...li ....div .....p ...li"
    ∷ has_tree (start "ul" ∷ start "li" ∷ end "li" ∷ start "div" ∷ start "li" ∷ end "div" ∷ start "li" ∷ start "li" ∷ start "div" ∷ start "li"
    ∷ start "address" ∷ start "li" ∷ start "b" ∷ start "em" ∷ end "b" ∷ start "li" ∷ end "ul" ∷ [])
    "html .head .body ..ul ...li ...div ....li ...li ...li ....div ...li ....address ...li ....b .....em ...li"
    ∷ has_tree (html_doctype ∷ start "dl" ∷ start "p" ∷ some_text ∷ end "dl" ∷ some_text ∷ []) "html .head .body ..dl ...p"
    ∷ []

-- headings
abbrev pub heading_rows : List TreeRow
heading_rows =
    has_tree (start "h1" ∷ start "h2" ∷ []) "html .head .body ..h1 ..h2"
    ∷ has_tree (start "h1" ∷ start "table" ∷ start "td" ∷ start "h3" ∷ end "table" ∷ start "h3" ∷ end "h1" ∷ [])
    "html .head .body ..h1 ...table ....tbody .....tr ......td .......h3 ..h3"
    ∷ has_tree (html_doctype ∷ start "h1" ∷ start "div" ∷ start "h3" ∷ start "span" ∷ end "h1" ∷ some_text ∷ [])
    "html .head .body ..h1 ...div ....h3 .....span"
    ∷ has_tree (html_doctype ∷ start "h3" ∷ start "li" ∷ some_text ∷ end "h2" ∷ some_text ∷ []) "html .head .body ..h3 ...li"
    ∷ []

-- `option`, `optgroup` and the parts of `ruby`
abbrev pub option_rows : List TreeRow
option_rows =
    has_tree (start "option" ∷ start "option" ∷ []) "html .head .body ..option ..option"
    ∷ has_tree (start "option" ∷ start "span" ∷ start "option" ∷ []) "html .head .body ..option ...span ....option"
    ∷ has_tree (html_doctype ∷ start "datalist" ∷ start "option" ∷ some_text ∷ end "datalist" ∷ some_text ∷ [])
    "html .head .body ..datalist ...option"
    ∷ has_tree (html_doctype ∷ start "dd" ∷ start "optgroup" ∷ start "dd" ∷ []) "html .head .body ..dd ...optgroup ..dd"
    ∷ has_tree (html_doctype ∷ start "ruby" ∷ start "p" ∷ start "rp" ∷ []) "html .head .body ..ruby ...p ...rp"
    ∷ has_tree (start "html" ∷ start "ruby" ∷ some_text ∷ start "rb" ∷ some_text ∷ start "rp" ∷ end "ruby" ∷ end "html" ∷ [])
    "html .head .body ..ruby ...rb ...rp"
    ∷ has_tree (start "html" ∷ start "ruby" ∷ some_text ∷ start "rtc" ∷ some_text ∷ start "rb" ∷ end "ruby" ∷ end "html" ∷ [])
    "html .head .body ..ruby ...rtc ...rb"
    ∷ has_tree (start "html" ∷ start "ruby" ∷ some_text ∷ start "rtc" ∷ some_text ∷ start "rt" ∷ some_text ∷ start "rt" ∷ some_text ∷ end "ruby"
    ∷ end "html" ∷ [])
    "html .head .body ..ruby ...rtc ....rt ....rt"
    ∷ has_tree (html_doctype ∷ start "ruby" ∷ start "div" ∷ start "span" ∷ start "rt" ∷ []) "html .head .body ..ruby ...div ....span .....rt"
    ∷ []

-- `button` and `form`: one at a time, and the end of a form inside others
abbrev pub form_rows : List TreeRow
form_rows =
    has_tree (start "button" ∷ start "button" ∷ []) "html .head .body ..button ..button"
    ∷ has_tree (start "button" ∷ start "p" ∷ start "button" ∷ []) "html .head .body ..button ...p ..button"
    ∷ has_tree (start "form" ∷ start "form" ∷ []) "html .head .body ..form"
    ∷ has_tree (html_doctype ∷ start "form" ∷ start "div" ∷ end "form" ∷ start "div" ∷ []) "html .head .body ..form ...div ....div"
    ∷ has_tree (html_doctype ∷ start "table" ∷ start "form" ∷ end "table" ∷ start "form" ∷ []) "html .head .body ..table ...form"
    ∷ has_tree (html_doctype ∷ start "form" ∷ start "table" ∷ start "form" ∷ []) "html .head .body ..form ...table"
    ∷ has_tree (html_doctype ∷ start "form" ∷ start "table" ∷ end "form" ∷ start "form" ∷ end "table" ∷ end "form" ∷ [])
    "html .head .body ..form ...table ....form"
    ∷ has_tree (html_doctype ∷ start "div" ∷ start "form" ∷ end "form" ∷ start "div" ∷ end "div" ∷ end "div" ∷ [])
    "html .head .body ..div ...form ...div"
    ∷ []

-- end tags: those of blocks in scope, others up to a special element, and what is ignored
abbrev pub end_tag_rows : List TreeRow
end_tag_rows =
    has_tree (html_doctype ∷ start "aside" ∷ start "p" ∷ some_text ∷ end "aside" ∷ some_text ∷ []) "html .head .body ..aside ...p"
    ∷ has_tree (html_doctype ∷ start "summary" ∷ start "article" ∷ end "summary" ∷ some_text ∷ []) "html .head .body ..summary ...article"
    ∷ has_tree (html_doctype ∷ start "p" ∷ start "applet" ∷ start "p" ∷ some_text ∷ end "p" ∷ end "applet" ∷ [])
    "html .head .body ..p ...applet ....p"
    ∷ has_tree (start "button" ∷ some_text ∷ end "foo" ∷ []) "html .head .body ..button"
    ∷ has_tree (start "div" ∷ some_text ∷ start "div" ∷ end "div" ∷ white_space ∷ end "span" ∷ some_text ∷ []) "html .head .body ..div ...div"
    ∷ has_tree (html_doctype ∷ start "object" ∷ end "html" ∷ []) "html .head .body ..object"
    ∷ has_tree (html_doctype ∷ start "menuitem" ∷ end "body" ∷ []) "html .head .body ..menuitem"
    ∷ []

-- formatting elements: created again, at most three alike, and those that stand once
abbrev pub formatting_rows : List TreeRow
formatting_rows =
    has_tree (start "p" ∷ start "b" ∷ start "b" ∷ start "b" ∷ start "b" ∷ start "p" ∷ some_text ∷ [])
    "html .head .body ..p ...b ....b .....b ......b ..p ...b ....b .....b"
    ∷ has_tree (start "p" ∷ start "b" ∷ start "i" ∷ start "u" ∷ end "p" ∷ white_space ∷ start "p" ∷ some_text ∷ [])
    "html .head .body ..p ...b ....i .....u ..b ...i ....u .....p"
    ∷ has_tree (start "p" ∷ start_with "font" (attribute "size" "4" ∷ []) ∷ start_with "font" (attribute "size" "4" ∷ [])
    ∷ start_with "font" (attribute "size" "4" ∷ []) ∷ start_with "font" (attribute "size" "4" ∷ []) ∷ start "p" ∷ some_text ∷ [])
    "html .head .body ..p ...font ....font .....font ......font ..p ...font ....font .....font"
    ∷ has_tree (start "p" ∷ start_with "font" (attribute "size" "4" ∷ []) ∷ start_with "font" (attribute "size" "4" ∷ [])
    ∷ start_with "font" (attribute "size" "4" ∷ []) ∷ start_with "font" (attribute "size" "5" ∷ [])
    ∷ start_with "font" (attribute "size" "4" ∷ []) ∷ start "p" ∷ some_text ∷ [])
    "html .head .body ..p ...font ....font .....font ......font .......font ..p ...font ....font .....font ......font"
    ∷ has_tree (start "p" ∷ start_with "font" (attribute "size" "4" ∷ attribute "id" "a" ∷ [])
    ∷ start_with "font" (attribute "size" "4" ∷ attribute "id" "b" ∷ []) ∷ start_with "font" (attribute "size" "4" ∷ [])
    ∷ start_with "font" (attribute "size" "4" ∷ []) ∷ start "p" ∷ some_text ∷ [])
    "html .head .body ..p ...font ....font .....font ......font ..p ...font ....font .....font ......font"
    ∷ has_tree (start_with "b" (attribute "id" "a" ∷ []) ∷ start "p" ∷ start_with "b" (attribute "id" "b" ∷ []) ∷ end "p" ∷ end "b" ∷ some_text ∷ [])
    "html .head .body ..b ...p ....b"
    ∷ has_tree (start "p" ∷ start_with "code" (attribute "x<" "" ∷ attribute "code" "" ∷ []) ∷ end "p" ∷ white_space ∷ [])
    "html .head .body ..p ...code ..code"
    ∷ has_tree (start "b" ∷ some_text ∷ end "i" ∷ some_text ∷ []) "html .head .body ..b"
    ∷ has_tree (start_with "a" (attribute "x" "" ∷ []) ∷ some_text ∷ start "b" ∷ some_text ∷ start_with "a" (attribute "y" "" ∷ []) ∷ some_text ∷ [])
    "html .head .body ..a ...b ..b ...a"
    ∷ has_tree (html_doctype ∷ start "nobr" ∷ start "nobr" ∷ start "nobr" ∷ []) "html .head .body ..nobr ..nobr ..nobr"
    ∷ has_tree (html_doctype ∷ start "nobr" ∷ start "nobr" ∷ end "nobr" ∷ start "nobr" ∷ []) "html .head .body ..nobr ..nobr ..nobr"
    ∷ has_tree (start_with "a" (attribute "href" "a" ∷ []) ∷ some_text ∷ start "marquee" ∷ some_text ∷ start_with "a" (attribute "href" "b" ∷ [])
    ∷ some_text
    ∷ end "marquee" ∷ some_text ∷ [])
    "html .head .body ..a ...marquee ....a"
    ∷ []

-- `image`, void elements, and text without tags
abbrev pub other_rows : List TreeRow
other_rows =
    has_tree (html_doctype ∷ closing "image" ∷ []) "html .head .body ..img"
    ∷ has_tree (html_doctype ∷ start "p" ∷ start "button" ∷ start "hr" ∷ []) "html .head .body ..p ...button ....hr"
    ∷ has_tree (html_doctype ∷ start "a" ∷ start "b" ∷ end "a" ∷ start "bgsound" ∷ []) "html .head .body ..a ...b ..bgsound"
    ∷ has_tree (start "textarea" ∷ some_text ∷ []) "html .head .body ..textarea"
    ∷ has_tree (start "plaintext" ∷ some_text ∷ []) "html .head .body ..plaintext"
    ∷ has_tree (start "iframe" ∷ some_text ∷ end "iframe" ∷ some_text ∷ end "iframe" ∷ []) "html .head .body ..iframe"
    ∷ []

-- The same page for each of many names: these words stand once more, apart from those of the rules.
abbrev pub for_each : String → (List ℕ → TreeRow) → List TreeRow
for_each words row = map row (names words)

abbrev pub start_named : List ℕ → TreeToken
start_named name = StartToken (plain_tag name)

abbrev pub body_with : List (List ℕ) → List ℕ
body_with parts = codes "html .head .body" ++ concat parts

abbrev pub block_row : List ℕ → TreeRow
block_row name = record {
  tokens = start "p" ∷ start_named name ∷ start "p" ∷ EndToken name ∷ start "i" ∷ [];
  tree = body_with (codes " ..p .." ∷ name ∷ codes " ...p ..i" ∷ []);
}

abbrev pub formatting_row : List ℕ → TreeRow
formatting_row name = record {
  tokens = start "p" ∷ start_named name ∷ end "p" ∷ some_text ∷ EndToken name ∷ start "br" ∷ [];
  tree = body_with (codes " ..p ..." ∷ name ∷ codes " .." ∷ name ∷ codes " ..br" ∷ []);
}

abbrev pub heading_row : List ℕ → TreeRow
heading_row name = record {
  tokens = start "p" ∷ start "h3" ∷ start_named name ∷ start "i" ∷ EndToken (codes "h2") ∷ start "br" ∷ [];
  tree = body_with (codes " ..p ..h3 .." ∷ name ∷ codes " ...i ..i ...br" ∷ []);
}

abbrev pub void_row : List ℕ → TreeRow
void_row name = record {
  tokens = start "div" ∷ start_named name ∷ EndToken name ∷ start "i" ∷ [];
  tree = body_with (codes " ..div ..." ∷ name ∷ codes " ...i" ∷ []);
}

abbrev pub part_row : List ℕ → TreeRow
part_row name = record { tokens = start "div" ∷ start_named name ∷ EndToken name ∷ start "i" ∷ []; tree = body_with (codes " ..div ...i" ∷ []) }

abbrev pub raw_row : List ℕ → TreeRow
raw_row name = record {
  tokens = start "div" ∷ start_named name ∷ some_text ∷ EndToken (codes "x") ∷ start "i" ∷ [];
  tree = body_with (codes " ..div ..." ∷ name ∷ codes " ...i" ∷ []);
}

abbrev pub each_name_rows : List TreeRow
each_name_rows =
    for_each "address article aside blockquote center details dialog dir div dl fieldset figcaption figure footer header hgroup listing" block_row
    ++ for_each "main menu nav ol pre search section summary ul" block_row
    ++ for_each "b big code em font i s small strike strong tt u a nobr" formatting_row
    ++ for_each "h1 h2 h3 h4 h5 h6" heading_row
    ++ for_each "area base basefont bgsound embed hr img input keygen link meta param source track wbr" void_row
    ++ for_each "html head body frame frameset caption col colgroup tbody td tfoot th thead tr" part_row
    ++ for_each "title textarea style script xmp iframe noembed noframes" raw_row
