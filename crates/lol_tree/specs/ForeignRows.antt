-- Worked rows of foreign content (HTML Standard, 13.2.6.5), from the tree construction tests of html5lib.
use Rattle.std.specs.Prelude.{List, [], ◌∷◌}
use Rattle.lol_tree.specs.TreeRows.{TreeRow, has_tree, attribute, closing, html_doctype, end, start, start_with, some_text}

-- integration points
abbrev pub integration_rows : List TreeRow
integration_rows =
    has_tree (start "svg" ∷ start "title" ∷ start "div" ∷ []) "html .head .body ..svg:svg ...svg:title ....div"
    ∷ has_tree (start "svg" ∷ start "title" ∷ start "svg" ∷ start "div" ∷ []) "html .head .body ..svg:svg ...svg:title ....svg:svg ....div"
    ∷ has_tree (start "math" ∷ start "mo" ∷ start "mglyph" ∷ []) "html .head .body ..math:math ...math:mo ....math:mglyph"
    ∷ has_tree (start "math" ∷ start "mo" ∷ start "malignmark" ∷ []) "html .head .body ..math:math ...math:mo ....math:malignmark"
    ∷ has_tree (html_doctype ∷ start "p" ∷ start "math" ∷ start "mi" ∷ start "p" ∷ start "h1" ∷ [])
    "html .head .body ..p ...math:math ....math:mi .....p .....h1"
    ∷ has_tree (start "math" ∷ start_with "annotation-xml" (attribute "encoding" "text/html" ∷ []) ∷ start "div" ∷ [])
    "html .head .body ..math:math ...math:annotation-xml ....div"
    ∷ has_tree (start "math" ∷ start_with "annotation-xml" (attribute "encoding" " text/html " ∷ []) ∷ start "div" ∷ [])
    "html .head .body ..math:math ...math:annotation-xml ..div"
    ∷ has_tree (start "math" ∷ start "annotation-xml" ∷ start "svg" ∷ some_text ∷ [])
    "html .head .body ..math:math ...math:annotation-xml ....svg:svg"
    ∷ has_tree (start "table" ∷ start "tr" ∷ start "td" ∷ start "svg" ∷ start "desc" ∷ start "td" ∷ [])
    "html .head .body ..table ...tbody ....tr .....td ......svg:svg .......svg:desc .....td"
    ∷ []

-- tags that leave foreign content
abbrev pub leaving_rows : List TreeRow
leaving_rows =
    has_tree (start "math" ∷ start "annotation-xml" ∷ start "div" ∷ []) "html .head .body ..math:math ...math:annotation-xml ..div"
    ∷ has_tree (start "svg" ∷ start_with "font" (attribute "size" "4" ∷ []) ∷ end "font" ∷ end "svg" ∷ []) "html .head .body ..svg:svg ..font"
    ∷ has_tree (start "svg" ∷ start_with "font" (attribute "font" "sans" ∷ []) ∷ end "font" ∷ end "svg" ∷ []) "html .head .body ..svg:svg ...svg:font"
    ∷ has_tree (html_doctype ∷ start "math" ∷ start "annotation-xml" ∷ start "svg" ∷ start "u" ∷ [])
    "html .head .body ..math:math ...math:annotation-xml ....svg:svg ..u"
    ∷ has_tree (html_doctype ∷ start "p" ∷ start "math" ∷ start "mo" ∷ start "p" ∷ start "h1" ∷ [])
    "html .head .body ..p ...math:math ....math:mo .....p .....h1"
    ∷ []

-- end tags, and tags that close themselves
abbrev pub foreign_end_rows : List TreeRow
foreign_end_rows =
    has_tree (start "div" ∷ start "svg" ∷ start "path" ∷ end "svg" ∷ start "path" ∷ []) "html .head .body ..div ...svg:svg ....svg:path ...path"
    ∷ has_tree (start "div" ∷ start "svg" ∷ start "path" ∷ start "foreignobject" ∷ start "p" ∷ end "div" ∷ some_text ∷ [])
    "html .head .body ..div ...svg:svg ....svg:path .....svg:foreignobject ......p"
    ∷ has_tree (start "div" ∷ start "svg" ∷ start "path" ∷ start "foreignobject" ∷ start "math" ∷ end "div" ∷ some_text ∷ [])
    "html .head .body ..div ...svg:svg ....svg:path .....svg:foreignobject ......math:math"
    ∷ has_tree (start "svg" ∷ start "em" ∷ start "desc" ∷ end "em" ∷ []) "html .head .body ..svg:svg ..em ...desc"
    ∷ has_tree (start "svg" ∷ start "foreignobject" ∷ end "foreignobject" ∷ start "title" ∷ end "svg" ∷ some_text ∷ [])
    "html .head .body ..svg:svg ...svg:foreignobject ...svg:title"
    ∷ has_tree (html_doctype ∷ closing "svg" ∷ start "foo" ∷ []) "html .head .body ..svg:svg ..foo"
    ∷ has_tree (html_doctype ∷ start "body" ∷ start "svg" ∷ closing "solidcolor" ∷ end "svg" ∷ []) "html .head .body ..svg:svg ...svg:solidcolor"
    ∷ []
