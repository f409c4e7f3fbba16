-- Worked rows of the other insertion modes (HTML Standard, 13.2.6.4), from the tree construction tests of html5lib.
use Rattle.std.specs.Prelude.{List, [], ◌∷◌}
use Rattle.lol_tree.specs.TreeRows.{TreeRow, has_tree, attribute, html_doctype, end, white_space, start, start_with, some_text}

-- `html`, `head` and `body`: implied, written, and a second time
abbrev pub document_rows : List TreeRow
document_rows =
    has_tree (start "head" ∷ []) "html .head .body"
    ∷ has_tree (start "head" ∷ end "p" ∷ start "meta" ∷ start "p" ∷ []) "html .head ..meta .body ..p"
    ∷ has_tree (start "head" ∷ start "meta" ∷ end "head" ∷ start "link" ∷ []) "html .head ..meta ..link .body"
    ∷ has_tree (start "head" ∷ end "head" ∷ start "template" ∷ some_text ∷ end "template" ∷ []) "html .head ..template .body"
    ∷ has_tree (html_doctype ∷ end "head" ∷ start "title" ∷ some_text ∷ end "title" ∷ []) "html .head ..title .body"
    ∷ has_tree (end "body" ∷ []) "html .head .body"
    ∷ has_tree (html_doctype ∷ end "body" ∷ start "title" ∷ some_text ∷ end "title" ∷ []) "html .head .body ..title"
    ∷ has_tree (html_doctype ∷ end "html" ∷ white_space ∷ start "head" ∷ []) "html .head .body"
    ∷ has_tree (html_doctype ∷ start_with "html" (attribute "a" "b" ∷ []) ∷ start "head" ∷ end "head" ∷ start_with "html" (attribute "c" "d" ∷ [])
    ∷ [])
    "html .head .body"
    ∷ has_tree (html_doctype ∷ start "html" ∷ start "head" ∷ start "head" ∷ end "head" ∷ end "html" ∷ []) "html .head .body"
    ∷ []

-- `noscript` in the head, where scripts don't run
abbrev pub noscript_rows : List TreeRow
noscript_rows =
    has_tree (start "head" ∷ start "noscript" ∷ end "noscript" ∷ []) "html .head ..noscript .body"
    ∷ has_tree (start "head" ∷ start "noscript" ∷ start "link" ∷ end "noscript" ∷ []) "html .head ..noscript ...link .body"
    ∷ has_tree (start "head" ∷ start "noscript" ∷ start "style" ∷ some_text ∷ end "style" ∷ end "noscript" ∷ [])
    "html .head ..noscript ...style .body"
    ∷ has_tree (start "head" ∷ start "noscript" ∷ end "br" ∷ end "noscript" ∷ []) "html .head ..noscript .body ..br"
    ∷ has_tree (start "head" ∷ start "noscript" ∷ start "p" ∷ end "noscript" ∷ []) "html .head ..noscript .body ..p"
    ∷ has_tree (start "head" ∷ start "noscript" ∷ start_with "head" (attribute "class" "foo" ∷ []) ∷ end "noscript" ∷ [])
    "html .head ..noscript .body"
    ∷ []

-- tables and their parts
abbrev pub table_rows : List TreeRow
table_rows =
    has_tree (start "table" ∷ start "th" ∷ []) "html .head .body ..table ...tbody ....tr .....th"
    ∷ has_tree (start "table" ∷ start "td" ∷ []) "html .head .body ..table ...tbody ....tr .....td"
    ∷ has_tree (start "table" ∷ start_with "col" (attribute "foo" "bar" ∷ []) ∷ []) "html .head .body ..table ...colgroup ....col"
    ∷ has_tree (start "table" ∷ end "table" ∷ start "p" ∷ some_text ∷ []) "html .head .body ..table ..p"
    ∷ has_tree (start "table" ∷ start "col" ∷ start "tbody" ∷ start "col" ∷ start "tr" ∷ start "col" ∷ start "td" ∷ start "col" ∷ end "table"
    ∷ start "col" ∷ [])
    "html .head .body ..table ...colgroup ....col ...tbody ...colgroup ....col ...tbody ....tr ...colgroup ....col ...tbody ....tr .....td ...colgroup ....col"
    ∷ has_tree (html_doctype ∷ start "table" ∷ start "tr" ∷ end "tbody" ∷ start "tfoot" ∷ []) "html .head .body ..table ...tbody ....tr ...tfoot"
    ∷ has_tree (start "table" ∷ start "tr" ∷ start "tr" ∷ start "td" ∷ start "td" ∷ start "span" ∷ start "th" ∷ start "span" ∷ some_text ∷ end "table"
    ∷ [])
    "html .head .body ..table ...tbody ....tr ....tr .....td .....td ......span .....th ......span"
    ∷ has_tree (start "table" ∷ start "table" ∷ []) "html .head .body ..table ..table"
    ∷ has_tree (html_doctype ∷ start "table" ∷ start "tr" ∷ end "table" ∷ some_text ∷ []) "html .head .body ..table ...tbody ....tr"
    ∷ []

-- captions and columns
abbrev pub caption_rows : List TreeRow
caption_rows =
    has_tree (start "table" ∷ start "tr" ∷ start "caption" ∷ []) "html .head .body ..table ...tbody ....tr ...caption"
    ∷ has_tree (start "table" ∷ start "caption" ∷ start "td" ∷ []) "html .head .body ..table ...caption ...tbody ....tr .....td"
    ∷ has_tree (start "table" ∷ start "caption" ∷ end "table" ∷ []) "html .head .body ..table ...caption"
    ∷ has_tree (start "table" ∷ start "caption" ∷ start "div" ∷ end "caption" ∷ []) "html .head .body ..table ...caption ....div"
    ∷ has_tree (start "table" ∷ start "colgroup" ∷ end "col" ∷ []) "html .head .body ..table ...colgroup"
    ∷ has_tree (start "table" ∷ start "colgroup" ∷ start "html" ∷ end "colgroup" ∷ end "table" ∷ []) "html .head .body ..table ...colgroup"
    ∷ []

-- cells, and forms and inputs in tables
abbrev pub cell_rows : List TreeRow
cell_rows =
    has_tree (start "table" ∷ start "tr" ∷ start "td" ∷ end "th" ∷ []) "html .head .body ..table ...tbody ....tr .....td"
    ∷ has_tree (start "table" ∷ start "td" ∷ start "button" ∷ start "td" ∷ []) "html .head .body ..table ...tbody ....tr .....td ......button .....td"
    ∷ has_tree (start "table" ∷ start "td" ∷ some_text ∷ end "tbody" ∷ end "table" ∷ []) "html .head .body ..table ...tbody ....tr .....td"
    ∷ has_tree (start "table" ∷ start "td" ∷ end "thead" ∷ some_text ∷ []) "html .head .body ..table ...tbody ....tr .....td"
    ∷ has_tree (start "table" ∷ start "thead" ∷ start "td" ∷ end "tbody" ∷ some_text ∷ []) "html .head .body ..table ...thead ....tr .....td"
    ∷ has_tree (start "table" ∷ start "td" ∷ end "body" ∷ end "caption" ∷ end "col" ∷ end "colgroup" ∷ end "html" ∷ some_text ∷ [])
    "html .head .body ..table ...tbody ....tr .....td"
    ∷ has_tree (html_doctype ∷ start "table" ∷ start "form" ∷ start "form" ∷ []) "html .head .body ..table ...form"
    ∷ has_tree (html_doctype ∷ start "table" ∷ start_with "input" (attribute "type" "hidDEN" ∷ []) ∷ end "table" ∷ [])
    "html .head .body ..table ...input"
    ∷ []

-- `select`
abbrev pub select_rows : List TreeRow
select_rows =
    has_tree (start "select" ∷ start "keygen" ∷ []) "html .head .body ..select ..keygen"
    ∷ has_tree (html_doctype ∷ start "select" ∷ start "input" ∷ some_text ∷ []) "html .head .body ..select ..input"
    ∷ has_tree (html_doctype ∷ start "select" ∷ start "select" ∷ some_text ∷ []) "html .head .body ..select"
    ∷ has_tree (html_doctype ∷ start "select" ∷ start "option" ∷ start "option" ∷ []) "html .head .body ..select ...option ...option"
    ∷ has_tree (html_doctype ∷ start "select" ∷ start "option" ∷ start "optgroup" ∷ []) "html .head .body ..select ...option ...optgroup"
    ∷ has_tree (start "select" ∷ start "b" ∷ start "option" ∷ start "select" ∷ start "option" ∷ end "b" ∷ end "select" ∷ [])
    "html .head .body ..select ...option ..option"
    ∷ has_tree (html_doctype ∷ start "select" ∷ start "td" ∷ []) "html .head .body ..select"
    ∷ has_tree (start "select" ∷ start "html" ∷ end "select" ∷ []) "html .head .body ..select"
    ∷ []

-- `select` in tables
abbrev pub table_select_rows : List TreeRow
table_select_rows =
    has_tree (html_doctype ∷ start "table" ∷ start "tr" ∷ start "th" ∷ start "select" ∷ start "td" ∷ [])
    "html .head .body ..table ...tbody ....tr .....th ......select .....td"
    ∷ has_tree (html_doctype ∷ start "table" ∷ start "caption" ∷ start "select" ∷ start "tr" ∷ [])
    "html .head .body ..table ...caption ....select ...tbody ....tr"
    ∷ has_tree (start "body" ∷ start "table" ∷ start "tr" ∷ start "td" ∷ start "select" ∷ start "template" ∷ some_text ∷ end "template"
    ∷ start "caption" ∷ some_text ∷ end "table" ∷ [])
    "html .head .body ..table ...tbody ....tr .....td ......select .......template ...caption"
    ∷ []

-- `template`
abbrev pub template_rows : List TreeRow
template_rows =
    has_tree (start "template" ∷ start "div" ∷ []) "html .head ..template ...div .body"
    ∷ has_tree (start "template" ∷ start "template" ∷ start "td" ∷ []) "html .head ..template ...template ....td .body"
    ∷ has_tree (start "template" ∷ start "template" ∷ start "col" ∷ []) "html .head ..template ...template ....col .body"
    ∷ has_tree (start "body" ∷ start "template" ∷ start "tr" ∷ end "tr" ∷ start "td" ∷ end "td" ∷ end "template" ∷ [])
    "html .head .body ..template ...tr ...tr ....td"
    ∷ has_tree (start "body" ∷ start "template" ∷ start "template" ∷ start "tr" ∷ end "tr" ∷ end "template" ∷ start "td" ∷ end "td"
    ∷ end "template" ∷ [])
    "html .head .body ..template ...template ....tr ...td"
    ∷ has_tree (start "body" ∷ start "div" ∷ start "template" ∷ end "div" ∷ start "tr" ∷ start "td" ∷ some_text ∷ end "td" ∷ end "tr" ∷ end "template"
    ∷ [])
    "html .head .body ..div ...template ....tr .....td"
    ∷ has_tree (start "body" ∷ start "template" ∷ start "col" ∷ start "div" ∷ []) "html .head .body ..template ...col"
    ∷ has_tree (start "body" ∷ start "template" ∷ start "tr" ∷ end "tr" ∷ start "tbody" ∷ start "tr" ∷ end "tr" ∷ end "template" ∷ [])
    "html .head .body ..template ...tr ...tr"
    ∷ has_tree (start "body" ∷ end "body" ∷ start "template" ∷ []) "html .head .body ..template"
    ∷ has_tree (start "select" ∷ start "template" ∷ end "template" ∷ start "option" ∷ end "select" ∷ [])
    "html .head .body ..select ...template ...option"
    ∷ []
