-- Worked rows of what is told, and of what no tree shows, by the text of the HTML Standard and by the rules of this crate.
use Rattle.std.specs.Prelude.{ℕ, Bool, true, false, if◌then◌else◌, List, [], ◌∷◌, ◌++◌, length, map, drop, replicate, Option, Some, None, codes}
use Prim.Native.String.{String}
use Rattle.lol_base.specs.Names.{lowercased}
use Rattle.lol_tree.specs.TreeStates.{TreeEvent, StartTold, EndTold, fresh_tree}
use Rattle.lol_tree.specs.Doctypes.{Doctype}
use Rattle.lol_tree.specs.Told.{TreeToken, DoctypeToken, tree_events, told_by, tree_after, holds_raw_text, holds_plain_text, holds_cdata}
use Rattle.lol_tree.specs.TreeRows.{TreeRow, has_tree, attribute, closing, html_doctype, end, white_space, start, start_with, some_text}

-- Events as a text: `<` is a start tag of the page, `+` an implied one, and `/` the end of the innermost element.
abbrev pub mark : Bool → ℕ
mark implied = if implied then 43 else 60

abbrev pub event_words : List TreeEvent → List ℕ
event_words [] = []
event_words (StartTold implied tag ∷ events) = 32 ∷ mark implied ∷ lowercased tag.name ++ event_words events
event_words (EndTold name ∷ events) = 32 ∷ 47 ∷ name ++ event_words events

-- what a page tells behind `<body>`, which is told with what it implies: html, head and its end
abbrev pub events_told : Bool → List TreeRow → List (List ℕ)
events_told scripting rows =
    map (λ (row : TreeRow). drop (length (codes " +html +head /head <body ")) (event_words (tree_events scripting (start "body" ∷ row.tokens)))) rows

-- implied elements
abbrev pub implied_rows : List TreeRow
implied_rows =
    has_tree (start "table" ∷ start "td" ∷ end "table" ∷ []) "<table +tbody +tr <td /td /tr /tbody /table"
    ∷ has_tree (start "table" ∷ start "col" ∷ start "tr" ∷ []) "<table +colgroup <col /colgroup +tbody <tr"
    ∷ has_tree (start "p" ∷ start "b" ∷ end "p" ∷ some_text ∷ []) "<p <b /b /p +b"
    ∷ has_tree (start "p" ∷ start "b" ∷ end "p" ∷ white_space ∷ start "p" ∷ []) "<p <b /b /p +b <p"
    ∷ has_tree (start "p" ∷ start "b" ∷ end "p" ∷ start "table" ∷ white_space ∷ start_with "input" (attribute "type" "Hidden" ∷ []) ∷ [])
    "<p <b /b /p <table <input"
    ∷ has_tree (start "p" ∷ start "b" ∷ end "p" ∷ start "table" ∷ start "input" ∷ []) "<p <b /b /p <table +b <input"
    ∷ has_tree (start "p" ∷ start "b" ∷ start "b" ∷ start "b" ∷ start_with "b" (attribute "id" "x" ∷ []) ∷ end "p" ∷ some_text ∷ [])
    "<p <b <b <b <b /b /b /b /b /p +b +b +b +b"
    ∷ has_tree (end "p" ∷ end "br" ∷ []) "+p /p +br"
    ∷ has_tree (start "br" ∷ closing "div" ∷ closing "svg" ∷ start "image" ∷ []) "<br <div <svg <img"
    ∷ has_tree (start "table" ∷ start "form" ∷ start "form" ∷ []) "<table <form /form"
    ∷ has_tree (start "p" ∷ end "body" ∷ end "html" ∷ start "li" ∷ []) "<p /p <li"
    ∷ has_tree (start "select" ∷ start "optgroup" ∷ start "option" ∷ start "hr" ∷ []) "<select <optgroup <option /option /optgroup <hr"
    ∷ []

-- what end tags close, and what start tags clear
abbrev pub ending_rows : List TreeRow
ending_rows =
    has_tree (start "table" ∷ start "td" ∷ end "tbody" ∷ []) "<table +tbody +tr <td /td /tr /tbody"
    ∷ has_tree (start "table" ∷ start "td" ∷ end "tfoot" ∷ end "tr" ∷ []) "<table +tbody +tr <td /td /tr"
    ∷ has_tree (start "table" ∷ start "tr" ∷ end "tbody" ∷ []) "<table +tbody <tr /tr /tbody"
    ∷ has_tree (start "table" ∷ start "tr" ∷ end "thead" ∷ end "td" ∷ []) "<table +tbody <tr"
    ∷ has_tree (start "table" ∷ start "caption" ∷ end "table" ∷ []) "<table <caption /caption /table"
    ∷ has_tree (start "li" ∷ start "ul" ∷ end "li" ∷ start "br" ∷ end "ul" ∷ end "li" ∷ []) "<li <ul <br /ul /li"
    ∷ has_tree (start "p" ∷ start "button" ∷ end "p" ∷ end "button" ∷ end "p" ∷ []) "<p <button +p /p /button /p"
    ∷ has_tree (start "select" ∷ start "optgroup" ∷ start "option" ∷ end "optgroup" ∷ []) "<select <optgroup <option /option /optgroup"
    ∷ has_tree (start "select" ∷ start "option" ∷ end "optgroup" ∷ end "option" ∷ []) "<select <option /option"
    ∷ has_tree (start "span" ∷ start "div" ∷ end "span" ∷ start "br" ∷ end "div" ∷ end "span" ∷ []) "<span <div <br /div /span"
    ∷ has_tree (start "div" ∷ start "object" ∷ end "div" ∷ start "br" ∷ end "object" ∷ end "div" ∷ []) "<div <object <br /object /div"
    ∷ has_tree (start "svg" ∷ start "g" ∷ end "br" ∷ []) "<svg <g /g /svg +br"
    ∷ has_tree (start "svg" ∷ start "g" ∷ end "p" ∷ []) "<svg <g /g /svg +p /p"
    ∷ has_tree (start "table" ∷ start "div" ∷ start "tbody" ∷ start "div" ∷ start "tr" ∷ start "div" ∷ start "td" ∷ [])
    "<table <div /div <tbody <div /div <tr <div /div <td"
    ∷ has_tree (start "template" ∷ start "form" ∷ start "div" ∷ end "form" ∷ start "form" ∷ start "form" ∷ [])
    "<template <form <div /div /form <form <form"
    ∷ []

-- ends of formatting elements, and of forms, with other elements open inside
abbrev pub reopened_rows : List TreeRow
reopened_rows =
    has_tree (start "p" ∷ some_text ∷ start "b" ∷ some_text ∷ start "i" ∷ some_text ∷ end "b" ∷ some_text ∷ end "i" ∷ some_text ∷ end "p" ∷ [])
    "<p <b <i /i /b +i /i /p"
    ∷ has_tree (start "b" ∷ some_text ∷ start "p" ∷ some_text ∷ end "b" ∷ some_text ∷ end "p" ∷ []) "<b <p /p /b +p +b /b /p"
    ∷ has_tree (start "b" ∷ start "i" ∷ start "p" ∷ end "b" ∷ some_text ∷ []) "<b <i <p /p /i /b +i +p +b /b"
    ∷ has_tree (start "b" ∷ start "div" ∷ start "span" ∷ start "i" ∷ end "b" ∷ some_text ∷ []) "<b <div <span <i /i /span /div /b +div +b /b +i"
    ∷ has_tree (start "a" ∷ start "div" ∷ start "a" ∷ []) "<a <div /div /a +div +a /a <a"
    ∷ has_tree (start "b" ∷ start "object" ∷ end "b" ∷ start "br" ∷ end "object" ∷ end "b" ∷ []) "<b <object <br /object /b"
    ∷ has_tree (start "a" ∷ start "object" ∷ start "a" ∷ []) "<a <object <a"
    ∷ has_tree (start "form" ∷ start "div" ∷ end "form" ∷ start "form" ∷ end "div" ∷ []) "<form <div <form /form /div /form"
    ∷ []

abbrev pub noscript_told_rows : List TreeRow
noscript_told_rows =
    has_tree (start "p" ∷ start "noscript" ∷ end "noscript" ∷ []) "<p <noscript /noscript"
    ∷ has_tree (start "b" ∷ start "p" ∷ end "p" ∷ start "noscript" ∷ []) "<b <p /p <noscript"
    ∷ []

abbrev pub words_said : List TreeRow → List (List ℕ)
words_said rows = map (λ (row : TreeRow). row.tree) rows

-- how many events a last token tells
abbrev pub count_told : List TreeToken → TreeToken → ℕ
count_told tokens token = length (told_by (tree_after (fresh_tree false) tokens) token)

abbrev pub blocks_in_bold : ℕ → List TreeToken
blocks_in_bold count = start "b" ∷ replicate count (start "div")

abbrev pub three_of : List TreeToken → List TreeToken
three_of tokens = tokens ++ tokens ++ tokens

-- 36 formatting elements that a paragraph's end closes
abbrev pub many_in_paragraph : List TreeToken
many_in_paragraph =
    start "p" ∷ three_of (start "b" ∷ start "big" ∷ start "code" ∷ start "em" ∷ start "font" ∷ start "i" ∷ start "s" ∷ start "small"
    ∷ start "strike" ∷ start "strong" ∷ start "tt" ∷ start "u" ∷ []) ++ end "p" ∷ []

-- whether the text behind some tokens has no tags, or is read to the end, or has CDATA sections
pub record TextKind : Type 0 where
  pub raw : Bool
  pub plain : Bool
  pub cdata : Bool

abbrev pub kind : Bool → Bool → Bool → TextKind
kind raw plain cdata = record { raw = raw; plain = plain; cdata = cdata }

abbrev pub kind_behind : List TreeToken → TextKind
kind_behind tokens = let t = tree_after (fresh_tree false) tokens in kind (holds_raw_text t) (holds_plain_text t) (holds_cdata t)

abbrev pub kind_pages : List (List TreeToken)
kind_pages =
    (start "title" ∷ []) ∷ (start "svg" ∷ start "title" ∷ []) ∷ (start "select" ∷ start "title" ∷ []) ∷ (start "plaintext" ∷ [])
    ∷ (start "svg" ∷ start "plaintext" ∷ []) ∷ (start "svg" ∷ start "desc" ∷ start "xmp" ∷ []) ∷ (start "math" ∷ start "mi" ∷ [])
    ∷ (start "math" ∷ start "b" ∷ []) ∷ (start "script" ∷ end "script" ∷ []) ∷ (start "body" ∷ start "noscript" ∷ []) ∷ []

abbrev pub kinds_said : List TextKind
kinds_said =
    kind true false false ∷ kind false false true ∷ kind false false false ∷ kind false true false ∷ kind false false true ∷ kind true false false
    ∷ kind false false true ∷ kind false false false ∷ kind false false false ∷ kind false false false ∷ []

-- Doctypes, and whether they say quirks mode.
abbrev pub doctype_by : String → Option (List ℕ) → Option (List ℕ) → Doctype
doctype_by name public_id system_id = record { name = codes name; public_id = public_id; system_id = system_id; force_quirks = false }

abbrev pub plain_doctypes : List Doctype
plain_doctypes =
    doctype_by "html" None None
    ∷ doctype_by "HTML" None (Some (codes "about:legacy-compat"))
    ∷ doctype_by "html" (Some (codes "-//W3C//DTD HTML 4.01//EN")) (Some (codes "http://www.w3.org/TR/html4/strict.dtd"))
    ∷ doctype_by "html" (Some (codes "-//W3C//DTD HTML 4.01 Transitional//EN")) (Some (codes "http://www.w3.org/TR/html4/loose.dtd"))
    ∷ doctype_by "html" (Some (codes "-//W3C//DTD XHTML 1.0 Strict//EN")) (Some (codes "http://www.w3.org/TR/xhtml1/DTD/xhtml1-strict.dtd"))
    ∷ []

abbrev pub quirks_doctypes : List Doctype
quirks_doctypes =
    doctype_by "potato" None None
    ∷ doctype_by "html" (Some (codes "-//W3C//DTD HTML 4.01 Transitional//EN")) None
    ∷ doctype_by "html" (Some (codes "-//W3C//DTD HTML 3.2 Final//EN")) None
    ∷ doctype_by "html" (Some (codes "-//W3C//DTD HTML 4.0 Transitional//EN")) (Some (codes "http://www.w3.org/TR/html4/loose.dtd"))
    ∷ doctype_by "html" (Some (codes "HTML")) None
    ∷ doctype_by "html" None (Some (codes "http://www.ibm.com/data/dtd/v11/ibmxhtml1-transitional.dtd"))
    ∷ record (doctype_by "html" None None) { force_quirks = true }
    ∷ []

-- Only the first doctype counts, and none behind an element.
abbrev pub quirks_rows : List TreeRow
quirks_rows =
    has_tree (DoctypeToken (doctype_by "potato" None None) ∷ html_doctype ∷ start "p" ∷ start "table" ∷ []) "html .head .body ..p ...table"
    ∷ has_tree (html_doctype ∷ DoctypeToken (doctype_by "potato" None None) ∷ start "p" ∷ start "table" ∷ []) "html .head .body ..p ..table"
    ∷ has_tree (white_space ∷ start "html" ∷ html_doctype ∷ start "p" ∷ start "table" ∷ []) "html .head .body ..p ...table"
    ∷ []
