-- What of a page is told as a browser's tree has it: a fold over the tokens that decide elements (HTML Standard, 13.2.6, "Tree construction").
--
-- Left out are moves: what the Standard puts before a table ("foster parenting") or takes out of a formatting element ("adoption agency algorithm")
-- stays where a stream has it. So are framesets, and attributes that a second `html` or `body` adds.
use Rattle.std.specs.Prelude.{ℕ, zero, suc, ◌+◌, Bool, true, false, not, ◌&&◌, if◌then◌else◌, List, [], ◌∷◌, length, fold, map, reverse, take_while, Some, is_none}
use Rattle.lol_base.specs.LocalNames.{Name, local_name, same_local_name}
use Rattle.lol_base.specs.StartTags.{StartTag}
use Rattle.lol_page.specs.Namespaces.{is_html, is_foreign, takes_html_in, breaks_out}
use Rattle.lol_tree.specs.TreeStates.{Mode, InBody, InRawText, InTable, InCaption, InColumnGroup, InTableBody, InRow, InCell, InSelect, InSelectInTable, InTemplate, TreeElement, TreeEvent, TreeState, fresh_tree, mode_of}
use Rattle.lol_tree.specs.Scopes.{names, is_in, is_innermost, is_any_of}
use Rattle.lol_tree.specs.Insertions.{insert_in, close, close_while, close_through}
use Rattle.lol_tree.specs.FormattingRules.{inside_of, reconstruct}
use Rattle.lol_tree.specs.Doctypes.{Doctype, says_quirks}
use Rattle.lol_tree.specs.StartRules.{Round, Processed, Reprocess, start_in_mode, move_on, step_out_of_columns}
use Rattle.lol_tree.specs.EndRules.{end_in_mode}

-- A token that decides elements. The namespace of a start tag isn't read.
pub data TreeToken : Type 0 where
  DoctypeToken : (doctype : Doctype) → TreeToken
  StartToken : (tag : StartTag) → TreeToken
  EndToken : (name : List ℕ) → TreeToken
  TextToken : (is_space : Bool) → TreeToken
  EndOfPage : TreeToken

-- 1. Foreign content (13.2.6.5)

-- "While the current node is not a MathML text integration point, an HTML integration point, or an element in the HTML namespace"
abbrev pub leave_foreign : TreeState → TreeState
leave_foreign t = close_while (λ e. not e.own.holds_html) t

abbrev pub start_in_element : TreeElement → StartTag → TreeState → Round
start_in_element e tag t =
    if takes_html_in e.own.namespace e.own (local_name tag.name) then start_in_mode tag t
    else (if breaks_out (local_name tag.name) tag.attributes then start_in_mode tag (leave_foreign t)
    else Processed (insert_in e.own.namespace false tag t))

-- the elements of a foreign namespace from the innermost on
abbrev pub foreign_part : List TreeElement → List TreeElement
foreign_part elements = take_while (λ e. not (is_html e.own.namespace)) elements

-- An end tag closes the innermost foreign element of its name. If there is none before one of HTML, the rules of the mode hold.
abbrev pub end_foreign : Name → List TreeElement → TreeState → Round
end_foreign name [] t = end_in_mode name t
end_foreign name (e ∷ outer) t =
    if same_local_name e.own.name name then Processed (close (length (inside_of e t.elements) + 1) t) else end_foreign name outer t

abbrev pub end_in_element : TreeElement → Name → TreeState → Round
end_in_element e name t =
    if is_html e.own.namespace then end_in_mode name t
    else (if is_in (names "br p") name then end_in_mode name (leave_foreign t) else end_foreign name (foreign_part t.elements) t)

-- 2. Text, and the end

-- In a table text that isn't white space is put before it by the Standard, by the rules for the body (13.2.6.4.10).
abbrev pub text_in_table : Bool → TreeState → Round
text_in_table is_space t = Processed (if is_space && is_innermost (names "table tbody template tfoot thead tr") t then t else reconstruct t)

abbrev pub text_by : Mode → Bool → TreeState → Round
text_by InRawText is_space t = Processed t
text_by InSelect is_space t = Processed t
text_by InSelectInTable is_space t = Processed t
text_by InTable is_space t = text_in_table is_space t
text_by InTableBody is_space t = text_in_table is_space t
text_by InRow is_space t = text_in_table is_space t
text_by InColumnGroup is_space t = if is_space then Processed t else step_out_of_columns t
text_by InBody is_space t = Processed (reconstruct t)
text_by InCaption is_space t = Processed (reconstruct t)
text_by InCell is_space t = Processed (reconstruct t)
text_by InTemplate is_space t = Processed (reconstruct t)
text_by _ is_space t = if is_space then Processed t else move_on t

-- At the end of the page templates close, `html`, `head` and `body` are implied, and all elements close ("stop parsing", 13.2.7).
abbrev pub end_page : TreeState → Round
end_page t =
    if is_any_of (names "template") t then Reprocess (close_through (names "template") t)
    else (if is_any_of (names "body") t then Processed (close (length t.elements) t) else move_on t)

-- 3. One token

abbrev pub start_round : List TreeElement → StartTag → TreeState → Round
start_round [] tag t = start_in_mode tag t
start_round (e ∷ outer) tag t = start_in_element e tag t

abbrev pub end_round : List TreeElement → Name → TreeState → Round
end_round [] name t = end_in_mode name t
end_round (e ∷ outer) name t = end_in_element e name t

abbrev pub text_round : List TreeElement → Bool → TreeState → Round
text_round [] is_space t = text_by (mode_of t) is_space t
text_round (e ∷ outer) is_space t = if e.own.holds_html then text_by (mode_of t) is_space t else Processed t

-- A doctype counts before all others and all elements.
abbrev pub doctype_round : List TreeElement → Doctype → TreeState → Round
doctype_round [] doctype t = Processed (if is_none t.quirks then record t { quirks = Some (says_quirks doctype) } else t)
doctype_round (e ∷ outer) doctype t = Processed t

-- "Tree construction dispatcher"
abbrev pub round_of : TreeToken → TreeState → Round
round_of (DoctypeToken doctype) t = doctype_round t.elements doctype t
round_of (StartToken tag) t = start_round t.elements tag t
round_of (EndToken name) t = end_round t.elements (local_name name) t
round_of (TextToken is_space) t = text_round t.elements is_space t
round_of EndOfPage t = end_page t

abbrev pub rounds : ℕ → TreeToken → Round → TreeState
rounds zero token (Processed t) = t
rounds zero token (Reprocess t) = t
rounds (suc n) token (Processed t) = t
rounds (suc n) token (Reprocess t) = rounds n token (round_of token t)

-- Each round closes an element, or is one of at most ten that open some.
abbrev pub step_tree : TreeState → TreeToken → TreeState
step_tree t token = rounds (length t.elements + 10) token (round_of token t)

-- 4. All tokens

abbrev pub tree_after : TreeState → List TreeToken → TreeState
tree_after t tokens = fold step_tree t tokens

-- what a token tells
abbrev pub told_by : TreeState → TreeToken → List TreeEvent
told_by t token = reverse (step_tree (record t { told = [] }) token).told

-- what is told of a page
abbrev pub tree_events : Bool → List TreeToken → List TreeEvent
tree_events scripting tokens = reverse (tree_after (fresh_tree scripting) tokens).told

-- 5. What the tokenizer is told: whether the innermost element's text has no tags, and whether CDATA sections are read there (13.2.5.42). Behind
-- `plaintext` all is text.

abbrev pub is_in_raw_text : Mode → Bool
is_in_raw_text InRawText = true
is_in_raw_text _ = false

abbrev pub holds_raw_text : TreeState → Bool
holds_raw_text t = is_in_raw_text (mode_of t)

abbrev pub holds_plain_text : TreeState → Bool
holds_plain_text t = is_innermost (names "plaintext") t

abbrev pub holds_cdata : TreeState → Bool
holds_cdata t = is_foreign (map (λ (e : TreeElement). e.own) t.elements)
