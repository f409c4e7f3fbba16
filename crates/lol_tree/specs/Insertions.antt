-- Elements open and close (HTML Standard, 13.2.6.1, "Creating and inserting nodes", and 13.2.6.3, "Closing elements that have implied end tags").
use Rattle.std.specs.Prelude.{ℕ, ◌+◌, ◌-◌, ◌==◌, Bool, true, false, not, ◌&&◌, ◌||◌, if◌then◌else◌, List, [], ◌∷◌, length, take, drop, fold, map, take_while, codes}
use Prim.Native.String.{String}
use Rattle.lol_base.specs.LocalNames.{local_name}
use Rattle.lol_base.specs.StartTags.{StartTag}
use Rattle.lol_base.specs.declared.namespace.Namespace.{Namespace}
use Rattle.lol_base.specs.declared.namespace.Namespace.TheVariants.{Html}
use Rattle.lol_machine.specs.Events.{has_content}
use Rattle.lol_page.specs.Namespaces.{OpenElement, is_html, holds_html_in}
use Rattle.lol_tree.specs.TreeStates.{Mode, BeforeHead, InHead, InHeadNoscript, InBody, InRawText, InTable, InCaption, InColumnGroup, InTableBody, InRow, InCell, InSelect, InSelectInTable, InTemplate, TreeElement, Formatting, Marker, ListedElement, TreeEvent, StartTold, EndTold, TreeState, mode_of}
use Rattle.lol_tree.specs.Scopes.{names, is_in, said_of, is_called, is_innermost, is_reached, bounds_button_scope, implied_end_names, marked_names, raw_text_names}

-- 1. Modes

abbrev pub select_mode : Mode → Mode
select_mode InTable = InSelectInTable
select_mode InCaption = InSelectInTable
select_mode InTableBody = InSelectInTable
select_mode InRow = InSelectInTable
select_mode InCell = InSelectInTable
select_mode _ = InSelect

abbrev pub noscript_mode : Bool → Mode → Mode
noscript_mode true outer = InRawText
noscript_mode false InHead = InHeadNoscript
noscript_mode false outer = outer

-- The mode that an element of HTML gives, inside another mode: what "reset the insertion mode appropriately" finds at it (13.2.4.1).
abbrev pub mode_by : Bool → Mode → OpenElement → Mode
mode_by scripting outer own =
    said_of outer
    ((raw_text_names, InRawText) ∷ (names "html", BeforeHead) ∷ (names "head", InHead) ∷ (names "body", InBody) ∷ (names "table", InTable)
    ∷ (names "caption", InCaption) ∷ (names "colgroup", InColumnGroup) ∷ (names "tbody tfoot thead", InTableBody) ∷ (names "tr", InRow)
    ∷ (names "td th", InCell) ∷ (names "template", InTemplate) ∷ (names "select", select_mode outer)
    ∷ (names "noscript", noscript_mode scripting outer) ∷ [])
    own.name

-- 2. Opening

abbrev pub own_of : StartTag → OpenElement
own_of tag =
    let name = local_name tag.name in
    record { name = name; namespace = tag.namespace; holds_html = holds_html_in tag.namespace name tag.attributes }

abbrev pub element_for : StartTag → TreeState → TreeElement
element_for tag t =
    let own = own_of tag in
    record {
      tag = tag;
      own = own;
      number = t.given;
      mode = if is_html tag.namespace then mode_by t.scripting (mode_of t) own else mode_of t;
      has_ended = false;
    }

-- An element of these names puts a marker.
abbrev pub marked_by : OpenElement → List Formatting → List Formatting
marked_by own entries = if is_html own.namespace && is_in marked_names own.name then Marker ∷ entries else entries

-- "Insert a foreign element": of a tag in its namespace. One that has no content is closed at once.
abbrev pub insert_in : Namespace → Bool → StartTag → TreeState → TreeState
insert_in ns implied tag t =
    let told = record tag { namespace = ns } in
    let e = element_for told t in
    record {
      elements = if has_content false told then e ∷ t.elements else t.elements;
      formatting = marked_by e.own t.formatting;
      form = t.form;
      quirks = t.quirks;
      scripting = t.scripting;
      given = t.given + 1;
      told = StartTold implied told ∷ t.told;
    }

-- "Insert an HTML element" for a tag of the page.
abbrev pub insert : StartTag → TreeState → TreeState
insert tag t = insert_in Html false tag t

abbrev pub plain_tag : List ℕ → StartTag
plain_tag name = record { name = name; namespace = Html; attributes = []; self_closing = false; finish = true }

-- an element of HTML that no tag opens
abbrev pub imply : String → TreeState → TreeState
imply name t = insert_in Html true (plain_tag (codes name)) t

-- 3. Closing

abbrev pub ended_ones : List TreeElement → ℕ
ended_ones elements = length (take_while (λ e. e.has_ended) elements)

abbrev pub tell_closed : List TreeEvent → TreeElement → List TreeEvent
tell_closed told e = EndTold e.own.name.lowercased ∷ told

-- The innermost elements close, so many, and those that have ended and stand next.
abbrev pub close : ℕ → TreeState → TreeState
close count t =
    let all = count + ended_ones (drop count t.elements) in
    record t { elements = drop all t.elements; told = fold tell_closed t.told (take all t.elements) }

abbrev pub close_while : (TreeElement → Bool) → TreeState → TreeState
close_while test t = close (length (take_while (λ e. test e || e.has_ended) t.elements)) t

-- the formatting elements up to the last marker are let go ("clear the list of active formatting elements up to the last marker")
abbrev pub cleared : List Formatting → List Formatting
cleared [] = []
cleared (Marker ∷ entries) = entries
cleared (ListedElement e ∷ entries) = cleared entries

abbrev pub clear_formatting : TreeState → TreeState
clear_formatting t = record t { formatting = cleared t.formatting }

-- "pop elements from the stack until one of these has been popped", if one is open. All rules that do so with a marked one clear the list too.
abbrev pub close_through_any : List (List ℕ) → List TreeElement → TreeState → TreeState
close_through_any words [] t = t
close_through_any words (e ∷ outer) t =
    let closed = close (length t.elements - length outer) t in
    if is_called words e then (if is_called marked_names e then clear_formatting closed else closed) else close_through_any words outer t

abbrev pub close_through : List (List ℕ) → TreeState → TreeState
close_through words t = close_through_any words t.elements t

-- the same, if one is in scope
abbrev pub close_reached : (TreeElement → Bool) → List (List ℕ) → TreeState → TreeState
close_reached bound words t = if is_reached bound words t then close_through words t else t

-- "clear the stack back to a table context", or to a table body's or a row's (13.2.6.4.9, 13.2.6.4.13 and 13.2.6.4.14)
abbrev pub clear_to : List (List ℕ) → TreeState → TreeState
clear_to words t = close_while (λ e. not (is_called words e || is_called (names "html template") e)) t

abbrev pub close_innermost : List (List ℕ) → TreeState → TreeState
close_innermost words t = if is_innermost words t then close 1 t else t

-- "close a p element", if one is in button scope
abbrev pub close_p : TreeState → TreeState
close_p t = close_reached bounds_button_scope (names "p") t

abbrev pub generate_implied_ends : List (List ℕ) → TreeState → TreeState
generate_implied_ends but t = close_while (λ e. is_called implied_end_names e && not (is_called but e)) t

abbrev pub end_if_numbered : ℕ → TreeElement → TreeElement
end_if_numbered number e = if e.number == number then record e { has_ended = true } else e

-- An element ends, by its number, where others may be open inside it.
abbrev pub end_numbered : ℕ → TreeState → TreeState
end_numbered number t = close 0 (record t { elements = map (end_if_numbered number) t.elements })
