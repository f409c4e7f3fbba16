-- Kinds of elements, and which elements are in scope (HTML Standard, 13.2.4.2, "The stack of open elements").
use Rattle.std.specs.Prelude.{ℕ, Bool, false, not, ◌&&◌, ◌||◌, ◌==◌, if◌then◌else◌, List, [], ◌∷◌, ◌++◌, codes}
use Prim.Native.String.{String}
use Rattle.std.specs.Str.{bytes_eq}
use Rattle.std.specs.List.{list_any, slice_split}
use Rattle.lol_base.specs.LocalNames.{Name}
use Rattle.lol_page.specs.Namespaces.{is_html, is_point_in}
use Rattle.lol_tree.specs.TreeStates.{TreeElement, TreeState}

-- 1. Names

-- The words of a text. All names below stand in lower case.
abbrev pub names : String → List (List ℕ)
names text = slice_split (λ b. b == 32) (codes text)

abbrev pub is_in : List (List ℕ) → Name → Bool
is_in words name = list_any (bytes_eq name.lowercased) words

-- What a table says of a name, each row for some names, and what holds of all others.
abbrev pub said_of : {R : Type 0} → R → List (List (List ℕ) × R) → Name → R
said_of other [] name = other
said_of other (row ∷ rows) name = if is_in row.0 name then row.1 else said_of other rows name

-- "special" elements of HTML
unfoldable pub special_names : List (List ℕ)
special_names =
    names "address applet area article aside base basefont bgsound blockquote body br button caption center col colgroup dd details dir div dl dt"
    ++ names "embed fieldset figcaption figure footer form frame frameset h1 h2 h3 h4 h5 h6 head header hgroup hr html iframe img input keygen li"
    ++ names "link listing main marquee menu meta nav noembed noframes noscript object ol p param plaintext pre script search section select"
    ++ names "source style summary table tbody td template textarea tfoot th thead title tr track ul wbr xmp"

-- "formatting" elements
unfoldable pub formatting_names : List (List ℕ)
formatting_names = names "a b big code em font i nobr s small strike strong tt u"

unfoldable pub heading_names : List (List ℕ)
heading_names = names "h1 h2 h3 h4 h5 h6"

-- "generate implied end tags" (13.2.6.3)
unfoldable pub implied_end_names : List (List ℕ)
implied_end_names = names "dd dt li optgroup option p rb rp rt rtc"

-- the elements that put a marker into the list of active formatting elements (13.2.4.3)
unfoldable pub marked_names : List (List ℕ)
marked_names = names "applet caption marquee object td template th"

-- elements whose text has no tags: "the generic raw text and RCDATA element parsing algorithms" (13.2.6.2), and `script`
unfoldable pub raw_text_names : List (List ℕ)
raw_text_names = names "iframe noembed noframes script style textarea title xmp"

-- the names that start tags of one kind share
unfoldable pub head_names : List (List ℕ)
head_names = names "base basefont bgsound link meta noframes script style template title"

unfoldable pub block_names : List (List ℕ)
block_names =
    names "address article aside blockquote center details dialog dir div dl fieldset figcaption figure footer header hgroup listing main menu nav ol"
    ++ names "pre search section summary ul"

unfoldable pub part_names : List (List ℕ)
part_names = names "caption col colgroup tbody td tfoot th thead tr"

unfoldable pub body_names : List (List ℕ)
body_names = names "tbody tfoot thead"

unfoldable pub table_names : List (List ℕ)
table_names = names "caption table tbody td tfoot th thead tr"

-- 2. Elements

-- Rules look for elements of HTML, by name, that haven't ended.
abbrev pub is_called : List (List ℕ) → TreeElement → Bool
is_called words e = is_html e.own.namespace && (not e.has_ended && is_in words e.own.name)

-- the elements outside HTML that are "special", and that bound scopes
abbrev pub is_point : TreeElement → Bool
is_point e = is_point_in e.own.namespace e.own.name

abbrev pub is_special : TreeElement → Bool
is_special e = is_point e || is_called special_names e

-- 3. Scopes

-- Whether an element is reached from the innermost on, with no bound before it ("have an element target node in a specific scope").
abbrev pub reaches : (TreeElement → Bool) → (TreeElement → Bool) → List TreeElement → Bool
reaches target bound [] = false
reaches target bound (e ∷ outer) = target e || (not (bound e) && reaches target bound outer)

abbrev pub bounds_scope : TreeElement → Bool
bounds_scope e = is_point e || is_called (names "applet caption html table td th marquee object template") e

abbrev pub bounds_list_item_scope : TreeElement → Bool
bounds_list_item_scope e = bounds_scope e || is_called (names "ol ul") e

abbrev pub bounds_button_scope : TreeElement → Bool
bounds_button_scope e = bounds_scope e || is_called (names "button") e

abbrev pub bounds_table_scope : TreeElement → Bool
bounds_table_scope e = is_called (names "html table template") e

-- what ends the search of a new `li`, `dd` or `dt` for one that is open (13.2.6.4.7)
abbrev pub bounds_items : TreeElement → Bool
bounds_items e = is_special e && not (is_called (names "address div p") e)

abbrev pub is_reached : (TreeElement → Bool) → List (List ℕ) → TreeState → Bool
is_reached bound words t = reaches (is_called words) bound t.elements

-- whether one of these is open, in scope or not
abbrev pub is_any_of : List (List ℕ) → TreeState → Bool
is_any_of words t = list_any (is_called words) t.elements

abbrev pub has_template : TreeState → Bool
has_template t = is_any_of (names "template") t

abbrev pub is_innermost_in : (TreeElement → Bool) → List TreeElement → Bool
is_innermost_in test [] = false
is_innermost_in test (e ∷ outer) = test e

-- whether the innermost element ("the current node") is one of HTML of these names
abbrev pub is_innermost : List (List ℕ) → TreeState → Bool
is_innermost words t = is_innermost_in (is_called words) t.elements
