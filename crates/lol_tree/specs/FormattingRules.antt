-- The list of active formatting elements (HTML Standard, 13.2.4.3), and end tags of formatting elements (13.2.6.4.7, "adoption agency algorithm").
use Rattle.std.specs.Prelude.{ℕ, ◌+◌, nat_le, ◌==◌, Bool, true, false, not, ◌&&◌, ◌||◌, if◌then◌else◌, List, [], ◌∷◌, length, take, drop, filter, find, fold, map, reverse, take_while, Option, Some, None, unwrap_or}
use Rattle.std.specs.Option.{option_map, option_map_or}
use Rattle.std.specs.Str.{bytes_eq}
use Rattle.std.specs.List.{list_any, list_all, position_or_len}
use Rattle.lol_base.specs.LocalNames.{same_local_name}
use Rattle.lol_base.specs.StartTags.{Attribute, StartTag}
use Rattle.lol_instructions.specs.Attributes.{value_among}
use Rattle.lol_tree.specs.TreeStates.{TreeElement, Formatting, Marker, ListedElement, StartTold, EndTold, TreeState}
use Rattle.lol_tree.specs.Scopes.{is_called, is_special, special_names, reaches, bounds_scope, is_innermost_in}
use Rattle.lol_tree.specs.Insertions.{insert, insert_in, close, close_through, end_numbered}

-- 1. The list

-- the elements that are listed behind the last marker, the last first
abbrev pub listed_in : List Formatting → List TreeElement
listed_in [] = []
listed_in (Marker ∷ entries) = []
listed_in (ListedElement e ∷ entries) = e ∷ listed_in entries

abbrev pub listed : TreeState → List TreeElement
listed t = listed_in t.formatting

abbrev pub is_numbered : ℕ → TreeElement → Bool
is_numbered number e = e.number == number

abbrev pub is_entry : ℕ → Formatting → Bool
is_entry number Marker = false
is_entry number (ListedElement e) = is_numbered number e

abbrev pub is_listed : TreeState → TreeElement → Bool
is_listed t e = list_any (is_entry e.number) t.formatting

abbrev pub is_still_in : List TreeElement → TreeElement → Bool
is_still_in elements e = list_any (λ other. is_numbered e.number other && not other.has_ended) elements

-- an element leaves the list
abbrev pub unlist : TreeElement → TreeState → TreeState
unlist e t = record t { formatting = filter (λ entry. not (is_entry e.number entry)) t.formatting }

-- An element stands in place of another one, in the list and as the form.
abbrev pub entry_in_place : ℕ → TreeElement → Formatting → Formatting
entry_in_place number e entry = if is_entry number entry then ListedElement e else entry

abbrev pub form_in_place : ℕ → ℕ → ℕ → ℕ
form_in_place old new form = if form == old then new else form

abbrev pub put_in_place : ℕ → List TreeElement → TreeState → TreeState
put_in_place number [] t = t
put_in_place number (e ∷ outer) t =
    record t { formatting = map (entry_in_place number e) t.formatting; form = option_map (form_in_place number e.number) t.form }

-- An element is opened once more, by its tag, inside all that is open.
abbrev pub open_again : TreeState → TreeElement → TreeState
open_again t e =
    let opened = insert_in e.own.namespace true e.tag t in
    put_in_place e.number opened.elements opened

-- how many elements one tag or text creates again at most, the last ones of the list (a limit of this crate)
abbrev pub most_created : ℕ
most_created = 32

-- "Reconstruct the active formatting elements": those behind the last one that is open are created again.
abbrev pub reconstruct : TreeState → TreeState
reconstruct t = fold open_again t (reverse (take most_created (take_while (λ e. not (is_still_in t.elements e)) (listed t))))

-- Two tags say the same: name and attributes, in any order.
abbrev pub has_attributes_of : List Attribute → List Attribute → Bool
has_attributes_of these others =
    list_all (λ (a : Attribute). option_map_or (bytes_eq (unwrap_or (value_among a.name others) [])) (value_among a.name these) false) others

abbrev pub is_alike : TreeElement → TreeElement → Bool
is_alike a b =
    same_local_name a.own.name b.own.name
    && (has_attributes_of a.tag.attributes b.tag.attributes && has_attributes_of b.tag.attributes a.tag.attributes)

-- the third of the elements that are alike leaves ("the Noah's Ark clause")
abbrev pub unlist_third : List TreeElement → TreeState → TreeState
unlist_third (last ∷ second ∷ third ∷ others) t = unlist third t
unlist_third _ t = t

-- "Push onto the list of active formatting elements": the element that was just inserted.
abbrev pub list_innermost_of : List TreeElement → TreeState → TreeState
list_innermost_of [] t = t
list_innermost_of (e ∷ outer) t =
    let room = unlist_third (filter (is_alike e) (listed t)) t in
    record room { formatting = ListedElement e ∷ room.formatting }

abbrev pub list_innermost : TreeState → TreeState
list_innermost t = list_innermost_of t.elements t

abbrev pub insert_formatting : StartTag → TreeState → TreeState
insert_formatting tag t = list_innermost (insert tag t)

-- 2. End tags

-- how many elements one end tag opens again at most (a limit of this crate too)
abbrev pub most_reopened : ℕ
most_reopened = 20

-- A copy of a formatting element, with nothing inside.
abbrev pub tell_copy : TreeElement → TreeState → TreeState
tell_copy e t = record t { told = EndTold e.own.name.lowercased ∷ StartTold true e.tag ∷ t.told }

-- A block holds what it has so far in the formatting element, and the rest beside it: it is opened once more, and begins with an empty copy.
abbrev pub open_beside : TreeElement → TreeState → TreeElement → TreeState
open_beside formatting t e = if is_called special_names e then tell_copy formatting (open_again t e) else open_again t e

-- A formatting element ends with special elements open inside it. The Standard moves these out of it. On a stream, all up to it is closed, and what
-- reaches to the innermost special one is opened again: special and listed elements. If these are too many, the formatting element ends as soon as all
-- inside it has.
abbrev pub reopen : TreeElement → List TreeElement → TreeState → TreeState
reopen formatting inner t =
    let again = filter (λ e. is_called special_names e || (is_listed t e && not e.has_ended)) (drop (position_or_len is_special inner) inner) in
    if nat_le (length again) most_reopened
    then fold (open_beside formatting) (close (length inner + 1) t) (reverse again)
    else end_numbered formatting.number t

abbrev pub inside_of : TreeElement → List TreeElement → List TreeElement
inside_of e elements = take_while (λ other. not (is_numbered e.number other)) elements

abbrev pub end_open : TreeElement → TreeState → TreeState
end_open e t =
    let inner = inside_of e t.elements in
    if list_any is_special inner then reopen e inner t else close (length inner + 1) t

-- The end tag of a listed element: it is ignored if the element is open, but not in scope.
abbrev pub end_listed : TreeElement → TreeState → TreeState
end_listed e t =
    if not (is_still_in t.elements e) then unlist e t
    else (if reaches (is_numbered e.number) bounds_scope t.elements then end_open e (unlist e t) else t)

abbrev pub is_spelled_so : List ℕ → TreeElement → Bool
is_spelled_so name e = bytes_eq e.own.name.lowercased name

-- "Any other end tag": the element is closed, if no special one is open inside it.
abbrev pub end_any : List ℕ → TreeState → TreeState
end_any name t = if reaches (is_called (name ∷ [])) is_special t.elements then close_through (name ∷ []) t else t

abbrev pub end_found : List ℕ → Option TreeElement → TreeState → TreeState
end_found name None t = end_any name t
end_found name (Some e) t = end_listed e t

-- The end tag of a formatting element, of this name in lower case.
abbrev pub end_formatting : List ℕ → TreeState → TreeState
end_formatting name t =
    if is_innermost_in (λ e. is_called (name ∷ []) e && not (is_listed t e)) t.elements then close 1 t
    else end_found name (find (is_spelled_so name) (listed t)) t

-- 3. Elements that stand once

-- "Remove that element from the list and the stack, if it is still there."
abbrev pub end_earlier : List ℕ → Option TreeElement → TreeState → TreeState
end_earlier name None t = t
end_earlier name (Some e) t = end_numbered e.number (unlist e (end_formatting name t))

-- a listed element of this name, before another one begins (`a`)
abbrev pub end_last_listed : List ℕ → TreeState → TreeState
end_last_listed name t = end_earlier name (find (is_spelled_so name) (listed t)) t
