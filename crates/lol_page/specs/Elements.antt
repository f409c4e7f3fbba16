-- The open elements, as the code keeps them.
use Rattle.std.specs.Prelude.{ℕ, ◌≡◌, ◌+◌, Bool, true, if◌then◌else◌, List, [], ◌∷◌, length, map, reverse, Option, Some, None}
use Rattle.lol_base.specs.LocalNames.{Name, same_local_name}
use Rattle.lol_stack.specs.NameMaps.{value_of}
use Rattle.lol_page.specs.Namespaces.{OpenElement, is_html, is_point_in}
use Rattle.lol_page.specs.declared.open_elements.Found.{Found}
use Rattle.lol_page.specs.declared.open_elements.OpenItem.{OpenItem}
use Rattle.lol_page.specs.declared.open_elements.OpenElements.{OpenElements}

abbrev pub element_of : OpenItem → OpenElement
element_of item = record { name = item.name; namespace = item.namespace; holds_html = item.holds_html }

-- the elements of items that are listed the innermost last
abbrev pub elements_in : List OpenItem → List OpenElement
elements_in items = map element_of (reverse items)

abbrev pub elements_of : OpenElements → List OpenElement
elements_of o = elements_in o.items.items

abbrev pub first_of : List OpenItem → Option OpenItem
first_of [] = None
first_of (item ∷ outer) = Some item

-- whether start tags are read by the rules for HTML inside these elements, most of them
abbrev pub innermost_holds_html : List OpenElement → Bool
innermost_holds_html [] = true
innermost_holds_html (e ∷ outer) = e.holds_html

-- The innermost element of a name: how many elements are open up to it, and whether it is one of HTML.
abbrev pub found_in : Name → List OpenElement → Option Found
found_in name [] = None
found_in name (e ∷ outer) =
    if same_local_name e.name name then Some (record { depth = length outer + 1; is_html = is_html e.namespace }) else found_in name outer

-- How many elements are open up to the innermost one that is such.
abbrev pub depth_by : (OpenElement → Bool) → List OpenElement → ℕ
depth_by p [] = 0
depth_by p (e ∷ outer) = if p e then length outer + 1 else depth_by p outer

abbrev pub html_element : OpenElement → Bool
html_element e = is_html e.namespace

abbrev pub point_element : OpenElement → Bool
point_element e = is_point_in e.namespace e.name

-- Each item knows the element of its name around it, and how deep HTML and points stand.
pub record HasLinks (item : OpenItem) (outer : List OpenElement) : Type 0 where
  pub before : item.before ≡ found_in item.name outer
  pub html : item.html_depth ≡ depth_by html_element (element_of item ∷ outer)
  pub points : item.point_depth ≡ depth_by point_element (element_of item ∷ outer)

abbrev pub IsLinked : List OpenItem → Type 0
IsLinked [] = Unit {0}
IsLinked (item ∷ outer) = HasLinks item (map element_of outer) × IsLinked outer

-- what shields an element of HTML or another one: how deep it stands
abbrev pub shield_depth : Bool → List OpenElement → ℕ
shield_depth html elements = if html then depth_by point_element elements else depth_by html_element elements

pub record IsSound (o : OpenElements) : Type 0 where
  pub linked : IsLinked (reverse o.items.items)
  pub names : (name : Name) → value_of o.names name ≡ found_in name (elements_of o)
