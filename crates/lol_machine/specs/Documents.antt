-- The document as far as events have come: which start tags there were, and which elements are open.
use Rattle.std.specs.Prelude.{ℕ, ◌+◌, Bool, true, false, ◌&&◌, if◌then◌else◌, ◌==◌, List, [], ◌∷◌, reverse, map, take, drop, position, count_by, Option, Some, None}
use Rattle.lol_base.specs.Names.{same_name}
use Rattle.lol_base.specs.StartTags.{StartTag}
use Rattle.lol_instructions.specs.Tests.{Element}

-- A start tag that came: the number of its parent, or none at the root, and its name.
pub record Child : Type 0 where
  pub parent : Option ℕ
  pub name : List ℕ

-- How many events have come, each start tag of them (also of an element without content, and a dropped one), and the elements
-- that are open, the innermost first (HTML Standard, "The stack of open elements").
pub record Document : Type 0 where
  pub events : ℕ
  pub children : List Child
  pub open_elements : List Element

-- Nothing has come.
abbrev pub empty : Document
empty = record { events = 0; children = []; open_elements = [] }

-- The parent of what comes now: the innermost open element, or the root.
abbrev pub parent_of : List Element → Option ℕ
parent_of [] = None
parent_of (e ∷ outer) = Some e.number

abbrev pub same_parent : Option ℕ → Option ℕ → Bool
same_parent None None = true
same_parent None (Some n) = false
same_parent (Some m) None = false
same_parent (Some m) (Some n) = m == n

-- how many children an element, or the root, has had so far
abbrev pub children_of : Option ℕ → List Child → ℕ
children_of parent children = count_by (λ c. same_parent parent c.parent) children

-- how many of a name
abbrev pub typed_children_of : Option ℕ → List ℕ → List Child → ℕ
typed_children_of parent name children = count_by (λ c. same_parent parent c.parent && same_name name c.name) children

-- The element of a start tag that comes now. Its position among its parent's children counts each start tag up to it and with it
-- (Selectors 4, "Child-indexed Pseudo-classes" and "Typed Child-indexed Pseudo-classes").
abbrev pub element_of : Document → StartTag → Element
element_of d tag =
    record {
      number = d.events;
      tag = tag;
      position = children_of (parent_of d.open_elements) d.children + 1;
      typed_position = typed_children_of (parent_of d.open_elements) tag.name d.children + 1;
    }

-- the index, from the innermost on, of the first open element of this name
abbrev pub index_of : List ℕ → List Element → Option ℕ
index_of name elements = position (λ e. same_name e.tag.name name) elements

-- the elements up to an index and with it, and those after it
abbrev pub inner_part : Option ℕ → List Element → List Element
inner_part None elements = []
inner_part (Some index) elements = take (index + 1) elements

abbrev pub outer_part : Option ℕ → List Element → List Element
outer_part None elements = elements
outer_part (Some index) elements = drop (index + 1) elements

-- The elements that an end tag closes, by their numbers, the outermost first: the innermost open element of its name and all
-- inside it. (HTML Standard, "The rules for parsing tokens in HTML content": an end tag pops up to an element of its name.)
abbrev pub closed : List ℕ → Document → List ℕ
closed name d = reverse (map (λ e. e.number) (inner_part (index_of name d.open_elements) d.open_elements))

-- The document after a start tag, whose element is opened or not.
abbrev pub after_start : Document → StartTag → Bool → Document
after_start d tag opens =
    record {
      events = d.events + 1;
      children = record { parent = parent_of d.open_elements; name = tag.name } ∷ d.children;
      open_elements = if opens then element_of d tag ∷ d.open_elements else d.open_elements;
    }

-- The document after an end tag, which changes nothing where its name isn't open.
abbrev pub after_end : Document → List ℕ → Document
after_end d name =
    record { events = d.events + 1; children = d.children; open_elements = outer_part (index_of name d.open_elements) d.open_elements }
