-- What is known of a browser's tree while the page streams (HTML Standard, 13.2.4, "Parse state"): the open elements with the insertion mode that
-- each gives, the list of active formatting elements, and what was told.
use Rattle.std.specs.Prelude.{ℕ, Bool, true, List, [], ◌∷◌, Option, Some, None}
use Rattle.lol_base.specs.StartTags.{StartTag}
use Rattle.lol_page.specs.Namespaces.{OpenElement}

-- The insertion modes (13.2.4.1) as far as they decide elements. "Initial" is `BeforeHtml` before a doctype, and "after body" and "after after
-- body" are `InBody`, since all that comes there goes into the body. Framesets are left out.
pub data Mode : Type 0 where
  BeforeHtml BeforeHead InHead InHeadNoscript AfterHead InBody InRawText : Mode
  InTable InCaption InColumnGroup InTableBody InRow InCell InSelect InSelectInTable InTemplate : Mode

-- An open element of the tree: its tag, in its namespace; its number, by which the other parts of the state know it; the insertion mode while it is
-- the innermost; and whether it has ended before elements inside it. One that has ended is closed as soon as it is the innermost, and no rule sees it.
pub record TreeElement : Type 0 where
  pub tag : StartTag
  pub own : OpenElement
  pub number : ℕ
  pub mode : Mode
  pub has_ended : Bool

-- What stands in the list of active formatting elements (13.2.4.3).
pub data Formatting : Type 0 where
  Marker : Formatting
  ListedElement : (e : TreeElement) → Formatting

-- What is told: a start tag, which is implied if no tag of the page opens its element, and the end of the innermost element. A start tag of an
-- element that has no content is told alone.
pub data TreeEvent : Type 0 where
  StartTold : (implied : Bool) → (tag : StartTag) → TreeEvent
  EndTold : (name : List ℕ) → TreeEvent

-- The elements stand the innermost first, the formatting elements and what was told the last first. `form` is the number of the form element that
-- "the form element pointer" names, `quirks` what a doctype said, if one came in time. `given` counts the numbers that were given to elements.
pub record TreeState : Type 0 where
  pub elements : List TreeElement
  pub formatting : List Formatting
  pub form : Option ℕ
  pub quirks : Option Bool
  pub scripting : Bool
  pub given : ℕ
  pub told : List TreeEvent

abbrev pub fresh_tree : Bool → TreeState
fresh_tree scripting = record { elements = []; formatting = []; form = None; quirks = None; scripting = scripting; given = 0; told = [] }

abbrev pub mode_in : List TreeElement → Mode
mode_in [] = BeforeHtml
mode_in (e ∷ outer) = e.mode

abbrev pub mode_of : TreeState → Mode
mode_of t = mode_in t.elements

-- "no-quirks mode" and "limited-quirks mode" are one here.
abbrev pub is_in_quirks : Option Bool → Bool
is_in_quirks None = true
is_in_quirks (Some quirks) = quirks
