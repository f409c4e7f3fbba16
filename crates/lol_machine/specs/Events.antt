-- What the machine is told of a document: start tags and end tags, in order.
use Rattle.std.specs.Prelude.{ℕ, Bool, not, ◌&&◌, ◌||◌, List}
use Rattle.lol_base.specs.Names.{is_void, is_esi}
use Rattle.lol_base.specs.StartTags.{StartTag}
use Rattle.lol_base.specs.declared.namespace.Namespace.{Namespace}
use Rattle.lol_base.specs.declared.namespace.Namespace.TheVariants.{Html, Svg, MathML}

-- A tag (HTML Standard, "Start tags" and "End tags"). Events are known by their indices in the list of events, from 0.
pub data Event : Type 0 where
  Start : (tag : StartTag) → Event
  End : (name : List ℕ) → Event

abbrev pub has_content_in : Namespace → Bool → StartTag → Bool
has_content_in Html esi tag = not (is_void tag.name || (esi && is_esi tag.name))
has_content_in Svg esi tag = not tag.self_closing
has_content_in MathML esi tag = not tag.self_closing

-- Whether a tag's element has content: one of HTML has, unless its name is void; in the other namespaces an element has, unless
-- its tag closes itself (HTML Standard, "Elements": void elements, foreign elements).
abbrev pub has_content : Bool → StartTag → Bool
has_content esi tag = has_content_in tag.namespace esi tag
