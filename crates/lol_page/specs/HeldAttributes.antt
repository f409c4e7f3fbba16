-- The attributes of a start tag, as a page keeps them.
use Rattle.std.specs.Prelude.{ℕ, if◌then◌else◌, List, map}
use Rattle.lol_base.specs.StartTags.{Attribute, attribute_of}
use Rattle.lol_page.specs.declared.tag_attributes.TagAttributes.{TagAttributes}

-- what they say of a tag with these bytes
abbrev pub held : TagAttributes → List ℕ → List Attribute
held a text = if a.are_decoded then a.values else map (attribute_of text) a.outlines.items
