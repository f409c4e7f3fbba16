-- What a matcher keeps.
use Rattle.std.specs.Prelude.{◌≡◌, map, All, codes}
use Rattle.std.specs.Option.{option_copied}
use Rattle.lol_base.specs.StartTags.{attribute_of, OutlineIsInside}
use Rattle.lol_instructions.specs.Attributes.{TagAttributes, value_in}
use Rattle.lol_instructions.specs.Marks.{AreMarked}
use Rattle.lol_instructions.specs.declared.attribute_matcher.AttributeMatcher.TheInside.{Inside}

abbrev pub attributes_seen : Inside → TagAttributes
attributes_seen m = record { attributes = map (attribute_of m.input.now) m.attributes.now.items; namespace = m.namespace }

-- Name and value ranges lie inside the input, the values of `id` and `class` are kept, and each test that holds is marked.
pub record IsMatcher (m : Inside) : Type 0 where
  pub inside : All (OutlineIsInside m.input.now) m.attributes.now.items
  pub id : option_copied m.id ≡ value_in (codes "id") (attributes_seen m)
  pub class : option_copied m.class ≡ value_in (codes "class") (attributes_seen m)
  pub marked : AreMarked m.marks (attributes_seen m)
