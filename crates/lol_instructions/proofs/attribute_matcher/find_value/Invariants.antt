use Rattle.std.proofs.Common.{◌≡◌, drop, map}
use Rattle.lol_base.specs.StartTags.{attribute_of}
use Rattle.lol_instructions.specs.Attributes.{value_among}
use Rattle.lol_instructions.proofs.attribute_matcher.find_value.Given as goal

-- no attribute so far has the name
abbrev pub invariant-loop-outline : goal.invariant-loop-outline
invariant-loop-outline l =
    value_among l.name (map (attribute_of l.input) (drop l.outline-index l.attributes)) ≡ value_among l.name (map (attribute_of l.input) l.attributes)
