use Rattle.std.proofs.Common.{◌≡◌, drop, map}
use Rattle.lol_base.specs.Names.{lowercased}
use Rattle.lol_base.specs.StartTags.{attribute_of}
use Rattle.lol_instructions.specs.Attributes.{value_among}
use Rattle.zugrenja.proofs.lines.find_value.Given as goal

-- no attribute so far has the name
abbrev pub invariant-loop-outline : goal.invariant-loop-outline
invariant-loop-outline l =
    value_among (lowercased l.name) (map (attribute_of l.text) (drop l.outline-index l.outlines)) ≡ value_among (lowercased l.name) (map (attribute_of l.text) l.outlines)
