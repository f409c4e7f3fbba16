use Rattle.std.proofs.Common.{◌≡◌, ◌++◌, map, take}
use Rattle.lol_references.specs.Attributes.{decoded_attribute}
use Rattle.lol_references.proofs.attributes.push_all.Given as goal

abbrev pub invariant-loop-outline : goal.invariant-loop-outline
invariant-loop-outline l = l.attributes ≡ l.fn.attributes ++ map (decoded_attribute l.tag) (take l.outline-index l.outlines)
