-- the outlines so far, and those of the places that are left
use Rattle.std.proofs.Common.{◌≡◌, ◌++◌, map, drop}
use Rattle.zugrenja_c.specs.Tags.{outline_of}
use Rattle.zugrenja_c.proofs.attribute_places.outlines_of.Given as goal

abbrev pub invariant-loop-place : goal.invariant-loop-place
invariant-loop-place l = l.outlines.items ++ map outline_of (drop l.place-index l.places) ≡ map outline_of l.fn.places
