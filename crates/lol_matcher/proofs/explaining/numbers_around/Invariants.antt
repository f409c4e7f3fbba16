-- the numbers so far
use Rattle.std.proofs.Common.{◌≡◌, map, take}
use Rattle.lol_matcher.proofs.explaining.numbers_around.Given as goal

abbrev pub invariant-loop-item : goal.invariant-loop-item
invariant-loop-item g l = l.numbers.items ≡ map (λ item. item.element_data.number) (take l.item-index l.outer)
