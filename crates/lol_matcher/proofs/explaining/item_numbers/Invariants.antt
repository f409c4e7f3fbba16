-- the numbers so far
use Rattle.std.proofs.Common.{◌≡◌, take}
use Rattle.lol_matcher.specs.Explaining.{numbers_in}
use Rattle.lol_matcher.proofs.explaining.item_numbers.Given as goal

abbrev pub invariant-loop-info : goal.invariant-loop-info
invariant-loop-info l = l.numbers.items ≡ numbers_in (take l.info-index l.matches)
