-- the lines of the reasons so far
use Rattle.std.proofs.Common.{◌≡◌, map, take}
use Rattle.lol_reasons.specs.Numbered.{reason_shown}
use Rattle.zugrenja_c.specs.Reasons.{lines_of_reasons}
use Rattle.zugrenja_c.proofs.reasons.lines_of.Given as goal

abbrev pub invariant-loop-reason : goal.invariant-loop-reason
invariant-loop-reason l = l.lines.items ≡ lines_of_reasons (map reason_shown (take l.reason-index l.told))
