-- the table of the reasons so far
use Rattle.std.proofs.Common.{map, take}
use Rattle.lol_reasons.specs.Numbered.{reason_shown}
use Rattle.zugrenja_c.specs.Reasons.{HasReasons}
use Rattle.zugrenja_c.proofs.reasons.ReasonTable.of.Given as goal

abbrev pub invariant-loop-reason : goal.invariant-loop-reason
invariant-loop-reason l = HasReasons (map reason_shown (take l.reason-index l.told)) l.table
