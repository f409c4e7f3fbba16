use Rattle.std.proofs.Common.{◌≡◌, ◌++◌, map, take}
use Rattle.lol_reasons.specs.Numbered.{reason_shown}
use Rattle.lol_script.specs.Explaining.{lines_by}
use Rattle.lol_script.specs.Output.{lines_of}
use Rattle.lol_script.proofs.explained.push_reasons.Given as goal

abbrev pub invariant-loop-reason : goal.invariant-loop-reason
invariant-loop-reason l = l.text.items ≡ l.initial.text.items ++ lines_of (lines_by l.lines (map reason_shown (take l.reason-index l.reasons)))
