use Rattle.std.proofs.Common.{◌≡◌, ◌++◌, take}
use Rattle.std.specs.List.{flat_map}
use Rattle.zugrenja.specs.Lines.{later_number}
use Rattle.zugrenja.proofs.lines.push_others.Given as goal

abbrev pub invariant-loop-found : goal.invariant-loop-found
invariant-loop-found l = l.lines.items ≡ l.initial.lines.items ++ flat_map later_number (take l.found-index l.others)
