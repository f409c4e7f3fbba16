use Rattle.std.proofs.Common.{◌≡◌, ◌++◌, take}
use Rattle.zugrenja.specs.Lines.{in_one_line}
use Rattle.zugrenja.proofs.lines.push_in_one_line.Given as goal

abbrev pub invariant-loop-b : goal.invariant-loop-b
invariant-loop-b l = l.lines.items ≡ l.initial.lines.items ++ in_one_line (take l.b-index l.text)
