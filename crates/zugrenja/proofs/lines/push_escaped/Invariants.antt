use Rattle.std.proofs.Common.{◌≡◌, ◌++◌, take}
use Rattle.std.specs.List.{flat_map}
use Rattle.zugrenja.specs.Json.{json_byte}
use Rattle.zugrenja.proofs.lines.push_escaped.Given as goal

abbrev pub invariant-loop-b : goal.invariant-loop-b
invariant-loop-b l = l.lines.items ≡ l.initial.lines.items ++ flat_map json_byte (take l.b-index l.text)
