use Rattle.std.proofs.Common.{◌≡◌, ◌++◌, take}
use Rattle.std.specs.List.{flat_map}
use Rattle.lol_memory.specs.declared.match_info.MatchInfo.{MatchInfo}
use Rattle.lol_machine.specs.Views.{match_of}
use Rattle.zugrenja.specs.Lines.{name_line}
use Rattle.zugrenja.proofs.lines.Style.push_names.Given as goal

abbrev pub invariant-loop-found : goal.invariant-loop-found
invariant-loop-found l =
    l.lines.items ≡ l.initial.lines.items ++ flat_map (λ (m : MatchInfo). name_line l.self l.placed.line l.placed.column (match_of m)) (take l.found-index l.matches)
