use Rattle.std.proofs.Common.{◌≡◌, List, drop, map, take}
use Rattle.std.specs.List.{flat_map}
use Rattle.lol_reasons.specs.Numbered.{texts_in}
use Rattle.lol_script.specs.SelectLines.{HoldsKept, KeptLine, text_accepted, text_read}
use Rattle.lol_script.proofs.select_lines.SelectLines.read.Given as goal

-- the lines before are read, and the rest has the texts of those that come
abbrev pub invariant-loop-line : goal.invariant-loop-line
invariant-loop-line l =
    (kept : List KeptLine) → HoldsKept l.self kept
    → (map text_read (take l.line-index kept) ≡ map text_accepted (texts_in l.read))
    × (l.rest ≡ flat_map (λ k. k.text) (drop l.line-index kept))
