use Rattle.std.proofs.Common.{◌≡◌, ◌++◌, length, string_bytes}
use Rattle.lol_css.specs.Reading.{utf8}
use Rattle.lol_css.specs.Rules.{lowercase}
use Rattle.lol_css.specs.Views.{points_of}
use Rattle.lol_css.proofs.syntax.texts.Name.to_lowercase_text.Given as goal

-- what is copied, and the rest of the name, are the whole
abbrev pub invariant-loop-c : goal.invariant-loop-c
invariant-loop-c l = string_bytes l.text ++ utf8 (lowercase (points_of l.rest)) ≡ utf8 (lowercase (points_of l.fn.self))

abbrev pub decreases-loop-c : goal.decreases-loop-c
decreases-loop-c l = length (points_of l.rest)
