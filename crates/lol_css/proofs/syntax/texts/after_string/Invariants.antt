use Rattle.std.proofs.Common.{◌≡◌, length}
use Rattle.lol_css.specs.Tokens.{string_text}
use Rattle.lol_css.proofs.syntax.texts.after_string.Given as goal

abbrev pub invariant-loop-after : goal.invariant-loop-after
invariant-loop-after l = (string_text l.quote l.rest).1 ≡ (string_text l.fn.quote l.fn.text).1

abbrev pub decreases-loop-after : goal.decreases-loop-after
decreases-loop-after l = length l.rest
