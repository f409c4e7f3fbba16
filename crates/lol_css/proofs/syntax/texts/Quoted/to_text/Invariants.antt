use Rattle.std.proofs.Common.{◌≡◌, ◌++◌, length, string_bytes}
use Rattle.lol_css.specs.Tokens.{string_text}
use Rattle.lol_css.specs.Reading.{utf8}
use Rattle.lol_css.specs.Views.{quoted_points}
use Rattle.lol_css.proofs.syntax.texts.Quoted.to_text.Given as goal

-- what is copied, and the rest of the string, are the whole
abbrev pub invariant-loop-piece : goal.invariant-loop-piece
invariant-loop-piece l = string_bytes l.text ++ utf8 (string_text l.fn.self.quote l.rest).0 ≡ utf8 (quoted_points l.fn.self)

abbrev pub decreases-loop-piece : goal.decreases-loop-piece
decreases-loop-piece l = length l.rest
