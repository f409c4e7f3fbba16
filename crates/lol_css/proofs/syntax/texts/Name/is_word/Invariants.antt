use Rattle.std.proofs.Common.{◌≡◌, drop}
use Rattle.lol_css.specs.Rules.{says}
use Rattle.lol_css.specs.Views.{points_of}
use Rattle.lol_css.proofs.syntax.texts.Name.is_word.Given as goal

abbrev pub invariant-loop-byte : goal.invariant-loop-byte
invariant-loop-byte l = says (drop l.byte-index l.byte-items) (points_of l.rest) ≡ says l.fn.word (points_of l.fn.self)
