use Rattle.std.proofs.Common.{◌≡◌, length}
use Rattle.lol_css.specs.Rules.{skip_space}
use Rattle.lol_css.proofs.syntax.reader.Reader.skip_space.Given as goal

abbrev pub invariant-loop-self : goal.invariant-loop-self
invariant-loop-self l = skip_space l.self ≡ skip_space l.fn.self

abbrev pub decreases-loop-self : goal.decreases-loop-self
decreases-loop-self l = length l.self
