use Rattle.std.proofs.Common.{◌≡◌, ◌+◌, length}
use Rattle.lol_css.specs.Tokens.{tokens_of}
use Rattle.lol_css.proofs.syntax.tokens.count_tokens.Given as goal

abbrev pub invariant-loop-after : goal.invariant-loop-after
invariant-loop-after l = l.count + length (tokens_of l.rest) ≡ length (tokens_of l.fn.text)

abbrev pub decreases-loop-after : goal.decreases-loop-after
decreases-loop-after l = length (tokens_of l.rest)
