use Rattle.std.proofs.Common.{◌≡◌, length, get_or}
use Rattle.lol_css.specs.Tokens.{tokens_of}
use Rattle.lol_css.specs.Locating.{token_starts}
use Rattle.lol_css.proofs.syntax.places.points_before.Given as goal

abbrev pub invariant-loop-start : goal.invariant-loop-start
invariant-loop-start l = get_or (token_starts l.rest) l.to_pass 0 ≡ get_or (token_starts l.fn.points) l.fn.token 0

abbrev pub decreases-loop-start : goal.decreases-loop-start
decreases-loop-start l = length (tokens_of l.rest)
