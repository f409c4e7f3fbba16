use Rattle.std.proofs.Common.{◌≡◌, length}
use Rattle.lol_css.specs.Tokens.{tokens_of}
use Rattle.lol_css.specs.Locating.{token_starts}
use Rattle.lol_css.proofs.syntax.tokens.first_token.Given as goal

abbrev pub invariant-loop-token : goal.invariant-loop-token
invariant-loop-token l = record {
  whole : tokens_of l.rest ≡ tokens_of l.fn.text;
  starts : token_starts l.rest ≡ token_starts l.fn.text;
}

abbrev pub decreases-loop-token : goal.decreases-loop-token
decreases-loop-token l = length l.rest
