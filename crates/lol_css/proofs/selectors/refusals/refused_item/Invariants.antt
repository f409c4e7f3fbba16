use Rattle.std.proofs.Common.{◌≡◌, ◌+◌, ◌≤◌, length}
use Rattle.std.specs.Option.{option_map}
use Rattle.lol_css.specs.Tokens.{tokens_of}
use Rattle.lol_css.specs.Locating.{refused_token}
use Rattle.lol_css.specs.Views.{numbers}
use Rattle.lol_css.proofs.LocatingLemmas.{told}
use Rattle.lol_css.proofs.selectors.refusals.refused_item.Given as goal

-- what was found so far, and what the items left tell, are the whole
abbrev pub invariant-items : goal.invariant-items
invariant-items l = record {
  tells : told (tokens_of l.fn.points) l.number (option_map numbers l.late) l.parser.reader ≡ refused_token (tokens_of l.fn.points);
  few : l.number + length l.parser.reader ≤ l.all;
}

abbrev pub decreases-items : goal.decreases-items
decreases-items l = length l.parser.reader
