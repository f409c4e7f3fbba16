use Rattle.lol_css.proofs.Fewer.{tokens-fewer}
use Rattle.lol_css.proofs.laws.tokens_are_no_more_than_code_points.Goals as goal

pub returns : goal.returns
returns c = tokens-fewer
