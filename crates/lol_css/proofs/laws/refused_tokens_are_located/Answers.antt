use Rattle.lol_css.proofs.Located.{refusal-located}
use Rattle.lol_css.proofs.laws.refused_tokens_are_located.Goals as goal

pub returns : goal.returns
returns c = refusal-located
