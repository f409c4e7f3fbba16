use Rattle.std.proofs.Common.{rules}
use Rattle.lol_base.proofs.attributes.Attributes.aux_info.Goals as goal

pub returns-clause-self_closing : goal.returns-clause-self_closing
returns-clause-self_closing c = search rules
