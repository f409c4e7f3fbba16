use Rattle.std.proofs.Common.{rules}
use Rattle.lol_examples.proofs.charged_list.push_once.Goals as goal

pub returns-clause-usage : goal.returns-clause-usage
returns-clause-usage c = search rules
