use Rattle.std.proofs.Common.{rules}
use Rattle.lol_base.proofs.nth.NthChild.new.Goals as goal

pub returns : goal.returns
returns c = search rules
