use Rattle.std.proofs.Common.{rules}
use Rattle.zugrenja_c.proofs.number_of.Goals as goal

pub returns-in-Refused : goal.returns-in-Refused
returns-in-Refused c = search rules
