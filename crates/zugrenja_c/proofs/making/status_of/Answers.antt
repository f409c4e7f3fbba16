use Rattle.std.proofs.Common.{rules}
use Rattle.zugrenja_c.proofs.making.status_of.Goals as goal

pub returns-in-Err-Refused : goal.returns-in-Err-Refused
returns-in-Err-Refused c = search rules
