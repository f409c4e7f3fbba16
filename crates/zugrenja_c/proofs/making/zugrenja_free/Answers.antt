use Rattle.std.proofs.Common.{rules}
use Rattle.zugrenja_c.proofs.making.zugrenja_free.Goals as goal

pub returns-clause-freed : goal.returns-clause-freed
returns-clause-freed c = search rules
