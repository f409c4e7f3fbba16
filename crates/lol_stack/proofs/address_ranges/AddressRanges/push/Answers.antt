use Rattle.std.proofs.Common.{rules}
use Rattle.lol_stack.proofs.address_ranges.AddressRanges.push.Goals as goal

pub returns-in-None-clause-ok : goal.returns-in-None-clause-ok
returns-in-None-clause-ok c = search rules
