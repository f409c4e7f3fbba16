use Rattle.std.proofs.Common.{rules}
use Rattle.lol_stack.proofs.address_ranges.AddressRanges.pop.Goals as goal

pub returns-in-One-clause-items : goal.returns-in-One-clause-items
returns-in-One-clause-items c = search rules
