use Rattle.std.proofs.Common.{rules}
use Rattle.lol_stack.proofs.address_ranges.AddressRanges.as_slice.Goals as goal

pub returns-in-Many : goal.returns-in-Many
returns-in-Many c = search rules
