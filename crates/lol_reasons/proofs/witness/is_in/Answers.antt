use Rattle.std.proofs.Common.{rules}
use Rattle.lol_reasons.proofs.witness.is_in.Goals as goal

pub returns-else-range-address : goal.returns-else-range-address
returns-else-range-address c = search rules
