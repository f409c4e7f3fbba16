use Rattle.std.proofs.Common.{rules}
use Rattle.lol_reasons.proofs.error.NumberingErrorFromAllocError.from.Goals as goal

pub returns : goal.returns
returns c = search rules
