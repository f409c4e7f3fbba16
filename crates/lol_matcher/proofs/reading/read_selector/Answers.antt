use Rattle.std.proofs.Common.{rules}
use Rattle.lol_matcher.proofs.reading.read_selector.Goals as goal

pub refusal-requires : goal.refusal-requires
refusal-requires c = search rules
