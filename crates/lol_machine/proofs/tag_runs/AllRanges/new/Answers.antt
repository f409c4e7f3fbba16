use Rattle.std.proofs.Common.{rules}
use Rattle.lol_machine.proofs.tag_runs.AllRanges.new.Goals as goal

pub returns : goal.returns
returns c = search rules
