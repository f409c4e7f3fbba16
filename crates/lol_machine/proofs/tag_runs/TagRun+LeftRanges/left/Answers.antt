use Rattle.std.proofs.Common.{rules}
use Rattle.lol_machine.proofs.tag_runs.TagRun+LeftRanges.left.Goals as goal

pub returns-clause-ranges : goal.returns-clause-ranges
returns-clause-ranges c = search rules
