use Rattle.std.proofs.Common.{rules}
use Rattle.lol_script.proofs.exit_status.Goals as goal

pub returns-in-Ok-BadLine : goal.returns-in-Ok-BadLine
returns-in-Ok-BadLine c = search rules
