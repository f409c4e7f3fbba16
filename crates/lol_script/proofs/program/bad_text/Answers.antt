use Rattle.std.proofs.Common.{rules}
use Rattle.lol_script.proofs.program.bad_text.Goals as goal

pub returns : goal.returns
returns c = search rules
