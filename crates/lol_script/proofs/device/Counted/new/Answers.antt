use Rattle.std.proofs.Common.{rules}
use Rattle.lol_script.proofs.device.Counted.new.Goals as goal

pub returns : goal.returns
returns c = search rules
