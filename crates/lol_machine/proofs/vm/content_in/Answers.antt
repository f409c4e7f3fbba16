use Rattle.std.proofs.Common.{rules}
use Rattle.lol_machine.proofs.vm.content_in.Goals as goal

pub returns-in-Html : goal.returns-in-Html
returns-in-Html c = search rules
