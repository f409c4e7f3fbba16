use Rattle.std.proofs.Common.{rules}
use Rattle.lol_script.proofs.settings.take_selector.Goals as goal

pub returns : goal.returns
returns c = search rules

pub returns-in-Ok-add_selector-clause-added : goal.returns-in-Ok-add_selector-clause-added
returns-in-Ok-add_selector-clause-added c = search rules
