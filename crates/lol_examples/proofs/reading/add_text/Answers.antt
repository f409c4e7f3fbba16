use Rattle.std.proofs.Common.{rules}
use Rattle.lol_examples.proofs.reading.add_text.Goals as goal

pub returns-clause-added : goal.returns-clause-added
returns-clause-added c = search rules
