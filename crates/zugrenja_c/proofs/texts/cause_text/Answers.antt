use Rattle.std.proofs.Common.{rules}
use Rattle.zugrenja_c.proofs.texts.cause_text.Goals as goal

pub returns-in_default-combinator-clause-text : goal.returns-in_default-combinator-clause-text
returns-in_default-combinator-clause-text c = search rules
