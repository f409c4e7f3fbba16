use Rattle.std.proofs.Common.{rules}
use Rattle.lol_instructions.proofs.MarkLemmas.{lack-missing, lack-none}
use Rattle.lol_instructions.proofs.marks.Marks.lack.Goals as goal

pub returns-clause-missing : goal.returns-clause-missing
returns-clause-missing c = lack-missing c.args.self c.args.needs (search rules) (search rules) (search rules)

pub returns-clause-all : goal.returns-clause-all
returns-clause-all c = lack-none c.args.self c.args.needs (search rules) (search rules) (search rules)
