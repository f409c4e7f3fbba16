use Rattle.std.proofs.Common.{rules}
use Rattle.lol_rows.proofs.tag_keys.TagKeys.new.Goals as goal

pub returns-clause-hashes : goal.returns-clause-hashes
returns-clause-hashes c = search rules
