use Rattle.std.proofs.Common.{rules}
use Rattle.lol_rows.proofs.key_hashes.after_attribute.Goals as goal

pub returns : goal.returns
returns c = search rules
