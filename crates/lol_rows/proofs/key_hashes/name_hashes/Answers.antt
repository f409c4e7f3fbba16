use Rattle.std.proofs.Common.{rules}
use Rattle.lol_rows.proofs.key_hashes.name_hashes.Goals as goal

pub returns : goal.returns
returns c = search rules
