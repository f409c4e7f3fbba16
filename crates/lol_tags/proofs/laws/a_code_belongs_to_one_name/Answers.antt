use Rattle.lol_tags.proofs.Codes.{one-name}
use Rattle.lol_tags.proofs.laws.a_code_belongs_to_one_name.Goals as goal

pub returns : goal.returns
returns c = one-name
