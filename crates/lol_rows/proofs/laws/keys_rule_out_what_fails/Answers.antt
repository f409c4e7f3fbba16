use Rattle.lol_rows.specs.KeyLaws.{keys_are_right, keys_are_of_tags}
use Rattle.lol_rows.proofs.laws.keys_rule_out_what_fails.Goals as goal

pub returns : goal.returns
returns c = record { right = keys_are_right; tags = keys_are_of_tags }
