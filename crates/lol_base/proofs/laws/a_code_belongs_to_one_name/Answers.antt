use Rattle.std.proofs.Common.{sym, ◌∙◌}
use Rattle.lol_base.specs.CodeLaws.{one_name}
use Rattle.lol_base.proofs.CodeLemmas.{is_some-name_code}
use Rattle.lol_base.proofs.laws.a_code_belongs_to_one_name.Goals as goal

pub returns-clause-one : goal.returns-clause-one
returns-clause-one c = one_name

pub returns-clause-hash : goal.returns-clause-hash
returns-clause-hash c name = (λ some. sym (is_some-name_code name) ∙ some, λ hash. is_some-name_code name ∙ hash)
