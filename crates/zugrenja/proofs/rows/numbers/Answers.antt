use Rattle.std.proofs.Common.{refl}
use Rattle.std.specs.Fmt.{digits}
use Rattle.zugrenja.specs.Lines.{count_line, numbers_line}
use Rattle.zugrenja.proofs.rows.numbers.Goals as goal

pub returns-clause-ids : goal.returns-clause-ids
unfolding numbers_line digits
returns-clause-ids c = refl

pub returns-clause-count : goal.returns-clause-count
unfolding count_line digits
returns-clause-count c = refl
