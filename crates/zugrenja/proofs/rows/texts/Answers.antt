use Rattle.std.proofs.Common.{refl}
use Rattle.std.specs.Fmt.{digits}
use Rattle.zugrenja.specs.Lines.{text_line}
use Rattle.zugrenja.proofs.rows.texts.Goals as goal

pub returns-clause-plain : goal.returns-clause-plain
unfolding text_line digits
returns-clause-plain c = refl

pub returns-clause-whole : goal.returns-clause-whole
unfolding text_line digits
returns-clause-whole c = refl
