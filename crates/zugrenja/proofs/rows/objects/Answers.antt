use Rattle.std.proofs.Common.{refl}
use Rattle.std.specs.Fmt.{digits}
use Rattle.zugrenja.specs.Lines.{json_line, number_member, place_members, selectors_member}
use Rattle.zugrenja.proofs.rows.objects.Goals as goal

pub returns-clause-object : goal.returns-clause-object
unfolding json_line number_member place_members selectors_member digits
returns-clause-object c = refl
