use Rattle.lol_reasons.proofs.ContentMarks as proved
use Rattle.lol_reasons.proofs.run_laws.marks_tell_content.Goals as goal

pub returns : goal.returns
returns c = proved.marks_tell_content
