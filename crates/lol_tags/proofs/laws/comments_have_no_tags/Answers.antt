use Rattle.lol_tags.proofs.Within.{comment-none}
use Rattle.lol_tags.proofs.laws.comments_have_no_tags.Goals as goal

pub returns : goal.returns
returns c = comment-none
