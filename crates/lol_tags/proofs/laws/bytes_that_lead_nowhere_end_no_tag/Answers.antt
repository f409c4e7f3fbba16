use Rattle.std.proofs.Common.{refl}
use Rattle.lol_tags.specs.Reading.{fresh}
use Rattle.lol_tags.specs.Idling.{stop}
use Rattle.lol_tags.proofs.Idle.{idle-run, idle-tags}
use Rattle.lol_tags.proofs.laws.bytes_that_lead_nowhere_end_no_tag.Goals as goal

pub returns : goal.returns
unfolding stop
returns c = record {
  text = λ scripting bytes h. idle-tags (fresh scripting) 60 bytes refl h;
  none = idle-tags;
  stays = idle-run;
}
