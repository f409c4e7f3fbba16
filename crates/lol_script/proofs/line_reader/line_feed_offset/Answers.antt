use Rattle.std.specs.Prelude.{◌==◌}
use Rattle.lol_script.proofs.Fields.{first_offset}
use Rattle.lol_script.proofs.line_reader.line_feed_offset.Goals as goal

pub returns-in_default : goal.returns-in_default
returns-in_default c = first_offset (λ b. b == 10) c.args.bytes.now c.memchr.result c.memchr.ensures
