use Rattle.std.proofs.Common.{take, ◌∙◌, arith, rules}
use Rattle.std.proofs.KnownBytes.{Consumes-trans}
use Rattle.lol_script.proofs.line_reader.read_rest.Goals as goal

pub loop-reader-preserved : goal.loop-reader-preserved
loop-reader-preserved g c = record {
  read = (_, Consumes-trans _ _ _ c.loop-reader.invariant.read.0 (take c.in_ok-read.field-0 c.read.new.buffer) c.loop-reader.invariant.read.1 c.in_ok-read.ensures.bytes.0);
  failures = c.in_ok-read.ensures.unchanged ∙ c.loop-reader.invariant.failures;
  room = search rules;
  grows = omega (arith, c.in_ok-count_read.ensures.counted, c.loop-reader.invariant.grows);
}
