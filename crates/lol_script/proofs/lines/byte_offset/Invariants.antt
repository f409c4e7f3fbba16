use Rattle.memchr.specs.Find.{Nowhere, Passes, is_byte}
use Rattle.lol_script.proofs.lines.byte_offset.Given as goal

abbrev pub invariant-loop-offset : goal.invariant-loop-offset
invariant-loop-offset l = Nowhere (Passes (is_byte l.byte) l.bytes) 0 l.offset
