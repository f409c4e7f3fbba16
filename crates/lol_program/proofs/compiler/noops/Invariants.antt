use Rattle.std.proofs.Common.{◌≡◌, length}
use Rattle.lol_program.proofs.compiler.noops.Given as goal

abbrev pub invariant-loop-i : goal.invariant-loop-i
invariant-loop-i l = length l.instructions.items ≡ l._i
