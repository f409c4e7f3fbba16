use Rattle.std.proofs.Common.{◌≡◌}
use Rattle.lol_stack.specs.Stacks.{item_bytes_in}
use Rattle.test_refusals.proofs.stacks.open_all.Given as goal

abbrev pub invariant-loop-number : goal.invariant-loop-number
invariant-loop-number l = item_bytes_in l.stack ≡ item_bytes_in l.fn.stack
