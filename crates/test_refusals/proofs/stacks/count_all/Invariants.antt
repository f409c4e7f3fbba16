use Rattle.std.proofs.Common.{◌≡◌}
use Rattle.lol_stack.specs.Stacks.{item_bytes_in}
use Rattle.test_refusals.proofs.stacks.count_all.Given as goal

abbrev pub invariant-loop-name : goal.invariant-loop-name
invariant-loop-name l = item_bytes_in l.stack ≡ item_bytes_in l.fn.stack
