use Rattle.std.proofs.Common.{arith}
use Rattle.std.proofs.lemmas.Bool.Decides.{nat_tests}
use Rattle.std.proofs.lemmas.Grind.{common_steps}
use Rattle.lol_stack.proofs.NameBlockLemmas.{single_block}
use Rattle.lol_stack.proofs.name_blocks.block_for.Goals as goal

pub returns-then-blocks-le1-clause-sought : goal.returns-then-blocks-le1-clause-sought
returns-then-blocks-le1-clause-sought g c = single_block (λ b. b.items) c.args.name.now c.args.blocks.now (grind (arith, nat_tests, c.if-blocks-le1.true))

pub returns-clause-inside : goal.returns-clause-inside
returns-clause-inside g c = grind (arith, common_steps)
