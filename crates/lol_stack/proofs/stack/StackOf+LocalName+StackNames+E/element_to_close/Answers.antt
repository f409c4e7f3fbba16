use Rattle.std.proofs.Common.{◌≡◌, ◌∙◌, sym, ap, length, true, false, nat_lt, arith}
use Rattle.std.proofs.lemmas.Bool.Decides.{nat_tests}
use Rattle.lol_stack.specs.Stacks.{items_in, last_below}
use Rattle.lol_stack.proofs.StackLists.{last_below-push}
use Rattle.lol_stack.proofs.stack.StackOf+LocalName+StackNames+E.element_to_close.Goals as goal

pub returns-then-depth-len-clause-value : goal.returns-then-depth-len-clause-value
returns-then-depth-len-clause-value g c =
    let n = length (items_in c.args.self.now) in
    let below : nat_lt c.in_ok-depth.depth.now n ≡ true = grind (arith, nat_tests) in
    let last = ap (last_below n) (sym (c.depths_at.ensures c.args.name.now c.in_ok-at.ensures) ∙ c.in_ok-depth.ensures.cases.0) ∙ last_below-push n c.in_ok-depth.field-0-1.now c.in_ok-depth.depth.now in
    sym (rw below at last)

pub returns-else-depth-len-clause-value : goal.returns-else-depth-len-clause-value
returns-else-depth-len-clause-value g c =
    let n = length (items_in c.args.self.now) in
    let above : nat_lt c.in_ok-depth.depth.now n ≡ false = grind (arith, nat_tests) in
    let last = ap (last_below n) (sym (c.depths_at.ensures c.args.name.now c.in_ok-at.ensures) ∙ c.in_ok-depth.ensures.cases.0) ∙ last_below-push n c.in_ok-depth.field-0-1.now c.in_ok-depth.depth.now in
    sym (rw above at last)
