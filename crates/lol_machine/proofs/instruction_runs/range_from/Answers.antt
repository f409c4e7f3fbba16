use Rattle.lol_machine.proofs.Common.{◌≡◌, ◌+◌, ◌<◌, ◌^◌, arith, ap, rules}
use Rattle.lol_machine.proofs.instruction_runs.range_from.Goals as goal

pub returns : goal.returns
returns c = λ inside.
    let fits : c.args.range.now.end < 2 ^ 64 = search rules in
    let start : c.saturating_add.result ≡ c.args.range.now.start + c.args.offset = omega (arith, c.saturating_add.ensures, inside, fits) in
    ap (λ n. record c.args.range.now { start = n }) start
