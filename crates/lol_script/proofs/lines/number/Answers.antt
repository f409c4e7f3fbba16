use Rattle.std.proofs.Common.{arith, sym, rules, tests}
use Rattle.lol_script.proofs.Numbers.{number_exceeded, number_within}
use Rattle.lol_script.proofs.lines.number.Goals as goal

pub returns-in_err-checked_mul : goal.returns-in_err-checked_mul
returns-in_err-checked_mul c =
    let over = c.in_err-checked_mul.ensures in
    rw c.from_residual.ensures (sym (number_exceeded 18446744073709551615 c.args.digits.now c.loop-digit.digit-index c.loop-digit.value (omega arith) c.loop-digit.invariant.value (omega (arith, over))))

pub returns-in_err-value : goal.returns-in_err-value
returns-in_err-value c =
    let over = c.in_err-value.ensures in
    let tenfold = c.in_ok-checked_mul.ensures.1 in
    rw c.from_residual-in_err-value.ensures (sym (number_exceeded 18446744073709551615 c.args.digits.now c.loop-digit.digit-index c.loop-digit.value (omega arith) c.loop-digit.invariant.value (omega (arith, over, tenfold))))

pub returns : goal.returns
returns c =
    number_within 18446744073709551615 c.args.digits.now c.loop-digit.digit-index c.loop-digit.value (search (rules, tests)) (omega arith) c.loop-digit.invariant.value c.loop-digit.invariant.digits (omega arith)
