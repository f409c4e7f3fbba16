use Rattle.std.proofs.Common.{◌≡◌, ◌∷◌, [], ◌++◌, List, ℕ, OnOk, decimal, ◌+◌, ◌<◌, ◌≤◌, ◌/◌, ◌%◌, sym, ◌∙◌, arith, rules}
use Rattle.std.proofs.lemmas.List.{append_assoc}
use Rattle.lol_script.proofs.Digits.{two_are, two_more, four_more}
use Rattle.lol_script.proofs.output.+digits.Goals as goal

pub push_number-push_digits-requires : goal.push_number-push_digits-requires
push_number-push_digits-requires t c = omega arith

pub push_digits-returns-then-number-lt100 : goal.push_digits-returns-then-number-lt100
push_digits-returns-then-number-lt100 t c =
    let digits = c.two_digits.ensures ∙ sym (two_are c.args.number (omega arith) (omega arith)) in search (rules, digits)

pub push_digits-returns-then-number-lt10000 : goal.push_digits-returns-then-number-lt10000
push_digits-returns-then-number-lt10000 t c =
    let digits = two_more c.args.number (omega arith) (omega arith) in
    let front = c.in_ok-push_number.ensures in search (rules, append_assoc, digits, front)

pub push_digits-returns : goal.push_digits-returns
push_digits-returns t c =
    let digits = four_more c.args.number (omega arith) (omega arith) in
    let front = c.in_ok-push_number-2.ensures in search (rules, append_assoc, digits, front)
