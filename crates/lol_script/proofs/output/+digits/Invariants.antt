use Rattle.std.proofs.Common.{◌+◌, ◌*◌}
use Rattle.lol_script.proofs.output.+digits.Given as goal

abbrev pub decreases-push_number : goal.decreases-push_number
decreases-push_number l = 2 * l.number + 1

abbrev pub decreases-push_digits : goal.decreases-push_digits
decreases-push_digits l = 2 * l.number
