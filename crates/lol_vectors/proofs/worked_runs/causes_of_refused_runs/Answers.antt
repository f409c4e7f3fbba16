use Rattle.std.proofs.Common.{◌≡◌, ◌≤◌, ◌<◌, ℕ, Bool, true, false, true≢false, Option, Some, None, ap, sym, arith, refl}
use Rattle.lol_machine.specs.Refusals.{Cause, Limit, Counter}
use Rattle.lol_vm.specs.RunRefusals.{IsUntil}
use Rattle.lol_vectors.proofs.worked_runs.causes_of_refused_runs.Goals as goal

abbrev number_of : Option (ℕ × Cause) → ℕ
number_of (Some first) = first.0
number_of None = 0

abbrev is_limit : Cause → Bool
is_limit Limit = true
is_limit Counter = false

abbrev is_for_limit : Option (ℕ × Cause) → Bool
is_for_limit (Some first) = is_limit first.1
is_for_limit None = false

abbrev first_of : ℕ → Cause → Option (ℕ × Cause)
first_of number cause = Some (number, cause)

same_number : (m n : ℕ) (c cause : Cause) → first_of m c ≡ first_of n cause → m ≡ n
same_number m n c cause first = ap number_of first

until_limit : (n : ℕ) (cause : Cause) → first_of 3 Limit ≡ first_of n cause → IsUntil cause n 3
until_limit n Limit first = omega (arith, same_number 3 n Limit Limit first)
until_limit n Counter first = absurd (true≢false (ap is_for_limit first))

until_counter : (n : ℕ) (cause : Cause) → first_of 3 Counter ≡ first_of n cause → IsUntil cause n 2
until_counter n Limit first = absurd (true≢false (sym (ap is_for_limit first)))
until_counter n Counter first = omega (arith, same_number 3 n Counter Counter first)

pub returns : goal.returns
returns c = record {
  limit = refl;
  counter = refl;
  other_cause = λ told. true≢false (ap is_for_limit told);
  other_tag = λ told. omega (arith, same_number 3 2 Limit Limit told);
  no_tag = λ told. cc;
  memory = until_limit;
  memory_before_counter = until_counter;
  memory_at_counter = λ told. let less : 3 < 3 = told 3 Counter refl in omega (arith, less);
  memory_alone = λ n cause first. cc;
  memory_late = λ told. let late : 4 ≤ 3 = told 3 Limit refl in omega (arith, late);
  allowance = refl;
}
