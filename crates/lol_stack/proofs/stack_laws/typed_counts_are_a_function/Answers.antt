use Rattle.lol_stack.specs.TypedFunctions.{counting_adds_one, cutting_drops_above, counts_at_their_level}
use Rattle.lol_stack.proofs.stack_laws.typed_counts_are_a_function.Goals as goal

pub returns-clause-counting : goal.returns-clause-counting
returns-clause-counting c = counting_adds_one

pub returns-clause-cutting : goal.returns-clause-cutting
returns-clause-cutting c = cutting_drops_above

pub returns-clause-found : goal.returns-clause-found
returns-clause-found c = counts_at_their_level
