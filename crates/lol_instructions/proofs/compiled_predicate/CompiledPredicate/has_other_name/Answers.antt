use Rattle.std.proofs.Common.{rules}
use Rattle.lol_instructions.proofs.compiled_predicate.CompiledPredicate.has_other_name.Goals as goal

pub returns-in-Some : goal.returns-in-Some
returns-in-Some c = search rules
