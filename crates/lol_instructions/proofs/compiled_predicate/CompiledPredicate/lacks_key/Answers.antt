use Rattle.std.proofs.Common.{rules}
use Rattle.lol_instructions.proofs.compiled_predicate.CompiledPredicate.lacks_key.Goals as goal

pub returns-in-Some : goal.returns-in-Some
returns-in-Some c = search rules
