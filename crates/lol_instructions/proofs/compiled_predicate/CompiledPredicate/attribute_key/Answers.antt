use Rattle.std.proofs.Common.{rules}
use Rattle.lol_instructions.proofs.compiled_predicate.CompiledPredicate.attribute_key.Goals as goal

pub returns-in-Some-first_class : goal.returns-in-Some-first_class
returns-in-Some-first_class c = search rules

pub returns-in-Some : goal.returns-in-Some
returns-in-Some c = search rules
