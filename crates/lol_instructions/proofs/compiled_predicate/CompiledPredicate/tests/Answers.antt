use Rattle.std.proofs.Common.{rules}
use Rattle.lol_instructions.proofs.compiled_predicate.CompiledPredicate.tests.Goals as goal

pub returns : goal.returns
returns c = search rules
