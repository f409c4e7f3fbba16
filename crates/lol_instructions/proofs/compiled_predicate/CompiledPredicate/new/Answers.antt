use Rattle.std.proofs.Common.{rules}
use Rattle.lol_instructions.proofs.compiled_predicate.CompiledPredicate.new.Goals as goal

pub returns : goal.returns
returns c = search rules
