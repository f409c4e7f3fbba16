use Rattle.std.proofs.Common.{rules}
use Rattle.std.proofs.Common.{Bool, sym, ap, ◌∙◌}
use Rattle.lol_instructions.specs.Compiled.{sight}
use Rattle.lol_instructions.specs.Running.{branch_if}
use Rattle.lol_instructions.proofs.CompiledDecides.{holds_if_true, fails_if_false}
use Rattle.lol_instructions.proofs.instruction.Instruction.complete_exec_with_attrs.Goals as goal

pub returns-in-True-clause-answer : goal.returns-in-True-clause-answer
returns-in-True-clause-answer c =
    sym (ap (λ (b : Bool). branch_if b c.args.self.now.associated_branch)
    (holds_if_true (sight c.args.state.now c.args.local_name.now) c.args.matcher.now c.args.self.now.predicate (sym (c.by_names.ensures c.args.self.now.marked) ∙ c.in-True.is)))

pub returns-in-False-clause-answer : goal.returns-in-False-clause-answer
returns-in-False-clause-answer c =
    sym (ap (λ (b : Bool). branch_if b c.args.self.now.associated_branch)
    (fails_if_false (sight c.args.state.now c.args.local_name.now) c.args.matcher.now c.args.self.now.predicate (sym (c.by_names.ensures c.args.self.now.marked) ∙ c.in-False.is)))

pub returns-in-False-clause-attributes : goal.returns-in-False-clause-attributes
returns-in-False-clause-attributes c = search rules
