use Rattle.lol_machine.proofs.Common.{Sight, sight, value_seen, NeedNoMemory, open_among, ◌≡◌, ◌+◌, ◌∷◌, arith, ap, rules, subst, sym, ◌∙◌, IfOk-weaker}
use Rattle.std.proofs.lemmas.List.Elements.{All-tail}
use Rattle.lol_instructions.specs.declared.instruction.Instruction.{Instruction}
use Rattle.lol_instructions.specs.Running.{tries_of_attributes}
use Rattle.lol_machine.proofs.instruction_runs.complete_instructions.Given as given
use Rattle.std.proofs.lemmas.Grind.{common_steps}
use Rattle.lol_machine.proofs.InstructionLists.{open_split}
use Rattle.lol_machine.proofs.instruction_runs.complete_instructions.Goals as goal
use Rattle.lol_machine.proofs.instruction_runs.complete_instructions.Goals.{in-Some-complete_exec_with_attrs+in_ok-add_execution_branch, in_default-complete_exec_with_attrs}
use Rattle.lol_stack.specs.Contexts.{NeedsNoMemory}

module _ (g : given.Over) (c : goal.After-exec_instructions g) where
  abbrev s : Sight
  s = sight c.args.state.now c.args.ctx.now.stack_item.local_name

  split : c.args.instructions.now ≡ c.in-Some.first.now ∷ c.in-Some.others.now
  split = search rules

  -- its own branch changes neither the name nor whether it has content
  name : c.match-complete_exec_with_attrs.ctx.stack_item.local_name ≡ c.args.ctx.now.stack_item.local_name
  name = elim c.match-complete_exec_with_attrs.branch [
    | in-Some-complete_exec_with_attrs+in_ok-add_execution_branch w ↦ grind (arith, common_steps, w.ctx-is, w.in_ok-add_execution_branch.ensures)
    | in_default-complete_exec_with_attrs w ↦ ap (λ x. x.stack_item.local_name) w.ctx-is
  ]

  content : c.match-complete_exec_with_attrs.ctx.with_content ≡ c.args.ctx.now.with_content
  content = elim c.match-complete_exec_with_attrs.branch [
    | in-Some-complete_exec_with_attrs+in_ok-add_execution_branch w ↦ grind (arith, common_steps, w.ctx-is, w.in_ok-add_execution_branch.ensures)
    | in_default-complete_exec_with_attrs w ↦ ap (λ x. x.with_content) w.ctx-is
  ]

  opens : open_among s c.args.instructions.now ≡ tries_of_attributes (value_seen s c.in-Some.first.now) + open_among (sight c.args.state.now c.match-complete_exec_with_attrs.ctx.stack_item.local_name) c.in-Some.others.now
  opens = open_split s c.args.instructions.now c.in-Some.first.now c.in-Some.others.now split ∙ ap (λ n. tries_of_attributes (value_seen s c.in-Some.first.now) + open_among (sight c.args.state.now n) c.in-Some.others.now) (sym name)

pub returns-clause-attributes : goal.returns-clause-attributes
returns-clause-attributes g c =
    IfOk-weaker c.exec_instructions.result _ _ (λ done counted. omega (arith, counted, c.complete_exec_with_attrs.ensures.attributes, opens g c)) c.exec_instructions.ensures.attributes

pub returns-clause-no_memory : goal.returns-clause-no_memory
returns-clause-no_memory g c = λ free.
    c.exec_instructions.ensures.no_memory (subst (λ b. NeedNoMemory b c.in-Some.others.now) (sym (content g c)) (All-tail (λ (i : Instruction). NeedsNoMemory c.args.ctx.now.with_content i.associated_branch) c.in-Some.first.now c.in-Some.others.now (subst (NeedNoMemory c.args.ctx.now.with_content) (split g c) free)))

pub returns-clause-attributes_bound : goal.returns-clause-attributes_bound
returns-clause-attributes_bound g c = omega (arith, c.exec_instructions.ensures.attributes_bound, c.complete_exec_with_attrs.ensures.attributes, opens g c)
