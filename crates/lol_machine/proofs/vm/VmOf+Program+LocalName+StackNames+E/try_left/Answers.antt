use Rattle.lol_machine.proofs.Common.{◌≡◌, true, false, true≢false, cond, List, Option, refl, sym, ap, ◌∙◌, subst, Ok, Some, None, Range, ℕ, NeedNoMemory, AreRunnable, AreTried, AreWithin, left_ranges, ranges_to_run_in, sight_in, rules}
use Rattle.std.specs.Result.{IfOk}
use Rattle.lol_program.specs.ProgramViews.{HasItsRows, has_rows}
use Rattle.lol_rows.specs.Rows.{is_left_by_name}
use Rattle.lol_machine.specs.SparedRuns.{all_passing, opens_at_once, ranges_by_name, singles}
use Rattle.lol_instructions.specs.declared.instruction.Instruction.{Instruction}
use Rattle.lol_machine.specs.declared.tag_runs.Stop.{Stop}
use Rattle.lol_machine.specs.RunLaws.{of_same}
use Rattle.lol_machine.specs.RunLaws.{err_is_not_ok}
use Rattle.lol_machine.proofs.vm.VmOf+Program+LocalName+StackNames+E.try_left.Given as given
use Rattle.lol_machine.proofs.vm.VmOf+Program+LocalName+StackNames+E.try_left.Goals.{After-try_by_name}
use Rattle.lol_machine.proofs.vm.VmOf+Program+LocalName+StackNames+E.try_left.Goals as goal

-- 1. What is run is what the name leaves

module _ (g : given.Over) (c : After-try_by_name g) where
  abbrev ranges : List (Range ℕ)
  ranges = ranges_to_run_in c.args.self.now.program c.args.self.now.stack

  abbrev own : List ℕ
  own = c.args.ctx.now.stack_item.local_name.lowercased

  abbrev left : List (Range ℕ)
  left = ranges_by_name c.args.self.now.program own ranges

  shut : HasItsRows c.args.self.now.program → opens_at_once c.args.self.now.program own ranges ≡ false
  shut rows = sym (c.in-Ok-false.ensures.asks rows) ∙ c.in-Ok-false.field-0-test

  runs : has_rows c.args.self.now.program ≡ true → HasItsRows c.args.self.now.program → left_ranges c.left-run.result.ranges ≡ left
  runs is rows =
      c.left-run.ensures.ranges
      ∙ (ap singles (c.in-Ok-false.ensures.left c.in-Ok-false.field-0-test rows is)
      ∙ ap (λ b. cond b (singles (all_passing (is_left_by_name own) c.args.self.now.program.instructions.items ranges)) ranges) (sym is))

  abbrev all : List Instruction
  all = c.args.self.now.program.instructions.items

  -- it was run up to a stop, or to its end
  tried : has_rows c.args.self.now.program ≡ true → (stop : Option Stop) → c.try_by_name.result ≡ Ok stop → HasItsRows c.args.self.now.program → AreRunnable all left c.args.self.now.tries
      → AreTried g.E.ElementData.ids g.E.ElementData.with_ids (sight_in c.args.self.now.stack c.args.ctx.now.stack_item.local_name) all left c.args.ctx.now c.try_by_name.new.ctx c.args.self.now.tries c.try_by_name.new.tries stop
  tried own_rows stop is rows runnable =
      let ctx = c.args.ctx.now in
      let before = c.args.self.now.tries in
      let after = c.try_by_name.new.tries in
      subst (λ r. IfOk r (λ stop. AreTried g.E.ElementData.ids g.E.ElementData.with_ids (sight_in c.args.self.now.stack c.args.ctx.now.stack_item.local_name) all left ctx c.try_by_name.new.ctx before after stop)) is
      (of_same (λ is ranges s. AreRunnable is ranges before → IfOk c.try_by_name.result (λ stop. AreTried g.E.ElementData.ids g.E.ElementData.with_ids s is ranges ctx c.try_by_name.new.ctx before after stop))
      c.left-run.ensures.instructions (runs own_rows rows) c.left-run.ensures.sight c.try_by_name.ensures.tried runnable)

  within : has_rows c.args.self.now.program ≡ true → HasItsRows c.args.self.now.program → AreRunnable all left c.args.self.now.tries → AreWithin (sight_in c.args.self.now.stack c.args.ctx.now.stack_item.local_name) all left c.args.self.now.tries c.try_by_name.new.tries 0
  within own_rows rows =
      of_same (λ is ranges s. AreRunnable is ranges c.args.self.now.tries → AreWithin s is ranges c.args.self.now.tries c.try_by_name.new.tries 0) c.left-run.ensures.instructions (runs own_rows rows) c.left-run.ensures.sight c.try_by_name.ensures.within

  never : {P : Type 0} → HasItsRows c.args.self.now.program → opens_at_once c.args.self.now.program own ranges ≡ true → P
  never rows opens = absurd (true≢false (sym opens ∙ shut rows))

-- 2. The three results

pub returns-in-Ok-Some-clause-tried : goal.returns-in-Ok-Some-clause-tried
returns-in-Ok-Some-clause-tried g c = λ own_rows.
    let a = (goal.at.returns-in-Ok-Some-clause-tried g c).After-try_by_name in
    record {
      size = c.left-run.ensures.size;
      tried = λ rows runnable. (shut g a rows, tried g a own_rows (Some c.in-Ok-Some.stop) (c.in-Ok-Some.is ∙ ap Ok c.in-Ok-Some.field-0-is) rows runnable);
      attributes = c.try_by_name.ensures.attributes;
      within = λ rows closed. within g a own_rows rows;
      untried = λ rows now. never g a rows now;
      no_memory = λ rows room free. refl;
    }

pub returns-in-Ok-None-clause-tried : goal.returns-in-Ok-None-clause-tried
returns-in-Ok-None-clause-tried g c = λ own_rows.
    let a = (goal.at.returns-in-Ok-None-clause-tried g c).After-try_by_name in
    record {
      size = c.left-run.ensures.size;
      tried = λ rows runnable. (shut g a rows, tried g a own_rows None (c.in-Ok-None.is ∙ ap Ok c.in-Ok-None.field-0-is) rows runnable);
      attributes = c.try_by_name.ensures.attributes;
      within = λ rows closed. within g a own_rows rows;
      untried = λ rows now. never g a rows now;
      no_memory = λ rows room free. refl;
    }

pub returns-in-Err-try_by_name-clause-tried : goal.returns-in-Err-try_by_name-clause-tried
returns-in-Err-try_by_name-clause-tried g c = λ own_rows.
    let a = (goal.at.returns-in-Err-try_by_name-clause-tried g c).After-try_by_name in
    record {
      size = c.left-run.ensures.size;
      tried = λ rows runnable. tt;
      attributes = c.try_by_name.ensures.attributes;
      within = λ rows closed. within g a own_rows rows;
      untried = λ rows now. never g a rows now;
      no_memory = λ rows room free.
          absurd (err_is_not_ok c.try_by_name.result c.in-Err-try_by_name.error c.in-Err-try_by_name.is
          (c.try_by_name.ensures.no_memory (subst (NeedNoMemory c.args.ctx.now.with_content) (sym c.left-run.ensures.instructions) free)));
    }

pub returns-in-Ok-true-clause-tried : goal.returns-in-Ok-true-clause-tried
returns-in-Ok-true-clause-tried g c = search rules
