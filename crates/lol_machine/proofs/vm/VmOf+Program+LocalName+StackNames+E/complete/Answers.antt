use Rattle.lol_machine.proofs.Common.{◌≡◌, false, cond, inr, sym, ap, ◌∙◌, subst, AreRunnable, NeedNoMemory, AreExecuted, AreWithin, IsPointIn, ranges_left, all_ranges, ranges_to_run_in, tried_at}
use Rattle.std.specs.Result.{IfOk}
use Rattle.lol_program.specs.ProgramViews.{has_rows}
use Rattle.lol_machine.specs.SparedRuns.{all_passing, left_at_point, singles}
use Rattle.lol_machine.specs.TriedStarts.{ranges_to_complete}
use Rattle.lol_machine.specs.RunLaws.{of_same}
use Rattle.lol_machine.proofs.vm.VmOf+Program+LocalName+StackNames+E.complete.Given as given
use Rattle.lol_machine.proofs.vm.VmOf+Program+LocalName+StackNames+E.complete.Goals as goal

pub returns-then-is_some-clause-completed : goal.returns-then-is_some-clause-completed
returns-then-is_some-clause-completed g c = c.complete_left.ensures.completed (sym c.is_some.ensures ∙ c.if-is_some.true)

-- where the program has no rows, all that is left is run
module _ (g : given.Over) (c : goal.After-complete g) where
  runs : all_ranges c.new-run.result.ranges ≡ ranges_to_complete c.args.self.now c.args.ctx.now c.args.point c.args.matcher.now
  runs =
      let ranges = ranges_to_run_in c.args.self.now.program c.args.self.now.stack in
      let passes = left_at_point c.args.ctx.now.stack_item.local_name.lowercased c.args.matcher.now c.args.point in
      let none : has_rows c.args.self.now.program ≡ false = sym c.is_some.ensures ∙ c.if-is_some.false in
      c.new-run.ensures.ranges
      ∙ ap (λ b. cond b (singles (all_passing passes c.args.self.now.program.instructions.items ranges)) ranges) (sym none)

pub returns-clause-completed : goal.returns-clause-completed
returns-clause-completed g c =
    let point = c.args.point in
    let before = c.args.self.now.tries in
    let after = c.complete.new.tries in
    record {
      executed = λ rows.
          of_same (λ all ranges s. IsPointIn all ranges point → AreRunnable all (ranges_left ranges point) before
          → IfOk c.complete.result (λ done. AreExecuted g.E.ElementData.ids g.E.ElementData.with_ids s all (ranges_left ranges point) c.args.ctx.now c.complete.new.ctx before after c.args.matcher.now (tried_at point)))
          c.new-run.ensures.instructions (runs g c) c.new-run.ensures.sight c.complete.ensures.executed;
      within = λ rows there runnable.
          inr (of_same (λ all ranges s. IsPointIn all ranges point → AreRunnable all (ranges_left ranges point) before
          → AreWithin s all (ranges_left ranges point) before after (tried_at point))
          c.new-run.ensures.instructions (runs g c) c.new-run.ensures.sight c.complete.ensures.within there runnable);
      no_memory = λ rows room free. c.complete.ensures.no_memory (subst (NeedNoMemory c.args.ctx.now.with_content) (sym c.new-run.ensures.instructions) free);
    }
