use Rattle.lol_machine.proofs.Common.{◌≡◌, true, false, true≢false, cond, List, Option, refl, sym, ap, ◌∙◌, subst, Result, Ok, Err, Some, None, is_html, has_content, ExecutionCtx, StartTag, Range, ℕ, NeedNoMemory, AreRunnable, AreTried, AreWithin, IsTagOf, all_ranges, ranges_to_run_in, sight_in}
use Rattle.std.specs.Result.{IfOk}
use Rattle.std.specs.declared.alloc.AllocError.{AllocError}
use Rattle.lol_program.specs.ProgramViews.{has_rows}
use Rattle.lol_program.specs.declared.program.Program.{Program}
use Rattle.lol_rows.specs.Rows.{is_left_by_name}
use Rattle.lol_rows.specs.declared.rows.Rows.{Rows}
use Rattle.lol_machine.specs.SparedRuns.{all_passing, opens_by_rows, ranges_by_name, singles, stopped_by}
use Rattle.lol_instructions.specs.declared.instruction.Instruction.{Instruction}
use Rattle.lol_machine.specs.declared.tag_runs.RecoveryPoint.TheVariants.{At}
use Rattle.lol_machine.specs.declared.tag_runs.RecoveryPoint.{RecoveryPoint}
use Rattle.lol_machine.specs.TriedStarts.{IsTried}
use Rattle.lol_machine.specs.declared.tag_runs.Stop.{Stop}
use Rattle.lol_machine.proofs.Directives.{html_tag}
use Rattle.lol_machine.specs.RunLaws.{of_same}
use Rattle.lol_machine.proofs.TriedStartLemmas.{tried_by_name}
use Rattle.lol_machine.specs.RunLaws.{err_is_not_ok}
use Rattle.lol_machine.proofs.vm.VmOf+Program+LocalName+StackNames+E.try_start.Given as given
use Rattle.lol_machine.proofs.vm.VmOf+Program+LocalName+StackNames+E.try_start.Goals.{After-try_by_name, After-try_left, After-is_some}
use Rattle.lol_machine.proofs.vm.VmOf+Program+LocalName+StackNames+E.try_start.Goals as goal

-- 1. It is a tag of HTML

module _ (g : given.Over) (c : After-is_some g) where
  html : (tag : StartTag) → IsTagOf c.args.ctx.now.stack_item.local_name c.args.ctx.now.ns tag → (is_html tag.namespace ≡ true) × (c.eq-ctx.result ≡ has_content c.args.self.now.enable_esi_tags tag)
  html tag named =
      html_tag c.args.ctx.now.ns c.args.self.now.enable_esi_tags c.args.self.now.enable_esi_tags tag c.get_stack_directive-directive.result c.eq.result c.eq-ctx.result named.1 (c.get_stack_directive-directive.ensures tag.name named.0)
      c.eq.ensures c.if-eq.false c.eq-ctx.ensures refl

-- 2. Where the program has rows, what these leave was run

rows_tried : (g : given.Over) (c : After-try_left g) (tag : StartTag) → (is_html tag.namespace ≡ true) × (c.eq-ctx.result ≡ has_content c.args.self.now.enable_esi_tags tag)
    → (found : Result (Option RecoveryPoint) AllocError) → stopped_by c.try_left.result c.try_left.new.self.space ≡ found
    → IsTried g.E.ElementData.ids g.E.ElementData.with_ids c.args.self.now c.try_left.new.self c.args.ctx.now c.try_left.new.ctx found tag
rows_tried g c tag page found is =
    let told = c.try_left.ensures.tried (sym c.is_some.ensures ∙ c.if-is_some.true) in
    tried_by_name g.E.ElementData.ids g.E.ElementData.with_ids c.args.self.now _ c.args.ctx.now c.try_left.new.ctx (stopped_by c.try_left.result c.try_left.new.self.space) found tag c.eq-ctx.result page.0 page.1 is
    (record { size = told.size; tried = told.tried; attributes = told.attributes; within = told.within; untried = told.untried; no_memory = told.no_memory })

pub returns-in-Ok-clause-tried : goal.returns-in-Ok-clause-tried
returns-in-Ok-clause-tried g c = λ tag named.
    rows_tried g (goal.at.returns-in-Ok-clause-tried g c).After-try_left tag (html g (goal.at.returns-in-Ok-clause-tried g c).After-is_some tag named) _
    (ap (λ r. stopped_by r c.try_left.new.self.space) c.in-Ok.is)

pub returns-in-Err-clause-tried : goal.returns-in-Err-clause-tried
returns-in-Err-clause-tried g c = λ tag named.
    rows_tried g (goal.at.returns-in-Err-clause-tried g c).After-try_left tag (html g (goal.at.returns-in-Err-clause-tried g c).After-is_some tag named) _
    (ap (λ r. stopped_by r c.try_left.new.self.space) c.in-Err.is)

-- 3. Where it has no rows, all is run

module _ (g : given.Over) (c : After-try_by_name g) where
  abbrev p : Program
  p = c.args.self.now.program

  abbrev ranges : List (Range ℕ)
  ranges = ranges_to_run_in p c.args.self.now.stack

  abbrev own : List ℕ
  own = c.args.ctx.now.stack_item.local_name.lowercased

  none : has_rows p ≡ false
  none = sym c.is_some.ensures ∙ c.if-is_some.false

  runs : all_ranges c.new-run.result.ranges ≡ ranges_by_name p own ranges
  runs = c.new-run.ensures.ranges ∙ ap (λ b. cond b (singles (all_passing (is_left_by_name own) p.instructions.items ranges)) ranges) (sym none)

  shut : opens_by_rows p.rows own p.instructions.items ranges ≡ false
  shut = by_rows p.rows none
    where
      by_rows : (rows : Option Rows) → has_rows (record p { rows = rows }) ≡ false → opens_by_rows rows own p.instructions.items ranges ≡ false
      by_rows None is = refl
      by_rows (Some rows) is = absurd (true≢false is)

  abbrev all : List Instruction
  all = p.instructions.items

  -- it was run up to a stop, or to its end
  tried : (stop : Option Stop) → c.try_by_name.result ≡ Ok stop → AreRunnable all (ranges_by_name p own ranges) c.args.self.now.tries
      → AreTried g.E.ElementData.ids g.E.ElementData.with_ids (sight_in c.args.self.now.stack c.args.ctx.now.stack_item.local_name) all (ranges_by_name p own ranges) (record c.args.ctx.now { with_content = c.eq-ctx.result }) c.try_by_name.new.ctx c.args.self.now.tries c.try_by_name.new.tries stop
  tried stop is runnable =
      let ctx : ExecutionCtx _ = record c.args.ctx.now { with_content = c.eq-ctx.result } in
      let before = c.args.self.now.tries in
      let after = c.try_by_name.new.tries in
      subst (λ r. IfOk r (λ stop. AreTried g.E.ElementData.ids g.E.ElementData.with_ids (sight_in c.args.self.now.stack c.args.ctx.now.stack_item.local_name) all (ranges_by_name p own ranges) ctx c.try_by_name.new.ctx before after stop)) is
      (of_same (λ is ranges s. AreRunnable is ranges before → IfOk c.try_by_name.result (λ stop. AreTried g.E.ElementData.ids g.E.ElementData.with_ids s is ranges ctx c.try_by_name.new.ctx before after stop))
      c.new-run.ensures.instructions runs c.new-run.ensures.sight c.try_by_name.ensures.tried runnable)

  within : AreRunnable all (ranges_by_name p own ranges) c.args.self.now.tries → AreWithin (sight_in c.args.self.now.stack c.args.ctx.now.stack_item.local_name) all (ranges_by_name p own ranges) c.args.self.now.tries c.try_by_name.new.tries 0
  within =
      of_same (λ is ranges s. AreRunnable is ranges c.args.self.now.tries → AreWithin s is ranges c.args.self.now.tries c.try_by_name.new.tries 0) c.new-run.ensures.instructions runs c.new-run.ensures.sight c.try_by_name.ensures.within

  never : {P : Type 0} → opens_by_rows p.rows own p.instructions.items ranges ≡ true → P
  never opens = absurd (true≢false (sym opens ∙ shut))

-- 4. The three results

pub returns-in-Ok-Some-clause-tried : goal.returns-in-Ok-Some-clause-tried
returns-in-Ok-Some-clause-tried g c = λ tag named.
    let a = (goal.at.returns-in-Ok-Some-clause-tried g c).After-try_by_name in
    let page = html g (goal.at.returns-in-Ok-Some-clause-tried g c).After-is_some tag named in
    tried_by_name g.E.ElementData.ids g.E.ElementData.with_ids c.args.self.now _ c.args.ctx.now c.try_by_name.new.ctx _ (Ok (Some (At c.in-Ok-Some.stop))) tag c.eq-ctx.result page.0 page.1 refl
    (record {
      size = c.new-run.ensures.size;
      tried = λ rows runnable. (shut g a, tried g a (Some c.in-Ok-Some.stop) (c.in-Ok-Some.is ∙ ap Ok c.in-Ok-Some.field-0-is) runnable);
      attributes = c.try_by_name.ensures.attributes;
      within = λ rows closed. within g a;
      untried = λ rows now. never g a now;
      no_memory = λ rows room free. refl;
    })

pub returns-in-Ok-None-clause-tried : goal.returns-in-Ok-None-clause-tried
returns-in-Ok-None-clause-tried g c = λ tag named.
    let a = (goal.at.returns-in-Ok-None-clause-tried g c).After-try_by_name in
    let page = html g (goal.at.returns-in-Ok-None-clause-tried g c).After-is_some tag named in
    tried_by_name g.E.ElementData.ids g.E.ElementData.with_ids c.args.self.now _ c.args.ctx.now c.try_by_name.new.ctx _ (Ok None) tag c.eq-ctx.result page.0 page.1 refl
    (record {
      size = c.new-run.ensures.size;
      tried = λ rows runnable. (shut g a, tried g a None (c.in-Ok-None.is ∙ ap Ok c.in-Ok-None.field-0-is) runnable);
      attributes = c.try_by_name.ensures.attributes;
      within = λ rows closed. within g a;
      untried = λ rows now. never g a now;
      no_memory = λ rows room free. refl;
    })

pub returns-in-Err-try_by_name-clause-tried : goal.returns-in-Err-try_by_name-clause-tried
returns-in-Err-try_by_name-clause-tried g c = λ tag named.
    let a = (goal.at.returns-in-Err-try_by_name-clause-tried g c).After-try_by_name in
    let page = html g (goal.at.returns-in-Err-try_by_name-clause-tried g c).After-is_some tag named in
    tried_by_name g.E.ElementData.ids g.E.ElementData.with_ids c.args.self.now _ c.args.ctx.now c.try_by_name.new.ctx _ (Err c.in-Err-try_by_name.error) tag c.eq-ctx.result page.0 page.1 refl
    (record {
      size = c.new-run.ensures.size;
      tried = λ rows runnable. tt;
      attributes = c.try_by_name.ensures.attributes;
      within = λ rows closed. within g a;
      untried = λ rows now. never g a now;
      no_memory = λ rows room free.
          absurd (err_is_not_ok c.try_by_name.result c.in-Err-try_by_name.error c.in-Err-try_by_name.is
          (c.try_by_name.ensures.no_memory (subst (NeedNoMemory c.eq-ctx.result) (sym c.new-run.ensures.instructions) free)));
    })
