use Rattle.std.proofs.Common.{◌≡◌, Bool, false, ◌&&◌, is_some, refl, sym, ap, ◌∙◌}
use Rattle.lol_base.specs.BoolLaws.{and-right_false}
use Rattle.lol_instructions.proofs.PredicateMarkLemmas.{marks_joined, marks_mixed}
use Rattle.lol_instructions.proofs.predicate_marks.PredicateMarks.and.Goals as goal
use Rattle.lol_instructions.proofs.predicate_marks.PredicateMarks.and.Goals.{else-is_some-via-then-is_some+else-is_some-2, else-is_some-via-else-is_some}

pub returns-then-is_some-2 : goal.returns-then-is_some-2
returns-then-is_some-2 c tests more of of' =
    marks_mixed c.args.self c.args.others (record { head = c.or-head.result; shape = _; needs = c.with-needs.result }) c.or-head.ensures (sym c.is_some.ensures ∙ c.if-is_some.true) refl c.with-needs.ensures tests more of of'

pub returns-else-is_some : goal.returns-else-is_some
returns-else-is_some c tests more of of' =
    let one : (is_some c.args.self.head && is_some c.args.others.head) ≡ false = elim c.else-is_some.branch [
      | else-is_some-via-then-is_some+else-is_some-2 w ↦ and-right_false (is_some c.args.self.head) (is_some c.args.others.head) (sym w.is_some-then-is_some.ensures ∙ w.if-is_some-2.false)
      | else-is_some-via-else-is_some w ↦ ap (λ (b : Bool). b && is_some c.args.others.head) (sym c.is_some.ensures ∙ w.if-is_some.false)
    ] in
    marks_joined c.args.self c.args.others (record { head = c.or-head.result; shape = c.and.result; needs = c.with-needs.result }) c.or-head.ensures one c.and.ensures c.with-needs.ensures tests more of of'
