use Rattle.lol_machine.proofs.Common.{refl, sym, ap, ◌∙◌, subst, items_in, closed_from, element_data_of, depth_to_close, IsEnded}
use Rattle.lol_machine.proofs.VmRefusals.{ends_data, has_open_ended, stands_ended}
use Rattle.lol_machine.proofs.vm.VmOf+Program+LocalName+StackNames+E.exec_for_end_tag.Goals as goal

pub returns-clause-stands : goal.returns-clause-stands
returns-clause-stands g c = λ s esi events name named stands.
    stands_ended s esi c.args.self.now _ events name (subst (λ n. IsEnded c.args.self.now.stack n c.pop_up_to.new.self) named c.pop_up_to.ensures.ended) refl refl refl refl stands

pub returns-clause-still_open : goal.returns-clause-still_open
returns-clause-still_open g c = λ elements name named h.
    has_open_ended c.args.self.now _ elements refl h name (subst (λ n. IsEnded c.args.self.now.stack n c.pop_up_to.new.self) named c.pop_up_to.ensures.ended)

pub returns-clause-kept : goal.returns-clause-kept
returns-clause-kept g c = λ elements name named h.
    (ends_data c.args.self.now (record c.args.self.now { stack = c.pop_up_to.new.self }) elements name (subst (λ n. IsEnded c.args.self.now.stack n c.pop_up_to.new.self) named c.pop_up_to.ensures.ended) refl h).kept

pub returns-clause-called : goal.returns-clause-called
returns-clause-called g c = λ elements name named h.
    let told = ends_data c.args.self.now (record c.args.self.now { stack = c.pop_up_to.new.self }) elements name (subst (λ n. IsEnded c.args.self.now.stack n c.pop_up_to.new.self) named c.pop_up_to.ensures.ended) refl h in
    let closes = sym (ap (λ n. element_data_of (closed_from (depth_to_close c.args.self.now.stack n) (items_in c.args.self.now.stack))) named) in
    let whole = sym closes ∙ told.handed in
    rw (← whole) c.pop_up_to.ensures.called
