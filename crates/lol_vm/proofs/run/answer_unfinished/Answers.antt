use Rattle.std.proofs.Common.{◌≡◌, Bool, Err, Ok, Option, None, refl, sym, ap, subst, ◌∙◌}
use Rattle.std.proofs.lemmas.Result.{IfErr-weaker, IfOk-weaker}
use Rattle.lol_machine.specs.Events.{Start}
use Rattle.lol_matcher.specs.Answering.{AnswersStart, told_after, with_told}
use Rattle.lol_matcher.specs.Noted.{asked_told, started_told}
use Rattle.lol_matcher.specs.Refusing.{Fits}
use Rattle.lol_matcher.specs.declared.matcher.Started.TheVariants.{NeedsAttributes, Reported}
use Rattle.lol_vm.proofs.ToldOn.{answered_as, answered_memory, dropped_as, fits_as, refused_unfinished, told_bare, told_with}
use Rattle.lol_vm.proofs.run.answer_unfinished.Goals as goal

pub returns-in-Ok-Reported-clause-answers : goal.returns-in-Ok-Reported-clause-answers
returns-in-Ok-Reported-clause-answers c =
    IfOk-weaker c.report_of.result _ _ (λ report is ast esi a events w few tag named spaced unfinished.
    let m = c.args.matcher.now in
    let laws = c.calls_answer_alike.ensures in
    let none = fits_as laws.alike laws.goes_on ast esi a events m w tag ((subst (λ started. Fits started m c.args.name.now c.args.ns) c.in-Ok-Reported.field-0-is c.in-Ok-Reported.ensures.fits.1) tag named spaced) in
    record {
      answered = is ∙ answered_as laws.alike laws.goes_on ast esi a events m w (Start tag) _ ((subst (λ started. AnswersStart started m.told c.args.name.now c.args.ns c.start.new.self.matched c.start.new.self.tries) c.in-Ok-Reported.field-0-is c.in-Ok-Reported.ensures.answers) tag named spaced);
      goes_on = told_with laws.alike laws.goes_on ast esi a events m w (Start tag) _ (told_bare laws.alike laws.goes_on ast esi a events m w tag unfinished c.args.name.now c.args.ns named spaced) none c.start.new.self
          (started_told m.told c.args.name.now c.args.ns) (subst (λ started. c.start.new.self ≡ with_told (told_after started m.told c.args.name.now c.args.ns) m c.start.new.self) c.in-Ok-Reported.field-0-is c.in-Ok-Reported.ensures.ok) refl refl refl;
    }) c.report_of.ensures.report

pub returns-in-Ok-Reported-clause-refused : goal.returns-in-Ok-Reported-clause-refused
returns-in-Ok-Reported-clause-refused c =
    IfErr-weaker c.report_of.result _ _ (λ error is ast esi a events w few tag named spaced unfinished.
    let m = c.args.matcher.now in
    let laws = c.calls_answer_alike.ensures in
    let none = fits_as laws.alike laws.goes_on ast esi a events m w tag ((subst (λ started. Fits started m c.args.name.now c.args.ns) c.in-Ok-Reported.field-0-is c.in-Ok-Reported.ensures.fits.1) tag named spaced) in
    rw is (answered_memory _ _ none)) c.report_of.ensures.memory

pub returns-in-Ok-NeedsAttributes-clause-answers : goal.returns-in-Ok-NeedsAttributes-clause-answers
returns-in-Ok-NeedsAttributes-clause-answers c = λ ast esi a events w few tag named spaced unfinished.
    let m = c.args.matcher.now in
    let laws = c.calls_answer_alike.ensures in
    let none = fits_as laws.alike laws.goes_on ast esi a events m w tag ((subst (λ started. Fits started m c.args.name.now c.args.ns) c.in-Ok-NeedsAttributes.field-0-is c.in-Ok-NeedsAttributes.ensures.fits.1) tag named spaced unfinished) in
    record {
      answered = dropped_as laws.alike laws.goes_on ast esi a events m w tag unfinished ((subst (λ started. AnswersStart started m.told c.args.name.now c.args.ns c.start.new.self.matched c.start.new.self.tries) c.in-Ok-NeedsAttributes.field-0-is c.in-Ok-NeedsAttributes.ensures.answers).1 tag named spaced);
      goes_on = told_with laws.alike laws.goes_on ast esi a events m w (Start tag) _ (told_bare laws.alike laws.goes_on ast esi a events m w tag unfinished c.args.name.now c.args.ns named spaced) none c.start.new.self
          (asked_told m.told c.args.name.now c.args.ns) (subst (λ started. c.start.new.self ≡ with_told (told_after started m.told c.args.name.now c.args.ns) m c.start.new.self) c.in-Ok-NeedsAttributes.field-0-is c.in-Ok-NeedsAttributes.ensures.ok) refl refl refl;
    }

pub returns-in-Err-clause-refused : goal.returns-in-Err-clause-refused
returns-in-Err-clause-refused c = λ ast esi a events w few tag named spaced unfinished.
    let laws = c.calls_answer_alike.ensures in
    refused_unfinished laws.alike laws.goes_on ast esi a events c.args.matcher.now w tag unfinished c.in-Err.error (c.in-Err.ensures.refused w.well tag named spaced)
