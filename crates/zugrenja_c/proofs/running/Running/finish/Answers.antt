-- a start tag that waited: reported, or refused
use Rattle.std.proofs.Common.{rules, arith, refl}
use Rattle.std.proofs.lemmas.Grind.{common_steps}
use Rattle.std.specs.Option.{IsSomeAnd}
use Rattle.lol_matcher.specs.Answering.{with_told}
use Rattle.lol_matcher.specs.Noted.{finished_told}
use Rattle.zugrenja_c.specs.Tags.{AreInside, FinishIsAnswered, given_tag}
use Rattle.zugrenja_c.proofs.Finishes.{finished_by, weaker_of_some}
use Rattle.zugrenja_c.proofs.Starting.{keeps, refused_keeps}
use Rattle.zugrenja_c.proofs.running.Running.finish.Goals as goal

pub invariant_of-self : goal.invariant_of-self
invariant_of-self c =
    let old = c.self.inside.matcher in
    c.list_ids-listed.ensures.lists old (keeps old c.finish-finished.new.self (with_told (finished_told old.told _) old c.finish-finished.new.self) c.in-Ok-finished.ensures.ok refl) c.self.invariant

pub invariant_of-self-2 : goal.invariant_of-self-2
invariant_of-self-2 c =
    let old = c.self.inside.matcher in
    c.list_ids-listed.ensures.lists old (refused_keeps old c.finish-finished.new.self c.in-Err.error c.in-Err.ensures.after c.in-Err.ensures.unchanged) c.self.invariant

pub returns-in-Ok-finished-clause-told : goal.returns-in-Ok-finished-clause-told
returns-in-Ok-finished-clause-told c = rw (← c.self.view_is) (
    let old = c.self.inside.matcher in
    let told = c.in-Ok-finished.ensures in
    let is = c.in-Ok-finished.is in
    let well = told.well in
    let outside = told.outside in
    let not_asked = told.not_asked in
    let inside : AreInside c.args.text.now c.args.places.now = grind (arith, common_steps, is, outside, well) in
    let finished : IsSomeAnd old.told.asked (λ asked. FinishIsAnswered old (given_tag asked c.args.text.now c.args.places.now c.args.self_closing) c.finish-finished.new.self) =
    weaker_of_some old.told.asked (λ asked parts. record { running = well.0; reported = parts.0; opens = parts.1; told = parts.2; fits = parts.3 })
    (finished_by old c.finish-finished.new.self _ c.args.text.now c.args.places.now c.args.self_closing c.new.ensures c.in-Ok.ensures refl told.reported told.opens told.ok told.fits
    (λ none. grind (arith, common_steps, is, not_asked, well, outside, none))) in
    record {
      reported = λ i. (finished, inside, c.list_ids-listed.ensures.counts (invariant_of-self c));
      limit = grind (arith);
      counter = grind (arith);
      memory = grind (arith);
      failed = grind (arith);
      not_asked = grind (arith);
      outside = grind (arith);
    })

pub returns-clause-told : goal.returns-clause-told
returns-clause-told c = rw (← c.self.view_is) (
    let number = c.number_of.ensures in
    let refused = c.in-Err.ensures.refused in
    let after = c.in-Err.ensures.after in
    let failed = c.in-Err.ensures.failed in
    let outside = c.in-Err.ensures.outside in
    let not_asked = c.in-Err.ensures.not_asked in
    record {
      reported = search (rules, number);
      limit = grind (arith, common_steps, number, refused, after, failed, outside, not_asked);
      counter = grind (arith, common_steps, number, refused, after, failed, outside, not_asked);
      memory = grind (arith, common_steps, number, refused, after, failed, outside, not_asked);
      failed = search (rules, number, failed);
      not_asked = search (rules, number, not_asked);
      outside = search (rules, number, outside);
    })
