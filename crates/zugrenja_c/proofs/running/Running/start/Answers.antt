-- a start tag: reported, its attributes asked for, or refused
use Rattle.std.proofs.Common.{◌≡◌, rules, arith, [], ◌∷◌, inl, inr, sym, ◌∙◌, subst}
use Rattle.std.specs.Prelude.{Ok, Some}
use Rattle.std.specs.Option.{IsSomeAnd}
use Rattle.std.proofs.lemmas.Grind.{common_steps}
use Rattle.lol_matcher.specs.declared.matcher.Started.TheVariants as answers
use Rattle.zugrenja_c.specs.Numbers.{IsOneOf, numbered_namespace}
use Rattle.zugrenja_c.specs.Tags.{StartIsAnswered}
use Rattle.zugrenja_c.proofs.Starting.{answered, started_keeps}
use Rattle.zugrenja_c.proofs.Statuses.{start_status}
use Rattle.zugrenja_c.proofs.running.Running.start.Goals as goal
use Rattle.zugrenja_c.proofs.running.Running.start.Goals.{in-Ok-Reported, in-Ok-NeedsAttributes, in-Err}

pub invariant_of-self : goal.invariant_of-self
invariant_of-self c =
    let old = c.self.inside.matcher in
    let start = c.start-started in
    c.list_ids-listed.ensures.lists old (started_keeps old start.new.self c.args.name.now c.in-Some.ns start.result start.ensures.ok start.ensures.stuck start.ensures.after) c.self.invariant

pub returns-clause-statuses : goal.returns-clause-statuses
returns-clause-statuses c = elim c.match-started.branch [
  | in-Ok-Reported w ↦ inl w.result-is
  | in-Ok-NeedsAttributes w ↦ inr (inl w.result-is)
  | in-Err w ↦
      subst (IsOneOf (0 ∷ 1 ∷ 11 ∷ 12 ∷ 13 ∷ 14 ∷ 15 ∷ [])) (sym (w.result-is ∙ w.number_of.ensures))
      (start_status c.self.inside.matcher c.args.name.now c.in-Some.ns w.in-Err.error (λ failed. let is = w.in-Err.ensures.failed.1 failed in cc) w.in-Err.ensures.refused)
]

pub returns-clause-told : goal.returns-clause-told
returns-clause-told c = rw (← c.self.view_is) (
    let old = c.self.inside.matcher in
    let new = c.start-started.new.self in
    let told = c.start-started.ensures in
    let answer = answered old new c.args.name.now c.in-Some.ns c.start-started.result told.answers told.opens told.ok told.fits in
    let some : Some c.in-Some.ns ≡ numbered_namespace c.args.namespace = sym c.in-Some.is ∙ c.namespace_of.ensures in
    elim c.match-started.branch [
      | in-Ok-Reported w ↦
          let value = w.in-Ok-Reported.is in
          let started = w.in-Ok-Reported.field-0-is in
          let ok : c.start-started.result ≡ Ok answers.Reported = search (rules, value, started) in
          let is = w.result-is in
          record {
            reported = λ i. (
              subst (λ o. IsSomeAnd o (λ ns. StartIsAnswered answers.Reported old c.args.name.now ns new)) some (answer answers.Reported ok),
              w.matched-is ∙ c.list_ids-listed.ensures.counts (invariant_of-self c),
            );
            asks = grind (arith, is);
            limit = grind (arith, is);
            counter = grind (arith, is);
            memory = grind (arith, is);
            failed = grind (arith, is);
          }
      | in-Ok-NeedsAttributes w ↦
          let value = w.in-Ok-NeedsAttributes.is in
          let started = w.in-Ok-NeedsAttributes.field-0-is in
          let ok : c.start-started.result ≡ Ok answers.NeedsAttributes = search (rules, value, started) in
          let is = w.result-is in
          record {
            reported = grind (arith, is);
            asks = λ i. subst (λ o. IsSomeAnd o (λ ns. StartIsAnswered answers.NeedsAttributes old c.args.name.now ns new)) some (answer answers.NeedsAttributes ok);
            limit = grind (arith, is);
            counter = grind (arith, is);
            memory = grind (arith, is);
            failed = grind (arith, is);
          }
      | in-Err w ↦
          let is = w.result-is ∙ w.number_of.ensures in
          let refused = w.in-Err.ensures.refused in
          let after = w.in-Err.ensures.after in
          let failed = w.in-Err.ensures.failed in
          record {
            reported = search (rules, is);
            asks = search (rules, is);
            limit = grind (arith, common_steps, is, refused, after, failed, some);
            counter = grind (arith, common_steps, is, refused, after, failed, some);
            memory = grind (arith, common_steps, is, refused, after, failed, some);
            failed = search (rules, is, failed);
          }
    ])
