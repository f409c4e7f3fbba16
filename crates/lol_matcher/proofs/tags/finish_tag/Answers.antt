use Rattle.std.proofs.Common.{rules, ◌≡◌, ◌≤◌, List, Bool, Err, true, length, vec_capacity, refl, sym, ap, subst, ◌∙◌, map}
use Rattle.std.proofs.lemmas.Fn.{chained_keeps}
use Rattle.lol_base.specs.StartTags.{StartTag}
use Rattle.lol_memory.specs.declared.match_info.MatchInfo.{MatchInfo}
use Rattle.lol_program.specs.Paths.{Selectors}
use Rattle.lol_machine.specs.Answers.{Match}
use Rattle.lol_machine.specs.Events.{Event}
use Rattle.lol_machine.specs.ReportRoom.{HoldsEachReport}
use Rattle.lol_machine.specs.Vms.{IsPending, IsRestOf, info_of}
use Rattle.lol_matcher.specs.Keeping.{IsToldAs, RunsPast, allowed, ids_of}
use Rattle.lol_matcher.proofs.Filled.{HasTaken, takes_on}
use Rattle.lol_matcher.proofs.Handing.{fits_in}
use Rattle.lol_machine.specs.Openings.{opens_handed}
use Rattle.lol_matcher.proofs.Charges.{charged_after}
use Rattle.lol_matcher.proofs.Refusals.{refused_for_limit, refused_for_memory}
use Rattle.lol_matcher.proofs.Running.{charged_before, countable_before, room_before}
use Rattle.lol_matcher.proofs.Telling.{tried_on, was_told}
use Rattle.lol_matcher.proofs.tags.finish_tag.Given as given
use Rattle.lol_matcher.proofs.tags.finish_tag.Goals as goal
use Rattle.lol_matcher.proofs.tags.finish_tag.Goals.{After-number_opened}

pub returns-in-Ok-clause-charged : goal.returns-in-Ok-clause-charged
returns-in-Ok-clause-charged g c = charged_after c.finish_start_tag.ensures.charges c.number_opened.ensures.running

-- a tag that was answered
module _ (g : given.Over) (c : After-number_opened g) (s : Selectors) (esi : Bool) (events : List Event) (tag : StartTag) (past : RunsPast s esi events c.args.vm.now c.args.limiter.now) (pending : IsPending ids_of s esi events tag c.args.vm.now c.args.request) (rest : IsRestOf c.args.aux_info tag) where
  abbrev matched : List Match
  matched = (c.in-Ok.ensures.answered s esi events tag pending rest).1.matched

  told : {items : List MatchInfo} → items ≡ map info_of matched → IsToldAs s esi events tag true c.args.number c.number_opened.result items (allowed c.args.vm.now c.args.limiter.now) c.args.vm.now c.number_opened.new.vm c.finish_start_tag.new.limiter
  told =
      let laws = c.run_laws.ensures in
      let charged = charged_before laws.depths laws.counts laws.ordered s esi events past.tag c.args.vm.now c.args.limiter.now past.runs past.dropped in
      let room = room_before laws.depths laws.counts laws.ordered s esi events past.tag c.args.vm.now c.args.limiter.now past.runs past.dropped in
      let countable = countable_before laws.depths laws.counts laws.ordered s esi events past.tag c.args.vm.now c.args.limiter.now past.runs past.dropped in
      was_told laws.depths laws.counts laws.ordered s esi events tag charged room countable (c.in-Ok.ensures.answered s esi events tag pending rest) c.finish_start_tag.ensures.charges c.open_elements-open_before.ensures c.number_opened.ensures

  taken : HasTaken (vec_capacity c.args.matches.now) (map info_of matched) c.matches-1.given.0
  taken =
      let collected = chained_keeps _ (λ (xs : List MatchInfo) q. (q.0.ghost_name ≡ c.handler-1.given) × HasTaken (vec_capacity c.args.matches.now) xs q.0.now)
      (λ xs q x v j k. search (rules, j, k, takes_on (vec_capacity c.args.matches.now) xs x q.0.now v.0.now j.1)) _ _ _ (refl, λ _. (c.clear.ensures.items, c.clear.ensures.capacity)) (c.in-Ok.ensures.answered s esi events tag pending rest).1.reported in
      search (rules, collected.0, collected.1)

  fits : HoldsEachReport s (vec_capacity c.args.matches.now) → length (map info_of matched) ≤ vec_capacity c.args.matches.now
  fits = fits_in s esi events tag matched true _ _ (c.in-Ok.ensures.answered s esi events tag pending rest).1.answered _

pub returns-in-Ok-clause-told : goal.returns-in-Ok-clause-told
returns-in-Ok-clause-told g c = λ s esi events tag past pending rest holds.
    let a = (goal.at.returns-in-Ok-clause-told g c).After-number_opened in
    told g a s esi events tag past pending rest (taken g a s esi events tag past pending rest (fits g a s esi events tag past pending rest holds)).0

pub returns-in-Ok-clause-room : goal.returns-in-Ok-clause-room
returns-in-Ok-clause-room g c = λ s esi events tag past pending rest holds.
    let a = (goal.at.returns-in-Ok-clause-room g c).After-number_opened in
    subst (HoldsEachReport s) (sym (taken g a s esi events tag past pending rest (fits g a s esi events tag past pending rest holds)).1) holds

pub returns-in-Err-Limit-clause-refused : goal.returns-in-Err-Limit-clause-refused
returns-in-Err-Limit-clause-refused g c = λ s esi events tag past pending rest.
    let laws = c.run_laws.ensures in
    let charged = charged_before laws.depths laws.counts laws.ordered s esi events past.tag c.args.vm.now c.args.limiter.now past.runs past.dropped in
    let room = room_before laws.depths laws.counts laws.ordered s esi events past.tag c.args.vm.now c.args.limiter.now past.runs past.dropped in
    let limited = c.finish_start_tag.ensures.limited (c.in-Err-Limit.is ∙ ap Err c.in-Err-Limit.field-0-is) in
    let reported = limited.1 s esi events tag pending rest in
    refused_for_limit s esi charged tag room (opens_handed s esi events tag reported.0 rest.2) limited.0

pub returns-in-Err-Memory-clause-refused : goal.returns-in-Err-Memory-clause-refused
returns-in-Err-Memory-clause-refused g c = λ s esi events tag past pending rest.
    let laws = c.run_laws.ensures in
    let charged = charged_before laws.depths laws.counts laws.ordered s esi events past.tag c.args.vm.now c.args.limiter.now past.runs past.dropped in
    let room = room_before laws.depths laws.counts laws.ordered s esi events past.tag c.args.vm.now c.args.limiter.now past.runs past.dropped in
    let is = c.in-Err-Memory.is ∙ ap Err c.in-Err-Memory.field-0-is in
    refused_for_memory s esi charged tag room (λ no_memory opening limited. c.finish_start_tag.ensures.due _ is limited s esi events tag pending no_memory)

pub returns-in-Ok-clause-tried : goal.returns-in-Ok-clause-tried
returns-in-Ok-clause-tried g c = λ s esi events tag pending rest.
    tried_on s esi events tag c.number_opened.ensures.running (c.finish_start_tag.ensures.tried s esi events tag pending rest)
