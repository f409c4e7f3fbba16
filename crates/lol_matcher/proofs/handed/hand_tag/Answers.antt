use Rattle.std.proofs.Common.{rules, ◌≡◌, ◌≤◌, List, Bool, length, vec_capacity, Err, true, refl, sym, ap, subst, ◌∙◌, map}
use Rattle.std.proofs.lemmas.Fn.{chained_keeps}
use Rattle.lol_base.specs.LocalNames.{local_name}
use Rattle.lol_base.specs.StartTags.{StartTag}
use Rattle.lol_memory.specs.declared.match_info.MatchInfo.{MatchInfo}
use Rattle.lol_program.specs.Paths.{Selectors}
use Rattle.lol_machine.specs.Answers.{Match, document}
use Rattle.lol_machine.specs.Events.{Event}
use Rattle.lol_machine.specs.Vms.{IsRestOf, info_of}
use Rattle.lol_machine.specs.Openings.{has_room, opens_handed}
use Rattle.lol_machine.specs.ReportRoom.{HoldsEachReport}
use Rattle.lol_matcher.specs.Keeping.{IsToldAs, Runs, allowed}
use Rattle.lol_matcher.specs.LastLaws.{answered}
use Rattle.lol_matcher.proofs.Charges.{charged_after}
use Rattle.lol_matcher.proofs.Filled.{HasTaken, takes_on}
use Rattle.lol_matcher.proofs.Handing.{fits_in, told_as}
use Rattle.lol_matcher.proofs.Refusals.{refused_for_counter, refused_for_limit, refused_for_memory}
use Rattle.lol_matcher.proofs.Running.{charged_for, has_no_place, has_place}
use Rattle.lol_matcher.proofs.Telling.{other_answer, tried_on, was_told}
use Rattle.lol_matcher.proofs.handed.hand_tag.Given as given
use Rattle.lol_matcher.proofs.handed.hand_tag.Goals as goal
use Rattle.lol_matcher.proofs.handed.hand_tag.Goals.{After-number_opened}

-- a tag that was answered: one with these attributes, where they are asked for
module _ (g : given.Over) (c : After-number_opened g) (s : Selectors) (esi : Bool) (events : List Event) (runs : Runs s esi events c.args.vm.now c.args.limiter.now) (tag : StartTag) (named : tag.name ≡ c.args.name.now) (spaced : tag.namespace ≡ c.args.ns)
    (when : c.in-Ok.asked ≡ true → IsRestOf c.args.aux_info tag) where
  abbrev matched : List Match
  matched = (c.in-Ok.ensures.answered s esi events tag runs.stands (c.new-local_name.ensures ∙ ap local_name (sym named), spaced) when).1.matched

  told : {items : List MatchInfo} → items ≡ map info_of matched → IsToldAs s esi events tag c.in-Ok.asked c.args.number c.number_opened.result items (allowed c.args.vm.now c.args.limiter.now) c.args.vm.now c.number_opened.new.vm c.exec_for_whole_start_tag.new.limiter
  told =
      let laws = c.run_laws.ensures in
      let call = c.exec_for_whole_start_tag.ensures in
      let charged = charged_for laws.depths laws.counts laws.ordered s esi events c.args.vm.now c.args.limiter.now runs in
      let room = has_place laws.depths laws.counts laws.ordered s esi events c.args.vm.now c.args.limiter.now runs tag (has_room c.args.vm.now runs.stands.unfailed _ call.full (other_answer c.in-Ok.is (λ same. cc))) in
      was_told laws.depths laws.counts laws.ordered s esi events tag charged room runs.countable (c.in-Ok.ensures.answered s esi events tag runs.stands (c.new-local_name.ensures ∙ ap local_name (sym named), spaced) when)
      call.charges c.open_elements-open_before.ensures c.number_opened.ensures

  taken : HasTaken (vec_capacity c.args.matches.now) (map info_of matched) c.matches-1.given.0
  taken =
      let answered = c.in-Ok.ensures.answered s esi events tag runs.stands (c.new-local_name.ensures ∙ ap local_name (sym named), spaced) when in
      let collected = chained_keeps _ (λ (xs : List MatchInfo) q. (q.0.ghost_name ≡ c.handler-1.given) × HasTaken (vec_capacity c.args.matches.now) xs q.0.now)
      (λ xs q x v j k. search (rules, j, k, takes_on (vec_capacity c.args.matches.now) xs x q.0.now v.0.now j.1)) _ _ _ (refl, λ _. (c.clear.ensures.items, c.clear.ensures.capacity)) answered.1.reported in
      search (rules, collected.0, collected.1)

  fits : HoldsEachReport s (vec_capacity c.args.matches.now) → length (map info_of matched) ≤ vec_capacity c.args.matches.now
  fits = fits_in s esi events tag matched c.in-Ok.asked _ _ (c.in-Ok.ensures.answered s esi events tag runs.stands (c.new-local_name.ensures ∙ ap local_name (sym named), spaced) when).1.answered _

pub returns-in-Ok-clause-told : goal.returns-in-Ok-clause-told
returns-in-Ok-clause-told g c = λ s esi events tag runs named spaced rest holds.
    let a = (goal.at.returns-in-Ok-clause-told g c).After-number_opened in
    let when = λ (yes : c.in-Ok.asked ≡ true). rest in
    told_as s esi events tag c.in-Ok.asked c.args.number c.number_opened.result _ (allowed c.args.vm.now c.args.limiter.now) c.args.vm.now c.number_opened.new.vm c.exec_for_whole_start_tag.new.limiter
    (told g a s esi events runs tag named spaced when (taken g a s esi events runs tag named spaced when (fits g a s esi events runs tag named spaced when holds)).0)

pub returns-in-Ok-clause-asked : goal.returns-in-Ok-clause-asked
returns-in-Ok-clause-asked g c = λ s esi events tag runs named spaced rest.
    let told = (c.in-Ok.ensures.answered s esi events tag runs.stands (c.new-local_name.ensures ∙ ap local_name (sym named), spaced) (λ yes. rest)).1 in
    sym (answered s esi (document s esi events) tag told.matched c.in-Ok.asked _ _ told.answered).asks

pub returns-in-Ok-clause-room : goal.returns-in-Ok-clause-room
returns-in-Ok-clause-room g c = λ s esi events tag runs named spaced rest holds.
    let a = (goal.at.returns-in-Ok-clause-room g c).After-number_opened in
    let when = λ (yes : c.in-Ok.asked ≡ true). rest in
    subst (HoldsEachReport s) (sym (taken g a s esi events runs tag named spaced when (fits g a s esi events runs tag named spaced when holds)).1) holds

pub returns-in-Err-MemoryLimitExceeded-clause-refused : goal.returns-in-Err-MemoryLimitExceeded-clause-refused
returns-in-Err-MemoryLimitExceeded-clause-refused g c = λ s esi events tag runs named spaced rest.
    let laws = c.run_laws.ensures in
    let call = c.exec_for_whole_start_tag.ensures in
    let is = c.in-Err-MemoryLimitExceeded.is ∙ ap Err c.in-Err-MemoryLimitExceeded.field-0-is in
    let charged = charged_for laws.depths laws.counts laws.ordered s esi events c.args.vm.now c.args.limiter.now runs in
    let room = has_place laws.depths laws.counts laws.ordered s esi events c.args.vm.now c.args.limiter.now runs tag (has_room c.args.vm.now runs.stands.unfailed _ call.full (other_answer is (λ same. cc))) in
    let limited = call.limited is in
    let reported = limited.1 s esi events tag runs.stands (c.new-local_name.ensures ∙ ap local_name (sym named), spaced) rest in
    refused_for_limit s esi charged tag room (opens_handed s esi events tag reported.0 rest.2) limited.0

pub returns-in-Err-CounterFull-clause-refused : goal.returns-in-Err-CounterFull-clause-refused
returns-in-Err-CounterFull-clause-refused g c = λ s esi events tag runs named spaced rest.
    let laws = c.run_laws.ensures in
    let call = c.exec_for_whole_start_tag.ensures in
    let is = c.in-Err-CounterFull.is ∙ ap Err c.in-Err-CounterFull.field-0-is in
    let charged = charged_for laws.depths laws.counts laws.ordered s esi events c.args.vm.now c.args.limiter.now runs in
    refused_for_counter s esi charged tag (has_no_place laws.depths laws.counts laws.ordered s esi events c.args.vm.now c.args.limiter.now runs tag (call.full.0 is).1)

pub returns-in-Err-Memory-clause-refused : goal.returns-in-Err-Memory-clause-refused
returns-in-Err-Memory-clause-refused g c = λ s esi events tag runs named spaced rest.
    let laws = c.run_laws.ensures in
    let call = c.exec_for_whole_start_tag.ensures in
    let is = c.in-Err-Memory.is ∙ ap Err c.in-Err-Memory.field-0-is in
    let charged = charged_for laws.depths laws.counts laws.ordered s esi events c.args.vm.now c.args.limiter.now runs in
    let room = has_place laws.depths laws.counts laws.ordered s esi events c.args.vm.now c.args.limiter.now runs tag (has_room c.args.vm.now runs.stands.unfailed _ call.full (other_answer is (λ same. cc))) in
    refused_for_memory s esi charged tag room (λ no_memory opening limited. call.due _ is limited s esi events tag runs.stands (c.new-local_name.ensures ∙ ap local_name (sym named), spaced) no_memory)

pub returns-in-Ok-clause-tried : goal.returns-in-Ok-clause-tried
returns-in-Ok-clause-tried g c = λ s esi events tag runs named spaced rest.
    tried_on s esi events tag c.number_opened.ensures.running (c.exec_for_whole_start_tag.ensures.tried s esi events tag runs.stands (c.new-local_name.ensures ∙ ap local_name (sym named), spaced) rest)

pub returns-in-Ok-clause-charged : goal.returns-in-Ok-clause-charged
returns-in-Ok-clause-charged g c = charged_after c.exec_for_whole_start_tag.ensures.charges c.number_opened.ensures.running

pub returns-in-Err-MemoryLimitExceeded-clause-still_open : goal.returns-in-Err-MemoryLimitExceeded-clause-still_open
returns-in-Err-MemoryLimitExceeded-clause-still_open g c = λ s esi events tag runs named spaced.
    c.in-Err-MemoryLimitExceeded.ensures.left.still_open (_, c.new-local_name.ensures) _ (c.run_laws.ensures.has_open s esi c.args.vm.now events runs.stands)

pub returns-in-Err-CounterFull-clause-still_open : goal.returns-in-Err-CounterFull-clause-still_open
returns-in-Err-CounterFull-clause-still_open g c = λ s esi events tag runs named spaced.
    c.in-Err-CounterFull.ensures.left.still_open (_, c.new-local_name.ensures) _ (c.run_laws.ensures.has_open s esi c.args.vm.now events runs.stands)

pub returns-in-Err-Memory-clause-still_open : goal.returns-in-Err-Memory-clause-still_open
returns-in-Err-Memory-clause-still_open g c = λ s esi events tag runs named spaced.
    c.in-Err-Memory.ensures.left.still_open (_, c.new-local_name.ensures) _ (c.run_laws.ensures.has_open s esi c.args.vm.now events runs.stands)

pub returns-in-Err-MemoryLimitExceeded-clause-tried : goal.returns-in-Err-MemoryLimitExceeded-clause-tried
returns-in-Err-MemoryLimitExceeded-clause-tried g c = λ s esi events tag runs named spaced rest.
    c.exec_for_whole_start_tag.ensures.tried s esi events tag runs.stands (c.new-local_name.ensures ∙ ap local_name (sym named), spaced) rest

pub returns-in-Err-CounterFull-clause-tried : goal.returns-in-Err-CounterFull-clause-tried
returns-in-Err-CounterFull-clause-tried g c = λ s esi events tag runs named spaced rest.
    c.exec_for_whole_start_tag.ensures.tried s esi events tag runs.stands (c.new-local_name.ensures ∙ ap local_name (sym named), spaced) rest

pub returns-in-Err-Memory-clause-tried : goal.returns-in-Err-Memory-clause-tried
returns-in-Err-Memory-clause-tried g c = λ s esi events tag runs named spaced rest.
    c.exec_for_whole_start_tag.ensures.tried s esi events tag runs.stands (c.new-local_name.ensures ∙ ap local_name (sym named), spaced) rest
