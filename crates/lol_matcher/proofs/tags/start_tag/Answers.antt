use Rattle.std.proofs.Common.{rules, ◌≡◌, ◌≤◌, List, Bool, length, vec_capacity, Err, false, true≢false, refl, sym, ap, subst, ◌∙◌, map}
use Rattle.std.proofs.lemmas.Fn.{chained_keeps}
use Rattle.lol_base.specs.LocalNames.{local_name}
use Rattle.lol_base.specs.StartTags.{StartTag}
use Rattle.lol_memory.specs.Limiter.{Limiter}
use Rattle.lol_memory.specs.declared.match_info.MatchInfo.{MatchInfo}
use Rattle.lol_program.specs.Paths.{Selectors}
use Rattle.lol_machine.specs.Answers.{Match}
use Rattle.lol_machine.specs.Events.{Event}
use Rattle.lol_machine.specs.Vms.{info_of}
use Rattle.lol_machine.specs.Openings.{has_room, opens_unasked}
use Rattle.lol_machine.specs.ReportRoom.{HoldsEachReport}
use Rattle.lol_matcher.specs.Keeping.{IsToldAs, Runs, allowed}
use Rattle.lol_matcher.proofs.Charges.{charged_after, charged_alike}
use Rattle.lol_matcher.proofs.Filled.{HasTaken, takes_on}
use Rattle.lol_matcher.proofs.Handing.{fits_in}
use Rattle.lol_matcher.proofs.Refusals.{refused_for_counter, refused_for_limit, refused_for_memory}
use Rattle.lol_matcher.proofs.Running.{charged_for, has_no_place, has_place}
use Rattle.lol_matcher.proofs.Telling.{asked_for, other_answer, tried_on, was_told}
use Rattle.lol_matcher.proofs.tags.start_tag.Given as given
use Rattle.lol_matcher.proofs.tags.start_tag.Goals as goal
use Rattle.lol_matcher.proofs.tags.start_tag.Goals.{After-number_opened}

-- a tag that was answered
module _ (g : given.Over) (c : After-number_opened g) (s : Selectors) (esi : Bool) (events : List Event) (tag : StartTag) (runs : Runs s esi events c.args.vm.now c.args.limiter.now) (named : tag.name ≡ c.args.name.now) (spaced : tag.namespace ≡ c.args.ns) where
  abbrev matched : List Match
  matched = (c.in-Ok.ensures.answered s esi events tag runs.stands (c.new.ensures ∙ ap local_name (sym named), spaced)).1.matched

  told : {items : List MatchInfo} → items ≡ map info_of matched → IsToldAs s esi events tag false c.args.number c.number_opened.result items (allowed c.args.vm.now c.args.limiter.now) c.args.vm.now c.number_opened.new.vm c.exec_for_start_tag.new.limiter
  told =
      let laws = c.run_laws.ensures in
      let call = c.exec_for_start_tag.ensures in
      let charged = charged_for laws.depths laws.counts laws.ordered s esi events c.args.vm.now c.args.limiter.now runs in
      let room = has_place laws.depths laws.counts laws.ordered s esi events c.args.vm.now c.args.limiter.now runs tag (has_room c.args.vm.now runs.stands.unfailed _ call.full (other_answer c.in-Ok.is (λ same. cc))) in
      was_told laws.depths laws.counts laws.ordered s esi events tag charged room runs.countable (c.in-Ok.ensures.answered s esi events tag runs.stands (c.new.ensures ∙ ap local_name (sym named), spaced))
      call.charges c.open_elements-open_before.ensures c.number_opened.ensures

  taken : HasTaken (vec_capacity c.args.matches.now) (map info_of matched) c.matches-1.given.0
  taken =
      let answered = c.in-Ok.ensures.answered s esi events tag runs.stands (c.new.ensures ∙ ap local_name (sym named), spaced) in
      let collected = chained_keeps _ (λ (xs : List MatchInfo) q. (q.0.ghost_name ≡ c.handler-1.given) × HasTaken (vec_capacity c.args.matches.now) xs q.0.now)
      (λ xs q x v j k. search (rules, j, k, takes_on (vec_capacity c.args.matches.now) xs x q.0.now v.0.now j.1)) _ _ _ (refl, λ _. (c.clear.ensures.items, c.clear.ensures.capacity)) answered.1.reported in
      search (rules, collected.0, collected.1)

  fits : HoldsEachReport s (vec_capacity c.args.matches.now) → length (map info_of matched) ≤ vec_capacity c.args.matches.now
  fits = fits_in s esi events tag matched false _ _ (c.in-Ok.ensures.answered s esi events tag runs.stands (c.new.ensures ∙ ap local_name (sym named), spaced)).1.answered _

pub returns-in-Ok-clause-charged : goal.returns-in-Ok-clause-charged
returns-in-Ok-clause-charged g c = charged_after c.exec_for_start_tag.ensures.charges c.number_opened.ensures.running

pub returns-in-Ok-clause-told : goal.returns-in-Ok-clause-told
returns-in-Ok-clause-told g c = λ s esi events tag runs named spaced holds.
    let a = (goal.at.returns-in-Ok-clause-told g c).After-number_opened in
    told g a s esi events tag runs named spaced (taken g a s esi events tag runs named spaced (fits g a s esi events tag runs named spaced holds)).0

pub returns-in-Ok-clause-room : goal.returns-in-Ok-clause-room
returns-in-Ok-clause-room g c = λ s esi events tag runs named spaced holds.
    let a = (goal.at.returns-in-Ok-clause-room g c).After-number_opened in
    subst (HoldsEachReport s) (sym (taken g a s esi events tag runs named spaced (fits g a s esi events tag runs named spaced holds)).1) holds

pub returns-in-Err-InfoRequest-clause-told : goal.returns-in-Err-InfoRequest-clause-told
returns-in-Err-InfoRequest-clause-told g c = λ s esi events tag runs named spaced holds.
    let laws = c.run_laws.ensures in
    let call = c.exec_for_start_tag.ensures in
    let is = c.in-Err-InfoRequest.is ∙ ap Err c.in-Err-InfoRequest.field-0-is in
    let room = has_place laws.depths laws.counts laws.ordered s esi events c.args.vm.now c.args.limiter.now runs tag (has_room c.args.vm.now runs.stands.unfailed _ call.full (other_answer is (λ same. cc))) in
    let left = c.in-Err-InfoRequest.ensures.left in
    let charged = charged_alike c.args.vm.now c.exec_for_start_tag.new.self c.args.limiter.now c.exec_for_start_tag.new.limiter left.slots call.charges.bytes left.uncharged runs.charged in (
      asked_for laws.depths laws.counts laws.ordered laws.dropped s esi events tag c.args.vm.now c.exec_for_start_tag.new.self c.args.limiter.now c.exec_for_start_tag.new.limiter runs room call.charges.bytes (ap (λ (l : Limiter). l.maximum) left.uncharged) charged
          c.in-Err-InfoRequest.request (call.asked c.in-Err-InfoRequest.request is s esi events tag runs.stands (c.new.ensures ∙ ap local_name (sym named), spaced)),
      left.unchanged,
    )

pub returns-in-Err-InfoRequest-clause-room : goal.returns-in-Err-InfoRequest-clause-room
returns-in-Err-InfoRequest-clause-room g c = λ s esi events tag runs named spaced holds.
    let silent = c.exec_for_start_tag.ensures.silent _ (c.in-Err-InfoRequest.is ∙ ap Err c.in-Err-InfoRequest.field-0-is) tt in
    let capacity : vec_capacity c.matches-1.given.0 ≡ vec_capacity c.args.matches.now = search (rules, silent, c.clear.ensures.capacity) in
    subst (HoldsEachReport s) (sym capacity) holds

pub returns-in-Err-MemoryLimitExceeded-clause-refused : goal.returns-in-Err-MemoryLimitExceeded-clause-refused
returns-in-Err-MemoryLimitExceeded-clause-refused g c = λ s esi events tag runs named spaced.
    let laws = c.run_laws.ensures in
    let call = c.exec_for_start_tag.ensures in
    let is = c.in-Err-MemoryLimitExceeded.is ∙ ap Err c.in-Err-MemoryLimitExceeded.field-0-is in
    let charged = charged_for laws.depths laws.counts laws.ordered s esi events c.args.vm.now c.args.limiter.now runs in
    let room = has_place laws.depths laws.counts laws.ordered s esi events c.args.vm.now c.args.limiter.now runs tag (has_room c.args.vm.now runs.stands.unfailed _ call.full (other_answer is (λ same. cc))) in
    let limited = call.limited is in
    let reported = limited.1 s esi events tag runs.stands (c.new.ensures ∙ ap local_name (sym named), spaced) in
    refused_for_limit s esi charged tag room (opens_unasked s esi events tag reported.0 reported.1.asks) limited.0

pub returns-in-Err-CounterFull-clause-refused : goal.returns-in-Err-CounterFull-clause-refused
returns-in-Err-CounterFull-clause-refused g c = λ s esi events tag runs named spaced.
    let laws = c.run_laws.ensures in
    let call = c.exec_for_start_tag.ensures in
    let is = c.in-Err-CounterFull.is ∙ ap Err c.in-Err-CounterFull.field-0-is in
    let charged = charged_for laws.depths laws.counts laws.ordered s esi events c.args.vm.now c.args.limiter.now runs in
    refused_for_counter s esi charged tag (has_no_place laws.depths laws.counts laws.ordered s esi events c.args.vm.now c.args.limiter.now runs tag (call.full.0 is).1)

pub returns-in-Err-Memory-clause-refused : goal.returns-in-Err-Memory-clause-refused
returns-in-Err-Memory-clause-refused g c = λ s esi events tag runs named spaced.
    let laws = c.run_laws.ensures in
    let call = c.exec_for_start_tag.ensures in
    let is = c.in-Err-Memory.is ∙ ap Err c.in-Err-Memory.field-0-is in
    let charged = charged_for laws.depths laws.counts laws.ordered s esi events c.args.vm.now c.args.limiter.now runs in
    let room = has_place laws.depths laws.counts laws.ordered s esi events c.args.vm.now c.args.limiter.now runs tag (has_room c.args.vm.now runs.stands.unfailed _ call.full (other_answer is (λ same. cc))) in
    refused_for_memory s esi charged tag room (λ no_memory opening limited. call.due _ is limited s esi events tag runs.stands (c.new.ensures ∙ ap local_name (sym named), spaced) no_memory)

pub returns-in-Err-Failed-clause-refused : goal.returns-in-Err-Failed-clause-refused
returns-in-Err-Failed-clause-refused g c = λ s esi events tag runs named spaced.
    absurd (true≢false (sym (c.exec_for_start_tag.ensures.failed.exactly.0 (c.in-Err-Failed.is ∙ ap Err c.in-Err-Failed.field-0-is)) ∙ runs.stands.unfailed))

pub returns-in-Ok-clause-tried : goal.returns-in-Ok-clause-tried
returns-in-Ok-clause-tried g c = λ s esi events tag runs named spaced.
    tried_on s esi events tag c.number_opened.ensures.running (c.exec_for_start_tag.ensures.tried s esi events tag runs.stands (c.new.ensures ∙ ap local_name (sym named), spaced))
