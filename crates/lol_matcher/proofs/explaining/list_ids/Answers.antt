use Rattle.std.proofs.Common.{◌<◌, length, take, vec_capacity, ap, ◌∙◌, arith}
use Rattle.std.proofs.lemmas.Grind.{common_steps}
use Rattle.std.proofs.lemmas.List.{length-map, map-append, take_all}
use Rattle.std.proofs.lemmas.List.Elements.{filter_map-append}
use Rattle.lol_base.specs.Ascending.{ascending_once}
use Rattle.lol_reasons.specs.Numbered.{items_of}
use Rattle.lol_matcher.specs.Explaining.{ids_under, numbers_in}
use Rattle.lol_matcher.proofs.Collected.{ids_are_few, in_order}
use Rattle.lol_matcher.proofs.explaining.list_ids.Goals as goal

pub loop-info-preserved : goal.loop-info-preserved
loop-info-preserved c = (
  c.push_id.ensures.room ∙ c.loop-info.invariant.0,
  λ few.
      let items = items_of c.args.explainer.now in
      let before = c.loop-info.invariant.1 few in
      let fewer = ids_are_few items (numbers_in (take c.loop-info.info-index c.args.matches.now)) in
      let same = c.loop-info.invariant.0 in
      let more = c.loop-info-test.true in
      let has_room : length c.loop-info.ids.items < vec_capacity c.loop-info.ids = grind (arith, common_steps, length-map, ap length before, fewer, few, same, more) in
      let pushed = c.push_id.ensures.pushed has_room in
      grind (arith, common_steps, filter_map-append, map-append, before, pushed),
)

pub returns-clause-listed : goal.returns-clause-listed
returns-clause-listed c = λ few.
    let all = take_all c.loop-info.info-index c.args.matches.now c.loop-info-test.false in
    let ids = c.loop-info.invariant.1 few ∙ ap (λ matches. ids_under (items_of c.args.explainer.now) (numbers_in matches)) all in
    in_order _ _ _ c.sort_unstable.ensures.permutation c.sort_unstable.ensures.sorted c.dedup.ensures.filtered ∙ ap ascending_once ids
