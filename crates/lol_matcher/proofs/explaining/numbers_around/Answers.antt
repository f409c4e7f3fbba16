use Rattle.std.proofs.Common.{arith, map, ap, ◌∙◌}
use Rattle.std.proofs.lemmas.Grind.{common_steps}
use Rattle.std.proofs.lemmas.List.{take_all}
use Rattle.lol_matcher.proofs.explaining.numbers_around.Goals as goal

pub returns : goal.returns
returns g c = c.loop-item.invariant ∙ ap (map (λ item. item.element_data.number)) (take_all c.loop-item.item-index c.around-outer.result.now c.loop-item-test.false ∙ c.around-outer.ensures)

pub loop-item-preserved : goal.loop-item-preserved
loop-item-preserved g c = grind (arith, common_steps)
