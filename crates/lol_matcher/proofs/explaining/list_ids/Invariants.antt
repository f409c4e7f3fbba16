-- the ids of the items so far, if there is room for all
use Rattle.std.proofs.Common.{◌≡◌, ◌≤◌, length, take, vec_capacity}
use Rattle.lol_reasons.specs.Numbered.{items_of}
use Rattle.lol_matcher.specs.Explaining.{ids_under, numbers_in}
use Rattle.lol_matcher.proofs.explaining.list_ids.Given as goal

abbrev pub invariant-loop-info : goal.invariant-loop-info
invariant-loop-info l =
    (vec_capacity l.ids ≡ vec_capacity l.fn.ids)
    × (length l.matches ≤ vec_capacity l.fn.ids → l.ids.items ≡ ids_under (items_of l.explainer) (numbers_in (take l.info-index l.matches)))
