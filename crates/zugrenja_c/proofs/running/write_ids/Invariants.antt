-- the ids so far stand at the beginning, and what comes after them is as it was
use Rattle.std.proofs.Common.{◌≡◌, map, take, drop}
use Rattle.zugrenja_c.proofs.running.write_ids.Given as goal

abbrev pub invariant-loop-index : goal.invariant-loop-index
invariant-loop-index l = (take l.index l.ids ≡ map (λ info. info.match_id) (take l.index l.matches)) × (drop l.index l.ids ≡ drop l.index l.fn.ids)
