use Rattle.std.proofs.Common.{◌≡◌, ◌-ℤ◌, ap, arith, rules, w32, w64, to_z, of_z, SFits}
use Rattle.std.proofs.lemmas.Int.{ints}
use Rattle.lol_base.specs.Progression.{Progression}
use Rattle.lol_base.proofs.Steps.{has-from_whole, whole-from_has, has_index-same}
use Rattle.lol_base.proofs.nth.NthChild.has_index.Goals as goal

pub returns-clause-member : goal.returns-clause-member
returns-clause-member c =
    let step_is : c.self.inside.step ≡ c.args.self.step = ap (λ (p : Progression). p.step) c.self.view_is in
    let offset_is : c.self.inside.offset ≡ c.args.self.offset = ap (λ (p : Progression). p.offset) c.self.view_is in
    let step_fits : SFits w32 c.self.inside.step = search rules in
    let offset_fits : SFits w32 c.self.inside.offset = search rules in
    let index_fits : SFits w32 c.args.index = c.ranges.index in
    let step : to_z w64 (of_z w64 c.from.result) ≡ c.args.self.step = omega (arith, ints) in
    let distance : to_z w64 (of_z w64 (to_z w64 (of_z w64 c.from-2.result) -ℤ to_z w64 (of_z w64 c.from-3.result))) ≡ c.args.index -ℤ c.args.self.offset = omega (arith, ints) in
    let whole = rw (step, distance) at c.is_whole.ensures in
    (λ t. has-from_whole c.args.self c.args.index (whole.0 t), λ h. whole.1 (whole-from_has c.args.self c.args.index h))

pub returns-clause-computed : goal.returns-clause-computed
returns-clause-computed c = has_index-same c.args.self c.args.index c.is_whole.result (returns-clause-member c)
