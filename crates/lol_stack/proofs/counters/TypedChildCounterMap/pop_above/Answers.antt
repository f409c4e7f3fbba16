use Rattle.std.proofs.Common.{◌≡◌, ◌∙◌, ℕ, sym, ap, subst, ◌++◌, ◌∷◌, [], refl, arith}
use Rattle.std.specs.Bool.{if◌then◌else◌}
use Rattle.lol_base.specs.LocalNames.{Name, same_local_name}
use Rattle.lol_stack.specs.Levels.{without_last}
use Rattle.lol_stack.specs.CounterMaps.{counters_of}
use Rattle.lol_stack.specs.TypedViews.{AreLevels}
use Rattle.lol_stack.specs.TypedListLaws.{view-is, view-keeps, keys-seen, levels-seen, levels-stopped, ends_in, cut_to-ends, same_last}
use Rattle.lol_stack.proofs.counters.TypedChildCounterMap.pop_above.Goals as goal

pub returns-then-level-index : goal.returns-then-level-index
returns-then-level-index c =
    let ts = c.args.self.now in
    let keys = keys-seen ts c.self.inside.kept.items (counters_of c.self.inside.lists) c.self.view_is in
    let last = sym c.deref.ensures.value ∙ c.in-Some.ensures.cases.0 in
    let ends = ends_in ts c.in-Some.field-0-1.now c.in-Some.field-0-0.now (sym keys ∙ last) in
    (refl, cut_to-ends ts c.in-Some.field-0-1.now c.in-Some.field-0-0.now c.args.index ends c.if-level-index.true)

pub invariant_of-self-2 : goal.invariant_of-self-2
invariant_of-self-2 c =
    let ts = c.args.self.now in
    let keys = keys-seen ts c.self.inside.kept.items (counters_of c.self.inside.lists) c.self.view_is in
    let levels = levels-seen ts c.self.inside.kept.items (counters_of c.self.inside.lists) c.self.view_is c.self.invariant in
    let ends = ends_in ts c.pop.new.self.items (c.in-Some-pop.field-0-0, c.in-Some-pop.name) (sym keys ∙ c.in-Some-pop.ensures.items) in
    let name : ends.last.name ≡ c.in-Some-pop.name = ap (λ (key : ℕ × Name). key.1) ends.key in
    view-keeps ends.front c.pop.new.self.items (counters_of c.stop.new.self) (sym ends.keys)
    (levels-stopped ends.front ends.last (counters_of c.self.inside.lists) (counters_of c.stop.new.self)
    (subst (AreLevels (counters_of c.self.inside.lists)) ends.whole levels)
    (subst
    (λ n. (q : Name) → counters_of c.stop.new.self q ≡ (if same_local_name n q then without_last (counters_of c.self.inside.lists q) else counters_of c.self.inside.lists q))
    (sym name) c.stop.ensures))

pub returns : goal.returns
returns c =
    let ts = c.args.self.now in
    let keys = keys-seen ts c.self.inside.kept.items (counters_of c.self.inside.lists) c.self.view_is in
    let levels = levels-seen ts c.self.inside.kept.items (counters_of c.self.inside.lists) c.self.view_is c.self.invariant in
    let ends = ends_in ts c.pop.new.self.items (c.in-Some-pop.field-0-0, c.in-Some-pop.name) (sym keys ∙ c.in-Some-pop.ensures.items) in
    let name : ends.last.name ≡ c.in-Some-pop.name = ap (λ (key : ℕ × Name). key.1) ends.key in
    let now =
    view-is ends.front c.pop.new.self.items (counters_of c.stop.new.self) (sym ends.keys)
    (levels-stopped ends.front ends.last (counters_of c.self.inside.lists) (counters_of c.stop.new.self)
    (subst (AreLevels (counters_of c.self.inside.lists)) ends.whole levels)
    (subst
    (λ n. (q : Name) → counters_of c.stop.new.self q ≡ (if same_local_name n q then without_last (counters_of c.self.inside.lists q) else counters_of c.self.inside.lists q))
    (sym name) c.stop.ensures))
    in
    let same =
    same_last c.in-Some.field-0-1.now c.pop.new.self.items c.in-Some.field-0-0.now (c.in-Some-pop.field-0-0, c.in-Some-pop.name)
    (sym c.in-Some.ensures.cases.0 ∙ (c.deref.ensures.value ∙ c.in-Some-pop.ensures.items))
    in
    let shown : c.in-Some.field-0-0.now.0 ≡ c.in-Some-pop.field-0-0 = ap (λ (key : ℕ × Name). key.0) same in
    let level : ends.last.level ≡ c.in-Some-pop.field-0-0 = ap (λ (key : ℕ × Name). key.0) ends.key in
    (ends.last, ends.whole ∙ ap (λ front. front ++ ends.last ∷ []) (sym now), omega (arith, shown, level, c.if-level-index.false))
