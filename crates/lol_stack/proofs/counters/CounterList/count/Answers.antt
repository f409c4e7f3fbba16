use Rattle.std.proofs.Common.{◌≡◌, ◌≢◌, ◌<◌, ◌∙◌, refl, sym, true≢false, arith, map}
use Rattle.lol_instructions.specs.Counters.{full_count}
use Rattle.lol_stack.specs.CounterLists.{item_level}
use Rattle.lol_stack.specs.LevelLaws.{is_at-append, counted_last-append, other_level, same_level, one_more-free, one_more-full}
use Rattle.lol_stack.proofs.counters.CounterList.count.Goals as goal

pub returns-then-level-index-clause-is : goal.returns-then-level-index-clause-is
returns-then-level-index-clause-is c =
    let list = c.args.self.now in
    sym (is_at-append c.args.index (map item_level list.items.items) (item_level list.current) ∙ other_level list.current.index c.args.index c.if-level-index.true)

pub returns-then-level-index-clause-counted : goal.returns-then-level-index-clause-counted
returns-then-level-index-clause-counted c =
    let list = c.args.self.now in
    refl

pub returns-then-not-is_full-clause-is : goal.returns-then-not-is_full-clause-is
returns-then-not-is_full-clause-is c =
    let list = c.args.self.now in
    sym (is_at-append c.args.index (map item_level list.items.items) (item_level list.current) ∙ same_level list.current.index c.args.index c.if-level-index.false)

pub returns-then-not-is_full-clause-counted : goal.returns-then-not-is_full-clause-counted
returns-then-not-is_full-clause-counted c =
    let list = c.args.self.now in
    let other : list.current.counter ≢ full_count = λ e. true≢false (sym (c.is_full.ensures.full.1 e) ∙ c.if-not-is_full.true) in
    let free : list.current.counter < full_count = omega (arith, c.is_full.ensures.bound) in
    rw (counted_last-append (map item_level list.items.items) (item_level list.current), one_more-free list.current.counter free, c.inc.ensures) refl

pub returns-else-not-is_full-clause-is : goal.returns-else-not-is_full-clause-is
returns-else-not-is_full-clause-is c =
    let list = c.args.self.now in
    sym (is_at-append c.args.index (map item_level list.items.items) (item_level list.current) ∙ same_level list.current.index c.args.index c.if-level-index.false)

pub returns-else-not-is_full-clause-counted : goal.returns-else-not-is_full-clause-counted
returns-else-not-is_full-clause-counted c =
    let list = c.args.self.now in
    let full : list.current.counter ≡ full_count = c.is_full.ensures.full.0 c.if-not-is_full.false in
    rw (counted_last-append (map item_level list.items.items) (item_level list.current), one_more-full list.current.counter full) refl
