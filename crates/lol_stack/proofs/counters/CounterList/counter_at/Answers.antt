use Rattle.std.proofs.Common.{refl, map}
use Rattle.lol_stack.specs.CounterLists.{item_level}
use Rattle.lol_stack.specs.LevelLaws.{count_if_at-append, other_level, same_level}
use Rattle.lol_stack.proofs.counters.CounterList.counter_at.Goals as goal

pub returns-then-self-index : goal.returns-then-self-index
returns-then-self-index c =
    let list = c.args.self.now in
    rw (count_if_at-append c.args.index (map item_level list.items.items) (item_level list.current), same_level list.current.index c.args.index c.if-self-index.true) refl

pub returns-else-self-index : goal.returns-else-self-index
returns-else-self-index c =
    let list = c.args.self.now in
    rw (count_if_at-append c.args.index (map item_level list.items.items) (item_level list.current), other_level list.current.index c.args.index c.if-self-index.false) refl
