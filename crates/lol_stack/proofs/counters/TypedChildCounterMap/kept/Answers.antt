use Rattle.std.proofs.Common.{◌∙◌}
use Rattle.lol_stack.specs.CounterMaps.{counters_of}
use Rattle.lol_stack.specs.TypedListLaws.{keys-seen}
use Rattle.lol_stack.proofs.counters.TypedChildCounterMap.kept.Goals as goal

pub returns : goal.returns
returns c = c.as_slice.ensures.value ∙ keys-seen c.args.self.now c.self.inside.kept.items (counters_of c.self.inside.lists) c.self.view_is
