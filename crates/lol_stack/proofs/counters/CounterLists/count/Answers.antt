use Rattle.std.proofs.Common.{◌∙◌, sym, ap, cond, Some}
use Rattle.lol_stack.specs.Levels.{counted_at_last}
use Rattle.lol_stack.specs.CounterLists.{levels_if}
use Rattle.lol_stack.proofs.OpenNameLemmas.{put-twice, read-put}
use Rattle.lol_stack.proofs.counters.CounterLists.count.Goals as goal

pub returns-clause-counted : goal.returns-clause-counted
returns-clause-counted c =
    let name = c.args.name.now in
    let stands = c.replace-list.ensures.stands name c.in-Ok.ensures.place in
    let was = ap levels_if (c.replace-list.ensures.was name c.in-Ok.ensures.place) in
    let put =
    put-twice c.args.self.now.map c.replace-list.new.self c.replace.new.self name _ (Some c.count-counted.new.self)
    (c.replace-list.ensures.is name c.in-Ok.ensures.place) (c.replace.ensures.is name stands)
    in
    read-put levels_if (λ xs. cond c.count-counted.result (counted_at_last xs) xs) c.args.self.now.map c.replace.new.self name (Some c.count-counted.new.self) put
    (c.count-counted.ensures.counted ∙ ap (λ xs. cond c.count-counted.result (counted_at_last xs) xs) (sym was))
