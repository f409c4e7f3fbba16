use Rattle.std.proofs.Common.{◌∙◌, sym, ap, Some, None}
use Rattle.lol_stack.specs.Levels.{without_last}
use Rattle.lol_stack.specs.CounterLists.{levels_if}
use Rattle.lol_stack.proofs.OpenNameLemmas.{put-twice, read-put}
use Rattle.lol_stack.proofs.counters.CounterLists.stop.Goals as goal

pub returns-then-pop : goal.returns-then-pop
returns-then-pop c =
    let name = c.args.name.now in
    let stands = c.replace-list.ensures.stands name c.in-Ok.ensures.place in
    let was = ap levels_if (c.replace-list.ensures.was name c.in-Ok.ensures.place) in
    let put =
    put-twice c.args.self.now.map c.replace-list.new.self c.replace.new.self name _ (Some c.pop.new.self)
    (c.replace-list.ensures.is name c.in-Ok.ensures.place) (c.replace.ensures.is name stands)
    in
    read-put levels_if without_last c.args.self.now.map c.replace.new.self name (Some c.pop.new.self) put (c.if-pop.ensures ∙ sym (ap without_last was))

pub returns-else-pop : goal.returns-else-pop
returns-else-pop c =
    let name = c.args.name.now in
    let stands = c.replace-list.ensures.stands name c.in-Ok.ensures.place in
    let was = ap levels_if (c.replace-list.ensures.was name c.in-Ok.ensures.place) in
    let gone =
    put-twice c.args.self.now.map c.replace-list.new.self c.remove.new.self name _ None
    (c.replace-list.ensures.is name c.in-Ok.ensures.place) (c.remove.ensures name stands)
    in
    read-put levels_if without_last c.args.self.now.map c.remove.new.self name None gone (sym (ap without_last was ∙ c.if-pop.ensures))
