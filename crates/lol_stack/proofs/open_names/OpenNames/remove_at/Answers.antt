use Rattle.std.proofs.Common.{◌∙◌, sym, ap, Some, None}
use Rattle.lol_stack.specs.Levels.{without_last}
use Rattle.lol_stack.specs.OpenDepths.{depths_if}
use Rattle.lol_stack.proofs.OpenNameLemmas.{put-twice, read-put}
use Rattle.lol_stack.proofs.open_names.OpenNames.remove_at.Goals as goal

pub returns-then-pop : goal.returns-then-pop
returns-then-pop c name q stands =
    let was = ap depths_if (c.replace-depths.ensures.was name stands) in
    let put =
    put-twice c.args.self.now.map c.replace-depths.new.self c.replace.new.self name _ (Some c.pop.new.self)
    (c.replace-depths.ensures.is name stands) (c.replace.ensures.is name (c.replace-depths.ensures.stands name stands))
    in
    read-put depths_if without_last c.args.self.now.map c.replace.new.self name (Some c.pop.new.self) put (c.if-pop.ensures ∙ sym (ap without_last was)) q

pub returns-else-pop : goal.returns-else-pop
returns-else-pop c name q stands =
    let was = ap depths_if (c.replace-depths.ensures.was name stands) in
    let gone =
    put-twice c.args.self.now.map c.replace-depths.new.self c.remove.new.self name _ None
    (c.replace-depths.ensures.is name stands) (c.remove.ensures name (c.replace-depths.ensures.stands name stands))
    in
    read-put depths_if without_last c.args.self.now.map c.remove.new.self name None gone (sym (ap without_last was ∙ c.if-pop.ensures)) q
