use Rattle.std.proofs.Common.{◌∙◌, sym, ap}
use Rattle.lol_stack.specs.Levels.{without_last}
use Rattle.lol_stack.specs.OpenDepths.{depths_if}
use Rattle.lol_stack.proofs.OpenNameLemmas.{read-same}
use Rattle.lol_stack.proofs.open_names.OpenNames.remove.Goals as goal

pub returns-in_default : goal.returns-in_default
returns-in_default c =
    let none = ap depths_if c.in_default.ensures.missing in
    read-same depths_if without_last c.args.self.now.map c.args.name.now (ap without_last none ∙ sym none)

pub returns-in-Ok : goal.returns-in-Ok
returns-in-Ok c q = c.remove_at.ensures c.args.name.now q c.in-Ok.ensures.place
