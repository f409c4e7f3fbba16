use Rattle.std.proofs.Common.{◌∙◌, sym, ap, is_some}
use Rattle.lol_base.specs.LocalNames.{Name, is_hash}
use Rattle.lol_stack.proofs.EsiNames.{is_esi-hash}
use Rattle.lol_stack.proofs.directive.is_esi.Goals as goal

pub returns-in-None : goal.returns-in-None
returns-in-None c bytes is =
    let hash = c.in-None.ensures.hash.0 (ap is_some (sym c.in-None.ensures.value)) in
    sym (is_esi-hash bytes (ap (λ (n : Name). is_hash n.lowercased) (sym is) ∙ hash))
