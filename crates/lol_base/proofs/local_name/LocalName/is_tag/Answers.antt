use Rattle.std.proofs.Common.{◌≡◌, subst, sym}
use Rattle.std.specs.Bool.{Decides}
use Rattle.lol_base.specs.Tags.{tag_name}
use Rattle.lol_base.proofs.CodeLemmas.{code_tells}
use Rattle.lol_base.proofs.local_name.LocalName.is_tag.Goals as goal

pub returns : goal.returns
returns c =
    let lower = c.args.self.now.lowercased in
    subst (λ r. Decides r (lower ≡ tag_name c.args.tag)) (sym c.eq.ensures)
    (code_tells c.code.result lower (tag_name c.args.tag) c.code-2.result c.code.ensures c.code-2.ensures)
