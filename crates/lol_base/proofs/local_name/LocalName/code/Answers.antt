use Rattle.std.proofs.Common.{◌∙◌, sym, ap}
use Rattle.lol_base.specs.LocalNames.{code_or_last}
use Rattle.lol_base.proofs.CodeLemmas.{hash_of_none, kept_code}
use Rattle.lol_base.proofs.local_name.LocalName.code.Goals as goal

pub returns-then-self : goal.returns-then-self
returns-then-self c =
    let kept = kept_code c.self.inside.code c.self.inside.kept c.self.invariant ∙ ap code_or_last c.self.view_is in
    sym (hash_of_none c.args.self.now (sym kept ∙ c.if-self.true))
