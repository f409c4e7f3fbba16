use Rattle.std.proofs.Common.{◌∙◌}
use Rattle.lol_script.proofs.Fields.{bare_or_none}
use Rattle.lol_script.proofs.lines.other_line.Goals as goal

pub returns-in_default-after_kind-3-clause-said : goal.returns-in_default-after_kind-3-clause-said
returns-in_default-after_kind-3-clause-said c = λ no_start no_end.
    c.bare_line.ensures.said
    ∙ bare_or_none c.args.bytes.now no_start no_end c.in_default-after_kind.ensures.none c.in_default.ensures.none c.in_default-after_kind-2.ensures.none c.in_default-after_kind-3.ensures.none
