-- Idle bytes move the place alone, and end no tag.
use Rattle.std.proofs.Common.{ℕ, ◌+◌, take, sym, ap, ◌∙◌}
use Rattle.std.proofs.lemmas.List.{length-take-le}
use Rattle.lol_tags.specs.declared.reader.TagReader.{TagReader}
use Rattle.lol_tags.proofs.Idle.{idle-run, idle-tags}
use Rattle.lol_tags.proofs.reader.TagReader.skip_idle.Goals as goal

pub returns-clause-after : goal.returns-clause-after
returns-clause-after c =
    let n = c.idle_len-idle.result in
    let rest = c.args.rest.now in
    let r : TagReader = c.args.self.now in
    ap (λ (m : ℕ). record r { at = r.at + m }) (sym (length-take-le n rest c.idle_len-idle.ensures.within))
    ∙ sym (idle-run r c.in-Some.stop (take n rest) (sym c.in-Some.ensures) c.idle_len-idle.ensures.lacks)

pub returns-clause-tags : goal.returns-clause-tags
returns-clause-tags c =
    idle-tags c.args.self.now c.in-Some.stop (take c.idle_len-idle.result c.args.rest.now) (sym c.in-Some.ensures) c.idle_len-idle.ensures.lacks
