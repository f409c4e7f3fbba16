-- The bytes of a quoted value move the place alone, and end no attribute.
use Rattle.std.proofs.Common.{ℕ, ◌+◌, take, sym, ap, ◌∙◌}
use Rattle.std.proofs.lemmas.List.{length-take-le}
use Rattle.lol_tags.specs.declared.attributes.AttributeReader.{AttributeReader}
use Rattle.lol_tags.proofs.Quoted.{quoted-run, quoted-given}
use Rattle.lol_tags.proofs.attributes.AttributeReader.skip_quoted.Goals as goal

pub returns-clause-after : goal.returns-clause-after
returns-clause-after c =
    let n = c.idle_len-idle.result in
    let rest = c.args.rest.now in
    let r : AttributeReader = c.args.self.now in
    ap (λ (m : ℕ). record r { at = r.at + m }) (sym (length-take-le n rest c.idle_len-idle.ensures.within))
    ∙ sym (quoted-run r c.in-Some.quote (take n rest) (sym c.in-Some.ensures) c.idle_len-idle.ensures.lacks)

pub returns-clause-none : goal.returns-clause-none
returns-clause-none c =
    quoted-given c.args.self.now c.in-Some.quote (take c.idle_len-idle.result c.args.rest.now) (sym c.in-Some.ensures) c.idle_len-idle.ensures.lacks
