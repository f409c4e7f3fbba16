-- Bytes of a name.
use Rattle.std.proofs.Common.{◌≡◌, ℕ, ◌<◌, ◌+◌, ◌-◌, length, take, sym, ap, ◌∙◌, arith}
use Rattle.std.proofs.lemmas.List.{length-take-le}
use Rattle.lol_tags.specs.declared.attributes.AttributeReader.{AttributeReader}
use Rattle.lol_tags.specs.declared.state.State.TheVariants.{AttributeName}
use Rattle.lol_tags.proofs.AttributeNames.{first_of, name-run, name-given}
use Rattle.lol_tags.proofs.attributes.AttributeReader.skip_name.Goals as goal

pub returns-then-len-gt0-clause-after : goal.returns-then-len-gt0-clause-after
returns-then-len-gt0-clause-after c =
    let r : AttributeReader = c.args.self.now in
    let n = c.name_len-len.result in
    let name = take n c.args.rest.now in
    let len : length name ≡ n = length-take-le n c.args.rest.now c.name_len-len.ensures.within in
    let some : 0 < length name = omega (arith, c.if-len-gt0.true, len) in
    ap (λ (start : ℕ). record { state = AttributeName; at = r.at + n; name_start = start; name_end = r.at + n; value_start = r.at + n - 1 }) c.first-self.ensures
    ∙ ap (λ (m : ℕ). record { state = AttributeName; at = r.at + m; name_start = first_of r; name_end = r.at + m; value_start = r.at + m - 1 }) (sym len)
    ∙ sym (name-run r name some c.requires.name c.name_len-len.ensures.name)

pub returns-then-len-gt0-clause-none : goal.returns-then-len-gt0-clause-none
returns-then-len-gt0-clause-none c = name-given c.args.self.now (take c.name_len-len.result c.args.rest.now) c.requires.name c.name_len-len.ensures.name
