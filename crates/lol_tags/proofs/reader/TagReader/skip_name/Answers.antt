-- Bytes of a name.
use Rattle.std.proofs.Common.{◌≡◌, ℕ, ◌<◌, ◌+◌, length, take, sym, ap, ◌∙◌, arith}
use Rattle.std.proofs.lemmas.List.{length-take-le}
use Rattle.lol_tags.specs.declared.reader.TagReader.{TagReader}
use Rattle.lol_tags.specs.declared.state.State.TheVariants.{AttributeName}
use Rattle.lol_tags.proofs.Names.{name-run, name-tags}
use Rattle.lol_tags.proofs.reader.TagReader.skip_name.Goals as goal

pub returns-then-len-gt0-clause-after : goal.returns-then-len-gt0-clause-after
returns-then-len-gt0-clause-after c =
    let r : TagReader = c.args.self.now in
    let n = c.name_len-len.result in
    let name = take n c.args.rest.now in
    let len : length name ≡ n = length-take-le n c.args.rest.now c.name_len-len.ensures.within in
    let some : 0 < length name = omega (arith, c.if-len-gt0.true, len) in
    ap (λ (m : ℕ). record r { state = AttributeName; at = r.at + m }) (sym len) ∙ sym (name-run r name some c.requires.name c.name_len-len.ensures.name)

pub returns-then-len-gt0-clause-tags : goal.returns-then-len-gt0-clause-tags
returns-then-len-gt0-clause-tags c = name-tags c.args.self.now (take c.name_len-len.result c.args.rest.now) c.requires.name c.name_len-len.ensures.name
