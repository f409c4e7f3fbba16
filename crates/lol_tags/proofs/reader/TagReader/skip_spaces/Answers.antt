-- Spaces move the place alone.
use Rattle.std.proofs.Common.{ℕ, ◌+◌, take, sym, ap, ◌∙◌}
use Rattle.std.proofs.lemmas.List.{length-take-le}
use Rattle.lol_tags.specs.declared.reader.TagReader.{TagReader}
use Rattle.lol_tags.proofs.Names.{spaces-run, spaces-tags}
use Rattle.lol_tags.proofs.reader.TagReader.skip_spaces.Goals as goal

pub returns-clause-after : goal.returns-clause-after
returns-clause-after c =
    let n = c.space_len-len.result in
    let r : TagReader = c.args.self.now in
    ap (λ (m : ℕ). record r { at = r.at + m }) (sym (length-take-le n c.args.rest.now c.space_len-len.ensures.within))
    ∙ sym (spaces-run r (take n c.args.rest.now) c.requires.before c.space_len-len.ensures.spaces)

pub returns-clause-tags : goal.returns-clause-tags
returns-clause-tags c = spaces-tags c.args.self.now (take c.space_len-len.result c.args.rest.now) c.requires.before c.space_len-len.ensures.spaces
