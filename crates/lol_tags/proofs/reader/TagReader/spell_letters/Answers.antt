-- Letters of a name.
use Rattle.std.proofs.Common.{◌≡◌, ℕ, ◌<◌, ◌+◌, length, take, sym, ap, ◌∙◌, arith}
use Rattle.std.proofs.lemmas.List.{length-take-le}
use Rattle.std.specs.Prelude.{fold}
use Rattle.lol_tags.specs.Reading.{with_byte}
use Rattle.lol_tags.specs.declared.reader.TagReader.{TagReader}
use Rattle.lol_tags.specs.declared.state.State.TheVariants.{TagName}
use Rattle.lol_tags.proofs.Names.{letters-run, letters-tags}
use Rattle.lol_tags.proofs.reader.TagReader.spell_letters.Goals as goal

pub returns-then-len-gt0-clause-after : goal.returns-then-len-gt0-clause-after
returns-then-len-gt0-clause-after c =
    let r : TagReader = c.args.self.now in
    let n = c.letters-len.result.0 in
    let name = take n c.args.rest.now in
    let len : length name ≡ n = length-take-le n c.args.rest.now c.letters-len.ensures.within in
    let some : 0 < length name = omega (arith, c.if-len-gt0.true, len) in
    ap (λ (code : ℕ). record r { state = TagName; code = code; name_end = r.at + n; at = r.at + n }) c.letters-len.ensures.code
    ∙ ap (λ (m : ℕ). record r { state = TagName; code = fold with_byte r.code name; name_end = r.at + m; at = r.at + m }) (sym len)
    ∙ sym (letters-run r name some c.requires.name c.letters-len.ensures.letters)

pub returns-then-len-gt0-clause-tags : goal.returns-then-len-gt0-clause-tags
returns-then-len-gt0-clause-tags c = letters-tags c.args.self.now (take c.letters-len.result.0 c.args.rest.now) c.requires.name c.letters-len.ensures.letters
