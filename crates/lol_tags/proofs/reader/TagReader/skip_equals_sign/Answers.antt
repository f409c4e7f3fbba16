-- An equals sign and a quote.
use Rattle.std.proofs.Common.{ap, sym, ◌∙◌}
use Rattle.lol_tags.specs.Reading.{after, tags_from}
use Rattle.lol_tags.proofs.Names.{is-name, quote-run, quote-tags}
use Rattle.lol_tags.proofs.reader.TagReader.skip_equals_sign.Goals as goal

pub returns-then-begins_quoted-clause-after : goal.returns-then-begins_quoted-clause-after
returns-then-begins_quoted-clause-after c =
    let name = is-name c.args.self.now.state (sym c.is_attribute_name.ensures ∙ c.if-is_attribute_name.true) in
    sym (ap (after c.args.self.now) (c.begins_quoted.ensures c.if-begins_quoted.true) ∙ quote-run c.args.self.now name)

pub returns-then-begins_quoted-clause-tags : goal.returns-then-begins_quoted-clause-tags
returns-then-begins_quoted-clause-tags c =
    ap (tags_from c.args.self.now) (c.begins_quoted.ensures c.if-begins_quoted.true) ∙ quote-tags c.args.self.now
