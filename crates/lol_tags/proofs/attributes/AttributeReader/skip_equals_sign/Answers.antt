-- An equals sign and a quote.
use Rattle.std.proofs.Common.{ap, sym, ◌∙◌}
use Rattle.lol_tags.specs.Runs.{run, given}
use Rattle.lol_tags.specs.Attributes.{attribute_step, attribute_ended}
use Rattle.lol_tags.proofs.Names.{is-name}
use Rattle.lol_tags.proofs.AttributeNames.{quote-run, quote-given}
use Rattle.lol_tags.proofs.attributes.AttributeReader.skip_equals_sign.Goals as goal

pub returns-then-begins_quoted-clause-after : goal.returns-then-begins_quoted-clause-after
returns-then-begins_quoted-clause-after c =
    let name = is-name c.args.self.now.state (sym c.is_attribute_name.ensures ∙ c.if-is_attribute_name.true) in
    sym (ap (run attribute_step c.args.self.now) (c.begins_quoted.ensures c.if-begins_quoted.true) ∙ quote-run c.args.self.now name)

pub returns-then-begins_quoted-clause-none : goal.returns-then-begins_quoted-clause-none
returns-then-begins_quoted-clause-none c =
    let name = is-name c.args.self.now.state (sym c.is_attribute_name.ensures ∙ c.if-is_attribute_name.true) in
    ap (given attribute_step attribute_ended c.args.self.now) (c.begins_quoted.ensures c.if-begins_quoted.true) ∙ quote-given c.args.self.now name
