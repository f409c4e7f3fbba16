-- An ampersand was found, or there is none.
use Rattle.std.proofs.Common.{◌∙◌, sym}
use Rattle.lol_references.proofs.Pieces.{any_found, unless_some}
use Rattle.lol_references.proofs.decode.has_ampersand.Goals as goal

pub returns : goal.returns
returns c = record {
  ampersand = c.is_some.ensures ∙ any_found c.args.value.now c.memchr.result c.memchr.ensures;
  plain = λ h. unless_some c.args.value.now c.memchr.result c.memchr.ensures (sym c.is_some.ensures ∙ h);
}
