use Rattle.lol_css.specs.CaselessAttributes.{caseless_attributes}
use Rattle.lol_css.proofs.selectors.attributes.is_caseless.Goals as goal

pub returns : goal.returns
unfolding caseless_attributes
returns c = c.is_among.ensures
