use Rattle.std.proofs.Common.{refl}
use Rattle.lol_program.proofs.laws.worked_compounds.Goals as goal

pub returns : goal.returns
returns c = record {
  no_namespace = refl;
  neither = refl;
  not_neither = refl;
  mixed = refl;
  either_of = refl;
  is_and_where = refl;
  is_and_name = refl;
  order_counts = refl;
  not_not = refl;
}
