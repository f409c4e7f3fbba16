-- A value by names that isn't open is the truth: of tests turned round, both, and either.
use Rattle.std.proofs.Common.{Bool, true, false, not, ◌&&◌, ◌||◌, refl, ap}
use Rattle.lol_instructions.specs.Compounds.{value_of_bool, both, opposite, either, Decides}
use Rattle.lol_instructions.specs.declared.name_value.NameValue.{NameValue}
use Rattle.lol_instructions.specs.declared.name_value.NameValue.TheVariants.{True, False, Open}

pub decides_bool : (b : Bool) → Decides (value_of_bool b) b
decides_bool true = refl
decides_bool false = refl

pub decides_opposite : (v : NameValue) (b : Bool) → Decides v b → Decides (opposite v) (not b)
decides_opposite True b d = ap not d
decides_opposite False b d = ap not d
decides_opposite Open b d = tt

pub decides_both : (v w : NameValue) (a b : Bool) → Decides v a → Decides w b → Decides (both v w) (a && b)
decides_both False w a b d e = ap (λ (x : Bool). x && b) d
decides_both True True a b d e = λ i. d i && e i
decides_both True False a b d e = λ i. d i && e i
decides_both True Open a b d e = tt
decides_both Open True a b d e = tt
decides_both Open False true b d e = e
decides_both Open False false b d e = refl
decides_both Open Open a b d e = tt

pub decides_either : (v w : NameValue) (a b : Bool) → Decides v a → Decides w b → Decides (either v w) (a || b)
decides_either True w a b d e = ap (λ (x : Bool). x || b) d
decides_either False True a b d e = λ i. d i || e i
decides_either False False a b d e = λ i. d i || e i
decides_either False Open a b d e = tt
decides_either Open False a b d e = tt
decides_either Open True true b d e = refl
decides_either Open True false b d e = e
decides_either Open Open a b d e = tt
