-- What `==` of a node index is.
use Rattle.std.proofs.Common.{Bool, true, refl}
use Rattle.std.specs.Cmp.{IsEquivalence}

abbrev pub always : {A : Type 0} → A → A → Bool
always a b = true

pub always_equivalence : {A : Type 0} → IsEquivalence {K = A} always
always_equivalence = record { refl = λ x. refl; symm = λ x y. refl; congr = λ x y z same. refl }
