-- What a hasher was given after some tests, or some compounds.
use Rattle.std.proofs.Common.{◌≡◌, List, [], ◌∷◌, refl}
use Rattle.std.specs.Prelude.{fold}
use Rattle.std.specs.declared.hash.DefaultHasher.{DefaultHasher}
use Rattle.lol_instructions.specs.Compounds.{Test, Compound, all_of, any_of}
use Rattle.lol_program.specs.NodeKeys.{byte_hashed, test_hashed, compound_hashed, compounds_hashed}

pub all_hashed : (hasher : DefaultHasher) (tests : List Test) → compound_hashed hasher (all_of tests) ≡ byte_hashed (fold test_hashed hasher tests) 255
all_hashed hasher [] = refl
all_hashed hasher (test ∷ tests) = all_hashed (test_hashed hasher test) tests

pub any_hashed : (hasher : DefaultHasher) (compounds : List Compound) → compounds_hashed hasher (any_of compounds) ≡ byte_hashed (fold compound_hashed hasher compounds) 255
any_hashed hasher [] = refl
any_hashed hasher (compound ∷ compounds) = any_hashed (compound_hashed hasher compound) compounds
