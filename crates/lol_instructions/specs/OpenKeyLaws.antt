-- How it is told, test by test, whether tests are known to be open.
use Rattle.std.proofs.Common.{◌≡◌, Bool, true, false, not, List, [], ◌∷◌, filter, refl}
use Rattle.std.specs.List.{list_all}
use Rattle.lol_instructions.specs.Keys.{KeyTest, IsAny, IsNamed, HasKey, IsOfAttributes, SaysNothing, is_of_attributes, is_of_any, are_of_attributes, without_name, opens_where_named}

-- whether tests are open, where a name or a test of attributes may stand before them
abbrev pub opens_after : (is_named opens : Bool) → List KeyTest → Bool
opens_after is_named opens [] = opens
opens_after is_named opens (IsAny ∷ tests) = opens_after is_named opens tests
opens_after false opens (IsNamed name ∷ tests) = opens_after true opens tests
opens_after true opens (IsNamed name ∷ tests) = false
opens_after is_named opens (HasKey key ∷ tests) = opens_after is_named true tests
opens_after is_named opens (IsOfAttributes ∷ tests) = opens_after is_named true tests
opens_after is_named opens (SaysNothing ∷ tests) = false

-- the tests but `*`
abbrev but_any : List KeyTest → List KeyTest
but_any tests = filter (λ test. not (is_of_any test)) tests

-- what is left of them after a name or before one
abbrev left_of : Bool → List KeyTest → List KeyTest
left_of true tests = but_any tests
left_of false tests = without_name (but_any tests)

abbrev said : (opens : Bool) → List KeyTest → Bool
said true tests = list_all is_of_attributes tests
said false tests = are_of_attributes tests

opens_as_said : (is_named opens : Bool) (tests : List KeyTest) → opens_after is_named opens tests ≡ said opens (left_of is_named tests)
opens_as_said true true [] = refl
opens_as_said true false [] = refl
opens_as_said false true [] = refl
opens_as_said false false [] = refl
opens_as_said true opens (IsAny ∷ tests) = opens_as_said true opens tests
opens_as_said false opens (IsAny ∷ tests) = opens_as_said false opens tests
opens_as_said false opens (IsNamed name ∷ tests) = opens_as_said true opens tests
opens_as_said true true (IsNamed name ∷ tests) = refl
opens_as_said true false (IsNamed name ∷ tests) = refl
opens_as_said true true (HasKey key ∷ tests) = opens_as_said true true tests
opens_as_said true false (HasKey key ∷ tests) = opens_as_said true true tests
opens_as_said false true (HasKey key ∷ tests) = opens_as_said false true tests
opens_as_said false false (HasKey key ∷ tests) = opens_as_said false true tests
opens_as_said true true (IsOfAttributes ∷ tests) = opens_as_said true true tests
opens_as_said true false (IsOfAttributes ∷ tests) = opens_as_said true true tests
opens_as_said false true (IsOfAttributes ∷ tests) = opens_as_said false true tests
opens_as_said false false (IsOfAttributes ∷ tests) = opens_as_said false true tests
opens_as_said true true (SaysNothing ∷ tests) = refl
opens_as_said true false (SaysNothing ∷ tests) = refl
opens_as_said false true (SaysNothing ∷ tests) = refl
opens_as_said false false (SaysNothing ∷ tests) = refl

pub opens_from_start : (tests : List KeyTest) → opens_after false false tests ≡ opens_where_named tests
opens_from_start tests = opens_as_said false false tests
