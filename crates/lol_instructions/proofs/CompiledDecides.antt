-- Where the value by names of compiled tests isn't open, it is the truth.
use Rattle.std.proofs.Common.{◌≡◌, true, false, List, [], ◌∷◌, refl, subst}
use Rattle.std.specs.List.{list_all}
use Rattle.lol_instructions.specs.Attributes.{TagAttributes}
use Rattle.lol_instructions.specs.Compounds.{Decides}
use Rattle.lol_instructions.specs.Compiled.{Sight, name_expr_holds, all_values, test_value, row_value, row_some_value, test_holds, row_holds, row_some_hold, tests_in, predicate_value, predicate_holds}
use Rattle.lol_instructions.specs.declared.name_value.NameValue.{NameValue}
use Rattle.lol_instructions.specs.declared.name_value.NameValue.TheVariants.{True, False}
use Rattle.lol_instructions.specs.declared.compiled_predicate.CompiledTest.{CompiledTest, Name, Attribute, NoneOf', SomeOf', Row_of-CompiledPredicate, end_of-CompiledPredicate, more_of-CompiledPredicate}
use Rattle.lol_instructions.specs.declared.compiled_predicate.CompiledPredicate.{CompiledPredicate, Row_of-CompiledTest, end_of-CompiledTest, more_of-CompiledTest}
use Rattle.lol_instructions.specs.DecisionLaws.{decides_bool, decides_opposite, decides_both, decides_either}

module _ (s : Sight) (a : TagAttributes) where
  mutual
    test-decides : (test : CompiledTest) → Decides (test_value test s) (test_holds test s a)
    test-decides (Name expr) = decides_bool (name_expr_holds expr.test s)
    test-decides (Attribute expr) = tt
    test-decides (NoneOf' shape row) = decides_opposite (row_some_value row s) (row_some_hold row s a) (some-decides row)
    test-decides (SomeOf' shape row) = some-decides row

    row-decides : {m : _} (row : Row_of-CompiledTest m) → Decides (row_value row s) (row_holds row s a)
    row-decides end_of-CompiledTest = refl
    row-decides (more_of-CompiledTest test rest) = decides_both (test_value test s) (row_value rest s) (test_holds test s a) (row_holds rest s a) (test-decides test) (row-decides rest)

    some-decides : {m : _} (row : Row_of-CompiledPredicate m) → Decides (row_some_value row s) (row_some_hold row s a)
    some-decides end_of-CompiledPredicate = refl
    some-decides (more_of-CompiledPredicate shape tests rest) = decides_either (row_value tests s) (row_some_value rest s) (row_holds tests s a) (row_some_hold rest s a) (row-decides tests) (some-decides rest)

  tests-decide : (tests : List CompiledTest) → Decides (all_values (λ test. test_value test s) tests) (list_all (λ test. test_holds test s a) tests)
  tests-decide [] = refl
  tests-decide (test ∷ tests) =
      decides_both (test_value test s) (all_values (λ test. test_value test s) tests) (test_holds test s a) (list_all (λ test. test_holds test s a) tests) (test-decides test) (tests-decide tests)

  pub predicate_decides : (predicate : CompiledPredicate) → Decides (predicate_value predicate s) (predicate_holds predicate s a)
  predicate_decides predicate = tests-decide (tests_in predicate)

  pub holds_if_true : (predicate : CompiledPredicate) → predicate_value predicate s ≡ True → predicate_holds predicate s a ≡ true
  holds_if_true predicate is = subst (λ (v : NameValue). Decides v (predicate_holds predicate s a)) is (predicate_decides predicate)

  pub fails_if_false : (predicate : CompiledPredicate) → predicate_value predicate s ≡ False → predicate_holds predicate s a ≡ false
  fails_if_false predicate is = subst (λ (v : NameValue). Decides v (predicate_holds predicate s a)) is (predicate_decides predicate)
