-- The compiled tests of the code, in rows, are lists of tests.
use Rattle.std.proofs.Common.{◌≡◌, Bool, not, ◌&&◌, ◌||◌, refl, ap, rules}
use Rattle.std.specs.Global.{Vec}
use Rattle.std.specs.List.{list_any, list_all}
use Rattle.lol_instructions.specs.Attributes.{TagAttributes}
use Rattle.lol_instructions.specs.Compounds.{both, either, opposite}
use Rattle.lol_instructions.specs.Compiled.{Sight, all_values, some_values, test_value, row_value, row_some_value, test_holds, row_holds, row_some_hold, predicate_value, predicate_holds}
use Rattle.lol_instructions.specs.declared.name_value.NameValue.{NameValue}
use Rattle.lol_instructions.specs.declared.compiled_predicate.CompiledTest.{CompiledTest, Row_of-CompiledPredicate, end_of-CompiledPredicate, more_of-CompiledPredicate, items-the_row-CompiledPredicate}
use Rattle.lol_instructions.specs.declared.compiled_predicate.CompiledTest.TheVariants.{NoneOf, SomeOf}
use Rattle.lol_instructions.specs.declared.compiled_predicate.CompiledTest.TheViews.{the_lemmas}
use Rattle.lol_instructions.specs.declared.compiled_predicate.CompiledTest.TheBlock.{shown-the_row-CompiledTest-0}
use Rattle.lol_instructions.specs.declared.compiled_predicate.CompiledPredicate.{CompiledPredicate, Row_of-CompiledTest, end_of-CompiledTest, more_of-CompiledTest, items-the_row-CompiledTest}

module _ (s : Sight) where
  -- the value by names of a test and of a predicate
  abbrev pub value_here : CompiledTest → NameValue
  value_here test = test_value test s

  abbrev pub value_of_predicate : CompiledPredicate → NameValue
  value_of_predicate predicate = predicate_value predicate s

  row_value-list : (n : _) (k : Row_of-CompiledTest n) → row_value k s ≡ all_values value_here (items-the_row-CompiledTest n k)
  row_value-list n end_of-CompiledTest = refl
  row_value-list n (more_of-CompiledTest {n = m} test rest) = ap (both (test_value test s)) (row_value-list m rest)

  row_some_value-list : (n : _) (k : Row_of-CompiledPredicate n) → row_some_value k s ≡ some_values value_of_predicate (items-the_row-CompiledPredicate n k)
  row_some_value-list n end_of-CompiledPredicate = refl
  row_some_value-list n (more_of-CompiledPredicate {n = m} shape tests rest) =
      let e : row_value tests s ≡ predicate_value (record { tests = shown-the_row-CompiledTest-0 shape tests }) s = search (rules, the_lemmas, row_value-list) in
      λ i. either (e i) (row_some_value-list m rest i)

  pub test_value-NoneOf : (v : Vec CompiledPredicate) → test_value (NoneOf v) s ≡ opposite (some_values value_of_predicate v.items)
  test_value-NoneOf v = search (rules, the_lemmas, row_some_value-list)

  pub test_value-SomeOf : (v : Vec CompiledPredicate) → test_value (SomeOf v) s ≡ some_values value_of_predicate v.items
  test_value-SomeOf v = search (rules, the_lemmas, row_some_value-list)

module _ (s : Sight) (a : TagAttributes) where
  -- whether an element passes a test, and a predicate
  abbrev pub passes : CompiledTest → Bool
  passes test = test_holds test s a

  abbrev pub passes_predicate : CompiledPredicate → Bool
  passes_predicate predicate = predicate_holds predicate s a

  row_holds-list : (n : _) (k : Row_of-CompiledTest n) → row_holds k s a ≡ list_all passes (items-the_row-CompiledTest n k)
  row_holds-list n end_of-CompiledTest = refl
  row_holds-list n (more_of-CompiledTest {n = m} test rest) = ap (λ (b : Bool). test_holds test s a && b) (row_holds-list m rest)

  row_some_hold-list : (n : _) (k : Row_of-CompiledPredicate n) → row_some_hold k s a ≡ list_any passes_predicate (items-the_row-CompiledPredicate n k)
  row_some_hold-list n end_of-CompiledPredicate = refl
  row_some_hold-list n (more_of-CompiledPredicate {n = m} shape tests rest) =
      let e : row_holds tests s a ≡ predicate_holds (record { tests = shown-the_row-CompiledTest-0 shape tests }) s a = search (rules, the_lemmas, row_holds-list) in
      λ i. e i || row_some_hold-list m rest i

  pub test_holds-NoneOf : (v : Vec CompiledPredicate) → test_holds (NoneOf v) s a ≡ not (list_any passes_predicate v.items)
  test_holds-NoneOf v = search (rules, the_lemmas, row_some_hold-list)

  pub test_holds-SomeOf : (v : Vec CompiledPredicate) → test_holds (SomeOf v) s a ≡ list_any passes_predicate v.items
  test_holds-SomeOf v = search (rules, the_lemmas, row_some_hold-list)
