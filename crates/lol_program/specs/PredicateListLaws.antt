-- What lists of predicates stand for, by the lists of their members.
use Rattle.std.proofs.Common.{◌≡◌, map, refl, ap, rules}
use Rattle.std.specs.Global.{Vec}
use Rattle.lol_instructions.specs.Compounds as compounds
use Rattle.lol_instructions.specs.Compounds.{AndTest, Compounds, OrCompound, all_of, any_of}
use Rattle.lol_program.specs.Predicates.{test_shown, row_tests, row_compounds, tests_of}
use Rattle.lol_program.specs.declared.predicate.Test.{Row_of-Predicate, end_of-Predicate, more_of-Predicate, items-the_row-Predicate}
use Rattle.lol_program.specs.declared.predicate.Test.TheVariants.{NoneOf, SomeOf}
use Rattle.lol_program.specs.declared.predicate.Test.TheViews.{the_lemmas}
use Rattle.lol_program.specs.declared.predicate.Test.TheBlock.{shown-the_row-Test-0}
use Rattle.lol_program.specs.declared.predicate.Predicate.{Predicate, Row_of-Test, end_of-Test, more_of-Test, items-the_row-Test}

row_tests-list : (n : _) (k : Row_of-Test n) → row_tests k ≡ all_of (map test_shown (items-the_row-Test n k))
row_tests-list n end_of-Test = refl
row_tests-list n (more_of-Test {n = m} test rest) = ap (AndTest (test_shown test)) (row_tests-list m rest)

row_compounds-list : (n : _) (k : Row_of-Predicate n) → row_compounds k ≡ any_of (map tests_of (items-the_row-Predicate n k))
row_compounds-list n end_of-Predicate = refl
row_compounds-list n (more_of-Predicate {n = m} shape tests rest) =
    let e : row_tests tests ≡ tests_of (record { tests = shown-the_row-Test-0 shape tests }) = search (rules, the_lemmas, row_tests-list) in
    λ i. OrCompound (e i) (row_compounds-list m rest i)

pub test_shown-NoneOf : (v : Vec Predicate) → test_shown (NoneOf v) ≡ compounds.NoneOf (any_of (map tests_of v.items))
test_shown-NoneOf v = search (rules, the_lemmas, row_compounds-list)

pub test_shown-SomeOf : (v : Vec Predicate) → test_shown (SomeOf v) ≡ compounds.SomeOf (any_of (map tests_of v.items))
test_shown-SomeOf v = search (rules, the_lemmas, row_compounds-list)
