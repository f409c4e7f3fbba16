-- What an element passes, test by test.
use Rattle.std.proofs.Common.{◌≡◌, Bool, ◌&&◌, ◌||◌, List, [], ◌∷◌, ◌++◌, map, refl, sym, ap, ◌∙◌}
use Rattle.std.specs.List.{list_all, list_any}
use Rattle.lol_instructions.specs.Tests.{Element}
use Rattle.lol_instructions.specs.Compounds as compounds
use Rattle.lol_instructions.specs.Compounds.{all_of, any_of, holds, all_hold, some_hold, both, either, test_by_names, by_names, some_by_names}
use Rattle.lol_instructions.specs.declared.name_value.NameValue.{NameValue}
use Rattle.lol_instructions.specs.declared.name_value.NameValue.TheVariants.{True, False, Open}
use Rattle.lol_program.specs.Predicates.{test_shown, tests_of}
use Rattle.lol_program.specs.declared.predicate.Test.{Test}
use Rattle.lol_program.specs.declared.predicate.Predicate.{Predicate}

abbrev pub passes : Element → Test → Bool
passes e test = holds (test_shown test) e

abbrev pub passes_all : Element → Predicate → Bool
passes_all e predicate = all_hold (tests_of predicate) e

pub all_hold-list : (e : Element) (tests : List Test) → all_hold (all_of (map test_shown tests)) e ≡ list_all (passes e) tests
all_hold-list e [] = refl
all_hold-list e (test ∷ tests) = ap (λ (b : Bool). passes e test && b) (all_hold-list e tests)

pub some_hold-list : (e : Element) (predicates : List Predicate) → some_hold (any_of (map tests_of predicates)) e ≡ list_any (passes_all e) predicates
some_hold-list e [] = refl
some_hold-list e (predicate ∷ predicates) = ap (λ (b : Bool). passes_all e predicate || b) (some_hold-list e predicates)

-- 2. Values by names, with one test or compound more

both-both : (a b c : NameValue) → both (both a b) c ≡ both a (both b c)
both-both True b c = refl
both-both False b c = refl
both-both Open True True = refl
both-both Open True False = refl
both-both Open True Open = refl
both-both Open False c = refl
both-both Open Open True = refl
both-both Open Open False = refl
both-both Open Open Open = refl

either-either : (a b c : NameValue) → either (either a b) c ≡ either a (either b c)
either-either True b c = refl
either-either False b c = refl
either-either Open True c = refl
either-either Open False True = refl
either-either Open False False = refl
either-either Open False Open = refl
either-either Open Open True = refl
either-either Open Open False = refl
either-either Open Open Open = refl

both-True : (a : NameValue) → a ≡ both a True
both-True True = refl
both-True False = refl
both-True Open = refl

either-False : (a : NameValue) → a ≡ either a False
either-False True = refl
either-False False = refl
either-False Open = refl

pub by_names-push : (e : Element) (tests : List compounds.Test) (test : compounds.Test) → by_names (all_of (tests ++ test ∷ [])) e ≡ both (by_names (all_of tests) e) (test_by_names test e)
by_names-push e [] test = sym (both-True (test_by_names test e))
by_names-push e (first ∷ tests) test = ap (both (test_by_names first e)) (by_names-push e tests test) ∙ sym (both-both (test_by_names first e) (by_names (all_of tests) e) (test_by_names test e))

pub some_by_names-push : (e : Element) (all : List compounds.Compound) (one : compounds.Compound) → some_by_names (any_of (all ++ one ∷ [])) e ≡ either (some_by_names (any_of all) e) (by_names one e)
some_by_names-push e [] one = sym (either-False (by_names one e))
some_by_names-push e (first ∷ all) one = ap (either (by_names first e)) (some_by_names-push e all one) ∙ sym (either-either (by_names first e) (some_by_names (any_of all) e) (by_names one e))
