-- What the value by names says of the truth.
use Rattle.std.proofs.Common.{◌≡◌, Bool, List, refl, ap, subst}
use Rattle.lol_base.specs.StartTags.{Attribute}
use Rattle.lol_instructions.specs.Tests.{Element, NameTest, name_holds, AnyName, NoName, HasName, IsNthChild, IsNthOfType}
use Rattle.lol_instructions.specs.Compounds.{Test, OfName, OfAttributes, NoneOf, SomeOf, Compound, NoTests, AndTest, Compounds, NoCompounds, OrCompound, holds, all_hold, some_hold, value_of_bool, both, opposite, either, test_by_names, by_names, some_by_names, with_rest, Decides}
use Rattle.lol_instructions.specs.DecisionLaws.{decides_bool, decides_opposite, decides_both, decides_either}
use Rattle.lol_program.specs.Laws.{ValuesDecide, ValuesAreByNames}
use Rattle.lol_instructions.specs.declared.name_value.NameValue.{NameValue}

-- 1. The rest of the tag

name_holds-rest : (test : NameTest) (e : Element) (attributes : List Attribute) (self_closing finish : Bool) → name_holds test (with_rest e attributes self_closing finish) ≡ name_holds test e
name_holds-rest AnyName e attributes self_closing finish = refl
name_holds-rest NoName e attributes self_closing finish = refl
name_holds-rest (HasName name) e attributes self_closing finish = refl
name_holds-rest (IsNthChild nth) e attributes self_closing finish = refl
name_holds-rest (IsNthOfType nth) e attributes self_closing finish = refl

module _ (e : Element) (attributes : List Attribute) (self_closing finish : Bool) where
  mutual
    test-rest : (test : Test) → test_by_names test (with_rest e attributes self_closing finish) ≡ test_by_names test e
    test-rest (OfName test) = ap value_of_bool (name_holds-rest test e attributes self_closing finish)
    test-rest (OfAttributes test) = refl
    test-rest (NoneOf compounds) = ap opposite (some-rest compounds)
    test-rest (SomeOf compounds) = some-rest compounds

    compound-rest : (c : Compound) → by_names c (with_rest e attributes self_closing finish) ≡ by_names c e
    compound-rest NoTests = refl
    compound-rest (AndTest test tests) = λ i. both (test-rest test i) (compound-rest tests i)

    some-rest : (cs : Compounds) → some_by_names cs (with_rest e attributes self_closing finish) ≡ some_by_names cs e
    some-rest NoCompounds = refl
    some-rest (OrCompound c cs) = λ i. either (compound-rest c i) (some-rest cs i)

pub values_are_by_names : ValuesAreByNames
values_are_by_names c e attributes self_closing finish = compound-rest e attributes self_closing finish c

-- 2. What isn't open decides

module _ (e : Element) where
  mutual
    test-decides : (test : Test) → Decides (test_by_names test e) (holds test e)
    test-decides (OfName test) = decides_bool (name_holds test e)
    test-decides (OfAttributes test) = tt
    test-decides (NoneOf compounds) = decides_opposite (some_by_names compounds e) (some_hold compounds e) (some-decides compounds)
    test-decides (SomeOf compounds) = some-decides compounds

    compound-decides : (c : Compound) → Decides (by_names c e) (all_hold c e)
    compound-decides NoTests = refl
    compound-decides (AndTest test tests) = decides_both (test_by_names test e) (by_names tests e) (holds test e) (all_hold tests e) (test-decides test) (compound-decides tests)

    some-decides : (cs : Compounds) → Decides (some_by_names cs e) (some_hold cs e)
    some-decides NoCompounds = refl
    some-decides (OrCompound c cs) = decides_either (by_names c e) (some_by_names cs e) (all_hold c e) (some_hold cs e) (compound-decides c) (some-decides cs)

pub values_decide : ValuesDecide
values_decide c e attributes self_closing finish =
    let other = with_rest e attributes self_closing finish in
    along (by_names c other) (by_names c e) (values_are_by_names c e attributes self_closing finish) (compound-decides other c)
  where
    along : (v w : NameValue) → v ≡ w → Decides v (all_hold c (with_rest e attributes self_closing finish)) → Decides w (all_hold c (with_rest e attributes self_closing finish))
    along v w same d = let P : NameValue → Type 0 = λ x. Decides x (all_hold c (with_rest e attributes self_closing finish)) in subst P same d
