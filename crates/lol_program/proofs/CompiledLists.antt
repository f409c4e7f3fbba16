-- Compiled tests stand for tests, one for one.
use Rattle.std.proofs.Common.{◌≡◌, Bool, true, false, not, ◌||◌, ◌&&◌, List, [], ◌∷◌, ◌++◌, refl, sym, ap, ◌∙◌, subst}
use Rattle.std.proofs.lemmas.List.{append-nil}
use Rattle.std.specs.Global.{Vec}
use Rattle.lol_base.specs.BoolLaws.{or-right_true}
use Rattle.lol_instructions.specs.Compounds as compounds
use Rattle.lol_instructions.specs.Compounds.{Compound, both, either, all_of, any_of}
use Rattle.lol_instructions.specs.Attributes.{tag_attributes}
use Rattle.lol_instructions.specs.Compiled.{sight_of, tests_in}
use Rattle.lol_program.specs.Compiling.{IsCompiledTest, AreCompiledTests, AreCompiledPredicates}
use Rattle.lol_instructions.specs.declared.compiled_predicate.CompiledTest.{CompiledTest}
use Rattle.lol_instructions.specs.declared.compiled_predicate.CompiledTest.TheVariants.{NoneOf, SomeOf}
use Rattle.lol_instructions.specs.declared.compiled_predicate.CompiledPredicate.{CompiledPredicate}
use Rattle.lol_instructions.specs.CompiledRowLaws.{test_value-NoneOf, test_value-SomeOf, test_holds-NoneOf, test_holds-SomeOf}

-- 1. One for one

abbrev pub Pairwise : {A B : Type 0} → (A → B → Type 0) → List A → List B → Type 0
Pairwise R [] [] = Unit {0}
Pairwise R [] (y ∷ ys) = ⊥
Pairwise R (x ∷ xs) [] = ⊥
Pairwise R (x ∷ xs) (y ∷ ys) = R x y × Pairwise R xs ys

-- with further ones for what is left, those that are done make all
abbrev pub Completes : {A B : Type 0} → (A → B → Type 0) → List A → List B → List B → Type 0
Completes {A} R done left all = (more : List A) → Pairwise R more left → Pairwise R (done ++ more) all

pub completes_all : {A B : Type 0} (R : A → B → Type 0) (done : List A) (left all : List B) → left ≡ [] → Completes R done left all → Pairwise R done all
completes_all R done left all none h = subst (λ l. Pairwise R l all) (append-nil done) (h [] (subst (Pairwise R []) (sym none) tt))

-- 2. What they stand for

pub tests_compiled : (compiled : List CompiledTest) (tests : List compounds.Test) → Pairwise IsCompiledTest compiled tests → AreCompiledTests compiled (all_of tests)
tests_compiled [] [] h = λ by_type serves e. (refl, refl)
tests_compiled [] (t ∷ tests) h = absurd h
tests_compiled (x ∷ compiled) [] h = absurd h
tests_compiled (x ∷ compiled) (t ∷ tests) h = λ by_type serves e.
    let first = h.0 by_type (λ y. serves (ap (λ (b : Bool). b || compounds.has_test_by_type (all_of tests)) y)) e in
    let others = tests_compiled compiled tests h.1 by_type (λ y. serves (or-right_true (compounds.test_has_type t) _ y)) e in
    (λ i. both (first.0 i) (others.0 i), λ i. first.1 i && others.1 i)

abbrev pub IsCompiledPredicate : CompiledPredicate → Compound → Type 0
IsCompiledPredicate compiled compound = AreCompiledTests (tests_in compiled) compound

pub predicates_compiled : (compiled : List CompiledPredicate) (compounds : List Compound) → Pairwise IsCompiledPredicate compiled compounds → AreCompiledPredicates compiled (any_of compounds)
predicates_compiled [] [] h = λ by_type serves e. (refl, refl)
predicates_compiled [] (c ∷ cs) h = absurd h
predicates_compiled (x ∷ compiled) [] h = absurd h
predicates_compiled (x ∷ compiled) (c ∷ cs) h = λ by_type serves e.
    let first = h.0 by_type (λ y. serves (ap (λ (b : Bool). b || compounds.some_has_type (any_of cs)) y)) e in
    let others = predicates_compiled compiled cs h.1 by_type (λ y. serves (or-right_true (compounds.has_test_by_type c) _ y)) e in
    (λ i. either (first.0 i) (others.0 i), λ i. first.1 i || others.1 i)

-- 3. Flags

pub or_assoc : (a b c : Bool) → ((a || b) || c) ≡ (a || (b || c))
or_assoc true b c = refl
or_assoc false b c = refl

-- a flag that is set where the next one asks for it, or one of those that are left
pub flag_more : (flag flag' here others all : Bool) → flag' ≡ (flag || here) → (flag || (here || others)) ≡ all → (flag' || others) ≡ all
flag_more flag flag' here others all is h = ap (λ (b : Bool). b || others) is ∙ or_assoc flag here others ∙ h

-- 4. Lists inside

pub none_compiled : (test : compounds.Test) (cs : compounds.Compounds) (v : Vec CompiledPredicate) → test ≡ compounds.NoneOf cs → AreCompiledPredicates v.items cs → IsCompiledTest (NoneOf v) test
none_compiled test cs v is h = subst (IsCompiledTest (NoneOf v)) (sym is) (λ by_type serves e.
    let inside = h by_type serves e in
    (test_value-NoneOf (sight_of by_type e) v ∙ ap compounds.opposite inside.0, test_holds-NoneOf (sight_of by_type e) (tag_attributes e.tag) v ∙ ap not inside.1))

pub some_compiled : (test : compounds.Test) (cs : compounds.Compounds) (v : Vec CompiledPredicate) → test ≡ compounds.SomeOf cs → AreCompiledPredicates v.items cs → IsCompiledTest (SomeOf v) test
some_compiled test cs v is h = subst (IsCompiledTest (SomeOf v)) (sym is) (λ by_type serves e.
    let inside = h by_type serves e in
    (test_value-SomeOf (sight_of by_type e) v ∙ inside.0, test_holds-SomeOf (sight_of by_type e) (tag_attributes e.tag) v ∙ inside.1))
