-- What marks of tests say.
use Rattle.std.proofs.Common.{◌≡◌, ◌⊎◌, ℕ, Bool, true, false, ◌&&◌, ◌||◌, List, [], ◌∷◌, ◌++◌, Option, Some, None, is_some, inl, inr, ◌+◌, ◌<◌, ◌≤◌, suc, arith, length, take, get_or, subst, eqb-true, refl, sym, ap, ◌∙◌}
use Rattle.std.specs.Bool.{◌==◌, if◌then◌else◌}
use Rattle.std.specs.List.{list_all}
use Rattle.std.specs.Option.{option_or}
use Rattle.std.specs.Str.{bytes_eq}
use Rattle.std.proofs.lemmas.Bool.Decides.{same_from_decides}
use Rattle.std.proofs.lemmas.List.{take_all, take_more}
use Rattle.std.proofs.lemmas.List.Folds.{list_all-append}
use Rattle.std.proofs.lemmas.Slice.Eq.{bytes_eq-Decides}
use Rattle.lol_base.specs.BoolLaws.{and-true, and-right_false, or_parts}
use Rattle.lol_base.specs.LocalNames.{name_code}
use Rattle.lol_base.specs.CodeLaws.{codes_decide}
use Rattle.lol_instructions.specs.Tests.{Element, AttributeTest, attribute_holds, has_value}
use Rattle.lol_instructions.specs.Compounds.{value_of_bool, both, either}
use Rattle.lol_instructions.specs.Attributes.{TagAttributes, value_in}
use Rattle.lol_instructions.specs.Compiled.{Sight, test_value, test_holds, all_values, some_values, predicate_value, attribute_expr_holds}
use Rattle.lol_instructions.specs.Marks.{mark_of, is_marked, NoneHolds}
use Rattle.lol_instructions.specs.PredicateMarks.{AreBoth, shape_value, is_code, head_holds, AreNeeded, AreMarksOf}
use Rattle.lol_instructions.specs.declared.predicate_marks.PredicateMarks.{PredicateMarks}
use Rattle.lol_instructions.specs.declared.predicate_marks.Shape.TheVariants.{Anywhere, Mixed}
use Rattle.lol_instructions.specs.declared.compiled_predicate.CompiledTest.{CompiledTest}
use Rattle.lol_instructions.specs.declared.compiled_predicate.CompiledPredicate.{CompiledPredicate}
use Rattle.lol_instructions.specs.declared.attribute_matcher.AttrExprOperands.{AttrExprOperands}
use Rattle.lol_instructions.specs.declared.compiled_expr.AttributeExprTest.{AttributeExprTest}
use Rattle.lol_instructions.specs.declared.compiled_expr.AttributeExprTest.TheVariants.{Equal, Includes, DashMatch, Prefix, Suffix, Substring}
use Rattle.lol_instructions.proofs.CompiledValues.{both_false, either_false}
use Rattle.lol_instructions.specs.declared.marks.Marks.{Marks}
use Rattle.lol_instructions.specs.declared.name_value.NameValue.{NameValue}
use Rattle.lol_instructions.specs.declared.name_value.NameValue.TheVariants.{True, False, Open}

-- 1. Names

value_said : (b : Bool) (v : NameValue) → (if b then Some True else Some False) ≡ Some v → value_of_bool b ≡ v
value_said true v h = cc
value_said false v h = cc

-- a hash is known by its code
pub same_code : (name other : List ℕ) (code : ℕ) → name_code other ≡ Some code → bytes_eq name other ≡ is_code code (name_code name)
same_code name other code is = at (name_code name) refl
  where
    at : (found : Option ℕ) → name_code name ≡ found → bytes_eq name other ≡ is_code code found
    at None none = differ (bytes_eq name other) refl
      where
        differ : (b : Bool) → bytes_eq name other ≡ b → b ≡ false
        differ true same = absurd (let clash : None ≡ Some code = sym none ∙ ap name_code ((bytes_eq-Decides name other).0 same) ∙ is in cc)
        differ false h = refl
    at (Some c) some = same_from_decides (bytes_eq name other) (c == code) (bytes_eq-Decides name other) (codes_decide name other c code some is)

pub hash_value : (name other : List ℕ) (code : ℕ) (v : NameValue) → name_code other ≡ Some code → (if is_code code (name_code name) then Some True else Some False) ≡ Some v → value_of_bool (bytes_eq name other) ≡ v
hash_value name other code v is h = ap value_of_bool (same_code name other code is) ∙ value_said (is_code code (name_code name)) v h

-- 2. What is needed

abbrev pub element_with : TagAttributes → Element
element_with seen = record {
  number = 0;
  tag = record { name = []; namespace = seen.namespace; attributes = seen.attributes; self_closing = false; finish = false };
  position = 0;
  typed_position = 0;
}

-- the bit of a test alone is needed for it
pub needed : (test : AttributeTest) (marks : Marks) → ((bit : ℕ) → is_marked marks bit ≡ (bit == mark_of test)) → (bit : ℕ) → is_marked marks bit ≡ true → (seen : TagAttributes) → NoneHolds bit seen → attribute_holds test (element_with seen) ≡ false
needed test marks is bit marked seen none = none test (element_with seen) refl (sym (eqb-true bit (mark_of test) (sym (is bit) ∙ marked)))

pub no_value : (o : Option (List ℕ)) (test : List ℕ → Bool) → has_value o (λ value. true) ≡ false → has_value o test ≡ false
no_value None test h = refl
no_value (Some value) test h = cc

-- a test compares an attribute with these operands
abbrev pub Compared : AttributeExprTest → AttrExprOperands → Type 0
Compared test operands =
    (test ≡ Equal operands) ⊎ ((test ≡ Includes operands) ⊎ ((test ≡ DashMatch operands) ⊎ ((test ≡ Prefix operands) ⊎ ((test ≡ Suffix operands) ⊎ (test ≡ Substring operands)))))

-- whichever operator compares an attribute, the attribute has to be there
pub absent_fails : (test : AttributeExprTest) (operands : AttrExprOperands) (seen : TagAttributes) → Compared test operands → has_value (value_in operands.name.items seen) (λ value. true) ≡ false → attribute_expr_holds test seen ≡ false
absent_fails test operands seen compared absent = by compared
  where
    is : (other : AttributeExprTest) → test ≡ other → attribute_expr_holds other seen ≡ false → attribute_expr_holds test seen ≡ false
    is other e h = ap (λ (t : AttributeExprTest). attribute_expr_holds t seen) e ∙ h

    none : (p : List ℕ → Bool) → has_value (value_in operands.name.items seen) p ≡ false
    none p = no_value (value_in operands.name.items seen) p absent

    by : Compared test operands → attribute_expr_holds test seen ≡ false
    by (inl e) = is (Equal operands) e (none _)
    by (inr (inl e)) = is (Includes operands) e (none _)
    by (inr (inr (inl e))) = is (DashMatch operands) e (none _)
    by (inr (inr (inr (inl e)))) = is (Prefix operands) e (none _)
    by (inr (inr (inr (inr (inl e))))) = is (Suffix operands) e (none _)
    by (inr (inr (inr (inr (inr e))))) = is (Substring operands) e (none _)

-- 3. Tests and further ones

pub values_joined : {A : Type 0} (value : A → NameValue) (xs ys : List A) → all_values value (xs ++ ys) ≡ both (all_values value xs) (all_values value ys)
values_joined value [] ys = refl
values_joined value (x ∷ xs) ys = ap (both (value x)) (values_joined value xs ys) ∙ joined (value x) (all_values value xs) (all_values value ys)
  where
    joined : (a b c : NameValue) → both a (both b c) ≡ both (both a b) c
    joined True b c = refl
    joined False b c = refl
    joined Open True c = refl
    joined Open False c = refl
    joined Open Open True = refl
    joined Open Open False = refl
    joined Open Open Open = refl

-- where one head at most is marked, an element has what is marked exactly if it has both
pub head_joined : (a b : Option ℕ) (name : List ℕ) → (is_some a && is_some b) ≡ false → head_holds (option_or a b) name ≡ (head_holds a name && head_holds b name)
head_joined None b name h = refl
head_joined (Some code) None name h = sym (and-true (head_holds (Some code) name))
head_joined (Some code) (Some other) name h = cc

-- what is said of one part where an element has its name
abbrev pub Says : Bool → Option NameValue → NameValue → Type 0
Says named said value = (v : NameValue) → (if named then said else Some False) ≡ Some v → value ≡ v

-- what is said of both parts, or that one fails
pub said_of_both : (ha hb : Bool) (a b r : Option NameValue) (va vb : NameValue) → Says ha a va → Says hb b vb → ((v : NameValue) → r ≡ Some v → AreBoth a b v) → Says (ha && hb) r (both va vb)
said_of_both true true a b r va vb says says' joins v h =
    let j = joins v h in
    (λ i. both (says j.0 j.2 i) (says' j.1 j.3 i)) ∙ j.4
said_of_both true false a b r va vb says says' joins v h = ap (both va) (says' False refl) ∙ both_false va ∙ (let e : False ≡ v = cc in e)
said_of_both false hb a b r va vb says says' joins v h = ap (λ x. both x vb) (says False refl) ∙ (let e : False ≡ v = cc in e)

-- what is said of the first part alone, where it fails
pub said_of_first : (ha : Bool) (a : Option NameValue) (va vb : NameValue) → Says ha a va → Says ha None (both va vb)
said_of_first true a va vb says v h = cc
said_of_first false a va vb says v h = ap (λ x. both x vb) (says False refl) ∙ (let e : False ≡ v = cc in e)

pub needs_joined : (a b r : Marks) (xs ys : List CompiledTest) → ((bit : ℕ) → is_marked r bit ≡ (is_marked a bit || is_marked b bit)) → AreNeeded a (λ s seen. list_all (λ test. test_holds test s seen) xs) → AreNeeded b (λ s seen. list_all (λ test. test_holds test s seen) ys)
    → AreNeeded r (λ s seen. list_all (λ test. test_holds test s seen) (xs ++ ys))
needs_joined a b r xs ys both_marked needs needs' bit marked s seen none =
    let p : CompiledTest → Bool = λ test. test_holds test s seen in
    list_all-append p xs ys ∙ elim (or_parts (is_marked a bit) (is_marked b bit) (sym (both_marked bit) ∙ marked)) [
      | inl here ↦ ap (λ (t : Bool). t && list_all p ys) (needs bit here s seen none)
      | inr here ↦ and-right_false (list_all p xs) (list_all p ys) (needs' bit here s seen none)
    ]

pub marks_joined : (a b r : PredicateMarks) → r.head ≡ option_or a.head b.head → (is_some a.head && is_some b.head) ≡ false → ((position : ℕ) (typed : Option ℕ) (v : NameValue) → shape_value r.shape position typed ≡ Some v → AreBoth (shape_value a.shape position typed) (shape_value b.shape position typed) v)
    → ((bit : ℕ) → is_marked r.needs bit ≡ (is_marked a.needs bit || is_marked b.needs bit)) → (xs ys : List CompiledTest) → AreMarksOf a xs → AreMarksOf b ys → AreMarksOf r (xs ++ ys)
marks_joined a b r head one joins needs xs ys of of' = record {
  value = λ s v h.
      let f : CompiledTest → NameValue = λ test. test_value test s in
      let said = shape_value r.shape s.position s.typed_position in
      let named : head_holds r.head s.name ≡ (head_holds a.head s.name && head_holds b.head s.name) = ap (λ (o : Option ℕ). head_holds o s.name) head ∙ head_joined a.head b.head s.name one in
      values_joined f xs ys ∙ said_of_both (head_holds a.head s.name) (head_holds b.head s.name) (shape_value a.shape s.position s.typed_position) (shape_value b.shape s.position s.typed_position) said (all_values f xs) (all_values f ys)
      (of.value s) (of'.value s) (joins s.position s.typed_position) v (sym (ap (λ (t : Bool). if t then said else Some False) named) ∙ h);
  needs = needs_joined a.needs b.needs r.needs xs ys needs of.needs of'.needs;
}

pub marks_mixed : (a b r : PredicateMarks) → r.head ≡ option_or a.head b.head → is_some a.head ≡ true → r.shape ≡ Mixed
    → ((bit : ℕ) → is_marked r.needs bit ≡ (is_marked a.needs bit || is_marked b.needs bit)) → (xs ys : List CompiledTest) → AreMarksOf a xs → AreMarksOf b ys → AreMarksOf r (xs ++ ys)
marks_mixed a b r head some mixed needs xs ys of of' = record {
  value = λ s v h.
      let f : CompiledTest → NameValue = λ test. test_value test s in
      let same : r.head ≡ a.head = head ∙ first a.head b.head some in
      values_joined f xs ys ∙ said_of_first (head_holds a.head s.name) (shape_value a.shape s.position s.typed_position) (all_values f xs) (all_values f ys) (of.value s) v
      (sym (λ i. if head_holds (same i) s.name then shape_value (mixed i) s.position s.typed_position else Some False) ∙ h);
  needs = needs_joined a.needs b.needs r.needs xs ys needs of.needs of'.needs;
}
  where
    first : (o p : Option ℕ) → is_some o ≡ true → option_or o p ≡ o
    first None p h = cc
    first (Some x) p h = refl

-- 4. One test more

module _ (tests : List CompiledTest) (first : CompiledTest) (others : List CompiledTest) (is : tests ≡ first ∷ others) where
  up_to : (i : ℕ) → take (i + 1) tests ≡ first ∷ take i others
  up_to i = ap (take (i + 1)) is ∙ ap (λ n. take n (first ∷ others)) (let e : i + 1 ≡ suc i = omega arith in e)

  pub marks_more : (before next : PredicateMarks) (i : ℕ) (x : CompiledTest) → i < length others → x ≡ get_or others i x → AreMarksOf before (take (i + 1) tests)
      → (AreMarksOf before (first ∷ take i others) → AreMarksOf next (first ∷ (take i others ++ x ∷ []))) → AreMarksOf next (take (i + 1 + 1) tests)
  marks_more before next i x within at of joins =
      let more = take_more others i x within ∙ ap (λ y. take i others ++ y ∷ []) (sym at) in
      subst (AreMarksOf next) (sym (up_to (i + 1) ∙ ap (λ ts. first ∷ ts) more)) (joins (subst (AreMarksOf before) (up_to i) of))

  pub marks_whole : (marks : PredicateMarks) (i : ℕ) → length others ≤ i → AreMarksOf marks (take (i + 1) tests) → AreMarksOf marks tests
  marks_whole marks i whole of = subst (AreMarksOf marks) (up_to i ∙ (ap (λ ts. first ∷ ts) (take_all i others whole) ∙ sym is)) of

-- 5. One compound more

some_joined : {A : Type 0} (value : A → NameValue) (xs : List A) (y : A) → some_values value (xs ++ y ∷ []) ≡ either (some_values value xs) (value y)
some_joined value [] y = either_false (value y)
some_joined value (x ∷ xs) y = ap (either (value x)) (some_joined value xs y) ∙ joined (value x) (some_values value xs) (value y)
  where
    joined : (a b c : NameValue) → either a (either b c) ≡ either (either a b) c
    joined True b c = refl
    joined False b c = refl
    joined Open True c = refl
    joined Open False c = refl
    joined Open Open True = refl
    joined Open Open False = refl
    joined Open Open Open = refl

pub some_more : (s : Sight) (predicates : List CompiledPredicate) (i : ℕ) (x : CompiledPredicate) (old other next : NameValue) → i < length predicates → x ≡ get_or predicates i x
    → some_values (λ p. predicate_value p s) (take i predicates) ≡ old → predicate_value x s ≡ other → next ≡ either old other → some_values (λ p. predicate_value p s) (take (i + 1) predicates) ≡ next
some_more s predicates i x old other next within at before here is =
    let f : CompiledPredicate → NameValue = λ p. predicate_value p s in
    ap (some_values f) (take_more predicates i x within ∙ ap (λ y. take i predicates ++ y ∷ []) (sym at)) ∙ some_joined f (take i predicates) x ∙ (λ j. either (before j) (here j)) ∙ sym is

-- 6. Tests of one value

-- a test that has this value at every element
pub marks_of_value : (marks : PredicateMarks) (test : CompiledTest) (value : NameValue) → marks.head ≡ None → marks.shape ≡ Anywhere value → ((bit : ℕ) → is_marked marks.needs bit ≡ false) → ((s : Sight) → test_value test s ≡ value)
    → AreMarksOf marks (test ∷ [])
marks_of_value marks test value head shape none is = record {
  value = λ s v h.
      let said : Some value ≡ Some v = sym (λ i. if head_holds (head i) s.name then shape_value (shape i) s.position s.typed_position else Some False) ∙ h in
      let e : value ≡ v = cc in
      ap (λ w. both w True) (is s) ∙ both-true value ∙ e;
  needs = λ bit marked s seen unmet. absurd (let clash : false ≡ true = sym (none bit) ∙ marked in cc);
}
  where
    both-true : (v : NameValue) → both v True ≡ v
    both-true True = refl
    both-true False = refl
    both-true Open = refl
