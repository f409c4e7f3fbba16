-- The tests of parts and the compounds of items, one after another.
use Rattle.std.proofs.Common.{◌≡◌, ℕ, ◌-◌, ◌≤◌, arith, List, [], ◌∷◌, ◌++◌, length, get_or, map, reverse, refl, sym, ap, ◌∙◌, append_assoc, append-nil}
use Rattle.std.proofs.lemmas.List.{reverse-append}
use Rattle.lol_css.specs.Trees as trees
use Rattle.lol_css.specs.declared.selector.SimpleSelector.{SimpleSelector}
use Rattle.lol_css.specs.declared.selector.ComplexSelector.{ComplexSelector}
use Rattle.lol_css.specs.declared.selector.Compound as css
use Rattle.lol_css.specs.declared.selector.Combinator.{Combinator}
use Rattle.lol_css.specs.declared.selector.SelectorList.{SelectorList}
use Rattle.lol_css.specs.declared.selector.SimpleSelector.TheViews.{out-SelectorList, out-ComplexSelector}
use Rattle.lol_css.specs.TreeViews.{part_of, item_of, list_of, compound_of, with_part_list, with_item_list, with_compound_list}
use Rattle.lol_instructions.specs.Compounds.{Test, Compound, AndTest, Compounds, OrCompound, all_of, any_of, with_test, compounds_with}
use Rattle.lol_program.specs.Conditions.{part_test, items_compounds, item_compound, written_tests, compound_tests}
use Rattle.lol_css.specs.TreeLaws.{list_of-out, item_of-out}

-- 1. Rows of tests, and of compounds

pub all_of-push : (tests : List Test) (test : Test) → all_of (tests ++ test ∷ []) ≡ with_test (all_of tests) test
all_of-push [] test = refl
all_of-push (t ∷ tests) test = ap (AndTest t) (all_of-push tests test)

pub any_of-push : (compounds : List Compound) (compound : Compound) → any_of (compounds ++ compound ∷ []) ≡ compounds_with (any_of compounds) compound
any_of-push [] compound = refl
any_of-push (c ∷ compounds) compound = ap (OrCompound c) (any_of-push compounds compound)

pub all_of-equal : (xs ys : List Test) → all_of xs ≡ all_of ys → xs ≡ ys
all_of-equal [] [] e = refl
all_of-equal [] (y ∷ ys) e = cc
all_of-equal (x ∷ xs) [] e = cc
all_of-equal (x ∷ xs) (y ∷ ys) e =
    let rest : all_of xs ≡ all_of ys = cc in
    let more = all_of-equal xs ys rest in
    cc

pub any_of-equal : (xs ys : List Compound) → any_of xs ≡ any_of ys → xs ≡ ys
any_of-equal [] [] e = refl
any_of-equal [] (y ∷ ys) e = cc
any_of-equal (x ∷ xs) [] e = cc
any_of-equal (x ∷ xs) (y ∷ ys) e =
    let rest : any_of xs ≡ any_of ys = cc in
    let more = any_of-equal xs ys rest in
    cc

-- 2. Parts and items

abbrev pub test_in : SimpleSelector → Test
test_in part = part_test (part_of part)

abbrev pub compound_in : ComplexSelector → Compound
compound_in item = item_compound (item_of item)

written-front : (front : trees.WrittenCompound) (tests : List Test) (parts : List SimpleSelector) → written_tests front ≡ all_of tests → written_tests (with_part_list front parts) ≡ all_of (tests ++ map test_in parts)
written-front front tests [] h = h ∙ ap all_of (sym (append-nil tests))
written-front front tests (part ∷ parts) h =
    written-front (trees.With front (part_of part)) (tests ++ test_in part ∷ []) parts (ap (λ (c : Compound). with_test c (test_in part)) h ∙ sym (all_of-push tests (test_in part)))
    ∙ ap all_of (append_assoc tests (test_in part ∷ []) (map test_in parts))

pub written_tests-parts : (parts : List SimpleSelector) → written_tests (with_part_list trees.Nothing parts) ≡ all_of (map test_in parts)
written_tests-parts parts = written-front trees.Nothing [] parts refl

reversed-front : (front : trees.WrittenCompound) (tests : List Test) (parts : List SimpleSelector) → compound_tests front ≡ all_of tests → compound_tests (with_part_list front parts) ≡ all_of (reverse (map test_in parts) ++ tests)
reversed-front front tests [] h = h
reversed-front front tests (part ∷ parts) h =
    reversed-front (trees.With front (part_of part)) (test_in part ∷ tests) parts (ap (AndTest (test_in part)) h)
    ∙ ap all_of (sym (append_assoc (reverse (map test_in parts)) (test_in part ∷ []) tests) ∙ ap (λ (l : List Test). l ++ tests) (sym (reverse-append (test_in part ∷ []) (map test_in parts))))

pub compound_tests-parts : (parts : List SimpleSelector) → compound_tests (with_part_list trees.Nothing parts) ≡ all_of (reverse (map test_in parts))
compound_tests-parts parts = reversed-front trees.Nothing [] parts refl ∙ ap all_of (append-nil (reverse (map test_in parts)))

items-front : (front : trees.Items) (compounds : List Compound) (items : List ComplexSelector) → items_compounds front ≡ any_of compounds → items_compounds (with_item_list front items) ≡ any_of (compounds ++ map compound_in items)
items-front front compounds [] h = h ∙ ap any_of (sym (append-nil compounds))
items-front front compounds (item ∷ items) h =
    items-front (trees.And front (item_of item)) (compounds ++ compound_in item ∷ []) items (ap (λ (c : Compounds). compounds_with c (compound_in item)) h ∙ sym (any_of-push compounds (compound_in item)))
    ∙ ap any_of (append_assoc compounds (compound_in item ∷ []) (map compound_in items))

pub items_compounds-items : (items : List ComplexSelector) → items_compounds (with_item_list trees.NoItems items) ≡ any_of (map compound_in items)
items_compounds-items items = items-front trees.NoItems [] items refl

pub items_compounds-list : (list : SelectorList) → items_compounds (list_of list) ≡ items_compounds (with_item_list trees.NoItems (out-SelectorList list).items.items)
items_compounds-list list = ap items_compounds (list_of-out list)

-- 3. The compound of an item is its last one

last_counts : (front : trees.Item) (next : Combinator × css.Compound) (others : List (Combinator × css.Compound)) (d : Combinator × css.Compound)
    → item_compound (with_compound_list front (next ∷ others)) ≡ written_tests (compound_of (get_or (next ∷ others) (length others) d).1)
last_counts front next [] d = refl
last_counts front next (n ∷ others) d = last_counts (trees.Then front next.0 (compound_of next.1)) n others d

pub counts_first : (item : ComplexSelector) → length (out-ComplexSelector item).rest.items ≡ 0 → item_compound (item_of item) ≡ written_tests (compound_of (out-ComplexSelector item).first)
counts_first item none = ap item_compound (item_of-out item) ∙ first_of (out-ComplexSelector item).rest.items none
  where
    first_of : (rest : List (Combinator × css.Compound)) → length rest ≡ 0 → item_compound (with_compound_list (trees.First (compound_of (out-ComplexSelector item).first)) rest) ≡ written_tests (compound_of (out-ComplexSelector item).first)
    first_of [] none = refl
    first_of (next ∷ rest) none = absurd (omega (arith, none))

counts_last_of : (front : trees.Item) (rest : List (Combinator × css.Compound)) (last : Combinator × css.Compound) → 1 ≤ length rest → last ≡ get_or rest (length rest - 1) last
    → item_compound (with_compound_list front rest) ≡ written_tests (compound_of last.1)
counts_last_of front [] last some at = absurd (omega (arith, some))
counts_last_of front (next ∷ rest) last some at =
    let e : length (next ∷ rest) - 1 ≡ length rest = omega arith in
    last_counts front next rest last
    ∙ ap (λ (l : Combinator × css.Compound). written_tests (compound_of l.1)) (sym (at ∙ ap (λ (k : ℕ). get_or (next ∷ rest) k last) e))

pub counts_last : (item : ComplexSelector) (last : Combinator × css.Compound) → 1 ≤ length (out-ComplexSelector item).rest.items
    → last ≡ get_or (out-ComplexSelector item).rest.items (length (out-ComplexSelector item).rest.items - 1) last → item_compound (item_of item) ≡ written_tests (compound_of last.1)
counts_last item last some at = ap item_compound (item_of-out item) ∙ counts_last_of (trees.First (compound_of (out-ComplexSelector item).first)) (out-ComplexSelector item).rest.items last some at
