-- Lists of predicates beside lists of items.
use Rattle.std.proofs.Common.{◌≡◌, ◌↔◌, Bool, IsTrue, List, map, sym, ap, ◌∙◌}
use Rattle.std.specs.Global.{Vec}
use Rattle.lol_instructions.specs.Compounds as compounds
use Rattle.lol_css.specs.Trees.{NoItems}
use Rattle.lol_css.specs.TreeViews.{list_of, with_item_list}
use Rattle.lol_css.specs.declared.selector.ComplexSelector.{ComplexSelector}
use Rattle.lol_css.specs.declared.selector.SelectorList.{SelectorList}
use Rattle.lol_css.specs.declared.selector.SimpleSelector.TheViews.{out-SelectorList}
use Rattle.lol_instructions.specs.Compounds.{AndTest, Compounds, OrCompound, all_of, any_of}
use Rattle.lol_program.specs.Conditions.{items_compounds}
use Rattle.lol_program.proofs.Tests.{items_compounds-list}
use Rattle.lol_program.specs.Predicates.{tests_of}
use Rattle.lol_program.specs.declared.predicate.Predicate.{Predicate}

-- A list of predicates is that of a list of items exactly if the tests of them are equal.
pub same_lists : (make : Compounds → compounds.Test) → ((a b : Compounds) → make a ≡ make b → a ≡ b) → (result : Bool) (test other : compounds.Test) (predicates : List Predicate) (items : List ComplexSelector) (v : Vec Predicate) (list : SelectorList)
    → test ≡ make (any_of (map tests_of v.items)) → other ≡ make (items_compounds (list_of list)) → predicates ≡ v.items → items ≡ (out-SelectorList list).items.items
    → IsTrue result ↔ (any_of (map tests_of predicates) ≡ items_compounds (with_item_list NoItems items)) → IsTrue result ↔ (test ≡ other)
same_lists make alike result test other predicates items v list is is' value value' h =
    let shown : test ≡ make (any_of (map tests_of predicates)) = is ∙ ap (λ (l : List Predicate). make (any_of (map tests_of l))) (sym value) in
    let wanted : other ≡ make (items_compounds (with_item_list NoItems items)) = is' ∙ ap make (items_compounds-list list ∙ ap (λ (l : List ComplexSelector). items_compounds (with_item_list NoItems l)) (sym value')) in
    (λ r. shown ∙ ap make (h.0 r) ∙ sym wanted, λ e. h.1 (alike _ _ (sym shown ∙ e ∙ wanted)))
