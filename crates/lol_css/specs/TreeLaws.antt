-- Laws of what the code's trees stand for: a list or an item whose fields are named, by the rows of those fields.
use Rattle.std.proofs.Common.{◌≡◌, refl, sym, ap, ◌∙◌, rules}
use Rattle.std.specs.Global.{Vec}
use Rattle.lol_css.specs.Trees as trees
use Rattle.lol_css.specs.declared.selector.Combinator.{Combinator}
use Rattle.lol_css.specs.declared.selector.SimpleSelector.TheViews.{the_lemmas, roll-SelectorList, out-SelectorList, roll-ComplexSelector, out-ComplexSelector}
use Rattle.lol_css.specs.declared.selector.SimpleSelector.TheBlock.{shown-the_row-SimpleSelector-0}
use Rattle.lol_css.specs.declared.selector.Compound.{Compound, Row_of-SimpleSelector, end_of-SimpleSelector, more_of-SimpleSelector, items-the_row-SimpleSelector}
use Rattle.lol_css.specs.declared.selector.ComplexSelector.{ComplexSelector, Row_of-ComplexSelector-rest-2, end_of-ComplexSelector-rest-2, more_of-ComplexSelector-rest-2, items-the_row-ComplexSelector-rest-2}
use Rattle.lol_css.specs.declared.selector.SelectorList.{SelectorList, Row_of-ComplexSelector, end_of-ComplexSelector, more_of-ComplexSelector, items-the_row-ComplexSelector}
use Rattle.lol_css.specs.TreeViews.{part_of, with_parts, with_further, with_items, item_of, list_of, compound_of, with_part_list, with_compound_list, with_item_list}

-- ---- rows are lists

with_parts-list : (n : _) (k : Row_of-SimpleSelector n) (front : trees.WrittenCompound) → with_parts front k ≡ with_part_list front (items-the_row-SimpleSelector n k)
with_parts-list n end_of-SimpleSelector front = refl
with_parts-list n (more_of-SimpleSelector {n = k} part rest) front = with_parts-list k rest (trees.With front (part_of part))

with_items-list : (n : _) (k : Row_of-ComplexSelector n) (front : trees.Items) → with_items front k ≡ with_item_list front (items-the_row-ComplexSelector n k)
with_items-list n end_of-ComplexSelector front = refl
with_items-list n (more_of-ComplexSelector {n = k} item rest) front = with_items-list k rest (trees.And front (item_of item))

with_further-list : (n : _) (k : Row_of-ComplexSelector-rest-2 n) (front : trees.Item) → with_further front k ≡ with_compound_list front (items-the_row-ComplexSelector-rest-2 n k)
with_further-list n end_of-ComplexSelector-rest-2 front = refl
with_further-list n (more_of-ComplexSelector-rest-2 {n = k} combinator shape parts rest) front =
    let e : with_parts trees.Nothing parts ≡ compound_of (record { parts = shown-the_row-SimpleSelector-0 shape parts }) = search (rules, the_lemmas, with_parts-list) in
    with_further-list k rest (trees.Then front combinator (with_parts trees.Nothing parts)) ∙ ap (λ (c : trees.WrittenCompound). with_compound_list (trees.Then front combinator c) (items-the_row-ComplexSelector-rest-2 k rest)) e

pub list_of-roll : (v : Vec ComplexSelector) → list_of (roll-SelectorList (record { items = v })) ≡ with_item_list trees.NoItems v.items
list_of-roll v = search (rules, the_lemmas, with_items-list)

list_same : (l : SelectorList) → roll-SelectorList (out-SelectorList l) ≡ l
list_same l = search (rules, the_lemmas)

pub list_of-out : (l : SelectorList) → list_of l ≡ with_item_list trees.NoItems (out-SelectorList l).items.items
list_of-out l = ap list_of (sym (list_same l)) ∙ list_of-roll (out-SelectorList l).items

item_same : (i : ComplexSelector) → roll-ComplexSelector (out-ComplexSelector i) ≡ i
item_same i = search (rules, the_lemmas)

pub item_of-roll : (first : Compound) (rest : Vec (Combinator × Compound)) → item_of (roll-ComplexSelector (record { first = first; rest = rest })) ≡ with_compound_list (trees.First (compound_of first)) rest.items
item_of-roll first rest = search (rules, the_lemmas, with_further-list, with_parts-list)

pub item_of-out : (i : ComplexSelector) → item_of i ≡ with_compound_list (trees.First (compound_of (out-ComplexSelector i).first)) (out-ComplexSelector i).rest.items
item_of-out i = ap item_of (sym (item_same i)) ∙ item_of-roll (out-ComplexSelector i).first (out-ComplexSelector i).rest
