-- Rows of the code's trees, and one more at their end.
use Rattle.std.proofs.Common.{◌≡◌, ℕ, eqb, true, false, length, suc, ◌≢◌, ◌⊎◌, inl, inr, arith, Ok, List, [], ◌∷◌, ◌++◌, refl, sym, ap, ◌∙◌}
use Rattle.std.proofs.lemmas.Bool.Decides.{eqb_tells}
use Rattle.std.specs.Global.{Vec}
use Rattle.lol_css.specs.Trees as trees
use Rattle.lol_css.specs.declared.selector.Combinator.{Combinator}
use Rattle.lol_css.specs.declared.selector.SimpleSelector.{SimpleSelector}
use Rattle.lol_css.specs.declared.selector.SimpleSelector.TheViews.{roll-SelectorList, out-SelectorList, roll-ComplexSelector, out-ComplexSelector}
use Rattle.lol_css.specs.declared.selector.Compound.{Compound}
use Rattle.lol_css.specs.declared.selector.ComplexSelector.{ComplexSelector}
use Rattle.lol_css.specs.declared.selector.SelectorList.{SelectorList}
use Rattle.lol_css.specs.Judging.{is_empty}
use Rattle.lol_css.specs.TreeViews.{part_of, item_of, list_of, compound_of, with_part_list, with_compound_list, with_item_list}
use Rattle.lol_css.specs.TreeLaws.{list_of-roll, list_of-out, item_of-roll, item_of-out}

-- ---- one more at the end

pub with_part_list-push : (front : trees.WrittenCompound) (parts : List SimpleSelector) (last : SimpleSelector) → with_part_list front (parts ++ last ∷ []) ≡ trees.With (with_part_list front parts) (part_of last)
with_part_list-push front [] last = refl
with_part_list-push front (part ∷ parts) last = with_part_list-push (trees.With front (part_of part)) parts last

pub with_item_list-push : (front : trees.Items) (items : List ComplexSelector) (last : ComplexSelector) → with_item_list front (items ++ last ∷ []) ≡ trees.And (with_item_list front items) (item_of last)
with_item_list-push front [] last = refl
with_item_list-push front (item ∷ items) last = with_item_list-push (trees.And front (item_of item)) items last

pub with_compound_list-push : (front : trees.Item) (others : List (Combinator × Compound)) (last : Combinator × Compound) → with_compound_list front (others ++ last ∷ []) ≡ trees.Then (with_compound_list front others) last.0 (compound_of last.1)
with_compound_list-push front [] last = refl
with_compound_list-push front (next ∷ others) last = with_compound_list-push (trees.Then front next.0 (compound_of next.1)) others last

-- ---- one more of the code's

pub compound-push : (compound : Compound) (v : Vec SimpleSelector) (last : SimpleSelector) → v.items ≡ compound.parts.items ++ last ∷ [] → compound_of (record { parts = v }) ≡ trees.With (compound_of compound) (part_of last)
compound-push compound v last e = rw e (with_part_list-push trees.Nothing compound.parts.items last)

pub list-push : (l : SelectorList) (v : Vec ComplexSelector) (last : ComplexSelector) → v.items ≡ (out-SelectorList l).items.items ++ last ∷ [] → list_of (roll-SelectorList (record { items = v })) ≡ trees.And (list_of l) (item_of last)
list-push l v last e =
    list_of-roll v ∙ ap (λ (items : List ComplexSelector). with_item_list trees.NoItems items) e ∙ with_item_list-push trees.NoItems (out-SelectorList l).items.items last ∙ ap (λ (front : trees.Items). trees.And front (item_of last)) (sym (list_of-out l))

pub item-push : (i : ComplexSelector) (v : Vec (Combinator × Compound)) (combinator : Combinator) (last : Compound) → v.items ≡ (out-ComplexSelector i).rest.items ++ (combinator, last) ∷ [] → item_of (roll-ComplexSelector (record { first = (out-ComplexSelector i).first; rest = v })) ≡ trees.Then (item_of i) combinator (compound_of last)
item-push i v combinator last e =
    item_of-roll (out-ComplexSelector i).first v ∙ ap (λ (others : List (Combinator × Compound)). with_compound_list (trees.First (compound_of (out-ComplexSelector i).first)) others) e ∙ with_compound_list-push (trees.First (compound_of (out-ComplexSelector i).first)) (out-ComplexSelector i).rest.items (combinator, last) ∙ ap (λ (front : trees.Item). trees.Then front combinator (compound_of last)) (sym (item_of-out i))

pub ruleset push_steps = (compound-push, list-push, item-push)

-- an item of one compound
pub item-alone : (first : Compound) (v : Vec (Combinator × Compound)) → v.items ≡ [] → item_of (roll-ComplexSelector (record { first = first; rest = v })) ≡ trees.First (compound_of first)
item-alone first v e = item_of-roll first v ∙ ap (λ (others : List (Combinator × Compound)). with_compound_list (trees.First (compound_of first)) others) e

-- a list without items
pub list-none : (v : Vec ComplexSelector) → v.items ≡ [] → list_of (roll-SelectorList (record { items = v })) ≡ trees.NoItems
list-none v e = list_of-roll v ∙ ap (λ (items : List ComplexSelector). with_item_list trees.NoItems items) e

pub ruleset row_starts = (item-alone, list-none)

not_nothing : (front : trees.WrittenCompound) (part : trees.Part) (parts : List SimpleSelector) → is_empty (Ok (with_part_list (trees.With front part) parts)) ≡ false
not_nothing front part [] = refl
not_nothing front part (next ∷ parts) = not_nothing (trees.With front part) (part_of next) parts

eqb_suc_of : (n : ℕ) → ((eqb (suc n) 0 ≡ true) × (suc n ≡ 0)) ⊎ ((eqb (suc n) 0 ≡ false) × (suc n ≢ 0)) → eqb (suc n) 0 ≡ false
eqb_suc_of n (inl p) = absurd (omega (arith, p.1))
eqb_suc_of n (inr p) = p.0

nothing_of : (parts : List SimpleSelector) → eqb (length parts) 0 ≡ is_empty (Ok (with_part_list trees.Nothing parts))
nothing_of [] = refl
nothing_of (part ∷ parts) = eqb_suc_of (length parts) (eqb_tells (suc (length parts)) 0) ∙ sym (not_nothing trees.Nothing (part_of part) parts)

-- a compound without parts
pub compound-empty : (compound : Compound) → eqb (length compound.parts.items) 0 ≡ is_empty (Ok (compound_of compound))
compound-empty compound = nothing_of compound.parts.items
