-- The pairs and beginnings of a selector, by the items of its list.
use Rattle.std.proofs.Common.{ℕ, ◌≡◌, List, map, sym, ap, ◌∙◌}
use Rattle.std.specs.Prelude.{flat_map}
use Rattle.lol_css.specs.declared.selector.ComplexSelector.{ComplexSelector}
use Rattle.lol_css.specs.declared.selector.SelectorList.{SelectorList}
use Rattle.lol_css.specs.declared.selector.SimpleSelector.TheViews.{out-SelectorList}
use Rattle.lol_css.specs.TreeViews.{list_of}
use Rattle.lol_program.specs.Paths.{Path, beginnings, all_beginnings}
use Rattle.lol_program.specs.Conditions.{paths_of, pairs_under}
use Rattle.lol_program.specs.AstPaths.{path_shown}
use Rattle.lol_css.specs.TreeLaws.{list_of-out}
use Rattle.lol_program.proofs.Items.{paths_of-items}
use Rattle.lol_base.specs.MemberLaws.{map-map}
use Rattle.lol_program.proofs.PathLists.{all_of, pairs_for, beginnings_under}

module _ (list : SelectorList) (items : List ComplexSelector) (is : items ≡ (out-SelectorList list).items.items) where
  shown_paths : map path_shown items ≡ paths_of (list_of list)
  shown_paths = ap (map path_shown) is ∙ sym (ap paths_of (list_of-out list) ∙ paths_of-items (out-SelectorList list).items.items)

  pub pairs_are : (id : ℕ) → pairs_for id items ≡ pairs_under id (list_of list)
  pairs_are id = sym (map-map (λ (p : Path). (p, id)) path_shown items) ∙ ap (map (λ (p : Path). (p, id))) shown_paths

  pub beginnings_are : (id : ℕ) → all_of items ≡ all_beginnings (pairs_under id (list_of list))
  beginnings_are id = ap (flat_map beginnings) shown_paths ∙ sym (beginnings_under id (paths_of (list_of list)))
