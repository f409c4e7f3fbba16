-- Paths of items.
use Rattle.std.proofs.Common.{◌≡◌, List, [], ◌∷◌, ◌++◌, map, refl, sym, ap, ◌∙◌, append_assoc, append-nil}
use Rattle.lol_css.specs.Trees as trees
use Rattle.lol_css.specs.declared.selector.Combinator.{Combinator}
use Rattle.lol_css.specs.declared.selector.Compound as css
use Rattle.lol_css.specs.declared.selector.ComplexSelector.{ComplexSelector}
use Rattle.lol_css.specs.declared.selector.SimpleSelector.TheViews.{out-ComplexSelector}
use Rattle.lol_css.specs.TreeViews.{item_of, compound_of, with_compound_list, with_item_list}
use Rattle.lol_program.specs.Paths.{Path, extended}
use Rattle.lol_program.specs.Conditions.{path_of, paths_of}
use Rattle.lol_program.specs.Views.{steps_of}
use Rattle.lol_program.specs.AstPaths.{path_shown}
use Rattle.lol_css.specs.TreeLaws.{item_of-out}

path_of-steps : (front : trees.Item) (others : List (Combinator × css.Compound)) → path_of (with_compound_list front others) ≡ extended (path_of front) (steps_of others)
path_of-steps front [] = refl
path_of-steps front (next ∷ others) = path_of-steps (trees.Then front next.0 (compound_of next.1)) others

pub shown-path_of : (item : ComplexSelector) → path_shown item ≡ path_of (item_of item)
shown-path_of item = sym (ap path_of (item_of-out item) ∙ path_of-steps (trees.First (compound_of (out-ComplexSelector item).first)) (out-ComplexSelector item).rest.items)

paths-front : (front : trees.Items) (items : List ComplexSelector) → paths_of (with_item_list front items) ≡ paths_of front ++ map path_shown items
paths-front front [] = sym (append-nil (paths_of front))
paths-front front (item ∷ items) =
    paths-front (trees.And front (item_of item)) items ∙ append_assoc (paths_of front) (path_of (item_of item) ∷ []) (map path_shown items)
    ∙ ap (λ (p : Path). paths_of front ++ p ∷ map path_shown items) (sym (shown-path_of item))

pub paths_of-items : (items : List ComplexSelector) → paths_of (with_item_list trees.NoItems items) ≡ map path_shown items
paths_of-items items = paths-front trees.NoItems items
