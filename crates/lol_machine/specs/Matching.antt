-- Which paths match an element, read from the right over the elements around it (Selectors 4, "Combinators").
use Rattle.std.specs.Prelude.{Bool, true, false, ◌&&◌, ◌||◌, List, [], ◌∷◌}
use Rattle.lol_css.specs.declared.selector.Combinator.{Combinator}
use Rattle.lol_css.specs.declared.selector.Combinator.TheVariants.{Child, Descendant}
use Rattle.lol_instructions.specs.Tests.{Element}
use Rattle.lol_instructions.specs.Compounds.{all_hold}
use Rattle.lol_program.specs.Paths.{Path, First, Then, last_compound}

-- whether the element around passes, given those around it
abbrev pub parent_passes : (Element → List Element → Bool) → List Element → Bool
parent_passes test [] = false
parent_passes test (parent ∷ outer) = test parent outer

-- whether some element around passes, given those around it
abbrev pub some_ancestor_passes : (Element → List Element → Bool) → List Element → Bool
some_ancestor_passes test [] = false
some_ancestor_passes test (ancestor ∷ outer) = test ancestor outer || some_ancestor_passes test outer

abbrev pub step_reaches : Combinator → (Element → List Element → Bool) → List Element → Bool
step_reaches Child test outer = parent_passes test outer
step_reaches Descendant test outer = some_ancestor_passes test outer

-- Whether what stands left of a path's last compound matches, for an element inside these ones, the innermost first.
abbrev pub left_matches : Path → List Element → Bool
left_matches (First c) outer = true
left_matches (Then front step c) outer =
    step_reaches step (λ e around. all_hold (last_compound front) e && left_matches front around) outer

-- Whether a path matches an element inside these ones.
abbrev pub matches : Path → Element → List Element → Bool
matches path e outer = all_hold (last_compound path) e && left_matches path outer
