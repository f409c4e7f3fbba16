-- Which elements a path's compounds are passed by.
use Rattle.std.specs.Prelude.{ℕ, ◌≡◌, ◌≤◌, ◌⊎◌, Bool, true, if◌then◌else◌, List, [], ◌∷◌, Option, Some, None}
use Rattle.std.specs.Option.{option_map}
use Rattle.lol_css.specs.declared.selector.Combinator.{Combinator}
use Rattle.lol_css.specs.declared.selector.Combinator.TheVariants.{Child, Descendant}
use Rattle.lol_instructions.specs.Tests.{Element}
use Rattle.lol_instructions.specs.Compounds.{all_hold}
use Rattle.lol_program.specs.Paths.{Path, First, Then}

-- 1. Witnesses

-- what the parent has, given the elements around it
abbrev pub ParentHas : (Element → List Element → Type 0) → List Element → Type 0
ParentHas P [] = ⊥
ParentHas P (parent ∷ outer) = P parent outer

-- what some ancestor has, given those around it
abbrev pub SomeAncestorHas : (Element → List Element → Type 0) → List Element → Type 0
SomeAncestorHas P [] = ⊥
SomeAncestorHas P (ancestor ∷ outer) = P ancestor outer ⊎ SomeAncestorHas P outer

abbrev pub StepLeadsTo : Combinator → (Element → List Element → Type 0) → List Element → Type 0
StepLeadsTo Child P outer = ParentHas P outer
StepLeadsTo Descendant P outer = SomeAncestorHas P outer

-- A witness of a path at an element inside these ones: for each compound, the last one's first, the number of the start tag of an element
-- that passes it. The elements stand to each other as the steps say (Selectors 4, section 16).
abbrev pub IsWitness : Path → List ℕ → Element → List Element → Type 0
IsWitness (First c) [] e outer = ⊥
IsWitness (First c) (n ∷ above) e outer = (n ≡ e.number) × (all_hold c e ≡ true) × (above ≡ [])
IsWitness (Then front step c) [] e outer = ⊥
IsWitness (Then front step c) (n ∷ above) e outer =
    (n ≡ e.number) × (all_hold c e ≡ true) × StepLeadsTo step (λ a around. IsWitness front above a around) outer

-- 2. The innermost witness

abbrev pub first_found : Option (List ℕ) → Option (List ℕ) → Option (List ℕ)
first_found None later = later
first_found (Some found) later = Some found

-- what is found at the parent, given the elements around it
abbrev pub found_at_parent : (Element → List Element → Option (List ℕ)) → List Element → Option (List ℕ)
found_at_parent find [] = None
found_at_parent find (parent ∷ outer) = find parent outer

-- what is found at the nearest ancestor at which something is, given those around it
abbrev pub found_at_nearest : (Element → List Element → Option (List ℕ)) → List Element → Option (List ℕ)
found_at_nearest find [] = None
found_at_nearest find (ancestor ∷ outer) = first_found (find ancestor outer) (found_at_nearest find outer)

abbrev pub step_finds : Combinator → (Element → List Element → Option (List ℕ)) → List Element → Option (List ℕ)
step_finds Child find outer = found_at_parent find outer
step_finds Descendant find outer = found_at_nearest find outer

-- The witness whose descendant steps, taken from the right, each go to the nearest ancestor from which the rest of the path matches.
abbrev pub innermost_witness : Path → Element → List Element → Option (List ℕ)
innermost_witness (First c) e outer = if all_hold c e then Some (e.number ∷ []) else None
innermost_witness (Then front step c) e outer =
    if all_hold c e then option_map (λ above. e.number ∷ above) (step_finds step (λ a around. innermost_witness front a around) outer)
    else None

-- number for number at most: at no compound does the first stand further in than the second
abbrev pub AreNoNearer : List ℕ → List ℕ → Type 0
AreNoNearer [] [] = Unit {0}
AreNoNearer [] (n ∷ ns) = ⊥
AreNoNearer (m ∷ ms) [] = ⊥
AreNoNearer (m ∷ ms) (n ∷ ns) = (m ≤ n) × AreNoNearer ms ns

-- 3. The innermost witness from what is known to match, for who has no attributes of open elements

-- what is given at the nearest ancestor that passes, given those around it; nothing where none does
abbrev pub given_at_nearest : (Element → List Element → Bool) → (Element → List Element → List ℕ) → List Element → List ℕ
given_at_nearest test give [] = []
given_at_nearest test give (ancestor ∷ outer) = if test ancestor outer then give ancestor outer else given_at_nearest test give outer

-- what is given at the parent; nothing at the root
abbrev pub given_at_parent : (Element → List Element → List ℕ) → List Element → List ℕ
given_at_parent give [] = []
given_at_parent give (parent ∷ outer) = give parent outer

abbrev pub step_gives : Combinator → (Element → List Element → Bool) → (Element → List Element → List ℕ) → List Element → List ℕ
step_gives Child test give outer = given_at_parent give outer
step_gives Descendant test give outer = given_at_nearest test give outer

-- Of an element that a path matches, where it is known which ancestors which of its beginnings match. No compound is looked at.
abbrev pub known_witness : (Path → Element → List Element → Bool) → Path → Element → List Element → List ℕ
known_witness known (First c) e outer = e.number ∷ []
known_witness known (Then front step c) e outer =
    e.number ∷ step_gives step (λ a around. known front a around) (λ a around. known_witness known front a around) outer
