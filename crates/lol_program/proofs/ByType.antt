-- Which nodes of a tree have a test by type.
use Rattle.std.proofs.Common.{◌≡◌, Bool, true, false, ◌||◌, ◌++◌, refl, sym, ap, ◌∙◌}
use Rattle.std.specs.List.{list_any}
use Rattle.std.proofs.lemmas.List.Folds.{list_any-append}
use Rattle.lol_css.specs.declared.selector.Combinator.TheVariants.{Child, Descendant}
use Rattle.lol_instructions.specs.Compounds.{Compound, has_test_by_type}
use Rattle.lol_program.specs.Paths.{Path, Then, last_compound}
use Rattle.lol_program.specs.Forest.{Forest, none, more, tops, below, nodes_in}
use Rattle.lol_program.specs.Layouts.{any_by_type}

abbrev has_type : Path → Bool
has_type path = has_test_by_type (last_compound path)

-- the root, its siblings, its children, its descendants, and what is under its siblings
in_order : (h t c d b : Bool) → ((h || t) || (c || (d || b))) ≡ ((h || (c || d)) || (t || b))
in_order true t c d b = refl
in_order false true true d b = refl
in_order false true false true b = refl
in_order false true false false b = refl
in_order false false true d b = refl
in_order false false false true b = refl
in_order false false false false b = refl

pub any_by_type-nodes : (make : Compound → Path) → ((c : Compound) → last_compound (make c) ≡ c) → (f : Forest) → list_any has_type (nodes_in make f) ≡ any_by_type f
any_by_type-nodes make last none = refl
any_by_type-nodes make last (more c ids children descendants rest) =
    let mc = Then (make c) Child in
    let md = Then (make c) Descendant in
    let inner = nodes_in mc children in
    let deeper = nodes_in md descendants in
    let t = list_any has_type (tops make rest) in
    let b = list_any has_type (below make rest) in
    let others : (t || b) ≡ any_by_type rest = sym (list_any-append has_type (tops make rest) (below make rest)) ∙ any_by_type-nodes make last rest in
    let under : list_any has_type (inner ++ (deeper ++ below make rest)) ≡ (any_by_type children || (any_by_type descendants || b)) =
    list_any-append has_type inner (deeper ++ below make rest)
    ∙ (λ i. any_by_type-nodes mc (λ d. refl) children i || (list_any-append has_type deeper (below make rest) ∙ ap (λ (x : Bool). x || b) (any_by_type-nodes md (λ d. refl) descendants)) i) in
    list_any-append has_type (tops make (more c ids children descendants rest)) (inner ++ (deeper ++ below make rest))
    ∙ (λ i. (has_test_by_type (last c i) || t) || under i)
    ∙ in_order (has_test_by_type c) t (any_by_type children) (any_by_type descendants) b
    ∙ ap (λ (x : Bool). (has_test_by_type c || (any_by_type children || any_by_type descendants)) || x) others
