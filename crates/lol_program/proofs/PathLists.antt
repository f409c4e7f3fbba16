-- Paths that are taken one after another.
use Rattle.std.proofs.Common.{ℕ, zero, suc, arith, ◌≡◌, ◌+◌, ◌<◌, ◌≤◌, List, [], ◌∷◌, ◌++◌, map, take, drop, get_or, length, Result, Ok, Err, OnErr, refl, sym, ap, subst, ◌∙◌}
use Rattle.std.specs.Prelude.{Contains, flat_map}
use Rattle.std.proofs.lemmas.List.{take_more, map-append, take-append-drop, append-nil}
use Rattle.std.proofs.Math.Seq.{take-length}
use Rattle.std.proofs.lemmas.Grind.{flat_map-append}
use Rattle.lol_program.specs.Paths.{Path, beginnings, all_beginnings}
use Rattle.lol_program.specs.Forest.{Forest}
use Rattle.lol_program.specs.AstPaths.{path_shown, IsIn, AllIn}
use Rattle.lol_css.specs.declared.selector.ComplexSelector.{ComplexSelector}
use Rattle.lol_program.proofs.Joining.{flat_map-front}

-- the beginnings of paths
abbrev pub all_of : List ComplexSelector → List Path
all_of paths = flat_map beginnings (map path_shown paths)

-- their pairs under an id
abbrev pub pairs_for : ℕ → List ComplexSelector → List (Path × ℕ)
pairs_for id paths = map (λ path. (path_shown path, id)) paths

pub all_of-append : (xs ys : List ComplexSelector) → all_of (xs ++ ys) ≡ all_of xs ++ all_of ys
all_of-append xs ys = ap (flat_map beginnings) (map-append path_shown xs ys) ∙ flat_map-append beginnings (map path_shown xs) (map path_shown ys)

pub all_of-one : (x : ComplexSelector) → all_of (x ∷ []) ≡ beginnings (path_shown x)
all_of-one x = append-nil (beginnings (path_shown x))

pub one_more : (paths : List ComplexSelector) (i : ℕ) (x : ComplexSelector) → i < length paths → x ≡ get_or paths i x → take (i + 1) paths ≡ take i paths ++ x ∷ []
one_more paths i x within at = take_more paths i x within ∙ ap (λ (y : ComplexSelector). take i paths ++ y ∷ []) (sym at)

pub all_of-more : (paths : List ComplexSelector) (i : ℕ) (x : ComplexSelector) → i < length paths → x ≡ get_or paths i x → all_of (take (i + 1) paths) ≡ all_of (take i paths) ++ beginnings (path_shown x)
all_of-more paths i x within at = ap all_of (one_more paths i x within at) ∙ all_of-append (take i paths) (x ∷ []) ∙ ap (λ (l : List Path). all_of (take i paths) ++ l) (all_of-one x)

-- all that were taken are all
pub all_taken : (paths : List ComplexSelector) (i : ℕ) → i ≡ length paths → take i paths ≡ paths
all_taken paths i is = ap (λ (k : ℕ). take k paths) is ∙ take-length paths

-- those that were taken are among all
pub part_of_all : (paths : List ComplexSelector) (i : ℕ) (path : Path) → Contains (all_of (take i paths)) path → Contains (all_of paths) path
part_of_all paths i path h =
    subst (λ (l : List ComplexSelector). Contains (all_of l) path) (take-append-drop i paths)
    (subst (λ (l : List Path). Contains (flat_map beginnings l) path) (sym (map-append path_shown (take i paths) (drop i paths))) (flat_map-front beginnings (map path_shown (take i paths)) (map path_shown (drop i paths)) path h))

pub AllIn-push : (f : Forest) (xs : List ComplexSelector) (x : ComplexSelector) → AllIn f xs → IsIn f x → AllIn f (xs ++ x ∷ [])
AllIn-push f [] x h is = (is, tt)
AllIn-push f (y ∷ xs) x h is = (h.0, AllIn-push f xs x h.1 is)

pub AllIn-more : (f : Forest) (paths : List ComplexSelector) (i : ℕ) (x : ComplexSelector) → i < length paths → x ≡ get_or paths i x → AllIn f (take i paths) → IsIn f x → AllIn f (take (i + 1) paths)
AllIn-more f paths i x within at h is = subst (AllIn f) (sym (one_more paths i x within at)) (AllIn-push f (take i paths) x h is)

-- what holds holds on an error
pub on_err : {T E P : Type 0} (r : Result T E) → P → OnErr r P
on_err (Ok x) p = tt
on_err (Err e) p = p

-- the pairs' beginnings are those of the paths
pub beginnings_under : (id : ℕ) (paths : List Path) → all_beginnings (map (λ path. (path, id)) paths) ≡ flat_map beginnings paths
beginnings_under id [] = refl
beginnings_under id (path ∷ paths) = ap (λ (l : List Path). beginnings path ++ l) (beginnings_under id paths)

pub AllIn-at : (f : Forest) (paths : List ComplexSelector) (i : ℕ) (x : ComplexSelector) → i < length paths → x ≡ get_or paths i x → AllIn f paths → IsIn f x
AllIn-at f [] i x within at h = absurd (omega (arith, within))
AllIn-at f (y ∷ paths) zero x within at h = subst (IsIn f) (sym at) h.0
AllIn-at f (y ∷ paths) (suc i) x within at h = AllIn-at f paths i x (omega (arith, within)) at h.1

-- a list of one item
pub one_item : (items : List ComplexSelector) (x : ComplexSelector) → 1 ≤ length items → length items < 2 → x ≡ get_or items 0 x → items ≡ x ∷ []
one_item [] x some few at = absurd (omega (arith, some))
one_item (y ∷ []) x some few at = ap (λ (z : ComplexSelector). z ∷ []) (sym at)
one_item (y ∷ z ∷ items) x some few at = absurd (omega (arith, few))
