-- Items that are added one by one.
use Rattle.std.proofs.Common.{◌≡◌, ℕ, zero, suc, ◌+◌, ◌<◌, ◌≤◌, refl, length-append, List, [], ◌∷◌, ◌++◌, length, map, take, get_or, Contains, inl, inr, ⊎_elim, sym, ap, ◌∙◌, subst, arith, append_assoc, append-nil}
use Rattle.std.specs.Prelude.{IsErrOf, Result, Ok, Err}
use Rattle.std.specs.Result.{IsErrAnd}
use Rattle.std.proofs.lemmas.List.{take_more, map-append, length-map, length-take-le}
use Rattle.std.proofs.lemmas.Grind.{flat_map-append}
use Rattle.std.proofs.lemmas.List.Elements.{Contains-append_left, Contains-append_right, Contains-append_cases}
use Rattle.lol_css.specs.Trees as trees
use Rattle.lol_css.specs.TreeLaws.{list_of-out}
use Rattle.lol_css.specs.TreeViews.{item_of, list_of, with_item_list}
use Rattle.lol_css.specs.declared.selector.ComplexSelector.{ComplexSelector}
use Rattle.lol_css.specs.declared.selector.SelectorList.{SelectorList}
use Rattle.lol_css.specs.declared.selector.SimpleSelector.TheViews.{out-SelectorList}
use Rattle.lol_program.specs.Asts.{nodes_of, pairs_of}
use Rattle.lol_program.specs.Conditions.{path_of, paths_of}
use Rattle.lol_program.specs.Paths.{Path, all_beginnings, beginnings}
use Rattle.lol_program.specs.Sets.{Joins, SameMembers}
use Rattle.lol_reasons.specs.Explanations.{Added, Text, added_from, added_items, pairs_added}
use Rattle.lol_reasons.specs.Numbered.{HoldsItems, added_by_text, item_path, items_of, numbered_from}
use Rattle.lol_reasons.specs.ReasonLaws.{source_of_added}
use Rattle.lol_reasons.specs.declared.error.NumberingError.{NumberingError}
use Rattle.lol_reasons.specs.declared.error.NumberingError.TheVariants.{Memory, TooManyItems}
use Rattle.lol_reasons.specs.declared.texts.Numbering.{Numbering}
use Rattle.lol_reasons.proofs.Numbers.{numbered-append, items-append}

-- 1. What is added next

pub text_step : {A : Type 0} (p : A → Path) (id text n : ℕ) (xs : List A) (x : A) → n < length xs → x ≡ get_or xs n x
    → added_items id text 0 (map p (take (n + 1) xs)) ≡ added_items id text 0 (map p (take n xs)) ++ record { path = p x; id = id; text = text; item = n } ∷ []
text_step {A} p id text n xs x within at =
    ap (λ l. added_items id text 0 (map p l)) (take_more xs n x within ∙ ap (λ (y : A). take n xs ++ y ∷ []) (sym at))
    ∙ ap (added_items id text 0) (map-append p (take n xs) (x ∷ []))
    ∙ items-append id text 0 (map p (take n xs)) (p x ∷ [])
    ∙ ap (λ k. added_items id text 0 (map p (take n xs)) ++ record { path = p x; id = id; text = text; item = k } ∷ []) many
  where
    many : 0 + length (map p (take n xs)) ≡ n
    many = omega (arith, length-map (take n xs) p, length-take-le n xs (omega (arith, within)))

texts_more : (n : ℕ) (ts : List Text) (t : Text) → added_from n (ts ++ t ∷ []) ≡ added_from n ts ++ added_by_text (n + length ts) t
texts_more n [] t = append-nil (added_by_text n t) ∙ ap (λ k. added_by_text k t) (omega arith)
texts_more n (u ∷ ts) t =
    ap (λ l. added_by_text n u ++ l) (texts_more (n + 1) ts t ∙ ap (λ k. added_from (n + 1) ts ++ added_by_text k t) (omega arith))
    ∙ sym (append_assoc (added_by_text n u) (added_from (n + 1) ts) (added_by_text (n + suc (length ts)) t))

pub texts_step : {A : Type 0} (shown : A → Text) (xs : List A) (n : ℕ) (x : A) → n < length xs → x ≡ get_or xs n x
    → added_from 0 (map shown (take (n + 1) xs)) ≡ added_from 0 (map shown (take n xs)) ++ added_by_text n (shown x)
texts_step {A} shown xs n x within at =
    ap (λ l. added_from 0 (map shown l)) (take_more xs n x within ∙ ap (λ (y : A). take n xs ++ y ∷ []) (sym at))
    ∙ ap (added_from 0) (map-append shown (take n xs) (x ∷ []))
    ∙ texts_more 0 (map shown (take n xs)) (shown x)
    ∙ ap (λ k. added_from 0 (map shown (take n xs)) ++ added_by_text k (shown x)) many
  where
    many : 0 + length (map shown (take n xs)) ≡ n
    many = omega (arith, length-map (take n xs) shown, length-take-le n xs (omega (arith, within)))

-- 2. The pairs

joined : {T : Type 0} (old new before more : List T) → SameMembers old before → Joins old new more → SameMembers new (before ++ more)
joined {T} old new before more same joins x = (
  λ h. ⊎_elim (λ (o : Contains before x). (joins x).1 (inl ((same x).0 o))) (λ (o : Contains more x). (joins x).1 (inr o)) (Contains-append_cases before more x h),
  λ h. ⊎_elim (λ (o : Contains old x). Contains-append_left before more x ((same x).1 o)) (λ (o : Contains more x). Contains-append_right before more x o) ((joins x).0 h),
)

pairs_grown : (old new : List (Path × ℕ)) (added : List Added) (a : Added) (n : ℕ) → n ≡ length added → SameMembers old (numbered_from 0 added) → Joins old new ((a.path, n) ∷ [])
    → SameMembers new (numbered_from 0 (added ++ a ∷ []))
pairs_grown old new added a n is same joins = subst (SameMembers new) (sym all) (joined old new (numbered_from 0 added) ((a.path, n) ∷ []) same joins)
  where
    all : numbered_from 0 (added ++ a ∷ []) ≡ numbered_from 0 added ++ (a.path, n) ∷ []
    all = numbered-append 0 added (a ∷ []) ∙ ap (λ (k : ℕ). numbered_from 0 added ++ (a.path, k) ∷ []) (omega (arith, is))

nodes_grown : (old new : List Path) (added : List Added) (a : Added) → SameMembers old (all_beginnings (pairs_added added)) → Joins old new (beginnings a.path)
    → SameMembers new (all_beginnings (pairs_added (added ++ a ∷ [])))
nodes_grown old new added a same joins = subst (SameMembers new) (sym all) (joined old new (all_beginnings (pairs_added added)) (beginnings a.path) same joins)
  where
    all : all_beginnings (pairs_added (added ++ a ∷ [])) ≡ all_beginnings (pairs_added added) ++ beginnings a.path
    all =
        ap all_beginnings (map-append (λ (b : Added). (b.path, b.id)) added (a ∷ []))
        ∙ flat_map-append (λ (p : Path × ℕ). beginnings p.0) (pairs_added added) ((a.path, a.id) ∷ [])
        ∙ ap (λ l. all_beginnings (pairs_added added) ++ l) (append-nil (beginnings a.path))

pub grown : (added : List Added) (a : Added) (n : ℕ) (old new : Numbering) → n ≡ length (items_of old.explainer) → HoldsItems added old
    → Joins (pairs_of old.ast) (pairs_of new.ast) ((a.path, n) ∷ []) → Joins (nodes_of old.ast) (nodes_of new.ast) (beginnings a.path)
    → items_of new.explainer ≡ items_of old.explainer ++ source_of_added a ∷ []
    → HoldsItems (added ++ a ∷ []) new
grown added a n old new is holds joins nodes more = record {
  tree = pairs_grown (pairs_of old.ast) (pairs_of new.ast) added a n (is ∙ ap length holds.explainer ∙ length-map added source_of_added) holds.tree joins;
  nodes = nodes_grown (nodes_of old.ast) (nodes_of new.ast) added a holds.nodes nodes;
  explainer = more ∙ ap (λ l. l ++ source_of_added a ∷ []) holds.explainer ∙ sym (map-append source_of_added added (a ∷ []));
}

-- how many items texts add
added_count : (id text n : ℕ) (paths : List Path) → length (added_items id text n paths) ≡ length paths
added_count id text n [] = refl
added_count id text n (p ∷ paths) = ap suc (added_count id text (n + 1) paths)

pub one_more_item : {A : Type 0} (p : A → Path) (added : List Added) (id text n bound : ℕ) (xs : List A) → n < length xs
    → bound < length (added ++ added_items id text 0 (map p (take n xs))) → bound + 1 < length (added ++ added_items id text 0 (map p xs))
one_more_item p added id text n bound xs within many =
    let before = added_items id text 0 (map p (take n xs)) in
    let all = added_items id text 0 (map p xs) in
    omega (
      arith,
      within,
      many,
      length-append added before,
      length-append added all,
      added_count id text 0 (map p (take n xs)),
      added_count id text 0 (map p xs),
      length-map (take n xs) p,
      length-map xs p,
      length-take-le n xs (omega (arith, within)),
    )

pub fewer_texts : {A : Type 0} (shown : A → Text) (n k : ℕ) (xs : List A) → length (added_from n (map shown (take k xs))) ≤ length (added_from n (map shown xs))
fewer_texts shown n zero [] = omega arith
fewer_texts shown n zero (x ∷ xs) = omega arith
fewer_texts shown n (suc k) [] = omega arith
fewer_texts shown n (suc k) (x ∷ xs) =
    let own = added_by_text n (shown x) in
    omega (arith, length-append own (added_from (n + 1) (map shown (take k xs))), length-append own (added_from (n + 1) (map shown xs)), fewer_texts shown (n + 1) k xs)

-- an error that is passed on
pub same_error : {T U : Type 0} (r : Result T NumberingError) (e : NumberingError) → IsErrAnd r (λ x. x ≡ e) → IsErrOf r TooManyItems → IsErrOf {T = U} (Err e) TooManyItems
same_error (Ok x) e passed is = cc
same_error (Err x) e passed is = cc

-- memory that was refused isn't a number of items
pub memory_only : {T : Type 0} (r : Result T NumberingError) → IsErrAnd r (λ e. e ≡ Memory) → IsErrOf r TooManyItems → ⊥
memory_only (Ok x) memory is = cc
memory_only (Err e) memory is = cc

-- 3. The paths of a list

paths-front : (front : trees.Items) (items : List ComplexSelector) → paths_of (with_item_list front items) ≡ paths_of front ++ map item_path items
paths-front front [] = sym (append-nil (paths_of front))
paths-front front (item ∷ items) = paths-front (trees.And front (item_of item)) items ∙ append_assoc (paths_of front) (path_of (item_of item) ∷ []) (map item_path items)

pub paths_in : (list : SelectorList) → paths_of (list_of list) ≡ map item_path (out-SelectorList list).items.items
paths_in list = ap paths_of (list_of-out list) ∙ paths-front trees.NoItems (out-SelectorList list).items.items
