-- Lists with commas, which are written field by field.
use Rattle.std.proofs.Common.{◌≡◌, ℕ, Bool, true, false, List, [], ◌∷◌, ◌++◌, map, refl, sym, ap, ◌∙◌}
use Rattle.std.specs.List.{flat_map}
use Rattle.std.specs.Prelude.{codes, decimal}
use Rattle.std.proofs.lemmas.List.{append_assoc, append-nil}
use Rattle.lol_script.specs.AnswerTexts.{HasListed}
use Rattle.lol_script.specs.Output.{comma_list}
use Rattle.lol_script.proofs.Reasons.{then_more}

pub map_through : {A B C : Type 0} (f : B → C) (g : A → B) (xs : List A) → map (λ x. f (g x)) xs ≡ map f (map g xs)
map_through f g [] = refl
map_through f g (x ∷ xs) = ap (λ ys. f (g x) ∷ ys) (map_through f g xs)

-- what is written for fields, of which there is one
pub listed_is : {A : Type 0} (shown : A → List ℕ) (x : A) (xs : List A) → comma_list (map shown (x ∷ xs)) ≡ shown x ++ flat_map (λ y. 44 ∷ shown y) xs
listed_is shown x [] = sym (append-nil (shown x))
listed_is shown x (y ∷ ys) = ap (λ rest. shown x ++ 44 ∷ rest) (listed_is shown y ys)

-- a number more
listed_more : (x : ℕ) (xs : List ℕ) (y : ℕ) → comma_list (map decimal (x ∷ (xs ++ y ∷ []))) ≡ comma_list (map decimal (x ∷ xs)) ++ 44 ∷ decimal y
listed_more x [] y = refl
listed_more x (z ∷ xs) y =
    ap (λ rest. decimal x ++ 44 ∷ rest) (listed_more z xs y) ∙ sym (append_assoc (decimal x) (44 ∷ comma_list (map decimal (z ∷ xs))) (44 ∷ decimal y))

pub first_listed : (before numbers : List ℕ) (y : ℕ) (has_some : Bool) (old new : List ℕ) → has_some ≡ false → HasListed before has_some numbers old → new ≡ old ++ decimal y → HasListed before true (numbers ++ y ∷ []) new
first_listed before [] y has_some old new none has is = (refl, is ∙ ap (λ (t : List ℕ). t ++ decimal y) has.1)
first_listed before (x ∷ xs) y has_some old new none has is = let some = has.0 in cc

pub next_listed : (before numbers : List ℕ) (y : ℕ) (has_some : Bool) (old new : List ℕ) → has_some ≡ true → HasListed before has_some numbers old → new ≡ old ++ 44 ∷ decimal y → HasListed before true (numbers ++ y ∷ []) new
next_listed before [] y has_some old new some has is = let none = has.0 in cc
next_listed before (x ∷ xs) y has_some old new some has is = (
  refl,
  is ∙ (ap (λ (t : List ℕ). t ++ 44 ∷ decimal y) has.1
      ∙ (append_assoc before (comma_list (map decimal (x ∷ xs))) (44 ∷ decimal y) ∙ ap (λ (l : List ℕ). before ++ l) (sym (listed_more x xs y)))),
)

-- the line of a start tag, written part by part
pub start_written : (t0 t1 t2 t3 list rest : List ℕ) → t1 ≡ t0 ++ 115 ∷ 116 ∷ 97 ∷ 114 ∷ 116 ∷ 9 ∷ [] → t2 ≡ t1 ++ list → t3 ≡ t2 ++ (rest ++ 10 ∷ []) → t3 ≡ t0 ++ ((codes "start" ++ (9 ∷ list ++ rest)) ++ 10 ∷ [])
start_written t0 t1 t2 t3 list rest h1 h2 h3 =
    let e2 = then_more t1 t2 t3 list (rest ++ 10 ∷ []) h2 h3 in
    then_more t0 t1 t3 (115 ∷ 116 ∷ 97 ∷ 114 ∷ 116 ∷ 9 ∷ []) (list ++ (rest ++ 10 ∷ [])) h1 e2
    ∙ ap (λ (more : List ℕ). t0 ++ (115 ∷ 116 ∷ 97 ∷ 114 ∷ 116 ∷ 9 ∷ more)) (sym (append_assoc list rest (10 ∷ [])))
