-- What is kept of the open elements, where one was opened, and where the last one is changed.
use Rattle.std.proofs.Common.{◌≡◌, ℕ, suc, ◌-◌, ◌<◌, Bool, true, false, List, [], ◌∷◌, ◌++◌, length, map, Option, Some, None, refl, sym, ap, subst, ◌∙◌, arith, length-append}
use Rattle.std.specs.Prelude.{slice_get, slice_set, IsTrue, ◌↔◌, if◌then◌else◌}
use Rattle.lol_memory.specs.declared.match_info.MatchInfo.{MatchInfo}
use Rattle.lol_machine.specs.Answers.{Match}
use Rattle.lol_machine.specs.Vms.{AreOpened, info_of}
use Rattle.lol_matcher.specs.Answering.{KeepsOne, change_last, last_value, with_last_number}
use Rattle.lol_matcher.specs.Keeping.{ids_of}
use Rattle.lol_matcher.specs.declared.open_element.OpenElement.{OpenElement}

same_ids : (matched : List Match) → map (λ (m : Match). m.id) matched ≡ map (λ (info : MatchInfo). info.match_id) (map info_of matched)
same_ids [] = refl
same_ids (m ∷ matched) = ap (λ ids. m.id ∷ ids) (same_ids matched)

-- 1. The last of a list

module _ {A : Type 0} (change : A → A) where
  change_last-push : (front : List A) (x : A) → change_last change (front ++ x ∷ []) ≡ front ++ change x ∷ []
  change_last-push [] x = refl
  change_last-push (y ∷ []) x = refl
  change_last-push (y ∷ z ∷ front) x = ap (λ xs. y ∷ xs) (change_last-push (z ∷ front) x)

  -- what the change keeps of each stays
  pub change_last-map : {B : Type 0} (f : A → B) → ((x : A) → f (change x) ≡ f x) → (xs : List A) → map f (change_last change xs) ≡ map f xs
  change_last-map f keeps [] = refl
  change_last-map f keeps (x ∷ []) = ap (λ y. y ∷ []) (keeps x)
  change_last-map f keeps (x ∷ y ∷ xs) = ap (λ ys. f x ∷ ys) (change_last-map f keeps (y ∷ xs))

  pub change_last_is : (xs : List A) (x : A) → slice_get xs (length xs - 1) ≡ Some x → slice_set xs (length xs - 1) (change x) ≡ change_last change xs
  change_last_is [] x is = cc
  change_last_is (y ∷ []) x is = ap (λ z. change z ∷ []) (sym (same_some is))
    where
      same_some : {x y : A} → Some x ≡ Some y → x ≡ y
      same_some is = cc
  change_last_is (y ∷ z ∷ xs) x is =
      let next : length (y ∷ z ∷ xs) - 1 ≡ suc (length (z ∷ xs) - 1) = omega arith in
      ap (λ n. slice_set (y ∷ z ∷ xs) n (change x)) next ∙ ap (λ ys. y ∷ ys) (change_last_is (z ∷ xs) x (subst (λ n. slice_get (y ∷ z ∷ xs) n ≡ Some x) next is))

  pub nothing_last : (xs : List A) → slice_get xs (length xs - 1) ≡ None → xs ≡ change_last change xs
  nothing_last [] is = refl
  nothing_last (y ∷ []) is = cc
  nothing_last (y ∷ z ∷ xs) is =
      let next : length (y ∷ z ∷ xs) - 1 ≡ suc (length (z ∷ xs) - 1) = omega arith in
      ap (λ ys. y ∷ ys) (nothing_last (z ∷ xs) (subst (λ n. slice_get (y ∷ z ∷ xs) n ≡ None) next is))

module _ {T : Type 0} where
  pub last_value_is : (value : Option T) (xs : List (OpenElement T)) (e : OpenElement T) → slice_get xs (length xs - 1) ≡ Some e → last_value value xs ≡ e.value
  last_value_is value [] e is = cc
  last_value_is value (x ∷ []) e is = ap (λ (k : OpenElement T). k.value) (same_some is)
    where
      same_some : {x y : OpenElement T} → Some x ≡ Some y → x ≡ y
      same_some is = cc
  last_value_is value (x ∷ y ∷ xs) e is =
      let next : length (x ∷ y ∷ xs) - 1 ≡ suc (length (y ∷ xs) - 1) = omega arith in
      last_value_is value (y ∷ xs) e (subst (λ n. slice_get (x ∷ y ∷ xs) n ≡ Some e) next is)

  -- 2. One more element

  more : (old : List (OpenElement T)) (e : OpenElement T) → length old < length (old ++ e ∷ [])
  more old e = let sizes = length-append old (e ∷ []) in omega (arith, sizes)

  pub is_opened : (content opened : Bool) (matched : List Match) (old mid : List (OpenElement T)) → AreOpened ids_of content matched old mid → IsTrue opened ↔ (length old < length mid) → opened ≡ content
  is_opened true true matched old mid h grows = refl
  is_opened true false matched old mid h grows = grows.1 (subst (λ (es : List (OpenElement T)). length old < length es) (sym h.1) (more old h.0))
  is_opened false true matched old mid h grows = let less = grows.0 refl in absurd (let same = ap length h in omega (arith, less, same))
  is_opened false false matched old mid h grows = refl

  abbrev numbered : ℕ → Bool → List (OpenElement T) → List (OpenElement T)
  numbered number opened mid = if opened then with_last_number number mid else mid

  pub keeps_one : (content opened : Bool) (number : ℕ) (matched : List Match) (items : List MatchInfo) (old mid new : List (OpenElement T)) → AreOpened ids_of content matched old mid → opened ≡ content → new ≡ numbered number opened mid
      → items ≡ map info_of matched → KeepsOne content number items old new
  keeps_one false opened number matched items old mid new h same is told = is ∙ (ap (λ b. numbered number b mid) same ∙ h)
  keeps_one true opened number matched items old mid new h same is told = (
    record h.0 { number = number; value = None },
    is ∙ (ap (λ b. numbered number b mid) same ∙ (ap (with_last_number number) h.1 ∙ change_last-push (λ (e : OpenElement T). record e { number = number; value = None }) old h.0)),
    refl,
    refl,
    h.2 ∙ (same_ids matched ∙ ap (map (λ (info : MatchInfo). info.match_id)) (sym told)),
  )
