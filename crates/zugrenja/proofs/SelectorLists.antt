-- One selector more.
use Rattle.std.proofs.Common.{◌≡◌, ◌↔◌, ◌⊎◌, inl, inr, ℕ, ◌+◌, ◌<◌, ◌≤◌, suc, true, List, map, take, drop, get_or, [], ◌∷◌, ◌++◌, Result, Ok, length, refl, sym, subst, ap, ◌∙◌, arith, append_assoc, Contains}
use Rattle.std.specs.Prelude.{is_ok}
use Rattle.std.proofs.lemmas.List.{append-nil, length-map, length-take-le, map-append, take-append-drop, take_more}
use Rattle.std.proofs.Math.Seq.{drop-cons}
use Rattle.lol_base.specs.MemberLaws.{contains-append}
use Rattle.lol_css.specs.Accepting.{accept}
use Rattle.lol_css.specs.Trees.{Items}
use Rattle.lol_css.specs.declared.error.SelectorError.{SelectorError}
use Rattle.lol_matcher.specs.Building.{Adds, IsRefused}
use Rattle.lol_matcher.specs.declared.error.AddError.{AddError}
use Rattle.lol_matcher.specs.declared.error.AddError.TheVariants.{Refused, Memory}
use Rattle.lol_program.specs.Asts.{pairs_of}
use Rattle.lol_program.specs.Paths.{Path}
use Rattle.lol_program.specs.declared.ast.Ast.{Ast}
use Rattle.zugrenja.specs.Selectors.{AreAccepted, HasSelectors, IsRefusedAt, StandsAt, numbered_from, pairs_in}

accepted_more : (texts : List (List ℕ)) (text : List ℕ) → AreAccepted texts → is_ok (accept text) ≡ true → AreAccepted (texts ++ text ∷ [])
accepted_more [] text all ok = (ok, tt)
accepted_more (first ∷ texts) text all ok = (all.0, accepted_more texts text all.1 ok)

numbered_more : (n : ℕ) (texts : List (List ℕ)) (text : List ℕ)
    → numbered_from n (texts ++ text ∷ []) ≡ numbered_from n texts ++ pairs_in (n + length texts) (accept text)
numbered_more n [] text =
    let same : n ≡ n + 0 = omega arith in append-nil (pairs_in n (accept text)) ∙ ap (λ (k : ℕ). pairs_in k (accept text)) same
numbered_more n (first ∷ texts) text =
    let same : (n + 1) + length texts ≡ n + length (first ∷ texts) = omega arith in
    ap (λ (l : List (Path × ℕ)). pairs_in n (accept first) ++ l) (numbered_more (n + 1) texts text)
    ∙ sym (append_assoc (pairs_in n (accept first)) (numbered_from (n + 1) texts) (pairs_in ((n + 1) + length texts) (accept text)))
    ∙ ap (λ (k : ℕ). (pairs_in n (accept first) ++ numbered_from (n + 1) texts) ++ pairs_in k (accept text)) same

pub none_has : (ast : Ast) → pairs_of ast ≡ [] → HasSelectors [] ast
none_has ast none = record {
  accepted = tt;
  pairs = λ x. (subst (λ (l : List (Path × ℕ)). Contains l x) none, subst (λ (l : List (Path × ℕ)). Contains l x) (sym none));
}

pub one_more_has : (texts : List (List ℕ)) (text : List ℕ) (number : ℕ) (old new : Ast) → number ≡ 1 + length texts → HasSelectors texts old
    → Adds number text old new → HasSelectors (texts ++ text ∷ []) new
one_more_has texts text number old new is has adds =
    let added : pairs_in number (accept text) ≡ pairs_in number (Ok adds.items) = ap (pairs_in number) adds.accepted in
    let all : numbered_from 1 (texts ++ text ∷ []) ≡ numbered_from 1 texts ++ pairs_in number (Ok adds.items) =
    numbered_more 1 texts text ∙ ap (λ (k : ℕ). numbered_from 1 texts ++ pairs_in k (accept text)) (sym is)
    ∙ ap (λ (l : List (Path × ℕ)). numbered_from 1 texts ++ l) added in
    record {
      accepted = accepted_more texts text has.accepted (ap is_ok adds.accepted);
      pairs = λ x. (
        λ h. subst (λ (l : List (Path × ℕ)). Contains l x) (sym all) ((contains-append (numbered_from 1 texts) (pairs_in number (Ok adds.items)) x).1
            (elim ((adds.pairs x).0 h) [ inl old ↦ inl ((has.pairs x).0 old) | inr new ↦ inr new ])),
        λ h. (adds.pairs x).1 (elim ((contains-append (numbered_from 1 texts) (pairs_in number (Ok adds.items)) x).0 (subst (λ (l : List (Path × ℕ)). Contains l x) all h))
            [ inl old ↦ inl ((has.pairs x).1 old) | inr new ↦ inr new ]),
      );
    }

pub has_same : (texts : List (List ℕ)) (old new : Ast) → pairs_of new ≡ pairs_of old → HasSelectors texts old → HasSelectors texts new
has_same texts old new same has = record {
  accepted = has.accepted;
  pairs = λ x. (λ h. (has.pairs x).0 (subst (λ (l : List (Path × ℕ)). Contains l x) same h), λ h. subst (λ (l : List (Path × ℕ)). Contains l x) (sym same) ((has.pairs x).1 h));
}

-- 2. Texts by their numbers

pub refused_at : (texts : List (List ℕ)) (number : ℕ) (text : List ℕ) (error : AddError) → StandsAt texts number text → IsRefused text error
    → IsRefusedAt texts number error
refused_at texts number text (Refused cause location) stands refused = (text, stands, refused)
refused_at texts number text Memory stands refused = tt

pub memory_at : (texts : List (List ℕ)) (number : ℕ) (error : AddError) → error ≡ Memory → IsRefusedAt texts number error
memory_at texts number error is = subst (IsRefusedAt texts number) (sym is) tt

module _ {S : Type 0} (f : S → List ℕ) where
  pub stands_at : (xs : List S) (i : ℕ) (x : S) → i < length xs → x ≡ get_or xs i x → StandsAt (map f xs) (i + 1) (f x)
  stands_at xs i x within is =
      let cut : xs ≡ take i xs ++ (x ∷ drop (suc i) xs) =
      sym (take-append-drop i xs) ∙ ap (λ (l : List S). take i xs ++ l) (drop-cons xs i x within ∙ ap (λ (y : S). y ∷ drop (suc i) xs) (sym is)) in
      record {
        before = map f (take i xs);
        behind = map f (drop (suc i) xs);
        whole = ap (map f) cut ∙ map-append f (take i xs) (x ∷ drop (suc i) xs);
        number_is = ap (λ (n : ℕ). n + 1) (sym (length-map (take i xs) f ∙ len));
      }
    where
      up_to : i ≤ length xs
      up_to = omega arith

      len : length (take i xs) ≡ i
      len = length-take-le i xs up_to

  pub texts_more : (xs : List S) (i : ℕ) (x : S) → i < length xs → x ≡ get_or xs i x → map f (take (i + 1) xs) ≡ map f (take i xs) ++ f x ∷ []
  texts_more xs i x within is =
      ap (map f) (take_more xs i x within) ∙ map-append f (take i xs) (get_or xs i x ∷ []) ∙ ap (λ (y : S). map f (take i xs) ++ f y ∷ []) (sym is)
