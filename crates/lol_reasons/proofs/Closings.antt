-- What an end tag closes.
use Rattle.std.proofs.Common.{◌≡◌, ℕ, ◌+◌, Bool, true, false, not, cond, List, [], ◌∷◌, ◌++◌, map, reverse, length, position, Some, None, inl, inr, refl, sym, ap, ◌∙◌, arith, nat_lt}
use Rattle.std.specs.List.{position_or_len}
use Rattle.std.proofs.lemmas.List.{reverse-append, map-append, take_at, drop_at, length-append, append_assoc}
use Rattle.std.proofs.lemmas.Bool.Decides.{nat_tests}
use Rattle.lol_base.specs.Names.{same_name}
use Rattle.lol_instructions.specs.Tests.{Element}
use Rattle.lol_base.specs.MemberLaws.{Among, contains_from_among}
use Rattle.lol_machine.specs.Documents.{index_of, inner_part, outer_part}
use Rattle.lol_machine.specs.Answers.{Ended}
use Rattle.lol_reasons.specs.RunLaws.{EndsCloseInside}

module _ {A : Type 0} (p : A → Bool) where
  first_place : (inner : List A) (x : A) (outer : List A) → p x ≡ true → ((y : A) → Among inner y → p y ≡ false) → position_or_len p (inner ++ x ∷ outer) ≡ length inner
  first_place [] x outer fits none = λ i. cond (not (fits i)) (1 + position_or_len p outer) 0
  first_place (y ∷ inner) x outer fits none =
      (λ i. cond (not (none y (inl refl) i)) (1 + position_or_len p (inner ++ x ∷ outer)) 0)
      ∙ (ap (λ n. 1 + n) (first_place inner x outer fits (λ z a. none z (inr a))) ∙ omega arith)

  found_first : (inner : List A) (x : A) (outer : List A) → p x ≡ true → ((y : A) → Among inner y → p y ≡ false) → position p (inner ++ x ∷ outer) ≡ Some (length inner)
  found_first inner x outer fits none = by_place (position_or_len p (inner ++ x ∷ outer)) (first_place inner x outer fits none)
    where
      by_place : (n : ℕ) → n ≡ length inner → cond (nat_lt n (length (inner ++ x ∷ outer))) (Some n) None ≡ Some (length inner)
      by_place n is = let more : length (inner ++ x ∷ outer) ≡ length inner + length (x ∷ outer) = length-append inner (x ∷ outer) in grind (arith, nat_tests)

pub ends_close_inside : EndsCloseInside
ends_close_inside s esi d name inner e outer is named others =
    let numbers : List Element → List ℕ = map (λ (x : Element). x.number) in
    let index : index_of name d.open_elements ≡ Some (length inner) =
    ap (index_of name) is ∙ found_first (λ (x : Element). same_name x.tag.name name) inner e outer named (λ x a. others x (contains_from_among inner x a)) in
    let split : d.open_elements ≡ (inner ++ e ∷ []) ++ outer = is ∙ sym (append_assoc inner (e ∷ []) outer) in
    let count : length (inner ++ e ∷ []) ≡ length inner + 1 = length-append inner (e ∷ []) in
    let inside : inner_part (index_of name d.open_elements) d.open_elements ≡ inner ++ e ∷ [] =
    (λ i. inner_part (index i) (split i)) ∙ take_at (inner ++ e ∷ []) outer (length inner + 1) count in
    record {
      answered = ap (λ (xs : List Element). Ended (reverse (numbers xs))) inside
          ∙ ap Ended (ap reverse (map-append (λ (x : Element). x.number) inner (e ∷ [])) ∙ reverse-append (numbers inner) (e.number ∷ []));
      around = (λ i. outer_part (index i) (split i)) ∙ drop_at (inner ++ e ∷ []) outer (length inner + 1) count;
      children = refl;
    }
