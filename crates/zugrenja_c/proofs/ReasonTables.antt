-- Tables of reasons.
use Rattle.std.proofs.Common.{arith, ◌≡◌, ◌+◌, ℕ, suc, List, [], ◌∷◌, ◌++◌, length, reverse, refl, sym, ap, ◌∙◌, zero-add, add-zero, append-nil, append_assoc}
use Rattle.std.proofs.lemmas.List.{length-append, length-reverse}
use Rattle.lol_reasons.specs.Explanations.{Reason}
use Rattle.zugrenja_c.specs.Reasons.{numbers_of, placed_at, placed_from}

-- one more reason, whose numbers begin where the others' end
pub placed_more : (start : ℕ) (reasons : List Reason) (reason : Reason)
    → placed_from start (reasons ++ reason ∷ []) ≡ placed_from start reasons ++ placed_at (start + length (numbers_of reasons)) reason ∷ []
placed_more start [] reason = ap (λ n. placed_at n reason ∷ []) (sym (add-zero start))
placed_more start (first ∷ reasons) reason =
    let after = start + length first.witness in
    let counted : after + length (numbers_of reasons) ≡ start + length (numbers_of (first ∷ reasons)) = omega (arith, length-append (reverse first.witness) (numbers_of reasons), length-reverse first.witness) in
    ap (λ places. placed_at start first ∷ places) (placed_more after reasons reason ∙ ap (λ n. placed_from after reasons ++ placed_at n reason ∷ []) counted)

pub placed_next : (reasons : List Reason) (reason : Reason)
    → placed_from 0 (reasons ++ reason ∷ []) ≡ placed_from 0 reasons ++ placed_at (length (numbers_of reasons)) reason ∷ []
placed_next reasons reason = placed_more 0 reasons reason ∙ ap (λ n. placed_from 0 reasons ++ placed_at n reason ∷ []) (zero-add (length (numbers_of reasons)))

-- its numbers come last
pub numbers_next : (reasons : List Reason) (reason : Reason) → numbers_of (reasons ++ reason ∷ []) ≡ numbers_of reasons ++ reverse reason.witness
numbers_next [] reason = append-nil (reverse reason.witness)
numbers_next (first ∷ reasons) reason =
    ap (λ (ns : List ℕ). reverse first.witness ++ ns) (numbers_next reasons reason) ∙ sym (append_assoc (reverse first.witness) (numbers_of reasons) (reverse reason.witness))

-- there is a place for each
pub placed_length : (start : ℕ) (reasons : List Reason) → length (placed_from start reasons) ≡ length reasons
placed_length start [] = refl
placed_length start (reason ∷ reasons) = ap suc (placed_length (start + length reason.witness) reasons)
