-- What more bytes add to a run.
use Rattle.std.proofs.Common.{◌≡◌, ℕ, ◌+◌, ◌<◌, ◌≤◌, List, [], ◌∷◌, ◌++◌, Option, Some, None, false, length, get_or, take, drop, refl, sym, ◌∙◌, ap, add-one, arith, append_assoc, ◌-◌, length-drop}
use Rattle.std.proofs.Math.Seq.{take-suc, take-add, take-append_seam}
use Rattle.std.proofs.lemmas.List.{take_rest}
use Rattle.std.specs.Option.{is_some}
use Rattle.lol_tags.specs.Runs.{with_some, run, given, run-append, given-append}

-- one byte
pub run-more : {S : Type 0} (step : S → ℕ → S) (r0 r : S) (s : List ℕ) (i : ℕ) → i < length s → r ≡ run step r0 (take i s)
    → step r (get_or s i 0) ≡ run step r0 (take (i + 1) s)
run-more step r0 r s i h e =
    rw (add-one i, take-suc s i 0 h) (ap (λ x. step x (get_or s i 0)) e ∙ sym (run-append step r0 (take i s) (get_or s i 0 ∷ [])))

pub given-more : {S X : Type 0} (step : S → ℕ → S) (gives : S → ℕ → Option X) (r0 r : S) (s : List ℕ) (i : ℕ) → i < length s → r ≡ run step r0 (take i s)
    → given step gives r0 (take (i + 1) s) ≡ given step gives r0 (take i s) ++ with_some (gives r (get_or s i 0)) []
given-more step gives r0 r s i h e =
    rw (add-one i, take-suc s i 0 h)
    (given-append step gives r0 (take i s) (get_or s i 0 ∷ [])
    ∙ ap (λ x. given step gives r0 (take i s) ++ with_some (gives x (get_or s i 0)) []) (sym e))

-- The bytes from a place on are read up to another one: `rest` stands as the code has it.
abbrev pub rest : List ℕ → ℕ → List ℕ
rest s i = take (length s - i) (drop i s)

pub run-part : {S : Type 0} (step : S → ℕ → S) (r0 r new : S) (s : List ℕ) (i n : ℕ)
    → r ≡ run step r0 (take i s) → new ≡ run step r (take n (rest s i)) → new ≡ run step r0 (take (i + n) s)
run-part step r0 r new s i n stands e =
    e
    ∙ ap (λ x. run step r (take n x)) (take_rest s i)
    ∙ ap (λ x. run step x (take n (drop i s))) stands
    ∙ sym (run-append step r0 (take i s) (take n (drop i s)))
    ∙ ap (run step r0) (sym (take-add i n s))

pub given-part : {S X : Type 0} (step : S → ℕ → S) (gives : S → ℕ → Option X) (r0 r : S) (s : List ℕ) (i n : ℕ) (told last : List X)
    → r ≡ run step r0 (take i s) → told ≡ given step gives r0 (take i s) → last ≡ given step gives r (take n (rest s i))
    → told ++ last ≡ given step gives r0 (take (i + n) s)
given-part step gives r0 r s i n told last stands before e =
    ap (λ xs. xs ++ last) before
    ∙ ap (λ xs. given step gives r0 (take i s) ++ xs)
    (e ∙ ap (λ x. given step gives r (take n x)) (take_rest s i) ∙ ap (λ x. given step gives x (take n (drop i s))) stands)
    ∙ sym (given-append step gives r0 (take i s) (take n (drop i s)))
    ∙ ap (given step gives r0) (sym (take-add i n s))

-- the same behind others
pub given-behind : {S X : Type 0} (step : S → ℕ → S) (gives : S → ℕ → Option X) (r0 r : S) (s : List ℕ) (i n : ℕ) (before told last : List X)
    → r ≡ run step r0 (take i s) → told ≡ before ++ given step gives r0 (take i s) → last ≡ given step gives r (take n (rest s i))
    → told ++ last ≡ before ++ given step gives r0 (take (i + n) s)
given-behind step gives r0 r s i n before told last stands read e =
    ap (λ xs. xs ++ last) read
    ∙ append_assoc before (given step gives r0 (take i s)) last
    ∙ ap (λ xs. before ++ xs) (given-part step gives r0 r s i n (given step gives r0 (take i s)) last stands refl e)

pub none-given : {X : Type 0} (x : Option X) → false ≡ is_some x → with_some x [] ≡ []
none-given None e = refl
none-given (Some x) e = cc

pub begins-with : {X : Type 0} (before more now : List X) → now ≡ before ++ more → take (length before) now ≡ before
begins-with before more now e = ap (take (length before)) e ∙ take-append_seam before more

pub part-within : (s : List ℕ) (i n : ℕ) → i ≤ length s → n ≤ length (rest s i) → i + n ≤ length s
part-within s i n h k =
    let len : length (rest s i) ≡ length s - i = ap length (take_rest s i) ∙ length-drop i s in omega arith
