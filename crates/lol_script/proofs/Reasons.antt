-- The line of a reason, written part by part.
use Rattle.std.proofs.Common.{◌≡◌, ℕ, List, [], ◌∷◌, ◌++◌, sym, ap, ◌∙◌}
use Rattle.std.proofs.lemmas.List.{append_assoc}

-- what is added after something else
pub then_more : (old mid new added more : List ℕ) → mid ≡ old ++ added → new ≡ mid ++ more → new ≡ old ++ (added ++ more)
then_more old mid new added more first next = next ∙ (ap (λ (t : List ℕ). t ++ more) first ∙ append_assoc old added more)

-- four fields with a tab between two, and the line's end
pub four_fields : (a b c d : List ℕ) → a ++ 9 ∷ (b ++ 9 ∷ (c ++ 9 ∷ (d ++ 10 ∷ []))) ≡ (a ++ 9 ∷ (b ++ 9 ∷ (c ++ 9 ∷ d))) ++ 10 ∷ []
four_fields a b c d =
    sym (append_assoc a (9 ∷ (b ++ 9 ∷ (c ++ 9 ∷ d))) (10 ∷ [])
    ∙ ap (λ (r : List ℕ). a ++ 9 ∷ r) (append_assoc b (9 ∷ (c ++ 9 ∷ d)) (10 ∷ []) ∙ ap (λ (r : List ℕ). b ++ 9 ∷ r) (append_assoc c (9 ∷ d) (10 ∷ []))))

pub reason_written : (t0 t1 t2 t3 t4 t5 t6 t7 t8 t9 a b c d : List ℕ) → t1 ≡ t0 ++ 119 ∷ 104 ∷ 121 ∷ 9 ∷ [] → t2 ≡ t1 ++ a → t3 ≡ t2 ++ 9 ∷ [] → t4 ≡ t3 ++ b → t5 ≡ t4 ++ 9 ∷ []
    → t6 ≡ t5 ++ c → t7 ≡ t6 ++ 9 ∷ [] → t8 ≡ t7 ++ d → t9 ≡ t8 ++ 10 ∷ []
    → t9 ≡ t0 ++ ((119 ∷ 104 ∷ 121 ∷ 9 ∷ (a ++ 9 ∷ (b ++ 9 ∷ (c ++ 9 ∷ d)))) ++ 10 ∷ [])
reason_written t0 t1 t2 t3 t4 t5 t6 t7 t8 t9 a b c d h1 h2 h3 h4 h5 h6 h7 h8 h9 =
    let e8 = then_more t7 t8 t9 d (10 ∷ []) h8 h9 in
    let e7 = then_more t6 t7 t9 (9 ∷ []) (d ++ 10 ∷ []) h7 e8 in
    let e6 = then_more t5 t6 t9 c (9 ∷ (d ++ 10 ∷ [])) h6 e7 in
    let e5 = then_more t4 t5 t9 (9 ∷ []) (c ++ 9 ∷ (d ++ 10 ∷ [])) h5 e6 in
    let e4 = then_more t3 t4 t9 b (9 ∷ (c ++ 9 ∷ (d ++ 10 ∷ []))) h4 e5 in
    let e3 = then_more t2 t3 t9 (9 ∷ []) (b ++ 9 ∷ (c ++ 9 ∷ (d ++ 10 ∷ []))) h3 e4 in
    let e2 = then_more t1 t2 t9 a (9 ∷ (b ++ 9 ∷ (c ++ 9 ∷ (d ++ 10 ∷ [])))) h2 e3 in
    then_more t0 t1 t9 (119 ∷ 104 ∷ 121 ∷ 9 ∷ []) (a ++ 9 ∷ (b ++ 9 ∷ (c ++ 9 ∷ (d ++ 10 ∷ [])))) h1 e2
    ∙ ap (λ (more : List ℕ). t0 ++ (119 ∷ 104 ∷ 121 ∷ 9 ∷ more)) (four_fields a b c d)
