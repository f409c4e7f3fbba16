use Rattle.std.proofs.Common.{◌≡◌, ℕ, List, [], ◌∷◌, codes, bytes_eq, true, false, true≢false, refl, sym, ap, ◌∙◌}
use Rattle.lol_vectors.proofs.worked_texts.texts_are_the_same.Goals as goal

-- lists of numbers whose comparison computes to false differ
differ : (a b : List ℕ) → bytes_eq a b ≡ false → bytes_eq b b ≡ true → a ≡ b → ⊥
differ a b other itself same = true≢false (sym itself ∙ (sym (ap (λ c. bytes_eq c b) same) ∙ other))

pub returns : goal.returns
returns c = record {
  exact = refl;
  case_differs = differ (codes "aZ") (codes "Az") refl refl;
  letters = refl;
  brackets = differ (codes "[") (codes "{") refl refl;
  at_sign = differ (codes "@") (codes "`") refl refl;
  umlaut = differ (196 ∷ []) (228 ∷ []) refl refl;
}
