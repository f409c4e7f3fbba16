-- One more element that is closed.
use Rattle.std.proofs.Common.{arith, ◌≡◌, ◌<◌, ◌≤◌, ◌+◌, ℕ, List, [], ◌∷◌, ◌++◌, length, take}
use Rattle.std.specs.Prelude.{Option, min}
use Rattle.std.proofs.lemmas.Grind.{common_steps}
use Rattle.std.proofs.lemmas.List.{length-append, take-append-le, take_all}
use Rattle.lol_matcher.specs.declared.open_element.OpenElement.{OpenElement}

-- it is counted
pub counts_one : (elements : List (OpenElement ℕ)) (element : OpenElement ℕ) (closed kept counted : ℕ)
    → closed ≡ min (length elements) 18446744073709551615 → kept ≡ closed → counted ≡ min (kept + 1) 18446744073709551615
    → counted ≡ min (length (elements ++ element ∷ [])) 18446744073709551615
counts_one elements element closed kept counted was same is = let more = length-append elements (element ∷ []) in grind arith

module _ {A : Type 0} (room : ℕ) (vs : List A) (v : A) where
  -- where there is room, the list gets one longer
  pub keeps_one : length (take room vs) < room → take room vs ++ v ∷ [] ≡ take room (vs ++ v ∷ [])
  keeps_one inside = grind (arith, common_steps, take_all room vs, take_all room (vs ++ v ∷ []))

  -- and else it stays
  pub keeps_none : room ≤ length (take room vs) → take room vs ≡ take room (vs ++ v ∷ [])
  keeps_none outside = grind (arith, common_steps, take-append-le room vs (v ∷ []))
