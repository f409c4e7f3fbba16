-- The indices that An+B names (Selectors 4, section 13.3.1: "the An+Bth child").
use Rattle.std.specs.Prelude.{◌≡◌, ◌≢◌, ℕ, zero, suc, ◌%◌, ◌==◌, Bool, false, ℤ, pos, negsuc, ◌+ℤ◌, ◌-ℤ◌, ◌*ℤ◌, ◌<ℤ◌, ◌⊎◌}

-- A and B
pub record Progression : Type 0 where
  pub step : ℤ
  pub offset : ℤ

-- some whole n at least 0 has `index = step * n + offset`
abbrev pub Has : Progression → ℤ → Type 0
Has p index = (n : ℕ) × (index ≡ p.step *ℤ pos n +ℤ p.offset)

-- whether a distance is `step * n` for some whole n at least 0
abbrev pub is_whole : ℤ → ℤ → Bool
is_whole (pos zero) (pos d) = d == 0
is_whole (pos zero) (negsuc d) = false
is_whole (pos (suc step)) (pos d) = d % suc step == 0
is_whole (pos (suc step)) (negsuc d) = false
is_whole (negsuc step) (pos d) = d == 0
is_whole (negsuc step) (negsuc d) = suc d % suc step == 0

-- `Has` as a test, which computes
abbrev pub has_index : Progression → ℤ → Bool
has_index p index = is_whole p.step (index -ℤ p.offset)

-- one divides the other
abbrev pub Divides : ℤ → ℤ → Type 0
Divides a b = (k : ℤ) × (b ≡ a *ℤ k)

-- both are above 0, or both below
abbrev pub SameSign : ℤ → ℤ → Type 0
SameSign a b = ((pos 0 <ℤ a) × (pos 0 <ℤ b)) ⊎ ((a <ℤ pos 0) × (b <ℤ pos 0))

-- a distance is `step * n` for some whole n at least 0
abbrev pub IsWhole : ℤ → ℤ → Type 0
IsWhole step distance = (n : ℕ) × (distance ≡ step *ℤ pos n)

-- the offset itself, and what lies whole steps beyond it
abbrev pub LiesOn : Progression → ℤ → Type 0
LiesOn p index = (index ≡ p.offset) ⊎ ((p.step ≢ pos 0) × Divides p.step (index -ℤ p.offset) × SameSign p.step (index -ℤ p.offset))
