-- When two texts are equal for a selector.
use Rattle.std.specs.Prelude.{◌≡◌, ℕ, List, map}
use Rattle.std.specs.Char.{to_ascii_lowercase}
use Rattle.lol_base.specs.declared.comparison.CaseSensitivity.{CaseSensitivity}
use Rattle.lol_base.specs.declared.comparison.CaseSensitivity.TheVariants.{CaseSensitive, AsciiCaseInsensitive}

-- the same bytes, or the same bytes once ASCII letters are lowercased (Selectors 4, section 6.3)
abbrev pub SameText : CaseSensitivity → List ℕ → List ℕ → Type 0
SameText CaseSensitive a b = a ≡ b
SameText AsciiCaseInsensitive a b = map to_ascii_lowercase a ≡ map to_ascii_lowercase b
