-- What is read behind an ampersand.
use Rattle.std.specs.Prelude.{ℕ, List}

-- how many bytes belong to a reference, and its characters, in UTF-8
pub record Reference : Type 0 where
  pub taken : ℕ
  pub characters : List ℕ

abbrev pub reference_of : ℕ → List ℕ → Reference
reference_of taken characters = record { taken = taken; characters = characters }
