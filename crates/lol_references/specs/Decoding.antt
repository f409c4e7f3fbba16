-- The value of an attribute whose bytes are given as they are written (13.2.5.36 to 13.2.5.38, 13.2.5.72).
use Rattle.std.specs.Prelude.{ℕ, zero, suc, ◌==◌, List, [], ◌∷◌, ◌++◌, Option, drop, slice_index, unwrap_or, if◌then◌else◌}
use Rattle.lol_references.specs.References.{Reference, reference_of}
use Rattle.lol_references.specs.Names.{named}
use Rattle.lol_references.specs.Numbers.{numeric}

-- the reference that the bytes behind an ampersand make
abbrev pub reference : List ℕ → Option Reference
reference bytes = if slice_index bytes 0 == 35 then numeric (drop 1 bytes) else named bytes

-- an ampersand that stands for itself
abbrev pub alone : Reference
alone = reference_of 0 (38 ∷ [])

-- What an ampersand stands for that has these bytes behind it.
unfoldable pub ampersand : List ℕ → Reference
ampersand bytes = unwrap_or (reference bytes) alone

unfoldable pub piece : ℕ → List ℕ → Reference
piece b bytes = if b == 38 then ampersand bytes else reference_of 0 (b ∷ [])

-- what bytes stand for, where some of them belong to what was read before
abbrev pub decoded_behind : ℕ → List ℕ → List ℕ
decoded_behind taken [] = []
decoded_behind (suc taken) (b ∷ bytes) = decoded_behind taken bytes
decoded_behind zero (b ∷ bytes) = let first = piece b bytes in first.characters ++ decoded_behind first.taken bytes

abbrev pub decoded : List ℕ → List ℕ
decoded bytes = decoded_behind 0 bytes
