-- Bytes that are read.
use Rattle.std.specs.Prelude.{ℕ, List}
use Rattle.lol_page.specs.declared.past.Part.{Part}
use Rattle.lol_page.specs.declared.past.Part.TheVariants.{Bytes}

abbrev pub part_of : Part → List ℕ
part_of (Bytes bytes) = bytes.now
