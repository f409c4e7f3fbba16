use Rattle.std.proofs.Common.{◌≡◌, ◌++◌, Some, take}
use Rattle.std.specs.Prelude.{flat_map}
use Rattle.lol_base.specs.Names.{lowercased}
use Rattle.lol_instructions.specs.Keys.{ByAttribute}
use Rattle.lol_rows.specs.TagHashes.{both_hashes}
use Rattle.lol_rows.proofs.tag_hashes.BothNames.add_names.Given as goal

-- those of the names before an index are there
abbrev pub invariant-loop-index : goal.invariant-loop-index
invariant-loop-index l =
    l.hashes.items ≡ l.fn.hashes.items ++ flat_map (λ a. both_hashes l.self.unnamed l.self.named (Some (ByAttribute (lowercased a.name)))) (take l.index l.matcher.attributes)
