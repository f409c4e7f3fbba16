use Rattle.std.proofs.Common.{◌++◌, [], Contains, take}
use Rattle.std.specs.Prelude.{unwrap_or}
use Rattle.lol_base.specs.StartTags.{Attribute}
use Rattle.lol_rows.specs.TagHashes.{all_part_hashes, AreAmong, HoldsParts}
use Rattle.lol_rows.proofs.tag_hashes.add_parts.Given as goal

-- those of the attributes before an index are there, and no others
abbrev pub invariant-loop-index : goal.invariant-loop-index
invariant-loop-index l = record {
  kept : AreAmong l.fn.hashes.items l.hashes.items;
  parts : (a : Attribute) → Contains (take l.index l.matcher.attributes) a → HoldsParts l.parted l.hasher a.name (unwrap_or a.value []) l.hashes.items;
  only : AreAmong l.hashes.items (l.fn.hashes.items ++ all_part_hashes l.hasher l.matcher.attributes);
}
