use Rattle.std.proofs.Common.{◌≡◌, length, get_or}
use Rattle.std.specs.Str.{chars, IsUtf8}
use Rattle.std.specs.Str.Iter.{char_indices_offset, char_indices_rest}
use Rattle.lol_css.specs.Locating.{offsets_after, point_offsets}
use Rattle.lol_css.proofs.syntax.places.point_offset.Given as goal

-- the offset is sought in what is left
abbrev pub invariant-loop-offset : goal.invariant-loop-offset
invariant-loop-offset l = record {
  value : get_or (offsets_after l.before (char_indices_offset l.offset-iterator) (chars (char_indices_rest l.offset-iterator))) l.to_pass (length l.fn.text) ≡ get_or (point_offsets l.fn.text) l.fn.point (length l.fn.text);
  utf8 : IsUtf8 (char_indices_rest l.offset-iterator);
}
