use Rattle.std.proofs.Common.{◌≡◌, ◌-◌, ◌≤◌, ◌&&◌, ◌++◌, map, length, drop, All}
use Rattle.std.specs.List.{list_all, slice_split}
use Rattle.lol_base.specs.StartTags.{attribute_of, OutlineIsInside}
use Rattle.lol_script.specs.Script.{is_named, is_tab, attribute_at}
use Rattle.lol_script.proofs.tags.fill_outlines.Given as goal

abbrev pub invariant-loop-offset : goal.invariant-loop-offset
invariant-loop-offset l =
    record {
      within : l.start ≤ length l.text;
      attributes : map (attribute_of l.text) l.outlines.items ++ map attribute_at (slice_split is_tab (drop l.start l.text)) ≡ map attribute_at (slice_split is_tab l.text);
      named : (l.named && list_all is_named (map attribute_at (slice_split is_tab (drop l.start l.text)))) ≡ list_all is_named (map attribute_at (slice_split is_tab l.text));
      inside : All (OutlineIsInside l.text) l.outlines.items;
    }

abbrev pub decreases-loop-offset : goal.decreases-loop-offset
decreases-loop-offset l = length l.text - l.start
