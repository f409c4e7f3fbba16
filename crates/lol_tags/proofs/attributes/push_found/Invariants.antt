use Rattle.std.proofs.Common.{◌≡◌, ◌+◌, ◌-◌, ◌++◌, ◌≤◌, take, length}
use Rattle.lol_tags.specs.Runs.{run, given}
use Rattle.lol_tags.specs.Attributes.{attribute_step, attribute_ended}
use Rattle.lol_tags.proofs.attributes.push_found.Given as goal

abbrev pub invariant-loop-i : goal.invariant-loop-i
invariant-loop-i l = record {
  within : l.i ≤ length l.rest;
  stands : l.reader ≡ run attribute_step l.fn.reader (take l.i l.rest);
  read : l.outlines.items ≡ l.fn.outlines.items ++ given attribute_step attribute_ended l.fn.reader (take l.i l.rest);
  kept : take (length l.fn.outlines.items) l.outlines.items ≡ l.fn.outlines.items;
  at : l.reader.at ≡ l.fn.reader.at + l.i;
}

abbrev pub decreases-loop-i : goal.decreases-loop-i
decreases-loop-i l = length l.rest - l.i
