use Rattle.std.proofs.Common.{◌≡◌, ◌+◌, ◌-◌, ◌++◌, ◌≤◌, take, length}
use Rattle.lol_tags.specs.Reading.{after, tags_from}
use Rattle.lol_tags.proofs.reader.TagReader.push_tags.Given as goal

abbrev pub invariant-loop-i : goal.invariant-loop-i
invariant-loop-i l = record {
  within : l.i ≤ length l.chunk;
  stands : l.self ≡ after l.fn.self (take l.i l.chunk);
  read : l.tags.items ≡ l.fn.tags.items ++ tags_from l.fn.self (take l.i l.chunk);
  kept : take (length l.fn.tags.items) l.tags.items ≡ l.fn.tags.items;
  at : l.self.at ≡ l.fn.self.at + l.i;
}

abbrev pub decreases-loop-i : goal.decreases-loop-i
decreases-loop-i l = length l.chunk - l.i
