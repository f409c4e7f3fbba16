use Rattle.std.proofs.Common.{◌≡◌, ◌+◌, ◌-◌, ◌≤◌, [], take, length}
use Rattle.lol_tags.specs.Reading.{after, tags_from}
use Rattle.lol_tags.proofs.reader.TagReader.pass.Given as goal

abbrev pub invariant-loop-i : goal.invariant-loop-i
invariant-loop-i l = record {
  within : l.i ≤ length l.rest;
  stands : l.self ≡ after l.fn.self (take l.i l.rest);
  none : tags_from l.fn.self (take l.i l.rest) ≡ [];
  at : l.self.at ≡ l.fn.self.at + l.i;
}

abbrev pub decreases-loop-i : goal.decreases-loop-i
decreases-loop-i l = length l.rest - l.i
