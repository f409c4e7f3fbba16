use Rattle.lol_machine.proofs.Common.{◌≡◌, false, take, list_any}
use Rattle.lol_rows.specs.KeyHashes.{name_hashes}
use Rattle.lol_rows.specs.Rows.{AreRowsOf, is_left_open, some_pass}
use Rattle.lol_machine.specs.TagRuns.{all_ranges}
use Rattle.lol_machine.proofs.spared_runs.has_open.Given as goal

abbrev pub invariant-loop-index : goal.invariant-loop-index
invariant-loop-index l =
    AreRowsOf l.instructions l.rows → l.hashes ≡ name_hashes l.name.lowercased
    → list_any (some_pass (is_left_open l.name.lowercased) l.instructions) (take l.index (all_ranges l.ranges)) ≡ false
