use Rattle.std.proofs.Common.{◌≡◌, ◌+◌, ◌-◌, ◌^◌, [], false}
use Rattle.lol_script.specs.Devices.{failures_of}
use Rattle.lol_script.specs.Readings.{IsReading, IsReadTo}
use Rattle.lol_script.specs.Scripts as scripts
use Rattle.lol_script.proofs.settings.read_settings.Given as goal

abbrev pub invariant-loop-fault : goal.invariant-loop-fault
invariant-loop-fault g l =
    record {
      read : (s : scripts.Script) × IsReading l.settings s
          × IsReadTo g.R.Read.remaining l.fn.reader l.reader l.lines (l.lines.number + 1) s [];
      isnt_last : l.lines.is_last ≡ false;
      failures : failures_of l.reader ≡ failures_of l.fn.reader;
    }

abbrev pub decreases-loop-fault : goal.decreases-loop-fault
decreases-loop-fault g l = 2 ^ 128 - l.lines.number
