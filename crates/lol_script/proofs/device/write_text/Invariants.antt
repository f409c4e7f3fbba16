use Rattle.std.proofs.Common.{◌≡◌, length}
use Rattle.lol_script.specs.Devices.{device_of, failures_of, AppendsFront}
use Rattle.lol_script.proofs.device.write_text.Given as goal

abbrev pub invariant-loop-rest : goal.invariant-loop-rest
invariant-loop-rest g l =
    record {
      written : AppendsFront (g.W.Write.contents (device_of l.fn.writer)) (g.W.Write.contents (device_of l.writer)) l.text l.rest;
      failures : failures_of l.writer ≡ failures_of l.fn.writer;
    }

abbrev pub decreases-loop-rest : goal.decreases-loop-rest
decreases-loop-rest g l = length l.rest
