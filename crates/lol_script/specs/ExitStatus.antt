-- What the program's exit status says.
use Rattle.std.specs.Prelude.{ℕ, Result, Ok, Err}
use Rattle.lol_script.specs.declared.program.Status.{Status}
use Rattle.lol_script.specs.declared.program.Status.TheVariants.{Good, BadLine, Refused}
use Rattle.lol_script.specs.declared.device.RunFault.{RunFault}
use Rattle.lol_script.specs.declared.device.RunFault.TheVariants.{Memory, Read, Write}

-- 0 after a good script, 2 after a bad line, 3 where the run or memory was refused, 4 where a read or a write failed
abbrev pub exit_status_of : Result Status RunFault → ℕ
exit_status_of (Ok Good) = 0
exit_status_of (Ok BadLine) = 2
exit_status_of (Ok Refused) = 3
exit_status_of (Err Memory) = 3
exit_status_of (Err Read) = 4
exit_status_of (Err Write) = 4
