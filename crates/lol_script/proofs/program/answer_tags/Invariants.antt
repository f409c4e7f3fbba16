use Rattle.std.proofs.Common.{◌≡◌, ◌-◌, ◌^◌, ◌∷◌, []}
use Rattle.lol_script.specs.Answering.{AnswersScript, IsTagIfFirst}
use Rattle.lol_script.specs.Devices.{failures_of}
use Rattle.lol_script.specs.Readings.{IsReadTo}
use Rattle.lol_script.specs.Scripts as scripts
use Rattle.lol_script.specs.declared.device.Counted.{Counted}
use Rattle.lol_script.proofs.program.answer_tags.Given as goal

abbrev pub invariant-loop-lines : goal.invariant-loop-lines
invariant-loop-lines g l =
    record {
      read : (start : Counted g.row.R.Denot) (s : scripts.Script) → IsReadTo g.R.Read.remaining start l.fn.reader l.fn.lines l.fn.lines.number s (l.fn.lines.line ∷ [])
          → AnswersScript l.fn.run s → IsTagIfFirst l.fn.lines.line s
          → (t : scripts.Script) × IsReadTo g.R.Read.remaining start l.reader l.lines l.lines.number t (l.lines.line ∷ []) × AnswersScript l.run t × IsTagIfFirst l.lines.line t;
      failures : failures_of l.reader ≡ failures_of l.fn.reader;
    }

abbrev pub decreases-loop-lines : goal.decreases-loop-lines
decreases-loop-lines g l = 2 ^ 128 - l.lines.number
