use Rattle.std.proofs.Common.{arith}
use Rattle.std.proofs.lemmas.Grind.{common_steps}
use Rattle.lol_script.proofs.line_reader.LineReader.go_past.Goals as goal

pub returns : goal.returns
returns c = grind (arith, common_steps)
