use Rattle.std.proofs.Common.{rules, ◌≡◌, ◌≢◌, ◌==◌, [], List, ℕ, Ok, Some, length, ap, ◌∙◌}
use Rattle.lol_script.specs.declared.lines.Line.TheVariants.{Setting}
use Rattle.lol_script.proofs.ReadOn.{at_ok}
use Rattle.lol_script.proofs.ScriptLemmas.{with_bytes-line}
use Rattle.lol_script.proofs.settings.Settings.take_line.Goals as goal

pub returns-in_ok-take-in-Ok-Some-Setting-clause-taken : goal.returns-in_ok-take-in-Ok-Some-Setting-clause-taken
returns-in_ok-take-in-Ok-Some-Setting-clause-taken c = λ s reading.
    let some : c.args.line.now ≢ [] = λ (none : c.args.line.now ≡ []). let h = ap (λ (bytes : List ℕ). length bytes == 0) none in cc in
    let said = at_ok _ c.line_of.result (Some (Setting c.in-Ok-Some-Setting.setting)) (let is : c.line_of.result ≡ Ok (Some (Setting c.in-Ok-Some-Setting.setting)) = search rules in is) c.line_of.ensures.said in
    let taken = c.in_ok-take-in-Ok-Some-Setting.ensures.taken s reading in
    (taken.0, taken.1, with_bytes-line c.args.number s c.args.line.now _ some said ∙ taken.2)
