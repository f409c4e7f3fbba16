-- The column moves by as many bytes.
use Rattle.std.proofs.Common.{◌<◌, ℕ, ◌+◌, length, sym, ap, ◌∙◌, arith}
use Rattle.std.specs.Prelude.{false}
use Rattle.lol_page.specs.declared.position.Position.{Position}
use Rattle.lol_page.proofs.Plain.{plain-run}
use Rattle.lol_page.proofs.position.Position.past.Goals as goal

pub returns-clause-moved : goal.returns-clause-moved
returns-clause-moved c = λ bytes len plain.
    let p : Position = c.args.self in
    let some : 0 < length bytes = omega (arith, c.if-len-eq0.false, len) in
    ap (λ (n : ℕ). record { line_ends = p.line_ends; column = p.column + n; after_return = false }) (sym len) ∙ sym (plain-run p bytes some plain)
