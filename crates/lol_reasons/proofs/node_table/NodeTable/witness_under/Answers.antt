use Rattle.std.proofs.Common.{sym, ◌∙◌, subst}
use Rattle.lol_base.specs.PlaceLaws.{some_is}
use Rattle.lol_program.specs.Programs.{IsAt}
use Rattle.lol_reasons.proofs.node_table.NodeTable.witness_under.Goals as goal

pub returns-in_default : goal.returns-in_default
returns-in_default g c s paths path e around h alone matched same =
    let found = c.node_with.ensures s paths path h.closed h.program alone in
    let none = sym found.1 ∙ c.in_default.is in
    absurd (cc)

pub returns : goal.returns
returns g c s paths path e around h alone matched same =
    let found = c.node_with.ensures s paths path h.closed h.program alone in
    c.in_ok-witness_of.ensures s paths path e around
    (record { around = h; at = subst (λ k. IsAt paths k path) (some_is (sym found.1 ∙ c.in-Some.is)) found.2; matched = matched }) same
