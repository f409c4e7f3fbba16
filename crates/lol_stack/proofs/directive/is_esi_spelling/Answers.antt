use Rattle.std.proofs.Common.{◌∙◌, sym, ap, codes, ◌||◌}
use Rattle.std.specs.Str.{bytes_eq}
use Rattle.lol_stack.proofs.EsiNames.{is_esi-either}
use Rattle.lol_stack.proofs.directive.is_esi_spelling.Goals as goal

pub returns-then-eq : goal.returns-then-eq
returns-then-eq c =
    let name = c.args.bytes.now in
    let first = c.eq.ensures ∙ ap (bytes_eq name) c.as_slice.ensures in
    c.if-eq.true ∙ sym (is_esi-either name ∙ ap (λ b. b || bytes_eq name (codes "esi:comment")) (sym first ∙ c.if-eq.true))

pub returns-else-eq : goal.returns-else-eq
returns-else-eq c =
    let name = c.args.bytes.now in
    let first = c.eq.ensures ∙ ap (bytes_eq name) c.as_slice.ensures in
    let second = c.eq-else-eq.ensures ∙ ap (bytes_eq name) c.as_slice-else-eq.ensures in
    sym (is_esi-either name ∙ (ap (λ b. b || bytes_eq name (codes "esi:comment")) (sym first ∙ c.if-eq.false) ∙ sym second))
