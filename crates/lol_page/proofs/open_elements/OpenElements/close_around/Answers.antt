use Rattle.std.proofs.Common.{◌+◌, ◌-◌, ◌≤◌, ◌<◌, Bool, drop, length, sym, ◌∙◌, ap, arith}
use Rattle.std.specs.Prelude.{if◌then◌else◌}
use Rattle.std.proofs.lemmas.Bool.{lt-ltb, le-ltb}
use Rattle.lol_page.specs.Elements.{elements_of, shield_depth}
use Rattle.lol_page.proofs.Opening.{found-deep, closed-some, closed-none}
use Rattle.lol_page.proofs.open_elements.OpenElements.close_around.Goals as goal

pub leave_from-requires-clause-some : goal.leave_from-requires-clause-some
leave_from-requires-clause-some c =
    let e = elements_of c.args.self.now in
    let n = c.args.name.now in
    found-deep n e c.in-Some.found (sym (c.requires.names n) ∙ sym c.get.ensures ∙ sym c.copied.ensures ∙ c.in-Some.is)

pub returns-then-shield_depth-found-clause-closed : goal.returns-then-shield_depth-found-clause-closed
returns-then-shield_depth-found-clause-closed c =
    let e = elements_of c.args.self.now in
    let n = c.args.name.now in
    let found = c.in-Some.found in
    let deep = shield_depth found.is_html e in
    let low : deep ≤ found.depth = omega (arith, c.if-shield_depth-found.true, c.shield_depth.ensures) in
    c.leave_from.ensures.left
    ∙ sym (closed-some n e found (sym (c.requires.names n) ∙ sym c.get.ensures ∙ sym c.copied.ensures ∙ c.in-Some.is)
    ∙ ap (λ (b : Bool). if b then e else drop (length e + 1 - found.depth) e) (le-ltb found.depth deep low))

pub returns-else-shield_depth-found-clause-closed : goal.returns-else-shield_depth-found-clause-closed
returns-else-shield_depth-found-clause-closed c =
    let e = elements_of c.args.self.now in
    let n = c.args.name.now in
    let found = c.in-Some.found in
    let deep = shield_depth found.is_html e in
    let high : found.depth < deep = omega (arith, c.if-shield_depth-found.false, c.shield_depth.ensures) in
    sym (closed-some n e found (sym (c.requires.names n) ∙ sym c.get.ensures ∙ sym c.copied.ensures ∙ c.in-Some.is)
    ∙ ap (λ (b : Bool). if b then e else drop (length e + 1 - found.depth) e) (lt-ltb found.depth deep high))

pub returns-in_default-clause-closed : goal.returns-in_default-clause-closed
returns-in_default-clause-closed c =
    let e = elements_of c.args.self.now in
    let n = c.args.name.now in
    sym (closed-none n e (sym (c.requires.names n) ∙ sym c.get.ensures ∙ sym c.copied.ensures ∙ c.in_default.is))
