use Rattle.std.proofs.Common.{◌≡◌, Bool, true, false, refl, ap, sym, ◌∙◌, map}
use Rattle.std.specs.Prelude.{nat_lt, ◌||◌, not}
use Rattle.std.specs.List.{list_any}
use denote.Enum.Bare.{sameb}
use Rattle.lol_base.specs.contracts.namespace.Namespace.{the_type}
use Rattle.lol_base.specs.declared.namespace.Namespace.{Namespace}
use Rattle.lol_base.specs.declared.namespace.Namespace.TheVariants.{Html, Svg, MathML}
use Rattle.lol_instructions.specs.Tests.{is_html}
use Rattle.lol_machine.specs.Answers.{needs_attributes}
use Rattle.lol_vectors.specs.PlainElements.{element_shown}
use Rattle.lol_vectors.specs.PlainNodes.{paths_of}
use Rattle.lol_vectors.proofs.PlainTrees.{any_counted}
use Rattle.lol_vectors.proofs.plain.asks.Goals as goal

html_if : (ns : Namespace) → not (sameb the_type ns Html) ≡ false → is_html ns ≡ true
html_if Html h = refl
html_if Svg h = cc
html_if MathML h = cc

pub returns-else-ne : goal.returns-else-ne
returns-else-ne c =
    let needs = needs_attributes (element_shown c.args.element.now) (map element_shown c.args.outer.now) in
    let nodes = paths_of c.args.nodes.now in
    let html = ap is_html c.requires ∙ html_if c.args.ns (sym c.ne.ensures ∙ c.if-ne.false) in
    ap (nat_lt 0) c.in_ok-attributes.ensures.attributes ∙ sym (any_counted needs nodes) ∙ ap (λ (h : Bool). not h || list_any needs nodes) (sym html)
