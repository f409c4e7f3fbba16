use Rattle.std.proofs.Common.{◌≡◌, length}
use Rattle.lol_page.specs.Namespaces.{html_part}
use Rattle.lol_page.specs.Elements.{IsSound, elements_of}
use Rattle.lol_page.proofs.open_elements.OpenElements.leave_to_html.Given as goal

abbrev pub invariant-loop-self : goal.invariant-loop-self
invariant-loop-self l = record {
  sound : IsSound l.self;
  left : html_part (elements_of l.self) ≡ html_part (elements_of l.initial.self);
}

abbrev pub decreases-loop-self : goal.decreases-loop-self
decreases-loop-self l = length l.self.items.items
