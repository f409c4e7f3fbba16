use Rattle.std.proofs.Common.{◌≡◌, ◌+◌, ◌-◌, length, drop}
use Rattle.lol_page.specs.Elements.{IsSound, elements_of}
use Rattle.lol_page.proofs.open_elements.OpenElements.leave_from.Given as goal

abbrev pub invariant-loop-self : goal.invariant-loop-self
invariant-loop-self l = record {
  sound : IsSound l.self;
  left : drop (length (elements_of l.self) + 1 - l.depth) (elements_of l.self)
      ≡ drop (length (elements_of l.initial.self) + 1 - l.depth) (elements_of l.initial.self);
}

abbrev pub decreases-loop-self : goal.decreases-loop-self
decreases-loop-self l = length l.self.items.items
