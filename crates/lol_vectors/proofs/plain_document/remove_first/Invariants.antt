use Rattle.std.proofs.Common.{◌≡◌, drop}
use Rattle.lol_vectors.proofs.plain_document.remove_first.Given as goal

abbrev pub invariant-loop-number : goal.invariant-loop-number
invariant-loop-number l = l.elements.items ≡ drop l._number l.initial.elements.items
