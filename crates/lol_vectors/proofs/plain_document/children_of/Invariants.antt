use Rattle.std.proofs.Common.{◌≡◌, ◌≤◌, map, take}
use Rattle.lol_machine.specs.Documents as documents
use Rattle.lol_vectors.specs.Plain.{child_shown}
use Rattle.lol_vectors.proofs.plain_document.children_of.Given as goal

abbrev pub invariant-loop-child : goal.invariant-loop-child
invariant-loop-child l =
    record {
      counted : l.count ≡ documents.children_of l.parent (map child_shown (take l.child-index l.children));
      within : l.count ≤ l.child-index;
    }
