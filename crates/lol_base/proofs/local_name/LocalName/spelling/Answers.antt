use Rattle.std.proofs.Common.{IsNone, IsTrue, ◌↔◌, subst, rules}
use Rattle.lol_base.specs.LocalNames.{Name, is_hash}
use Rattle.lol_base.proofs.CodeLemmas.{kept_hash}
use Rattle.lol_base.proofs.local_name.LocalName.spelling.Goals as goal

pub returns-in-Hash-clause-hash : goal.returns-in-Hash-clause-hash
returns-in-Hash-clause-hash c =
    subst (λ (n : Name). IsNone n.spelling ↔ IsTrue (is_hash n.lowercased)) c.self.view_is (kept_hash c.self.inside.code c.self.inside.kept c.self.invariant)

pub returns-in-Borrowed-clause-hash : goal.returns-in-Borrowed-clause-hash
returns-in-Borrowed-clause-hash c =
    subst (λ (n : Name). IsNone n.spelling ↔ IsTrue (is_hash n.lowercased)) c.self.view_is (kept_hash c.self.inside.code c.self.inside.kept c.self.invariant)

pub returns-in-Owned-clause-hash : goal.returns-in-Owned-clause-hash
returns-in-Owned-clause-hash c =
    subst (λ (n : Name). IsNone n.spelling ↔ IsTrue (is_hash n.lowercased)) c.self.view_is (kept_hash c.self.inside.code c.self.inside.kept c.self.invariant)

pub returns-in-Owned-clause-value : goal.returns-in-Owned-clause-value
returns-in-Owned-clause-value c = search rules
