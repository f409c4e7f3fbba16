use Rattle.lol_rows.proofs.Alike.{AreAlikeSoFar}
use Rattle.lol_rows.proofs.key_rows.shared_hashes.Given as goal

-- what stands side by side before is alike, or its hash is kept
abbrev pub invariant-loop-index : goal.invariant-loop-index
invariant-loop-index l = AreAlikeSoFar l.kind l.instructions l.shared.items l.entries l.index
