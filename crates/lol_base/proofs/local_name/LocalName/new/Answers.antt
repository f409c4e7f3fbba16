use Rattle.std.proofs.Common.{sym}
use Rattle.lol_base.proofs.CodeLemmas.{hash_kept, spelled_kept}
use Rattle.lol_base.proofs.local_name.LocalName.new.Goals as goal

pub invariant_of-t-4 : goal.invariant_of-t-4
invariant_of-t-4 c = (hash_kept c.args.bytes.now c.in-Some.code (sym c.in-Some.ensures)).0

pub returns-in-Some : goal.returns-in-Some
returns-in-Some c = (hash_kept c.args.bytes.now c.in-Some.code (sym c.in-Some.ensures)).1

pub returns-in-None : goal.returns-in-None
returns-in-None c = spelled_kept c.args.bytes.now (sym c.in-None.ensures)
