use Rattle.std.proofs.Common.{◌≡◌, Some, None}
use Rattle.lol_base.specs.Names.{lowercased}
use Rattle.lol_base.specs.LocalNames.{name_code}
use Rattle.lol_base.proofs.CodeLemmas.{hash_kept, spelled_kept}
use Rattle.lol_base.proofs.local_name.LocalName.from_vec.Goals as goal

pub invariant_of-result : goal.invariant_of-result
invariant_of-result c =
    let coded : name_code (lowercased c.args.bytes.items) ≡ Some c.in-Some.code = cc in
    (hash_kept c.args.bytes.items c.in-Some.code coded).0

pub returns-in-Some : goal.returns-in-Some
returns-in-Some c =
    let coded : name_code (lowercased c.args.bytes.items) ≡ Some c.in-Some.code = cc in
    (hash_kept c.args.bytes.items c.in-Some.code coded).1

pub returns : goal.returns
returns c =
    let none : name_code (lowercased c.args.bytes.items) ≡ None = cc in
    spelled_kept c.args.bytes.items none
