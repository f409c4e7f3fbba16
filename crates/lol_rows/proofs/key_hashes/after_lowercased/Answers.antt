use Rattle.std.proofs.Common.{ap, sym, ◌∙◌, take, get_or}
use Rattle.std.specs.Prelude.{fold}
use Rattle.std.specs.Char.{to_ascii_lowercase}
use Rattle.lol_base.specs.ListLaws.{mapped_more, mapped_all, get_or-any}
use Rattle.lol_base.specs.Names.{lowercased}
use Rattle.lol_rows.specs.KeyHashes.{byte_hashed}
use Rattle.lol_rows.proofs.PairLemmas.{bytes_hashed, byte_more}
use Rattle.lol_rows.proofs.key_hashes.after_lowercased.Goals as goal

pub loop-byte-preserved : goal.loop-byte-preserved
loop-byte-preserved c =
    let start = c.args.hasher in
    let name = c.args.name.now in
    let i = c.loop-byte.byte-index in
    c.write_u8.ensures
    ∙ (λ j. byte_hashed (c.loop-byte.invariant j) (c.to_ascii_lowercase.ensures.value j))
    ∙ (sym (byte_more start (lowercased (take i name)) (to_ascii_lowercase (get_or name i 0)))
    ∙ ap (fold byte_hashed start) (sym (mapped_more to_ascii_lowercase name i (get_or name i 0) c.loop-byte-test.true (get_or-any name i 0 (get_or name i 0) c.loop-byte-test.true))))

pub returns : goal.returns
returns c =
    let start = c.args.hasher in
    let name = c.args.name.now in
    c.loop-byte.invariant ∙ (ap (fold byte_hashed start) (mapped_all to_ascii_lowercase name c.loop-byte.byte-index c.loop-byte-test.false) ∙ bytes_hashed start (lowercased name))
