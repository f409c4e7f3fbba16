use Rattle.std.proofs.Common.{◌++◌, List, ap, append-nil, map, sym, ◌∙◌}
use Rattle.lol_instructions.specs.Keys.{parts_of}
use Rattle.lol_rows.specs.KeyHashes.{hash_of_part}
use Rattle.lol_rows.proofs.PairLemmas.{all_added, same_among, some_added}
use Rattle.lol_rows.proofs.PartLemmas.{no_parts}
use Rattle.lol_rows.proofs.tag_hashes.add_each_part.Goals as goal

pub returns-in_err-push : goal.returns-in_err-push
returns-in_err-push c =
    some_added c.from_residual.result c.args.hashes.now.items c.push.new.self.items c.loop-left.hashes.items (map (hash_of_part c.args.hasher) (parts_of c.loop-left.left.now)) (map (hash_of_part c.args.hasher) (parts_of c.args.value.now))
    c.from_residual.ensures.0 (same_among c.push.new.self.items c.loop-left.hashes.items c.in_err-push.ensures.items) c.loop-left.invariant

pub returns : goal.returns
returns c =
    all_added c.args.hashes.now.items c.loop-left.hashes.items (map (hash_of_part c.args.hasher) (parts_of c.args.value.now))
    (sym (append-nil c.loop-left.hashes.items)
    ∙ ap (λ (parts : List _). c.loop-left.hashes.items ++ map (hash_of_part c.args.hasher) parts) (sym (no_parts c.loop-left.left.now c.loop-left-test.false))
    ∙ c.loop-left.invariant)
