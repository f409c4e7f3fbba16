use Rattle.std.proofs.Common.{◌++◌, ap, ◌∙◌, arith, length, subst}
use Rattle.std.proofs.lemmas.Result.{on_ok_weaker}
use Rattle.lol_rows.specs.Rows.{leaves_seen}
use Rattle.lol_rows.specs.TagHashes.{AreAmong, tag_hashes}
use Rattle.lol_machine.specs.SparedRuns.{all_passing}
use Rattle.lol_machine.specs.TagRuns.{all_ranges}
use Rattle.lol_machine.proofs.Finding.{its_by_added}
use Rattle.lol_machine.proofs.spared_runs.find_left_by_keys.Goals as goal

pub returns-clause-left : goal.returns-clause-left
returns-clause-left c =
    on_ok_weaker c.add_left.result
    (λ left rows.
    left rows
    (its_by_added c.args.instructions.now c.args.rows.now c.new-keys.result c.args.name.now c.args.matcher.now c.add_hashes.result c.is_ok-are_hashed.result c.as_slice.result c.then_some-hashes.result c.add_hashes.new.hashes.items
    c.new-keys.ensures.name c.new-keys.ensures.attributes c.new-keys.ensures.hashes c.is_ok-are_hashed.ensures.value c.then_some-hashes.ensures c.as_slice.ensures.value c.add_hashes.ensures.each rows)
    ∙ (λ i. c.clear-2.ensures.items i ++ all_passing (leaves_seen (c.new-keys.ensures.name i).lowercased (c.new-keys.ensures.attributes i)) c.args.instructions.now (all_ranges c.args.ranges)))
    c.add_left.ensures.left

pub returns-clause-no_memory : goal.returns-clause-no_memory
returns-clause-no_memory c = λ rows room.
    c.add_left.ensures.no_memory rows
    (its_by_added c.args.instructions.now c.args.rows.now c.new-keys.result c.args.name.now c.args.matcher.now c.add_hashes.result c.is_ok-are_hashed.result c.as_slice.result c.then_some-hashes.result c.add_hashes.new.hashes.items
    c.new-keys.ensures.name c.new-keys.ensures.attributes c.new-keys.ensures.hashes c.is_ok-are_hashed.ensures.value c.then_some-hashes.ensures c.as_slice.ensures.value c.add_hashes.ensures.each rows)
    (omega (arith, room, ap length c.clear-2.ensures.items, c.clear-2.ensures.capacity))

pub returns-clause-hashes : goal.returns-clause-hashes
returns-clause-hashes c =
    subst (λ before. AreAmong c.add_hashes.new.hashes.items (before ++ tag_hashes c.args.name.now.lowercased c.args.matcher.now)) c.clear.ensures.items c.add_hashes.ensures.only
