use Rattle.std.proofs.Common.{◌++◌, ap, sym, ◌∙◌, arith, length}
use Rattle.std.proofs.lemmas.Result.{on_ok_weaker}
use Rattle.lol_rows.specs.KeyHashes.{name_hashes}
use Rattle.lol_rows.specs.Rows.{leaves_seen}
use Rattle.lol_machine.specs.SparedRuns.{all_passing}
use Rattle.lol_machine.specs.TagRuns.{all_ranges}
use Rattle.lol_machine.proofs.Finding.{its_by_name}
use Rattle.lol_machine.proofs.spared_runs.find_left_by_name.Goals as goal

pub returns-clause-left : goal.returns-clause-left
returns-clause-left c =
    on_ok_weaker c.add_left.result
    (λ left rows own. left rows (its_by_name c.args.instructions.now c.new-keys.result c.args.hashes.now c.new-keys.ensures.attributes c.new-keys.ensures.hashes (own ∙ ap (λ n. name_hashes n.lowercased) (sym c.new-keys.ensures.name)))
    ∙ (λ i. c.clear.ensures.items i ++ all_passing (leaves_seen (c.new-keys.ensures.name i).lowercased (c.new-keys.ensures.attributes i)) c.args.instructions.now (all_ranges c.args.ranges)))
    c.add_left.ensures.left

pub returns-clause-no_memory : goal.returns-clause-no_memory
returns-clause-no_memory c = λ rows own room.
    c.add_left.ensures.no_memory rows
    (its_by_name c.args.instructions.now c.new-keys.result c.args.hashes.now c.new-keys.ensures.attributes c.new-keys.ensures.hashes (own ∙ ap (λ n. name_hashes n.lowercased) (sym c.new-keys.ensures.name)))
    (omega (arith, room, ap length c.clear.ensures.items, c.clear.ensures.capacity))
