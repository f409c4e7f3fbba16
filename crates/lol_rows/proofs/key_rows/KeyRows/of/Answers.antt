use Rattle.std.proofs.Common.{List, ℕ, ap, ◌∙◌, map, subst}
use Rattle.std.proofs.lemmas.List.{take_all}
use Rattle.lol_rows.specs.KeyTables.{IsTableOf}
use Rattle.lol_rows.specs.Rows.{hash_by}
use Rattle.lol_rows.specs.declared.key_table.Entry.{Entry}
use Rattle.lol_rows.specs.KeyRows.{AreBesideAlike}
use Rattle.lol_rows.proofs.Alike.{alike_unless}
use Rattle.lol_rows.proofs.key_rows.KeyRows.of.Goals as goal

pub returns : goal.returns
returns c =
    let hashed = c.loop-instruction.invariant.hashed ∙ ap (map (hash_by c.args.kind)) (take_all c.loop-instruction.instruction-index c.args.instructions.now c.loop-instruction-test.false) in
    let table = subst (λ (hashes : List ℕ). IsTableOf hashes c.in_ok-table.table) hashed c.in_ok-table.ensures in
    record {
      table = table;
      shared = c.in_ok-shared.shared.items;
      are_shared = c.of-2.ensures;
      alike =
          alike_unless c.args.kind c.args.instructions.now c.in_ok-shared.shared.items c.in_ok-table.table table
          (subst (λ (l : List Entry). AreBesideAlike c.args.kind c.args.instructions.now c.in_ok-shared.shared.items l) c.deref.ensures.value c.in_ok-shared.ensures);
    }
