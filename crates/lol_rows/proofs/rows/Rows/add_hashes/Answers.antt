use Rattle.std.proofs.Common.{Contains, subst, sym}
use Rattle.std.proofs.lemmas.List.Elements.{Contains-append_right}
use Rattle.lol_rows.specs.TagHashes.{pair_hashes}
use Rattle.lol_rows.proofs.PairLemmas.{added_before, among_after}
use Rattle.lol_rows.proofs.PartLemmas.{hold_each}
use Rattle.lol_rows.proofs.rows.Rows.add_hashes.Goals as goal

pub returns-in_err-add_pair_hashes-clause-only : goal.returns-in_err-add_pair_hashes-clause-only
returns-in_err-add_pair_hashes-clause-only c = (added_before _ _ _ _ _ _ c.from_residual.ensures.0 c.in_err-add_pair_hashes.ensures).only

pub returns-in_err-add_part_hashes-clause-only : goal.returns-in_err-add_part_hashes-clause-only
returns-in_err-add_part_hashes-clause-only c =
    among_after c.args.hashes.now.items c.add_pair_hashes.new.hashes.items c.add_part_hashes.new.hashes.items (pair_hashes c.args.local_name.now.lowercased c.args.matcher.now) _ c.in_ok-add_pair_hashes.ensures.only
    c.in_err-add_part_hashes.ensures.only

pub returns-clause-each : goal.returns-clause-each
returns-clause-each c = λ instructions own address i at left.
    let pairs = pair_hashes c.args.local_name.now.lowercased c.args.matcher.now in
    (c.drop_repeated.ensures _).1
    (hold_each c.args.local_name.now.lowercased c.args.matcher.now instructions c.args.self.now c.add_part_hashes.new.hashes.items
    (λ hash has. c.in_ok-add_part_hashes.ensures.kept hash (subst (λ l. Contains l hash) (sym c.in_ok-add_pair_hashes.ensures.all) (Contains-append_right c.args.hashes.now.items pairs hash has)))
    c.in_ok-add_part_hashes.ensures.parts own address i at left)

pub returns-clause-only : goal.returns-clause-only
returns-clause-only c = λ hash has.
    among_after c.args.hashes.now.items c.add_pair_hashes.new.hashes.items c.add_part_hashes.new.hashes.items (pair_hashes c.args.local_name.now.lowercased c.args.matcher.now) _ c.in_ok-add_pair_hashes.ensures.only
    c.in_ok-add_part_hashes.ensures.only hash ((c.drop_repeated.ensures hash).0 has)
