use Rattle.std.proofs.Common.{◌++◌, Contains, map, sym, subst}
use Rattle.std.proofs.lemmas.List.Elements.{Contains-append_left}
use Rattle.std.proofs.lemmas.Result.{on_ok_weaker}
use Rattle.lol_instructions.specs.Keys.{parts_of}
use Rattle.lol_rows.specs.KeyHashes.{hash_of_part}
use Rattle.lol_rows.specs.TagHashes.{part_hashes, AreAmong}
use Rattle.lol_rows.proofs.PartLemmas.{each_added}
use Rattle.lol_rows.proofs.tag_hashes.add_parts_after.Goals as goal

pub returns-clause-parts : goal.returns-clause-parts
returns-clause-parts c =
    on_ok_weaker c.add_each_part.result
    (each_added c.args.parted.now c.args.hasher c.after_attribute.result c.args.name.now c.args.value.now c.args.hashes.now.items c.add_each_part.new.hashes.items c.after_attribute.ensures)
    c.add_each_part.ensures.all

pub returns-clause-only : goal.returns-clause-only
returns-clause-only c =
    subst (λ h. AreAmong c.add_each_part.new.hashes.items (c.args.hashes.now.items ++ map (hash_of_part h) (parts_of c.args.value.now))) c.after_attribute.ensures c.add_each_part.ensures.only

pub returns-then-not-has-clause-parts : goal.returns-then-not-has-clause-parts
returns-then-not-has-clause-parts c = λ all are known hash has. absurd (c.if-not-has.ensures.none all are (subst (Contains all) (sym c.attribute_hash.ensures) known))

pub returns-then-not-has-clause-only : goal.returns-then-not-has-clause-only
returns-then-not-has-clause-only c = Contains-append_left c.args.hashes.now.items (part_hashes c.args.hasher c.args.name.now c.args.value.now)
