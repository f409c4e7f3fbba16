use Rattle.std.proofs.Common.{◌≡◌, ◌++◌, [], Some, None, append_assoc, subst, length}
use Rattle.std.specs.Prelude.{unwrap_or}
use Rattle.std.proofs.lemmas.List.Elements.{Contains-append_left}
use Rattle.lol_rows.specs.KeyHashes.{after_name}
use Rattle.lol_rows.specs.TagHashes.{all_part_hashes, both_part_hashes, AreAmong, HoldsParts}
use Rattle.lol_rows.proofs.PairLemmas.{among_after, within}
use Rattle.lol_rows.proofs.PartLemmas.{none_parted, parts_kept}
use Rattle.lol_rows.proofs.tag_hashes.add_part_hashes.Goals as goal

pub returns-then-is_empty-clause-parts : goal.returns-then-is_empty-clause-parts
returns-then-is_empty-clause-parts c = λ a has. record {
  unnamed_parts = none_parted c.args.parted.now (after_name None) a.name (unwrap_or a.value []) c.args.hashes.now.items empty;
  named_parts = none_parted c.args.parted.now (after_name (Some c.args.local_name.now.lowercased)) a.name (unwrap_or a.value []) c.args.hashes.now.items empty;
}
  where
    empty : length c.args.parted.now.sorted.items ≡ 0
    empty = c.if-is_empty.ensures

pub returns-then-is_empty-clause-only : goal.returns-then-is_empty-clause-only
returns-then-is_empty-clause-only c = Contains-append_left c.args.hashes.now.items (both_part_hashes c.args.local_name.now.lowercased c.args.matcher.now)

pub returns-in_err-add_parts-clause-only : goal.returns-in_err-add_parts-clause-only
returns-in_err-add_parts-clause-only c =
    let attributes = c.args.matcher.now.attributes in
    let old = c.args.hashes.now.items in
    let named = all_part_hashes (after_name (Some c.args.local_name.now.lowercased)) attributes in
    subst (λ h. AreAmong c.add_parts.new.hashes.items (old ++ (all_part_hashes h attributes ++ named))) c.after_name.ensures
    (within c.add_parts.new.hashes.items (old ++ all_part_hashes c.after_name.result attributes) named (old ++ (all_part_hashes c.after_name.result attributes ++ named)) c.in_err-add_parts.ensures.only
    (append_assoc old (all_part_hashes c.after_name.result attributes) named))

pub returns-in_err-add_parts-2-clause-only : goal.returns-in_err-add_parts-2-clause-only
returns-in_err-add_parts-2-clause-only c =
    let attributes = c.args.matcher.now.attributes in
    let old = c.args.hashes.now.items in
    subst (AreAmong c.add_parts-2.new.hashes.items) (λ i. old ++ (all_part_hashes (c.after_name.ensures i) attributes ++ all_part_hashes (c.after_name-2.ensures i) attributes))
    (among_after old c.add_parts.new.hashes.items c.add_parts-2.new.hashes.items (all_part_hashes c.after_name.result attributes) (all_part_hashes c.after_name-2.result attributes) c.in_ok-add_parts.ensures.only c.in_err-add_parts-2.ensures.only)

pub returns-clause-parts : goal.returns-clause-parts
returns-clause-parts c = λ a has. record {
  unnamed_parts =
      subst (λ h. HoldsParts c.args.parted.now h a.name (unwrap_or a.value []) c.add_parts-2.new.hashes.items) c.after_name.ensures
      (parts_kept c.args.parted.now c.after_name.result a.name (unwrap_or a.value []) c.add_parts.new.hashes.items c.add_parts-2.new.hashes.items c.in_ok-add_parts-2.ensures.kept (c.in_ok-add_parts.ensures.parts a has));
  named_parts = subst (λ h. HoldsParts c.args.parted.now h a.name (unwrap_or a.value []) c.add_parts-2.new.hashes.items) c.after_name-2.ensures (c.in_ok-add_parts-2.ensures.parts a has);
}

pub returns-clause-only : goal.returns-clause-only
returns-clause-only c =
    let attributes = c.args.matcher.now.attributes in
    let old = c.args.hashes.now.items in
    subst (AreAmong c.add_parts-2.new.hashes.items) (λ i. old ++ (all_part_hashes (c.after_name.ensures i) attributes ++ all_part_hashes (c.after_name-2.ensures i) attributes))
    (among_after old c.add_parts.new.hashes.items c.add_parts-2.new.hashes.items (all_part_hashes c.after_name.result attributes) (all_part_hashes c.after_name-2.result attributes) c.in_ok-add_parts.ensures.only c.in_ok-add_parts-2.ensures.only)
