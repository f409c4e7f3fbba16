use Rattle.std.proofs.Common.{rules, arith, leb, ltb, ap, ◌∙◌, ◌≡◌, Some, None}
use Rattle.lol_base.specs.PlaceLaws.{some_is}
use Rattle.std.proofs.lemmas.List.Sorted.{IsPartitionPoint-from_clause}
use Rattle.lol_rows.proofs.Runs.{are_within, none_within}
use Rattle.lol_rows.specs.declared.key_table.Entry.{Entry}
use Rattle.lol_rows.proofs.key_table.KeyTable.entries_within.Goals.{in_default-via-in-Some+else-entry-hash, in_default-via-in_default}
use Rattle.lol_rows.proofs.key_table.KeyTable.entries_within.Goals as goal

pub returns : goal.returns
returns c = λ all is.
    let hash = c.args.hash in
    let start = c.args.start in
    let end = c.args.end in
    are_within all c.args.self.now c.as_slice-run.result.now hash start end c.partition_point.result c.partition_point-2.result c.partition_point-3.result c.partition_point-4.result
    is c.as_slice-run.ensures.value c.partition_point.ensures.bound c.partition_point-2.ensures.bound c.partition_point-3.ensures.bound c.partition_point-4.ensures.bound
    (λ parted. IsPartitionPoint-from_clause (λ (e : Entry). leb e.hash hash) _ _ c.partition_point.ensures.partitioned parted (λ x r f' called. search rules))
    (λ parted. IsPartitionPoint-from_clause (λ (e : Entry). ltb e.hash hash) _ _ c.partition_point-2.ensures.partitioned parted (λ x r f' called. search rules))
    (λ parted. IsPartitionPoint-from_clause (λ (e : Entry). ltb e.address end) _ _ c.partition_point-3.ensures.partitioned parted (λ x r f' called. search rules))
    (λ parted. IsPartitionPoint-from_clause (λ (e : Entry). ltb e.address start) _ _ c.partition_point-4.ensures.partitioned parted (λ x r f' called. search rules))

-- the last entry up to the hash is there, and has another hash, or there is none
pub returns-in_default : goal.returns-in_default
returns-in_default c = λ all is entry. (
  λ h. absurd (let below = h.1 in omega (arith, below)),
  λ w. absurd (none_within all c.args.self.now c.as_slice-run.result.now c.args.hash c.args.start c.args.end c.partition_point.result is c.as_slice-run.ensures.value c.partition_point.ensures.bound
      (λ parted. IsPartitionPoint-from_clause (λ (e : Entry). leb e.hash c.args.hash) _ _ c.partition_point.ensures.partitioned parted (λ x r f' called. search rules))
      (λ last at same. elim c.in_default.branch [
        | in_default-via-in-Some+else-entry-hash w ↦ w.if-entry-hash.false (ap (λ (e : Entry). e.hash) (some_is (w.in-Some.ensures.value ∙ at)) ∙ same)
        | in_default-via-in_default w ↦ let absent : None ≡ Some last = w.in_default.ensures.value ∙ at in cc
      ]) entry w),
)
