use Rattle.std.proofs.Common.{◌≡◌, ℕ, List, Contains, eqb, map, refl, sym, ap, ◌∙◌, ◌↔◌, Some, subst}
use Rattle.std.specs.List.{dedup}
use Rattle.std.proofs.lemmas.List.{take_all}
use Rattle.std.proofs.lemmas.List.Filters.{dedup_is}
use Rattle.std.proofs.lemmas.List.Kept.{AllPairs-from_increasing}
use Rattle.std.proofs.lemmas.Map.Keys.{IsStrictlyIncreasing-dedup}
use Rattle.lol_base.specs.Ascending.{IsStrictlyAscending}
use Rattle.lol_rows.specs.Rows.{hash_by, leaves}
use Rattle.lol_rows.proofs.Found.{AreLeft, all_left, hash_left, none_left_yet, same_members}
use Rattle.lol_rows.proofs.key_rows.KeyRows.find_left.Goals as goal

pub loop-hash-init : goal.loop-hash-init
loop-hash-init c = λ kind can. none_left_yet (leaves c.args.keys.now) c.args.instructions.now (hash_by kind) c.args.range.now c.clear.new.self.items c.clear.ensures.items

pub loop-hash-preserved : goal.loop-hash-preserved
loop-hash-preserved c = λ kind can.
    let all = map (hash_by kind) c.args.instructions.now in
    let within = c.entries_within-row.ensures all can.built.table in
    hash_left (leaves c.args.keys.now) c.args.instructions.now (hash_by kind) c.args.range.now c.args.hashes.now c.loop-hash.found.items c.add_left_of_row.new.found.items c.entries_within-row.result.now c.loop-hash.hash-index _
    c.loop-hash-test.true refl (c.loop-hash.invariant kind can) within
    (c.in_ok-add_left_of_row.ensures kind can _ (λ entry has. let w = (within entry).0 has in (w.hashed ∙ ap Some w.same, w.same)))

pub returns : goal.returns
returns c = λ kind can is.
    let hashes = c.args.hashes.now in
    let found = c.loop-hash.found.items in
    let sorted = c.sort.new.self.items in
    let left : c.dedup.new.self.items ≡ dedup eqb sorted = dedup_is eqb sorted c.dedup.new.self.items c.dedup.ensures.filtered in
    all_left (leaves c.args.keys.now) c.args.instructions.now (hash_by kind) c.args.range.now hashes found c.dedup.new.self.items
    (subst (λ hs. AreLeft (leaves c.args.keys.now) c.args.instructions.now (hash_by kind) c.args.range.now hs found) (take_all c.loop-hash.hash-index hashes c.loop-hash-test.false) (c.loop-hash.invariant kind can))
    (subst IsStrictlyAscending (sym left) (AllPairs-from_increasing (dedup eqb sorted) (IsStrictlyIncreasing-dedup sorted c.in_ok-sort.ensures.sorted)))
    (λ address. subst (λ (l : List ℕ). Contains l address ↔ Contains found address) (sym left) (same_members found sorted c.sort.ensures.permutation address))
    (can.hashed hashes is)
