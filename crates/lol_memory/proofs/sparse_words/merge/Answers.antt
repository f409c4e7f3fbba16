use Rattle.std.proofs.Common.{refl, rules, ◌+◌}
use Rattle.lol_memory.proofs.MergeLemmas.{merged_none, cut_first, cut_second, merged_more, fewer_left, merged_sparse, merged_same}
use Rattle.lol_memory.proofs.sparse_words.merge.Goals as goal

pub loop-number-init : goal.loop-number-init
loop-number-init c = (0, rw c.in_ok-both.ensures.items (merged_none c.args.words.now c.args.more.now))

pub take_at-requires-clause-cut : goal.take_at-requires-clause-cut
take_at-requires-clause-cut c =
    cut_first c.args.words.now c.args.more.now c.loop-number.both.items c.loop-number.index c.loop-number.more_index _ c.requires.sparse c.requires.more c.loop-number.invariant.1 c.in-Some.number c.in-Some.ensures.some

pub take_at-requires-in-Some-clause-cut : goal.take_at-requires-in-Some-clause-cut
take_at-requires-in-Some-clause-cut c =
    cut_second c.args.words.now c.args.more.now c.loop-number.both.items c.loop-number.index c.loop-number.more_index _ c.requires.sparse c.requires.more c.loop-number.invariant.1 c.in-Some.number c.in-Some.ensures.some

pub loop-number-smaller : goal.loop-number-smaller
loop-number-smaller c =
    fewer_left c.args.words.now c.args.more.now c.loop-number.both.items c.loop-number.index c.loop-number.more_index _ c.requires.sparse c.requires.more c.loop-number.invariant.1 c.in-Some.number c.in-Some.ensures.some
    c.take_at.new.index c.take_at-in-Some.new.index c.take_at.ensures.cut c.take_at-in-Some.ensures.cut

pub loop-number-preserved : goal.loop-number-preserved
loop-number-preserved c = (
  c.in-Some.number + 1,
  rw c.in_ok-push.ensures.items
      (merged_more c.args.words.now c.args.more.now c.loop-number.both.items c.loop-number.index c.loop-number.more_index _ c.requires.sparse c.requires.more c.loop-number.invariant.1 c.in-Some.number c.in-Some.ensures.some
      _ refl (search rules) c.take_at.new.index c.take_at-in-Some.new.index c.take_at.ensures.cut c.take_at-in-Some.ensures.cut),
)

pub returns-clause-bits : goal.returns-clause-bits
returns-clause-bits c j = merged_same c.args.words.now c.args.more.now c.loop-number.both.items c.loop-number.index c.loop-number.more_index _ c.requires.sparse c.requires.more c.loop-number.invariant.1
    c.in_default.ensures.none.0 c.in_default.ensures.none.1 j

pub returns-clause-sparse : goal.returns-clause-sparse
returns-clause-sparse c = merged_sparse c.args.words.now c.args.more.now c.loop-number.both.items c.loop-number.index c.loop-number.more_index _ c.requires.sparse c.requires.more c.loop-number.invariant.1
    c.in_default.ensures.none.0 c.in_default.ensures.none.1
