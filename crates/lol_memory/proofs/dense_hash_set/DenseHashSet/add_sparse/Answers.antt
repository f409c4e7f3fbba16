use Rattle.std.proofs.Common.{◌≡◌, true, IsOk, sym, subst, ◌∙◌}
use Rattle.std.specs.Result.{OnOk}
use Rattle.std.proofs.lemmas.Bool.{true≢false}
use Rattle.lol_memory.specs.Ids.{with_id, union, has, no_ids}
use Rattle.lol_memory.specs.WordsOf.{words_of}
use Rattle.lol_memory.proofs.WordsLemmas.{joined}
use Rattle.lol_memory.proofs.UnionLemmas.{union_with_one, one_is_held, none_held, union_from_none, room_in_none}
use Rattle.lol_memory.proofs.dense_hash_set.DenseHashSet.add_sparse.Goals.{After-insert}
use Rattle.lol_memory.proofs.dense_hash_set.DenseHashSet.add_sparse.Goals as goal

module _ (c : After-insert) where
  one : with_id c.args.self.now c.in-Some-None.id ≡ union c.args.self.now c.args.other.now
  one =
      union_with_one c.args.other.now c.iter-ids.result c.next.new.self c.next-2.new.self c.iter-ids.ensures.items c.next.result c.next-2.result c.in-Some-None.id c.in-Some-None.is-0
      c.in-Some-None.is-1 c.next.ensures.steps c.next-2.ensures.steps c.args.self.now

  held : has c.args.other.now c.in-Some-None.id ≡ true
  held =
      one_is_held c.args.other.now c.iter-ids.result c.next.new.self c.next-2.new.self c.iter-ids.ensures.items c.next.result c.next-2.result c.in-Some-None.id c.in-Some-None.is-0
      c.in-Some-None.is-1 c.next.ensures.steps c.next-2.ensures.steps

pub returns-in-Some-None-clause-ok : goal.returns-in-Some-None-clause-ok
returns-in-Some-None-clause-ok c = subst (λ s. OnOk c.insert.result (c.insert.new.self ≡ s)) (one c) c.insert.ensures.ok

pub returns-in-Some-None-clause-no_memory : goal.returns-in-Some-None-clause-no_memory
returns-in-Some-None-clause-no_memory c room = c.insert.ensures.no_memory (room c.in-Some-None.id (held c))

pub returns-in_err-self-inside-clause-no_memory : goal.returns-in_err-self-inside-clause-no_memory
returns-in_err-self-inside-clause-no_memory c room =
    let none : c.args.self.now ≡ no_ids = none_held c.args.self.now c.iter.result c.next-3.new.self c.next-3.result c.iter.ensures.items c.if-is_none.ensures c.next-3.ensures.steps in
    absurd (true≢false (sym (subst IsOk c.in_err-self-inside.was (c.try_clone.ensures.no_memory (room_in_none c.args.self.now c.args.other.now none room)))))

pub returns-then-is_none-clause-ok : goal.returns-then-is_none-clause-ok
returns-then-is_none-clause-ok c =
    let none : c.args.self.now ≡ no_ids = none_held c.args.self.now c.iter.result c.next-3.new.self c.next-3.result c.iter.ensures.items c.if-is_none.ensures c.next-3.ensures.steps in
    c.branch.view_is ∙ (c.in_ok-self-inside.ensures.ok ∙ union_from_none c.args.self.now c.args.other.now none)

pub invariant_of-self-2 : goal.invariant_of-self-2
invariant_of-self-2 c =
    let here = words_of c.self.inside.words in
    let more = words_of c.other.inside.words in
    ((joined here more (words_of c.in_ok-self-inside-2.field-0) c.self.invariant.0 c.other.invariant.0 c.in_ok-self-inside-2.ensures.joined).0, c.in_ok-self-inside-2.ensures.form)

pub returns-clause-ok : goal.returns-clause-ok
returns-clause-ok c =
    let here = words_of c.self.inside.words in
    let more = words_of c.other.inside.words in
    (joined here more (words_of c.in_ok-self-inside-2.field-0) c.self.invariant.0 c.other.invariant.0 c.in_ok-self-inside-2.ensures.joined).1 ∙ (λ i. union (c.self.view_is i) (c.other.view_is i))
