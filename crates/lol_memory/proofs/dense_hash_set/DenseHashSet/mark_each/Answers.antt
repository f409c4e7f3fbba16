use Rattle.std.proofs.Common.{[], sym, subst, arith}
use Rattle.lol_memory.specs.Ids.{HasRoom}
use Rattle.lol_memory.specs.WordsOf.{words_of}
use Rattle.lol_memory.specs.Words.{ids_held}
use Rattle.lol_memory.proofs.WordsLemmas.{marked}
use Rattle.lol_memory.proofs.FormLemmas.{word_of_room}
use Rattle.lol_memory.proofs.UnionLemmas.{HasAlso, also_none, also_more, also_all, next_is_held, all_yielded}
use Rattle.lol_memory.proofs.dense_hash_set.DenseHashSet.mark_each.Goals as goal

pub loop-id-init : goal.loop-id-init
loop-id-init c = record {
  trim = c.self.invariant.0;
  form = c.self.invariant.1;
  room = λ q held. word_of_room c.self.inside.words c.self.invariant.0 c.self.invariant.1 q (subst (λ s. HasRoom s q) (sym c.self.view_is) (c.requires q held));
  also = subst (HasAlso c.args.self.now []) (sym c.self.view_is) (also_none c.args.self.now);
}

pub mark-requires-clause-number : goal.mark-requires-clause-number
mark-requires-clause-number c =
    c.loop-id.invariant.room c.in-Some.id
    (next_is_held c.args.other.now c.into_iter-id-iterator.result (cc) c.loop-id.yielded _ c.loop-id.yielded_by _ _ c.in-Some.id c.in-Some.is c.next.ensures.steps)

pub loop-id-preserved : goal.loop-id-preserved
loop-id-preserved c =
    let before = c.loop-id.invariant in
    let new = marked (words_of c.loop-id.self-inside.words) (words_of c.mark.new.self) c.in-Some.id before.trim (omega arith) c.mark.ensures.bits in record {
      trim = new.0;
      form = c.mark.ensures.form before.form;
      room = λ q held. c.mark.ensures.numbers _ (before.room q held);
      also = subst (HasAlso c.args.self.now _) (sym new.1) (also_more c.args.self.now _ c.loop-id.yielded c.in-Some.id before.also);
    }

pub returns : goal.returns
returns c =
    let all = all_yielded c.args.other.now c.into_iter-id-iterator.result (cc) c.loop-id.yielded _ c.loop-id.yielded_by _ _ c.in-None.is c.next.ensures.steps in
    also_all c.args.self.now c.args.other.now _ (subst (λ ids. HasAlso c.args.self.now ids (ids_held (words_of c.loop-id.self-inside.words))) all c.loop-id.invariant.also)
