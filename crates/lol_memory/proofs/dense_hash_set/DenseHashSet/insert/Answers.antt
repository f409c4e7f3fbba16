use Rattle.std.proofs.lemmas.Bool.{true≢false}
use Rattle.std.proofs.Common.{IsOk, arith, ap, sym, subst, ◌∙◌}
use Rattle.lol_memory.specs.Ids.{HasRoom, with_id}
use Rattle.lol_memory.specs.WordsOf.{words_of}
use Rattle.lol_memory.proofs.WordsLemmas.{marked}
use Rattle.lol_memory.proofs.FormLemmas.{word_of_room}
use Rattle.lol_memory.proofs.dense_hash_set.DenseHashSet.insert.Goals as goal

pub returns-in_err-add-clause-no_memory : goal.returns-in_err-add-clause-no_memory
returns-in_err-add-clause-no_memory c room =
    let there = word_of_room c.self.inside.words c.self.invariant.0 c.self.invariant.1 c.args.id (subst (λ s. HasRoom s c.args.id) (sym c.self.view_is) room) in
    absurd (true≢false (sym (subst IsOk c.in_err-add.was (c.add.ensures.no_memory there))))

pub invariant_of-self-2 : goal.invariant_of-self-2
invariant_of-self-2 c =
    ((marked (words_of c.self.inside.words) (words_of c.add.new.self) c.args.id c.self.invariant.0 (omega arith) c.in_ok-add.ensures.ok).0, c.add.ensures.form)

pub returns-clause-ok : goal.returns-clause-ok
returns-clause-ok c =
    (marked (words_of c.self.inside.words) (words_of c.add.new.self) c.args.id c.self.invariant.0 (omega arith) c.in_ok-add.ensures.ok).1
    ∙ ap (λ s. with_id s c.args.id) c.self.view_is
