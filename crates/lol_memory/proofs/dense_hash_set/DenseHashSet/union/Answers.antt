use Rattle.std.proofs.lemmas.Bool.{true≢false}
use Rattle.std.proofs.Common.{IsOk, ◌≤◌, length, sym, subst, ◌∙◌, rules}
use Rattle.lol_memory.specs.Ids.{HasRoomFor, union}
use Rattle.lol_memory.specs.Words.{ids_held, IsJoined}
use Rattle.lol_memory.specs.WordsOf.{words_of, IsList}
use Rattle.lol_memory.proofs.WordsLemmas.{joined}
use Rattle.lol_memory.proofs.FormLemmas.{words_of_room, joined_in_form, list_dense, some_words}
use Rattle.lol_memory.proofs.dense_hash_set.DenseHashSet.union.Goals as goal

pub returns-in_err-join-in-Some-clause-no_memory : goal.returns-in_err-join-in-Some-clause-no_memory
returns-in_err-join-in-Some-clause-no_memory c room =
    let here = c.self.inside.words in
    let more = c.other.inside.words in
    let list : IsList here = search rules in
    let alike = subst (λ s. HasRoomFor s (ids_held (words_of more))) (sym c.self.view_is) (subst (λ s. HasRoomFor c.args.self.now s) (sym c.other.view_is) room) in
    let enough = words_of_room here (words_of more) c.self.invariant.0 c.self.invariant.1 list c.other.invariant.0 alike in
    let within : length c.in-Some.more.now ≤ length (words_of here) = rw c.in-Some.ensures.some enough in
    absurd (true≢false (sym (subst IsOk c.in_err-join-in-Some.was (c.join.ensures.no_memory within))))

pub invariant_of-self-then-is_some : goal.invariant_of-self-then-is_some
invariant_of-self-then-is_some c =
    let here = c.self.inside.words in
    let more = c.other.inside.words in
    let list : IsList here = search rules in
    let is : IsJoined (words_of here) (words_of more) (words_of c.join.new.self) = subst (λ ws. IsJoined (words_of here) ws (words_of c.join.new.self)) c.in-Some.ensures.some c.in_ok-join-in-Some.ensures.ok in (
      (joined (words_of here) (words_of more) (words_of c.join.new.self) c.self.invariant.0 c.other.invariant.0 is).0,
      joined_in_form here c.join.new.self (words_of more) c.self.invariant.1 list c.join.ensures.list (some_words more c.other.invariant.1) (list_dense more c.in-Some.ensures.list c.other.invariant.1) is,
    )

pub returns-in_ok-join-in-Some-clause-ok : goal.returns-in_ok-join-in-Some-clause-ok
returns-in_ok-join-in-Some-clause-ok c =
    let here = c.self.inside.words in
    let more = c.other.inside.words in
    let is : IsJoined (words_of here) (words_of more) (words_of c.join.new.self) = subst (λ ws. IsJoined (words_of here) ws (words_of c.join.new.self)) c.in-Some.ensures.some c.in_ok-join-in-Some.ensures.ok in
    (joined (words_of here) (words_of more) (words_of c.join.new.self) c.self.invariant.0 c.other.invariant.0 is).1 ∙ (λ i. union (c.self.view_is i) (c.other.view_is i))
