use Rattle.std.proofs.lemmas.Bool.{true≢false}
use Rattle.std.proofs.Common.{IsOk, ◌≡◌, length, arith, sym, subst}
use Rattle.lol_memory.specs.Ids.{AllSmall}
use Rattle.lol_memory.specs.WordsOf.{words_of}
use Rattle.lol_memory.proofs.WordsLemmas.{small_word}
use Rattle.lol_memory.proofs.dense_hash_set.DenseHashSet.try_clone.Goals as goal

pub returns-in_err-try_clone-clause-no_memory : goal.returns-in_err-try_clone-clause-no_memory
returns-in_err-try_clone-clause-no_memory c small =
    let ws = words_of c.self.inside.words in
    let one : length ws ≡ 1 = omega (arith, small_word ws c.self.invariant.0 (subst AllSmall (sym c.self.view_is) small), c.self.invariant.0.some) in
    absurd (true≢false (sym (subst IsOk c.in_err-try_clone.was (c.try_clone.ensures.no_memory one))))
