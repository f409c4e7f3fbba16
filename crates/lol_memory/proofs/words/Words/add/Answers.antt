use Rattle.std.proofs.Common.{◌≡◌, ◌+◌, arith}
use Rattle.std.proofs.lemmas.Bool.{false≢true}
use Rattle.lol_memory.specs.Words.{held_words, IsMarked}
use Rattle.lol_memory.specs.WordsOf.{words_of, HasWord}
use Rattle.lol_memory.proofs.HeldLemmas.{held_marked_new}
use Rattle.lol_memory.proofs.FormLemmas.{widened_marked, list_in_form, absent_word, some_words}
use Rattle.lol_memory.proofs.words.Words.add.Goals.{After-mark-then-stays_dense}
use Rattle.lol_memory.proofs.words.Words.add.Goals as goal

module _ (c : After-mark-then-stays_dense) where
  absent : HasWord c.args.self.now c.args.number → ⊥
  absent there = false≢true (c.if-has_word.ensures.1 there)

  marked : IsMarked (words_of c.args.self.now) (words_of c.mark-then-stays_dense.new.self) c.args.number c.args.bits
  marked =
      widened_marked (words_of c.args.self.now) (words_of c.widen.new.self) (words_of c.mark-then-stays_dense.new.self) c.args.number c.args.bits c.widen.ensures.same
      (omega (arith, c.in_ok-widen.ensures.ok, c.max-len.ensures, c.word_count.ensures)) c.mark-then-stays_dense.ensures.bits

pub returns-in_ok-widen-clause-form : goal.returns-in_ok-widen-clause-form
returns-in_ok-widen-clause-form c =
    let old = words_of c.args.self.now in
    let new = words_of c.mark-then-stays_dense.new.self in
    let none = absent_word c.args.self.now c.requires.form c.args.number (absent c) in
    let held : held_words new ≡ held_words old + 1 =
    held_marked_new old new c.args.number c.args.bits (some_words c.args.self.now c.requires.form) (marked c) c.requires.bits none.1 none.0 in
    list_in_form c.mark-then-stays_dense.new.self (c.mark-then-stays_dense.ensures.list c.in_ok-widen.ensures.list)
    (omega (arith, held, (marked c).words, c.stays_dense.ensures.0 c.if-stays_dense.true, c.max-len.ensures, c.word_count.ensures))

pub returns-in_ok-widen-clause-ok : goal.returns-in_ok-widen-clause-ok
returns-in_ok-widen-clause-ok c = marked c
