use Rattle.std.proofs.Common.{arith}
use Rattle.std.proofs.lemmas.Grind.{common_steps}
use Rattle.lol_memory.specs.WordsOf.{words_of}
use Rattle.lol_memory.proofs.HeldLemmas.{held_words-le}
use Rattle.lol_memory.proofs.words.Words.stays_dense.Goals as goal

pub overflow_add-result : goal.overflow_add-result
overflow_add-result c = omega (arith, c.held_words.ensures, held_words-le (words_of c.args.self.now), c.requires.few)

pub overflow_mul-result : goal.overflow_mul-result
overflow_mul-result c = omega (arith, c.held_words.ensures, held_words-le (words_of c.args.self.now), c.requires.few)

pub overflow_add-result-in_default : goal.overflow_add-result-in_default
overflow_add-result-in_default c = omega (arith, c.held_words.ensures, held_words-le (words_of c.args.self.now), c.requires.few)

pub returns-in-Some : goal.returns-in-Some
returns-in-Some c = grind (arith, common_steps)

pub returns-in_default : goal.returns-in_default
returns-in_default c = grind (arith, common_steps)
