use Rattle.std.proofs.Common.{◌≡◌, List, Result, Ok, Err, IfOk, sym, subst, arith, ℕ}
use Rattle.lol_memory.specs.Words.{IsJoined}
use Rattle.lol_memory.specs.WordsOf.{words_of}
use Rattle.lol_memory.proofs.MergeLemmas.{words_joined}
use Rattle.lol_memory.proofs.words.Words.merge.Goals as goal

joins : {T E : Type 0} (view : T → List ℕ) (made : Result T E) (old more new : List ℕ) → IfOk made (λ both. view both ≡ new) → IsJoined old more new → IfOk made (λ both. IsJoined old more (view both))
joins view (Ok both) old more new is joined = subst (IsJoined old more) (sym is) joined
joins view (Err cause) old more new is joined = tt

pub in_form-requires-clause-few : goal.in_form-requires-clause-few
in_form-requires-clause-few c =
    let made = c.in_ok-both.ensures in
    omega (arith, (words_joined (words_of c.args.self.now) (words_of c.args.other.now) c.in_ok-both.both.items c.requires.trim c.requires.other_trim made.sparse made.bits).words, c.requires.trim.few, c.requires.other_trim.few)

pub returns-clause-joined : goal.returns-clause-joined
returns-clause-joined c =
    let made = c.in_ok-both.ensures in
    joins words_of c.in_form.result (words_of c.args.self.now) (words_of c.args.other.now) _ c.in_form.ensures.same
    (words_joined (words_of c.args.self.now) (words_of c.args.other.now) c.in_ok-both.both.items c.requires.trim c.requires.other_trim made.sparse made.bits)
