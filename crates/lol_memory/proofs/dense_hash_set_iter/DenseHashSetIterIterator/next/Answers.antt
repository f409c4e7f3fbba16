use Rattle.std.proofs.Common.{◌≡◌, ◌∷◌, ◌+◌, ◌-◌, ◌*◌, sym, ◌∙◌, arith, ap, length}
use Rattle.lol_memory.specs.Words.{ids_from}
use Rattle.lol_memory.specs.HeldWords.{held_list}
use Rattle.lol_memory.proofs.IterLemmas.{none_left, first_left}
use Rattle.lol_memory.proofs.dense_hash_set_iter.DenseHashSetIterIterator.next.Goals.{After-self-1}
use Rattle.lol_memory.proofs.dense_hash_set_iter.DenseHashSetIterIterator.next.Goals as goal

module _ (c : After-self-1) where
  left : c.args.self.now ≡ c.in_ok-id.id ∷ ids_from (held_list c.first_from.new.self) (c.in_ok-id.id + 1) (32 * length (held_list c.first_from.new.self) - (c.in_ok-id.id + 1))
  left =
      sym c.self.view_is
      ∙ (first_left (held_list c.self.inside.words) c.self.inside.next_id c.in_ok-id.id c.in_ok-id.ensures.id
      ∙ ap (λ ws. c.in_ok-id.id ∷ ids_from ws (c.in_ok-id.id + 1) (32 * length ws - (c.in_ok-id.id + 1))) (sym c.first_from.ensures.list))

pub returns-clause-steps : goal.returns-clause-steps
returns-clause-steps c = left c

pub returns-clause-goes : goal.returns-clause-goes
returns-clause-goes c = record { on = λ finite. (tt, finite, omega (arith, ap length (left c))); keeps = tt; rests = λ _. tt }

pub returns-in_err-id-clause-steps : goal.returns-in_err-id-clause-steps
returns-in_err-id-clause-steps c =
    let from = c.self.inside.next_id in
    let none = none_left (held_list c.self.inside.words) from c.self.invariant.0 c.in_err-id.ensures.id in
    rw c.from_residual.ensures (sym c.self.view_is ∙ none, ap (λ ws. ids_from ws from (32 * length ws - from)) c.first_from.ensures.list ∙ none)
