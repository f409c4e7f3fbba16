use Rattle.std.proofs.Common.{◌≡◌, ◌∙◌, get_or, bit_or, inl, inr, arith, sym, ap}
use Rattle.std.proofs.lemmas.Bool.{cases_lt}
use Rattle.std.proofs.lemmas.List.{get_or_past}
use Rattle.std.specs.Int.Bits.{or_zero_l}
use Rattle.std.proofs.lemmas.Nat.{or_comm}
use Rattle.lol_memory.proofs.words.join_words.Goals as goal

pub returns : goal.returns
returns c j =
    elim (cases_lt j c.loop-j.j) [
      | inl below ↦ c.loop-j.invariant.joined j below
      | inr above ↦
          let none : get_or c.args.more.now j 0 ≡ 0 = get_or_past c.args.more.now j 0 (omega arith) in
          c.loop-j.invariant.rest j above ∙ sym (ap (λ w. bit_or (get_or c.args.words.now j 0) w) none ∙ (or_comm _ 0 ∙ or_zero_l _))
    ]
