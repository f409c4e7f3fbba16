-- the reason's place comes last, and its numbers
use Rattle.std.proofs.Common.{rules, ◌≡◌, ◌++◌, ◌∷◌, [], ℕ, length, reverse, ap, sym, ◌∙◌}
use Rattle.lol_reasons.specs.Numbered.{reason_shown}
use Rattle.zugrenja_c.specs.declared.reasons.ReasonPlace.{ReasonPlace}
use Rattle.zugrenja_c.proofs.ReasonTables.{placed_next, numbers_next}
use Rattle.zugrenja_c.proofs.reasons.ReasonTable.add.Goals as goal

pub returns : goal.returns
returns c = λ reasons has.
    let reason = reason_shown c.args.reason.now in
    let place : ℕ → ℕ → ReasonPlace = λ start len. record { text = reason.text; item = reason.item; numbers_start = start; numbers_len = len; id = reason.id } in
    let counted : c.len.result ≡ length c.args.self.now.numbers.items = search rules in
    let start = counted ∙ ap length has.numbers in
    let len : c.len-2.result ≡ length reason.witness = search rules in
    record {
      places = c.in_ok-push.ensures.items ∙ ((λ i. has.places i ++ place (start i) (len i) ∷ []) ∙ sym (placed_next reasons reason));
      numbers = c.in_ok-add_outermost_first.ensures ∙ ((λ i. has.numbers i ++ reverse (c.deref.ensures.value i)) ∙ sym (numbers_next reasons reason));
    }
