use Rattle.std.proofs.Common.{◌/◌, arith, inl, inr}
use Rattle.std.proofs.lemmas.Bool.{cases_lt}
use Rattle.lol_memory.proofs.IterLemmas.{first_in_rest, none_in_rest}
use Rattle.lol_memory.proofs.dense_hash_set_iter.first_from.Goals as goal

pub returns-then-rest-ne0 : goal.returns-then-rest-ne0
returns-then-rest-ne0 c =
    let ws = c.args.words.now in
    let at = c.loop-at.at in
    let before = c.loop-at.invariant in
    let found = first_in_rest ws at c.if-rest-ne0.true (c.type_inv.words (at / 32)).fits (omega arith) in
    record {
      after = omega (arith, found.after);
      within = found.within;
      held = found.held;
      first = λ q low high. elim (cases_lt q at) [ inl early ↦ before.2 q low early | inr late ↦ found.first q late high ];
    }

pub loop-at-preserved : goal.loop-at-preserved
loop-at-preserved c =
    let ws = c.args.words.now in
    let at = c.loop-at.at in
    let before = c.loop-at.invariant in
    let none = none_in_rest ws at c.if-rest-ne0.false in (
      omega (arith, before.0),
      omega arith,
      λ q low high. elim (cases_lt q at) [ inl early ↦ before.2 q low early | inr late ↦ none q late high ],
    )
