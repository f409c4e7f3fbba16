-- One digit more.
use Rattle.std.proofs.Common.{◌≡◌, ℕ, zero, ◌+◌, ◌*◌, ◌<◌, ◌≤◌, min, take, get_or, sym, ◌∙◌, ap, inl, inr, arith}
use Rattle.std.proofs.lemmas.Bool.{cases_lt, lt-ltb}
use Rattle.std.proofs.Math.Nat.{le-mul_of_pos_right}
use Rattle.std.proofs.lemmas.List.Sums.{prefix_len-drop_yes}
use Rattle.std.proofs.lemmas.Int.Digits.{digits_value_more}
use Rattle.std.specs.Char.{digit_value, is_digit}
use Rattle.std.specs.Str.Parse.{digits_value}
use Rattle.lol_references.proofs.numeric.digits.Goals as goal

-- a number that is past the top stays there
capped : (top base n d : ℕ) → zero < base → min top (min top n * base + d) ≡ min top (n * base + d)
capped top base n d h =
    elim (cases_lt n top) as (λ _. min top (min top n * base + d) ≡ min top (n * base + d)) [
      | inl below ↦ let same : min top n ≡ n = omega arith in ap (λ m. min top (m * base + d)) same
      | inr above ↦
          let same : min top n ≡ top = omega arith in
          let big : top ≤ top * base = le-mul_of_pos_right top h in
          let bigger : n ≤ n * base = le-mul_of_pos_right n h in
          ap (λ m. min top (m * base + d)) same ∙ (let e : min top (top * base + d) ≡ min top (n * base + d) = omega arith in e)
    ]

pub loop-len-preserved : goal.loop-len-preserved
loop-len-preserved c =
    let bytes = c.args.bytes.now in
    let len = c.loop-len.len in
    let base = c.args.base in
    let byte = get_or bytes len 0 in
    let is_one = sym (ap (λ b. is_digit b base) c.from.ensures) ∙ lt-ltb (digit_value c.from.result) base c.in-Some.ensures.value.0 in
    let more = prefix_len-drop_yes (λ b. is_digit b base) bytes len 0 c.loop-len-test.true is_one in
    let value = digits_value_more base bytes len c.loop-len-test.true in
    record {
      within = omega arith;
      digits = omega arith;
      number =
          c.min-number.ensures
          ∙ ap (λ d. min 0x110000 (c.loop-len.number * base + d)) (c.in-Some.ensures.value.1 ∙ ap digit_value c.from.ensures)
          ∙ ap (λ n. min 0x110000 (n * base + digit_value byte)) c.loop-len.invariant.number
          ∙ capped 0x110000 base (digits_value base (take len bytes)) (digit_value byte) (omega arith)
          ∙ ap (λ n. min 0x110000 n) (sym value);
    }
