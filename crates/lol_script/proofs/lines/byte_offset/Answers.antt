use Rattle.std.proofs.Common.{◌≡◌, ◌∙◌, ◌+◌, None, Some, option_map, ap, sym, subst, get_or, arith}
use Rattle.std.proofs.Math.Decide.{dec_lt}
use Rattle.std.proofs.lemmas.List.{take_rest}
use Rattle.std.specs.Cmp.{unsigned_Decides}
use Rattle.memchr.specs.Find.{IsFirstByte, is_byte}
use Rattle.lol_script.proofs.Fields.{far_first, first_offset}
use Rattle.lol_script.proofs.lines.byte_offset.Goals as goal

pub loop-offset-init : goal.loop-offset-init
loop-offset-init c = λ k low high passes. omega (arith, high)

pub returns-then-bytes-offset : goal.returns-then-bytes-offset
returns-then-bytes-offset c =
    first_offset (is_byte c.args.byte) c.args.bytes.now (Some c.loop-offset.offset) (
      record {
        low = omega arith;
        high = omega (arith, c.loop-offset-test.true, c.min-near.ensures);
        before = c.loop-offset.invariant;
      },
      (unsigned_Decides _ _).1 c.if-bytes-offset.true,
    )

pub loop-offset-preserved : goal.loop-offset-preserved
loop-offset-preserved c = λ k low high passes. elim (dec_lt k c.loop-offset.offset) [
  | yes before ↦ c.loop-offset.invariant k low before passes
  | no past ↦ c.if-bytes-offset.false (let here : k ≡ c.loop-offset.offset = omega (arith, high, past) in
      ap (λ i. get_or c.args.bytes.now i 0) (sym here) ∙ (unsigned_Decides _ _).0 passes)
]

pub returns-then-near-bytes : goal.returns-then-near-bytes
returns-then-near-bytes c =
    first_offset (is_byte c.args.byte) c.args.bytes.now None (λ k low high passes.
    c.loop-offset.invariant k low (omega (arith, high, c.if-near-bytes.true, c.loop-offset-test.false)) passes)

pub returns-in_err-offset : goal.returns-in_err-offset
returns-in_err-offset c =
    let bytes = c.args.bytes.now in
    c.from_residual.ensures
    ∙ (ap (option_map (λ offset. c.min-near.result + offset)) (sym c.in_err-offset.was)
    ∙ far_first (is_byte c.args.byte) bytes c.min-near.result c.memchr.result (omega (arith, c.min-near.ensures))
    (λ k low high passes. c.loop-offset.invariant k low (omega (arith, high, c.loop-offset-test.false)) passes)
    (subst (λ rest. IsFirstByte (is_byte c.args.byte) rest c.memchr.result) (take_rest bytes c.min-near.result) c.memchr.ensures))

pub returns : goal.returns
returns c =
    let bytes = c.args.bytes.now in
    ap (option_map (λ offset. c.min-near.result + offset)) (sym c.in_ok-offset.was)
    ∙ far_first (is_byte c.args.byte) bytes c.min-near.result c.memchr.result (omega (arith, c.min-near.ensures))
    (λ k low high passes. c.loop-offset.invariant k low (omega (arith, high, c.loop-offset-test.false)) passes)
    (subst (λ rest. IsFirstByte (is_byte c.args.byte) rest c.memchr.result) (take_rest bytes c.min-near.result) c.memchr.ensures)
