use Rattle.std.proofs.Common.{◌≡◌, ◌<◌, ◌∙◌, length, get_or, take, sym, ap, arith, true, Some}
use Rattle.std.proofs.lemmas.Bool.Decides.{nat_tests}
use Rattle.std.proofs.lemmas.List.{take_all}
use Rattle.std.specs.Char.{to_ascii_lowercase}
use Rattle.std.specs.List.{list_all, fold}
use Rattle.lol_base.specs.Names.{lowercased}
use Rattle.lol_base.specs.LocalNames.{is_hash_byte, with_byte}
use Rattle.lol_base.proofs.CodeLemmas.{code_fits, bits_of-lt, no_code_if_empty, no_code_if_long, no_code_if_one, no_code_if_other, code_if_hashed}
use Rattle.lol_base.proofs.local_name.code_of.Goals as goal
use Rattle.lol_base.proofs.local_name.code_of.Goals.{then-is_empty-via-then-is_empty, then-is_empty-via-else-is_empty+then-bytes-gt-MAX_HASH_LEN, then-is_empty-via-else-is_empty+else-bytes-gt-MAX_HASH_LEN+then-bytes-eq49}

pub returns-then-is_empty : goal.returns-then-is_empty
returns-then-is_empty c =
    sym (elim c.then-is_empty.branch [
      | then-is_empty-via-then-is_empty w ↦ no_code_if_empty c.args.bytes.now (sym w.if-is_empty.ensures)
      | then-is_empty-via-else-is_empty+then-bytes-gt-MAX_HASH_LEN w ↦ no_code_if_long c.args.bytes.now w.if-bytes-gt-MAX_HASH_LEN.true
      | then-is_empty-via-else-is_empty+else-bytes-gt-MAX_HASH_LEN+then-bytes-eq49 w ↦ no_code_if_one c.args.bytes.now w.if-bytes-eq49.true
    ])

pub overflow_mul-code : goal.overflow_mul-code
overflow_mul-code c = omega (arith, code_fits c.loop-byte.code c.loop-byte.byte-index c.loop-byte.invariant.small (omega arith))

pub returns-in_err-code : goal.returns-in_err-code
returns-in_err-code c =
    c.from_residual.ensures ∙ sym (no_code_if_other c.args.bytes.now c.loop-byte.byte-index c.loop-byte-test.true (sym c.in_err-code.ensures))

pub overflow_add-code : goal.overflow_add-code
overflow_add-code c =
    omega (
      arith,
      code_fits c.loop-byte.code c.loop-byte.byte-index c.loop-byte.invariant.small (omega arith),
      bits_of-lt (to_ascii_lowercase (get_or c.args.bytes.now c.loop-byte.byte-index 0)) c.in_ok-code.field-0 (sym c.in_ok-code.ensures),
    )

pub returns : goal.returns
returns c =
    let bs = c.args.bytes.now in
    let all : take c.loop-byte.byte-index bs ≡ bs = take_all c.loop-byte.byte-index bs c.loop-byte-test.false in
    let some : 0 < length bs = grind (arith, nat_tests, c.if-is_empty.ensures) in
    let hashed : list_all is_hash_byte (lowercased bs) ≡ true = rw all at c.loop-byte.invariant.hashed in
    ap Some (c.loop-byte.invariant.code ∙ ap (λ xs. fold with_byte 0 (lowercased xs)) all)
    ∙ sym (code_if_hashed bs some c.if-bytes-gt-MAX_HASH_LEN.false c.if-bytes-eq49.false hashed)
