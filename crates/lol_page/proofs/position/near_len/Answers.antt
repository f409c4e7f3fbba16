-- One byte more.
use Rattle.std.proofs.Common.{◌<◌, length, arith}
use Rattle.lol_page.proofs.Plain.{plain-more}
use Rattle.lol_page.proofs.position.near_len.Goals as goal

pub loop-i-preserved : goal.loop-i-preserved
loop-i-preserved c =
    let inside : c.loop-i.i < length c.args.bytes.now = omega (arith, c.loop-i-test.true, c.min-end.ensures) in
    record {
      within = omega (arith, inside);
      plain = plain-more c.args.bytes.now c.loop-i.i inside c.loop-i.invariant.plain c.if-bytes-i-le13.false;
    }
