-- Plain bytes, and then the one that ends a line.
use Rattle.std.proofs.Common.{◌+◌, ◌-◌, length, take, drop, ◌∙◌, arith}
use Rattle.std.proofs.lemmas.List.{length-take-le}
use Rattle.lol_page.proofs.Plain.{over-part, over-more, part-within}
use Rattle.lol_page.proofs.position.Position.over.Goals as goal

pub loop-i-preserved : goal.loop-i-preserved
loop-i-preserved c =
    let s = c.args.bytes.now in
    let i = c.loop-i.i in
    let n = c.plain_len-len.result in
    let part = take (length s - i) (drop i s) in
    record {
      within = part-within s i n c.loop-i.invariant.within c.plain_len-len.ensures.within;
      moved = c.past-position.ensures.moved (take n part) (length-take-le n part c.plain_len-len.ensures.within) c.plain_len-len.ensures.plain
          ∙ over-part c.args.self c.loop-i.position s i n c.loop-i.invariant.moved;
      lines = omega (arith, c.past-position.ensures.lines, c.loop-i.invariant.lines);
      columns = omega (arith, c.past-position.ensures.columns, c.loop-i.invariant.columns);
    }

pub loop-i-preserved-then-i-bytes : goal.loop-i-preserved-then-i-bytes
loop-i-preserved-then-i-bytes c =
    let s = c.args.bytes.now in
    let i = c.loop-i.i in
    let n = c.plain_len-len.result in
    let part = take (length s - i) (drop i s) in
    let before = c.past-position.ensures.moved (take n part) (length-take-le n part c.plain_len-len.ensures.within) c.plain_len-len.ensures.plain
    ∙ over-part c.args.self c.loop-i.position s i n c.loop-i.invariant.moved in
    record {
      within = omega (arith, c.if-i-bytes.true);
      moved = c.behind-position.ensures.moved ∙ over-more c.args.self c.past-position.result s (i + n) c.if-i-bytes.true before;
      lines = omega (arith, c.behind-position.ensures.lines, c.past-position.ensures.lines, c.loop-i.invariant.lines);
      columns = omega (arith, c.behind-position.ensures.columns, c.past-position.ensures.columns, c.loop-i.invariant.columns);
    }
