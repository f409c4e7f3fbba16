use Rattle.std.proofs.Common.{arith, rules, ◌≡◌, ◌+◌, ◌++◌, List, ℕ, take, length, sym, ap, ◌∙◌}
use Rattle.std.specs.Prelude.{option_map}
use Rattle.std.proofs.KnownBytes.{Consumes-trans}
use Rattle.std.proofs.lemmas.List.{append_assoc, length-append, length-take-le}
use Rattle.lol_script.specs.ReadLines.{is_line_feed}
use Rattle.lol_script.proofs.LineCuts.{any_none, found_after, none_any}
use Rattle.lol_script.proofs.line_reader.read_to_line_feed.Goals as goal

pub returns-then-count-eq0-clause-offset : goal.returns-then-count-eq0-clause-offset
returns-then-count-eq0-clause-offset g c = sym (any_none is_line_feed c.loop-reader.bytes.items c.loop-reader.invariant.none)

pub returns-in-Some-clause-offset : goal.returns-in-Some-clause-offset
returns-in-Some-clause-offset g c =
    let more : List ℕ = take c.in_ok-count.count c.read.new.buffer in
    let size : c.len-scanned.result ≡ length c.loop-reader.bytes.items = search rules in
    sym (found_after c.loop-reader.bytes.items more c.extend_from_slice.new.self.items _ _ _ c.loop-reader.invariant.none c.in-Ok.ensures.items c.deref.ensures.value size c.line_feed_offset.ensures ∙ ap (option_map (λ k. c.len-scanned.result + k)) c.in-Some.is)

pub loop-reader-preserved : goal.loop-reader-preserved
loop-reader-preserved g c =
    let before = c.loop-reader.invariant.read in
    let more : List ℕ = take c.in_ok-count.count c.read.new.buffer in
    let size : c.len-scanned.result ≡ length c.loop-reader.bytes.items = search rules in
    record {
      read = (
        before.0 ++ more,
        Consumes-trans _ _ _ before.0 more before.1 c.in_ok-count.ensures.bytes.0,
        c.in-Ok.ensures.items ∙ (ap (λ (bytes : List ℕ). bytes ++ more) before.2 ∙ append_assoc c.args.bytes.now.items before.0 more),
      );
      none = none_any is_line_feed c.extend_from_slice.new.self.items (found_after c.loop-reader.bytes.items more c.extend_from_slice.new.self.items _ _ _ c.loop-reader.invariant.none c.in-Ok.ensures.items c.deref.ensures.value size c.line_feed_offset.ensures ∙ ap (option_map (λ k. c.len-scanned.result + k)) c.in_default-line_feed_offset.is);
      failures = c.in_ok-count.ensures.unchanged ∙ c.loop-reader.invariant.failures;
      counted =
          let longer = ap length c.in-Ok.ensures.items ∙ length-append c.loop-reader.bytes.items more in
          let few = length-take-le c.in_ok-count.count c.read.new.buffer in
          omega (arith, longer, few, c.in_ok-count_read.ensures.counted, c.loop-reader.invariant.counted);
      grows = omega (arith, c.in_ok-count_read.ensures.counted, c.loop-reader.invariant.grows);
      room = c.read.auto.buffer ∙ c.loop-reader.invariant.room;
    }
