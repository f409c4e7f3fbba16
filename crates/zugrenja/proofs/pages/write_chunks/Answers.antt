use Rattle.std.proofs.Common.{◌≡◌, ℕ, ◌+◌, ◌++◌, [], List, length, take, subst, sym, ap, ◌∙◌, refl, arith, length-append}
use Rattle.std.specs.Io.KnownBytes.{Appends, Consumes}
use Rattle.std.proofs.KnownBytes.{Appends-nil, Consumes-nil, Consumes-trans}
use Rattle.lol_page.specs.MatchLaws.{matches_both, reads_both, reads_nothing}
use Rattle.lol_page.specs.PageMatches.{ReadsOn}
use Rattle.zugrenja.specs.Lines.{lines_of}
use Rattle.zugrenja.specs.PageReadings.{matches_in}
use Rattle.zugrenja.proofs.PageParts.{lines_written, page_written, consumed_all}
use Rattle.zugrenja.proofs.pages.write_chunks.Goals as goal

pub chunks-init : goal.chunks-init
chunks-init g c = record {
  bytes = [];
  consumed = Consumes-nil (g.R.Read.remaining c.args.reader.now);
  read = reads_nothing c.args.page.now;
  written = Appends-nil (g.W.Write.contents c.args.writer.now);
  count = refl;
}

pub chunks-preserved : goal.chunks-preserved
chunks-preserved g c =
    let p = c.args.page.now in
    let q = c.chunks.page in
    let r = c.write_chunk.new.page in
    let before = c.chunks.invariant in
    let more = take c.in_ok-taken.taken c.read_chunk.new.buffer in
    let same : c.front-chunk.result.now ≡ more = c.front-chunk.ensures in
    let now = c.in_ok-count.ensures in
    let found : matches_in p (before.bytes ++ more) ≡ matches_in p before.bytes ++ matches_in q more = matches_both p q before.bytes more before.read in
    let len : length (matches_in p (before.bytes ++ more)) ≡ length (matches_in p before.bytes) + length (matches_in q more) =
    ap length found ∙ length-append (matches_in p before.bytes) (matches_in q more) in
    record {
      bytes = before.bytes ++ more;
      consumed = Consumes-trans _ _ _ before.bytes more before.consumed c.in_ok-taken.ensures.read;
      read = reads_both p q before.bytes more before.read r (subst (ReadsOn q r) same now.read);
      written = lines_written c.args.style.now _ _ _ (matches_in p before.bytes) (matches_in q more) (matches_in p (before.bytes ++ more)) before.written
          (subst (λ (x : List ℕ). Appends (g.W.Write.contents c.chunks.writer) (g.W.Write.contents c.write_chunk.new.writer) (lines_of c.args.style.now (matches_in q x))) same now.lines) found;
      count = now.count ∙ ap (λ (x : List ℕ). c.chunks.count + length (matches_in q x)) same ∙ ap (λ (n : ℕ). n + length (matches_in q more)) before.count ∙ sym len;
    }

pub returns-then-taken-eq0 : goal.returns-then-taken-eq0
returns-then-taken-eq0 g c =
    let p = c.args.page.now in
    let before = c.chunks.invariant in
    record {
      bytes = before.bytes;
      read = consumed_all _ _ _ before.bytes c.read_chunk.new.buffer c.in_ok-taken.taken before.consumed c.in_ok-taken.ensures.read c.if-taken-eq0.true;
      at_end = c.in_ok-taken.ensures.at_end c.if-taken-eq0.true;
      written = page_written c.args.style.now _ _ _ (matches_in p before.bytes) c.chunks.count before.written c.in_ok-write_end.ensures before.count;
      counted = before.count;
    }
