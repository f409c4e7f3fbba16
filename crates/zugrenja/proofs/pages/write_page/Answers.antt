-- What is told tag by tag is what the whole page gives.
use Rattle.std.proofs.Common.{◌≡◌, List, length, subst, ap, ◌∙◌, true}
use Rattle.std.specs.Io.KnownBytes.{Appends}
use Rattle.lol_matcher.specs.Told.{Matching}
use Rattle.lol_machine.specs.Views.{selectors}
use Rattle.lol_page.specs.Pages.{fresh_page}
use Rattle.lol_page.specs.declared.settings.PageSettings.{PageSettings}
use Rattle.lol_page.specs.PageMatches.{PageMatch, page_matches}
use Rattle.zugrenja.specs.Lines.{page_lines}
use Rattle.zugrenja.specs.PageReadings.{matches_in}
use Rattle.zugrenja.proofs.PageParts.{fresh_matches}
use Rattle.zugrenja.proofs.pages.write_page.Goals as goal

pub returns : goal.returns
returns g c =
    let p = c.new-page.result in
    let told = c.args.matcher.told in
    let wrote = c.in_ok-count.ensures in
    let decoded = c.args.style.now.decoded in
    let fresh : p.reader.page ≡ fresh_page true decoded =
    c.new-page.ensures.page ∙ ap (λ (s : PageSettings). fresh_page s.scripting decoded) c.default.ensures in
    let same : matches_in p wrote.bytes ≡ page_matches (selectors told.ast) told.esi true decoded wrote.bytes =
    fresh_matches p told.ast told.esi decoded wrote.bytes fresh
    (ap (λ (m : Matching (Unit {0})). m.told) c.new-page.ensures.matcher ∙ c.requires) in
    record {
      bytes = wrote.bytes;
      read = wrote.read;
      at_end = wrote.at_end;
      written = subst (λ (ms : List PageMatch). Appends (g.W.Write.contents c.args.writer.now) (g.W.Write.contents c.write_chunks.new.writer) (page_lines c.args.style.now ms)) same wrote.written;
      counted = wrote.counted ∙ ap length same;
    }
