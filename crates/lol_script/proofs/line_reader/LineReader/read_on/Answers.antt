use Rattle.std.proofs.Common.{position, ap, ◌∙◌}
use Rattle.lol_script.specs.ReadLines.{ReadLines, is_line_feed}
use Rattle.lol_script.proofs.LineCuts.{none_any}
use Rattle.lol_script.proofs.line_reader.LineReader.read_on.Goals as goal

pub read_to_line_feed-requires-clause-none : goal.read_to_line_feed-requires-clause-none
read_to_line_feed-requires-clause-none g c =
    let shown = ap (λ (r : ReadLines). r.unread) c.self.view_is in
    none_any is_line_feed c.forget_first.new.bytes.items (ap (position is_line_feed) (c.forget_first.ensures ∙ shown) ∙ c.requires.none)
