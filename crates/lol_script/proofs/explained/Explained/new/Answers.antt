use Rattle.std.proofs.Common.{◌≡◌, List, ap, map, sym, ◌∙◌}
use Rattle.lol_script.specs.SelectLines.{with_length}
use Rattle.lol_script.specs.declared.select_lines.KeptLine as code
use Rattle.lol_script.proofs.Commas.{map_through}
use Rattle.lol_script.proofs.explained.Explained.new.Goals as goal

pub returns : goal.returns
returns c = λ s keeps going holds.
    record {
      holds = record { tree = holds.tree; nodes = holds.nodes; explainer = c.index.ensures ∙ holds.explainer };
      lines = c.in_ok-numbers.ensures ∙ (ap (map (λ (l : code.KeptLine). l.number)) keeps.1.lengths ∙ (sym (map_through (λ (l : code.KeptLine). l.number) with_length keeps.0) ∙ keeps.2.numbers));
      room = c.in_ok-list_for_ids.ensures.room going;
    }
