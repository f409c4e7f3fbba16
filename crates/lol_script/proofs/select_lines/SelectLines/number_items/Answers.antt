use Rattle.std.proofs.Common.{◌≡◌, List, ℕ, sym, ap, ◌∙◌, subst}
use Rattle.lol_program.specs.Paths.{Path, Selectors, all_beginnings}
use Rattle.lol_program.specs.Sets.{SameMembers}
use Rattle.lol_reasons.specs.Explanations.{Text, added_by, pairs_added}
use Rattle.lol_reasons.specs.Numbered.{HoldsItems, numbered_from}
use Rattle.lol_script.specs.Scripts.{texts_in}
use Rattle.lol_script.proofs.SelectLineLemmas.{same_texts}
use Rattle.lol_script.proofs.select_lines.SelectLines.number_items.Goals as goal

pub returns : goal.returns
returns c = λ s keeps.
    let kept = keeps.0 in
    let added = added_by (texts_in s) in
    let texts = same_texts _ (texts_in s) (sym (c.in_ok-read.ensures kept keeps.1) ∙ keeps.2.texts) in
    let holds = subst (λ (ts : List Text). HoldsItems (added_by ts) c.in-Ok.numbering) texts c.in-Ok.ensures.numbered in
    let is = c.with_rows_if-ast.ensures c.in-Ok.ensures.rows in (
      record {
        tree = subst (λ (pairs : List (Path × ℕ)). SameMembers pairs (numbered_from 0 added)) (sym (ap (λ (t : Selectors). t.pairs) is)) holds.tree;
        nodes = subst (λ (nodes : List Path). SameMembers nodes (all_beginnings (pairs_added added))) (sym (ap (λ (t : Selectors). t.nodes) is)) holds.nodes;
        explainer = holds.explainer;
      },
      ap (λ (t : Selectors). t.by_keys) is,
    )
