use Rattle.std.proofs.Common.{◌≡◌, sym, ap, ◌∙◌, subst}
use Rattle.lol_program.specs.Asts.{is_with_rows}
use Rattle.lol_program.specs.declared.ast.Ast.{Ast}
use Rattle.lol_reasons.specs.Explanations.{added_by}
use Rattle.lol_reasons.specs.Numbered.{HoldsItems}
use Rattle.lol_script.specs.Answering.{IsNewMatcher}
use Rattle.lol_script.specs.Scripts.{texts_in}
use Rattle.lol_script.proofs.StartTags.{M}
use Rattle.lol_script.proofs.script_run.new_matcher.Goals as goal

pub returns-clause-explained : goal.returns-clause-explained
returns-clause-explained c = λ explains s keeps rows.
    let numbering = c.in_ok-numbering.numbering in
    let matcher = c.in_ok-matcher.matcher in
    let numbered = c.in_ok-numbering.ensures s keeps in
    let new = c.in_ok-matcher.ensures in
    let same : matcher.told.ast ≡ numbering.ast = ap (λ (m : M). m.told.ast) new in
    let holds = subst (λ (ast : Ast). HoldsItems (added_by (texts_in s)) (record { ast = ast; explainer = numbering.explainer })) (sym same) numbered.0 in (
      c.in_ok-explained.ensures s keeps (ap (λ (m : M). m.failed) new) holds,
      ap is_with_rows same ∙ (numbered.1 ∙ (c.has_rows.ensures ∙ rows)),
      subst (λ (ast : Ast). IsNewMatcher ast c.args.limit c.args.esi matcher) (sym same) new,
    )
