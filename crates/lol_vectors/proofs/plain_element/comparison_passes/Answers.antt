use Rattle.std.proofs.Common.{ap, sym, ◌∙◌, ◌&&◌, List, ℕ}
use Rattle.std.specs.Prelude.{string_bytes}
use Rattle.lol_instructions.specs.Tests.{needs_operand, is_empty_text}
use Rattle.lol_instructions.specs.AttributeLaws.{holds-Compares, never-Compares}
use Rattle.lol_vectors.proofs.plain_element.comparison_passes.Goals as goal

pub returns : goal.returns
returns c = λ e same.
    let test = c.args.test.now in
    let told = c.in_ok-operands.ensures in
    let enough = sym (c.lacks_operand.ensures ∙ ap (λ (bytes : List ℕ). needs_operand test.operator && is_empty_text bytes) c.as_bytes.ensures.value) ∙ c.if-lacks_operand.false in
    c.operands_pass.ensures ∙ holds-Compares c.args.attributes.now e same (string_bytes test.name) (string_bytes test.value) test.operator test.case_sensitivity c.in_ok-operands.operands told.name told.value told.case enough

pub returns-then-lacks_operand : goal.returns-then-lacks_operand
returns-then-lacks_operand c = λ e same.
    let test = c.args.test.now in
    let lacks = sym (c.lacks_operand.ensures ∙ ap (λ (bytes : List ℕ). needs_operand test.operator && is_empty_text bytes) c.as_bytes.ensures.value) ∙ c.if-lacks_operand.true in
    sym (never-Compares (string_bytes test.name) (string_bytes test.value) test.operator test.case_sensitivity e lacks)
