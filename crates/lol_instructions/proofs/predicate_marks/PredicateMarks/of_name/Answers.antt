use Rattle.std.proofs.Common.{sym, ap, ◌∙◌}
use Rattle.lol_instructions.specs.Compounds.{value_of_bool}
use Rattle.lol_instructions.specs.Compiled.{name_expr_holds}
use Rattle.lol_instructions.specs.declared.compiled_expr.LocalNameExprTest.{LocalNameExprTest}
use Rattle.lol_instructions.proofs.PredicateMarkLemmas.{hash_value}
use Rattle.lol_instructions.proofs.predicate_marks.PredicateMarks.of_name.Goals as goal

pub returns-in-Some-clause-value : goal.returns-in-Some-clause-value
returns-in-Some-clause-value c s v h =
    ap (λ (test : LocalNameExprTest). value_of_bool (name_expr_holds test s)) c.in-LocalName.is
    ∙ hash_value s.name c.in-LocalName.name.lowercased c.in-Some.code v (sym c.code.ensures ∙ c.in-Some.is) h
