use Rattle.std.proofs.Common.{List, refl, sym, ap, subst, ◌∙◌, map}
use Rattle.lol_program.specs.Predicates.{tests_of}
use Rattle.lol_program.specs.Compiling.{AreCompiledTests}
use Rattle.lol_instructions.specs.Compiled.{tests_in}
use Rattle.lol_instructions.specs.Keys.{key_tests}
use Rattle.lol_instructions.specs.CompiledKeys.{compiled_key_test}
use Rattle.lol_instructions.specs.declared.execution_branch.ExecutionBranch.{ExecutionBranch}
use Rattle.lol_instructions.specs.declared.compiled_predicate.CompiledTest.{CompiledTest}
use Rattle.lol_program.specs.declared.predicate.Predicate.{Predicate}
use Rattle.lol_program.proofs.compiler.Layout.place_node.Goals as goal

pub returns-clause-placed : goal.returns-clause-placed
returns-clause-placed c = record {
  instruction = c.new-4.result;
  is = refl;
  ids_are = ap (λ (given : ExecutionBranch). given.matched_ids) c.new-4.ensures.branch ∙ c.replace-matched_ids.ensures.value;
  tests_are =
      subst (λ (tests : List CompiledTest). AreCompiledTests tests (tests_of c.args.predicate.now)) (sym (ap tests_in c.new-4.ensures.predicate ∙ c.new-3.ensures))
      (subst (λ (p : Predicate). AreCompiledTests c.in_ok-tests.tests.items (tests_of p)) c.replace-predicate.ensures.value c.in_ok-tests.ensures.tests);
  keys_are =
      ap (map compiled_key_test) (ap tests_in c.new-4.ensures.predicate ∙ c.new-3.ensures)
      ∙ (c.in_ok-tests.ensures.keys ∙ ap (λ (p : Predicate). key_tests (tests_of p)) c.replace-predicate.ensures.value);
}
