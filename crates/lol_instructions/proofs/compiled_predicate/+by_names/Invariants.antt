use Rattle.std.proofs.Common.{◌≡◌, drop}
use Rattle.lol_instructions.specs.Compounds.{both, either}
use Rattle.lol_instructions.specs.Compiled.{sight, all_values, some_values}
use Rattle.lol_instructions.specs.declared.name_value.NameValue.TheVariants.{Open}
use Rattle.lol_instructions.specs.CompiledRowLaws.{value_here, value_of_predicate}
use Rattle.lol_instructions.proofs.compiled_predicate.+by_names.Given as goal

abbrev pub invariant-all_by_names-loop-i :
    goal.invariant-all_by_names-loop-i
invariant-all_by_names-loop-i l = record {
  value : l.value ≡ all_values (value_here (sight l.state l.local_name)) (drop l.i l.tests);
  none_fails : both Open l.value ≡ Open;
}

abbrev pub invariant-some_by_names-loop-predicate : goal.invariant-some_by_names-loop-predicate
invariant-some_by_names-loop-predicate l = record {
  value : some_values (value_of_predicate (sight l.state l.local_name)) l.predicates
      ≡ either l.value (some_values (value_of_predicate (sight l.state l.local_name)) (drop l.predicate-index l.predicates));
  none_passes : either l.value Open ≡ Open;
}
