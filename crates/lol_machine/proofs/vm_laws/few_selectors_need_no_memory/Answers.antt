use Rattle.lol_machine.proofs.SmallSelectors.{flat_pairs, small_pairs}
use Rattle.lol_machine.proofs.vm_laws.few_selectors_need_no_memory.Goals as goal

pub returns-clause-small : goal.returns-clause-small
returns-clause-small c = small_pairs

pub returns-clause-flat : goal.returns-clause-flat
returns-clause-flat c = flat_pairs
