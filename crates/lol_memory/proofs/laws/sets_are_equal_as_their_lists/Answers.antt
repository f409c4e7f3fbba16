use Rattle.std.proofs.Common.{ap}
use Rattle.lol_memory.specs.Ids.{ascending}
use Rattle.lol_memory.specs.SetLaws.{same_keys, same_ids-Decides}
use Rattle.lol_memory.specs.AscendingLaws.{ascending_rises}
use Rattle.lol_memory.proofs.laws.sets_are_equal_as_their_lists.Goals as goal

pub returns-clause-equal : goal.returns-clause-equal
returns-clause-equal c s t = (ap ascending, same_keys s t)

pub returns-clause-tested : goal.returns-clause-tested
returns-clause-tested c s t = same_ids-Decides s t

pub returns-clause-rises : goal.returns-clause-rises
returns-clause-rises c = ascending_rises
