use Rattle.lol_stack.specs.ClimbLaws.{none_stand, counting_stands, cutting_stands, cutting_filters}
use Rattle.lol_stack.proofs.stack_laws.typed_levels_climb.Goals as goal

pub returns-clause-none : goal.returns-clause-none
returns-clause-none c = none_stand

pub returns-clause-counting : goal.returns-clause-counting
returns-clause-counting c = counting_stands

pub returns-clause-cutting : goal.returns-clause-cutting
returns-clause-cutting c = cutting_stands

pub returns-clause-left : goal.returns-clause-left
returns-clause-left c = cutting_filters
