use Rattle.std.proofs.Common.{take}
use Rattle.std.specs.Option.{option_copied}
use Rattle.lol_instructions.proofs.MatcherLemmas.{Walked}
use Rattle.lol_instructions.proofs.attribute_matcher.AttributeMatcher.new.Given as goal

-- what the attributes so far give
abbrev pub invariant-loop-outline : goal.invariant-loop-outline
invariant-loop-outline l = Walked l.input (take l.outline-index l.attributes.items) l.marks (option_copied l.id) (option_copied l.class)
