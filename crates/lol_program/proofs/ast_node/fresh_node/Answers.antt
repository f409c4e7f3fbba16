use Rattle.std.proofs.Common.{ap, ◌∙◌}
use Rattle.lol_memory.specs.Ids.{ascending}
use Rattle.lol_program.specs.Predicates.{tests_of}
use Rattle.lol_program.specs.Views.{forest_of}
use Rattle.lol_program.specs.IdSetLaws.{ascending-no_ids}
use Rattle.lol_program.specs.NodeViewLaws.{node_roll}
use Rattle.lol_program.proofs.ast_node.fresh_node.Goals as goal

pub returns : goal.returns
returns c =
    let ids = ap ascending c.new-3.ensures ∙ ascending-no_ids in
    node_roll (record { predicate = c.args.predicate; children = c.new.result; descendants = c.new-2.result; match_ids = c.new-3.result })
    ∙ (λ i. record { compound = tests_of c.args.predicate; ids = ids i; children = forest_of (c.new.ensures.items i); descendants = forest_of (c.new-2.ensures.items i) })
