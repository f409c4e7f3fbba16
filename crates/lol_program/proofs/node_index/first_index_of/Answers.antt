use Rattle.lol_program.specs.Views.{tests_of_compound}
use Rattle.std.proofs.Common.{refl, sym, ◌∙◌, true≢false}
use Rattle.lol_program.specs.NodeViewLaws.{none_before}
use Rattle.lol_program.proofs.node_index.first_index_of.Goals as goal

pub loop-i-preserved : goal.loop-i-preserved
loop-i-preserved c =
    none_before (tests_of_compound c.args.compound.now) c.args.nodes.now c.loop-i.i c.loop-i.i c.index-nodes-i.result refl c.loop-i-test.true c.index-nodes-i.is
    (λ e. true≢false (sym (c.is_of.ensures.1 e) ∙ c.if-is_of.false)) c.loop-i.invariant
