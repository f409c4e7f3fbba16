use Rattle.std.proofs.Common.{ap, sym, ◌∙◌, map, take, List}
use Rattle.lol_memory.specs.Ids.{ascending}
use Rattle.lol_program.specs.IdSetLaws.{ascending-no_ids}
use Rattle.lol_machine.specs.Answers as answers
use Rattle.lol_machine.specs.Matching.{matches}
use Rattle.lol_vectors.specs.PlainElements.{element_shown}
use Rattle.lol_vectors.specs.PlainNodes.{path_shown, pairs_of}
use Rattle.lol_vectors.specs.declared.plain_nodes.Step.{Step}
use Rattle.lol_vectors.proofs.PlainIds.{ids_matched, ids_not_matched}
use Rattle.lol_vectors.proofs.PlainListed.{pairs_more}
use Rattle.lol_vectors.proofs.plain_nodes.matching_ids.Goals as goal
use Rattle.lol_vectors.proofs.plain_nodes.matching_ids.Goals.{then-branch+in_ok-union, else-branch}

pub loop-node-init : goal.loop-node-init
loop-node-init c = ap ascending c.new-ids.ensures ∙ ascending-no_ids

pub loop-node-preserved : goal.loop-node-preserved
loop-node-preserved c =
    let nodes = c.args.nodes.now in
    let i = c.loop-node.node-index in
    let node = c.node-item.result in
    let e = element_shown c.args.element.now in
    let outer = map element_shown c.args.outer.now in
    let path = path_shown node.path.items in
    let pairs = pairs_of (take i nodes) in
    let told = sym (c.in_ok-path_matches.ensures ∙ ap (λ (p : List Step). matches (path_shown p) e outer) c.deref.ensures.value) in
    let more = ap (λ ps. answers.matching_ids ps e outer) (sym (pairs_more nodes i node c.loop-node-test.true c.node-item.is)) in
    elim c.if-branch.branch [
      | then-branch+in_ok-union w ↦ ids_matched e outer pairs path c.loop-node.ids node.ids.now c.loop-node.invariant c.if-branch.ids (told ∙ w.if-branch.true) (w.ids-is ∙ w.in_ok-union.ensures.ok) ∙ more
      | else-branch w ↦ ids_not_matched e outer pairs path c.loop-node.ids node.ids.now c.loop-node.invariant c.if-branch.ids (told ∙ w.if-branch.false) w.ids-is ∙ more
    ]
