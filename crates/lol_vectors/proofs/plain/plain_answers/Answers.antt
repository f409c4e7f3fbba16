use Rattle.std.proofs.Common.{false, ◌≡◌, ◌++◌, ap, ◌∙◌, map}
use Rattle.std.proofs.lemmas.Result.{IfOk-weaker}
use Rattle.lol_program.specs.Asts.{trees_of}
use Rattle.lol_program.specs.Paths.{First}
use Rattle.lol_machine.specs.Answers.{answers}
use Rattle.lol_vm.specs.TagEvents.{event_of}
use Rattle.lol_vectors.specs.PlainNodes.{node_shown, nodes_listed, selectors_listed}
use Rattle.lol_vectors.proofs.PlainTrees.{listed_answers}
use Rattle.lol_vectors.proofs.plain.plain_answers.Goals as goal

pub returns : goal.returns
returns c =
    let esi = c.args.enable_esi_tags in
    let events = map event_of c.args.events.now in
    let trees = trees_of c.args.ast.now in
    let listed : map node_shown c.deref.result.now ≡ nodes_listed First trees =
    ap (map node_shown) c.deref.ensures.value ∙ c.in_ok-list_nodes.ensures
    ∙ (λ i. map node_shown (c.new-nodes.ensures.items i) ++ nodes_listed First (c.root.ensures i)) in
    IfOk-weaker c.answers_of.result _ _
    (λ told is. is ∙ ap (λ nodes. answers (selectors_listed false nodes) esi events) listed ∙ listed_answers trees false esi events)
    c.answers_of.ensures
