use Rattle.std.proofs.Common.{rules, arith, Bool, true, false, ◌||◌, drop, get_or, [], ◌∷◌, ◌≡◌, ◌+◌, ◌<◌, length, List, map, refl, sym, ap, subst, ◌∙◌}
use Rattle.std.specs.Prelude.{slice_set}
use Rattle.std.proofs.lemmas.List.{length-set, drop_more, drop-set-lt, drop_all}
use Rattle.std.proofs.lemmas.Grind.{drop_more_same}
use Rattle.lol_memory.specs.Ids.{ascending}
use Rattle.lol_instructions.specs.Compounds.{has_test_by_type}
use Rattle.lol_program.specs.Predicates.{tests_of}
use Rattle.lol_instructions.specs.Compiled.{tests_in}
use Rattle.lol_instructions.specs.CompiledKeys.{compiled_key_test}
use Rattle.lol_program.specs.Compiling.{AreCompiledTests}
use Rattle.lol_instructions.specs.declared.compiled_predicate.CompiledPredicate.{CompiledPredicate}
use Rattle.lol_program.specs.Views.{node_of, forest_of}
use Rattle.lol_program.specs.Forest.{Node, Forest, none, link, size}
use Rattle.lol_program.specs.Layouts.{width, range_of, any_by_type}
use Rattle.lol_program.specs.Laying.{AreLaid, SameElsewhere}
use Rattle.lol_program.specs.declared.ast_node.AstNode.{AstNode}
use Rattle.lol_program.specs.declared.ast_node.AstNode.TheViews.{out-AstNode, roll-AstNode}
use Rattle.lol_program.specs.declared.ast_node.AstNode.TheOpen.{AstNode-F}
use Rattle.lol_instructions.specs.declared.instruction.Instruction as code
use Rattle.lol_base.specs.BoolLaws.{or-false}
use Rattle.lol_program.proofs.CompiledLists.{flag_more}
use Rattle.lol_program.specs.NodeViewLaws.{shape, node_out, node_roll}
use Rattle.lol_program.proofs.LayingLemmas.{IsHalfLaid, half_init, half_step, half_done, node_done, node_same, placed_same, placed_stays, width_is, range_some}
use Rattle.lol_program.proofs.compiler.Layout.+compile.Goals as goal

pub compile_list-returns-clause-range : goal.compile_list-returns-clause-range
compile_list-returns-clause-range t c =
    let some : 0 < length c.args.nodes.now = search rules in
    range_some c.args.nodes.now _ c.args.self.now.free_space_start some refl refl

-- what is under a node stays as its other parts are taken
kept : (x : AstNode-F AstNode) → shape (out-AstNode (roll-AstNode x)) ≡ shape x
kept x = sym (node_out (roll-AstNode x)) ∙ node_roll x

children_kept : (x : AstNode-F AstNode) → forest_of (out-AstNode (roll-AstNode x)).children.items ≡ forest_of x.children.items
children_kept x = ap (λ (n : Node). n.children) (kept x)

descendants_kept : (x : AstNode-F AstNode) → forest_of (out-AstNode (roll-AstNode x)).descendants.items ≡ forest_of x.descendants.items
descendants_kept x = ap (λ (n : Node). n.descendants) (kept x)

pub compile_node-returns-clause-laid : goal.compile_node-returns-clause-laid
compile_node-returns-clause-laid t c =
    let a = c.in_ok-jumps.ensures in
    let b = c.in_ok-hereditary_jumps.ensures in
    let p = c.in_ok-place_node.ensures in
    let done = c.set_jumps.ensures.jumps in
    let x = out-AstNode c.args.node.now in
    let children : forest_of c.deref_mut.result.now ≡ forest_of x.children.items = ap forest_of c.deref_mut.ensures.value ∙ children_kept _ in
    let descendants : forest_of c.deref_mut-2.result.now ≡ forest_of x.descendants.items = ap forest_of c.deref_mut-2.ensures.value ∙ (descendants_kept _ ∙ descendants_kept _) in
    let address = c.args.address in
    let free = c.args.self.now.free_space_start in
    let start = c.place_node.new.self.free_space_start in
    let middle = c.compile_list.new.self.free_space_start in
    let more = c.compile_list-2.new.self.free_space_start in
    let old = c.args.self.now.instructions.items in
    let placed = c.place_node.new.self.instructions.items in
    let first = c.compile_list.new.self.instructions.items in
    let second = c.compile_list-2.new.self.instructions.items in
    let there : address < length old = omega (arith, c.requires.room, c.requires.address) in
    let within : address < length second = omega (arith, there, a.same.count, b.same.count, ap length p.placed.is, length-set old address p.placed.instruction) in
    let stays = placed_stays address start middle more old placed first second p.placed.instruction p.placed.is there (omega (arith, c.requires.address, p.free_space)) (omega (arith, a.free_space)) a.same b.same in
    let kept = done.kept p.placed.instruction stays in
    subst (λ (m : Node). AreLaid c.set_jumps.new.self.instructions.items address free (link m none)) (sym (node_out c.args.node.now))
    (subst (λ (is : List code.Instruction). AreLaid is address free (link (shape x) none)) (sym done.is)
    (node_done (shape x) address free start middle more first second done.instruction
    p.free_space (subst (λ (f : Forest). middle ≡ start + size f) children a.free_space) (subst (λ (f : Forest). more ≡ middle + size f) descendants b.free_space) c.requires.address within
    (subst (λ (f : Forest). AreLaid first start (start + width f) f) children a.laid) (subst (λ (f : Forest). AreLaid second middle (middle + width f) f) descendants b.laid) b.same
    (subst (λ (q : CompiledPredicate). AreCompiledTests (tests_in q) (tests_of x.predicate)) (sym kept.0) p.placed.tests_are)
    (ap (λ (q : CompiledPredicate). map compiled_key_test (tests_in q)) kept.0 ∙ p.placed.keys_are)
    (ap ascending (kept.1 ∙ p.placed.ids_are))
    (done.jumps_are ∙ subst (λ (f : Forest). c.in_ok-jumps.jumps ≡ range_of f start) children a.range)
    (done.hereditary_are ∙ subst (λ (f : Forest). c.in_ok-hereditary_jumps.hereditary_jumps ≡ range_of f middle) descendants b.range)))

pub compile_node-returns-clause-same : goal.compile_node-returns-clause-same
compile_node-returns-clause-same t c =
    let a = c.in_ok-jumps.ensures in
    let b = c.in_ok-hereditary_jumps.ensures in
    let p = c.in_ok-place_node.ensures in
    let done = c.set_jumps.ensures.jumps in
    let address = c.args.address in
    let free = c.args.self.now.free_space_start in
    let start = c.place_node.new.self.free_space_start in
    let middle = c.compile_list.new.self.free_space_start in
    let more = c.compile_list-2.new.self.free_space_start in
    let old = c.args.self.now.instructions.items in
    let placed = c.place_node.new.self.instructions.items in
    let second = c.compile_list-2.new.self.instructions.items in
    let before : address < start = omega (arith, c.requires.address, p.free_space) in
    let same = node_same address start middle more placed c.compile_list.new.self.instructions.items second done.instruction before (omega (arith, a.free_space)) (omega (arith, b.free_space)) a.same b.same in
    let all = placed_same address start more old placed (slice_set second address done.instruction) p.placed.instruction p.placed.is before (omega (arith, a.free_space, b.free_space)) same in
    subst (λ low. SameElsewhere address low c.set_jumps.new.self.free_space_start old c.set_jumps.new.self.instructions.items) p.free_space
    (subst (λ high. SameElsewhere address start high old c.set_jumps.new.self.instructions.items) (sym c.set_jumps.ensures.free_space)
    (subst (λ (is : List code.Instruction). SameElsewhere address start more old is) (sym done.is) all))

pub compile_node-returns-clause-free_space : goal.compile_node-returns-clause-free_space
compile_node-returns-clause-free_space t c =
    let a = c.in_ok-jumps.ensures in
    let b = c.in_ok-hereditary_jumps.ensures in
    let x = out-AstNode c.args.node.now in
    let children : forest_of c.deref_mut.result.now ≡ forest_of x.children.items = ap forest_of c.deref_mut.ensures.value ∙ children_kept _ in
    let descendants : forest_of c.deref_mut-2.result.now ≡ forest_of x.descendants.items = ap forest_of c.deref_mut-2.ensures.value ∙ (descendants_kept _ ∙ descendants_kept _) in
    subst (λ (m : Node). c.set_jumps.new.self.free_space_start ≡ c.args.self.now.free_space_start + (size m.children + size m.descendants)) (sym (node_out c.args.node.now))
    (omega (arith, c.set_jumps.ensures.free_space, ap size descendants, b.free_space, ap size children, a.free_space, c.in_ok-place_node.ensures.free_space))

each_flag : (flag own children descendants : Bool) → (((flag || own) || children) || descendants) ≡ (flag || ((own || (children || descendants)) || false))
each_flag true own children descendants = refl
each_flag false true children descendants = refl
each_flag false false true descendants = refl
each_flag false false false true = refl
each_flag false false false false = refl

pub compile_node-returns-clause-by_type : goal.compile_node-returns-clause-by_type
compile_node-returns-clause-by_type t c =
    let a = c.in_ok-jumps.ensures in
    let b = c.in_ok-hereditary_jumps.ensures in
    let p = c.in_ok-place_node.ensures in
    let x = out-AstNode c.args.node.now in
    let children : forest_of c.deref_mut.result.now ≡ forest_of x.children.items = ap forest_of c.deref_mut.ensures.value ∙ children_kept _ in
    let descendants : forest_of c.deref_mut-2.result.now ≡ forest_of x.descendants.items = ap forest_of c.deref_mut-2.ensures.value ∙ (descendants_kept _ ∙ descendants_kept _) in
    let flag = c.args.self.now.enable_nth_of_type in
    let below = any_by_type (forest_of x.children.items) in
    let deeper = any_by_type (forest_of x.descendants.items) in
    subst (λ (m : Node). c.set_jumps.new.self.enable_nth_of_type ≡ (flag || any_by_type (link m none))) (sym (node_out c.args.node.now))
    (c.set_jumps.ensures.by_type ∙ ((b.by_type ∙ ap (λ (f : Forest). c.compile_list.new.self.enable_nth_of_type || any_by_type f) descendants) ∙ ap (λ (f : Bool). f || deeper) ((a.by_type ∙ ap (λ (f : Forest). c.place_node.new.self.enable_nth_of_type || any_by_type f) children) ∙ ap (λ (f : Bool). f || below) p.by_type)) ∙ each_flag flag (has_test_by_type (tests_of x.predicate)) below deeper)

pub compile_nodes-loop-node-init : goal.compile_nodes-loop-node-init
compile_nodes-loop-node-init t c =
    let f = forest_of c.args.nodes.now in
    let start = c.args.self.now.free_space_start in
    let end = start + length c.args.nodes.now in
    record {
      as_before = refl;
      by_type = refl;
      half = half_init f start end c.args.self.now.instructions.items (omega (arith, width_is c.args.nodes.now));
    }

pub compile_nodes-loop-node-preserved : goal.compile_nodes-loop-node-preserved
compile_nodes-loop-node-preserved t c =
    let f = forest_of c.args.nodes.now in
    let start = c.args.self.now.free_space_start in
    let end = start + length c.args.nodes.now in
    let old = c.args.self.now.instructions.items in
    let instructions = c.loop-node.self.instructions.items in
    let next = c.compile_node.new.self.instructions.items in
    let address = c.loop-node.address in
    let free = c.loop-node.self.free_space_start in
    let done = c.in_ok-compile_node.ensures in
    let flag = c.loop-node.self.enable_nth_of_type in
    let i = c.loop-node.node-index in
    let nodes = c.loop-node.nodes in
    let left = drop (i + 1) c.args.nodes.now in
    let node = get_or nodes i c.node-item.result in
    let n = node_of node in
    let own = has_test_by_type n.compound || (any_by_type n.children || any_by_type n.descendants) in
    let within : i < length nodes = omega (arith, c.loop-node-test.true, c.loop-node.auto.nodes) in
    let rest : drop (i + 1) nodes ≡ left = drop_more_same nodes c.args.nodes.now i c.loop-node.invariant.as_before in
    let here : drop i c.args.nodes.now ≡ node ∷ left =
    sym c.loop-node.invariant.as_before ∙ (drop_more nodes i c.node-item.result within ∙ λ j. node ∷ rest j) in
    let h = subst (λ (ns : List AstNode). IsHalfLaid f start end old (forest_of ns) address free instructions) here c.loop-node.invariant.half in
    record {
      as_before = drop-set-lt (i + 1) nodes i c.compile_node.new.node (omega arith) ∙ rest;
      by_type = flag_more flag c.compile_node.new.self.enable_nth_of_type own (any_by_type (forest_of left)) _ (done.by_type ∙ ap (λ (b : Bool). flag || b) (or-false own))
          (ap (λ (ns : List AstNode). flag || any_by_type (forest_of ns)) (sym here) ∙ c.loop-node.invariant.by_type);
      half = half_step f start end old n (forest_of left) address free c.compile_node.new.self.free_space_start instructions next h done.same done.free_space done.laid;
    }

pub compile_nodes-returns-clause-laid : goal.compile_nodes-returns-clause-laid
compile_nodes-returns-clause-laid t c =
    let f = forest_of c.args.nodes.now in
    let start = c.args.self.now.free_space_start in
    let end = start + length c.args.nodes.now in
    let old = c.args.self.now.instructions.items in
    let nothing : drop c.loop-node.node-index c.args.nodes.now ≡ [] = drop_all c.loop-node.node-index c.args.nodes.now (omega (arith, c.loop-node-test.false, c.loop-node.auto.nodes)) in
    let half = subst (λ (ns : List AstNode). IsHalfLaid f start end old (forest_of ns) c.loop-node.address c.loop-node.self.free_space_start c.loop-node.self.instructions.items) nothing c.loop-node.invariant.half in
    half_done f start end old c.loop-node.address c.loop-node.self.free_space_start c.loop-node.self.instructions.items half
