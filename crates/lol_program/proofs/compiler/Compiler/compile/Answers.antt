use Rattle.std.proofs.Common.{arith, ◌≡◌, Some, is_some, ◌+◌, ◌||◌, List, length, sym, ap, subst, ◌∙◌}
use Rattle.std.proofs.lemmas.List.{length-map}
use Rattle.lol_program.specs.Asts.{trees_of, is_with_rows}
use Rattle.lol_program.specs.Paths.{First}
use Rattle.lol_program.specs.Forest.{Forest, size, nodes_in}
use Rattle.lol_program.specs.Views.{forest_of}
use Rattle.lol_program.specs.declared.ast_node.AstNode.{AstNode}
use Rattle.lol_program.specs.Programs.{IsProgramOf}
use Rattle.lol_program.specs.Layouts.{width, any_by_type, selectors_in, program_of}
use Rattle.lol_program.specs.ProgramViews.{instruction_shown, code_of, program_shown, AreItsRows}
use Rattle.lol_program.specs.Laying.{AreLaid}
use Rattle.lol_program.specs.NodeListLaws.{size-nodes}
use Rattle.lol_program.proofs.Laid.{layouts_are_programs}
use Rattle.lol_program.proofs.LayingLemmas.{width_is}
use Rattle.lol_program.proofs.Filled.{filled}
use Rattle.lol_instructions.specs.declared.instruction.Instruction.{Instruction}
use Rattle.lol_program.proofs.compiler.Compiler.compile.Goals as goal
use Rattle.lol_program.proofs.compiler.Compiler.compile.Goals.{then-self, else-self, then-with_rows+in_ok-of, else-with_rows}

pub compile_nodes-requires : goal.compile_nodes-requires
compile_nodes-requires c = omega (arith, ap (λ (nodes : List AstNode). size (forest_of nodes)) c.deref_mut.ensures.value, ap size c.into_root-root.ensures, c.in_ok-noops.ensures, c.cumulative_node_count.ensures.count, size-nodes First (trees_of c.args.ast))

pub returns-clause-program : goal.returns-clause-program
returns-clause-program c =
    let f = trees_of c.args.ast in
    let instructions = c.compile_nodes.new.self.instructions.items in
    let flag = c.compile_nodes.new.self.enable_nth_of_type in
    let done = c.in_ok-compile_nodes.ensures in
    let same = ap forest_of c.deref_mut.ensures.value ∙ c.into_root-root.ensures in
    let count : length instructions ≡ size f = done.same.count ∙ (c.in_ok-noops.ensures ∙ (c.cumulative_node_count.ensures.count ∙ size-nodes First f)) in
    let by_type : flag ≡ any_by_type f = done.by_type ∙ ap any_by_type same in
    let laid : AreLaid instructions 0 (0 + width f) f = subst (λ (g : Forest). AreLaid instructions 0 (0 + width g) g) same done.laid in
    let shown : code_of flag instructions ≡ (program_of f).instructions = filled f (code_of flag instructions) (length-map instructions (instruction_shown flag) ∙ count) (laid flag (λ needed. by_type ∙ needed)) in
    let end : c.len.result ≡ width f = omega (arith, c.len.ensures, width_is c.into_root-root.result.items, ap width c.into_root-root.ensures) in
    let program : program_shown (record { instructions = c.compile_nodes.new.self.instructions; entry_points = record { start = 0; end = c.len.result }; enable_nth_of_type = flag; rows = c.if-with_rows.rows }) ≡ program_of f =
    λ i. record { entry = record { start = 0; end = end i }; instructions = shown i; by_type = by_type i } in
    λ by_keys. subst (IsProgramOf (selectors_in by_keys f) (nodes_in First f)) (sym program) (layouts_are_programs by_keys f c.args.ast.siblings)

pub returns-clause-rows : goal.returns-clause-rows
returns-clause-rows c =
    elim c.if-with_rows.branch [
      | then-with_rows+in_ok-of w ↦ rw w.rows-is (subst (λ (l : List Instruction). AreItsRows l (Some w.in_ok-of.field-0)) w.deref.ensures.value w.in_ok-of.ensures)
      | else-with_rows w ↦ rw w.rows-is tt
    ]

pub returns-clause-mode : goal.returns-clause-mode
returns-clause-mode c =
    let asked : is_some c.if-with_rows.rows ≡ c.if-self.with_rows = elim c.if-with_rows.branch [
      | then-with_rows+in_ok-of w ↦ ap is_some w.rows-is ∙ sym w.if-with_rows.true
      | else-with_rows w ↦ ap is_some w.rows-is ∙ sym w.if-with_rows.false
    ] in
    asked ∙ elim c.if-self.branch [
      | then-self w ↦ w.with_rows-is ∙ (w.if-self.true ∙ sym (ap (λ b. b || is_with_rows c.args.ast) w.if-self.true))
      | else-self w ↦ w.with_rows-is ∙ (w.has_rows-with_rows.ensures ∙ sym (ap (λ b. b || is_with_rows c.args.ast) w.if-self.false))
    ]
