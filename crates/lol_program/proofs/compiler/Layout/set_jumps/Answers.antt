use Rattle.std.proofs.Common.{◌∙◌, refl, ap}
use Rattle.std.proofs.lemmas.Option.{get_or_from_slice_get}
use Rattle.lol_instructions.specs.declared.instruction.Instruction as code
use Rattle.lol_program.proofs.compiler.Layout.set_jumps.Goals as goal

pub returns-clause-jumps : goal.returns-clause-jumps
returns-clause-jumps c = record {
  instruction = _;
  is = refl;
  jumps_are = refl;
  hereditary_are = refl;
  kept = λ i there.
      let is = c.index_mut.ensures.value ∙ get_or_from_slice_get c.args.self.now.instructions.items c.args.address i c.index_mut.result.now there in
      (ap (λ (i : code.Instruction). i.predicate) is, ap (λ (i : code.Instruction). i.associated_branch.matched_ids) is);
}
