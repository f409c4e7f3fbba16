use Rattle.std.proofs.Common.{refl, sym, ap, ◌∙◌}
use Rattle.std.specs.Prelude.{slice_get}
use Rattle.std.proofs.lemmas.Option.{slice_get_read}
use Rattle.lol_reasons.specs.Climbing.{has_address}
use Rattle.lol_reasons.proofs.node_table.leads_to.Goals as goal

pub returns-in-Some : goal.returns-in-Some
returns-in-Some c h =
    let found = c.in-Some.ensures.lookup in (
      c.in-Some.instruction.now,
      ap (λ l. slice_get l c.args.above.now.address) (sym c.deref.ensures.value) ∙ slice_get_read c.deref.result.now _ c.args.above.now.address c.in-Some.instruction.now refl found.3.0 found.1,
      ap (λ r. has_address r c.args.address) (sym c.range_of.ensures) ∙ sym c.is_in.ensures ∙ h,
    )
