use Rattle.std.proofs.Common.{◌∷◌, sym, ap, ◌∙◌, ◌+◌, take}
use Rattle.std.specs.List.{slice_split}
use Rattle.std.proofs.lemmas.List.{take_rest}
use Rattle.lol_script.specs.Script.{is_tab}
use Rattle.lol_script.proofs.Fields.{split_some}
use Rattle.lol_script.proofs.lines.cut.Goals as goal

pub returns-clause-fields : goal.returns-clause-fields
returns-clause-fields c =
    let bytes = c.args.bytes.now in
    split_some bytes c.in_ok-offset.offset (sym c.in_ok-offset.ensures) ∙ ap (λ rest. take c.in_ok-offset.offset bytes ∷ slice_split is_tab rest) (sym (take_rest bytes (c.in_ok-offset.offset + 1)))
