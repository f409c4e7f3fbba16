-- The row that the search over the pieces finds.
use Rattle.std.proofs.Common.{rules, tests, ◌==◌}
use Rattle.std.proofs.lemmas.Iterator.Search.{find_from_yields_List}
use Rattle.std.proofs.lemmas.Iterator.Splits.{YieldsList-from_slice_split}
use Rattle.lol_references.specs.Names.{begins_with_name, row_among}
use Rattle.lol_references.proofs.named.row_among.Goals as goal

pub returns : goal.returns
unfolding row_among
returns c =
    find_from_yields_List (begins_with_name c.args.bytes.now) _ _ c.find.result c.find.ensures.ran
    (YieldsList-from_slice_split _ (λ b. b == 32) c.args.rows.now c.split.ensures.rest c.split.ensures.done c.split.ensures.closure (λ x r q k. search (rules, tests)))
    (λ x b q k. search (rules, tests))
