use Rattle.std.proofs.Common.{◌≡◌, ◌∙◌, sym, ap, subst, Some}
use Rattle.std.specs.Prelude.{slice_get, slice_index_or}
use Rattle.lol_base.specs.LocalNames.{Name}
use Rattle.lol_stack.specs.NameBlocks.{block_at}
use Rattle.lol_stack.proofs.NameBlockLemmas.{value-stands, read_at}
use Rattle.lol_stack.proofs.name_blocks.NameBlocks.value_at.Goals as goal

pub returns : goal.returns
returns g c name s =
    let place = c.args.place in
    let bs = c.self.inside.blocks.items in
    let block = c.in_ok-get.field-0.now in
    let found = c.in_ok-value.field-0.now in
    let at = subst (λ blocks. slice_get (block_at blocks place.block) place.at ≡ Some s.entry) (sym c.self.view_is) s.at in
    let block_read = subst (λ blocks. block ≡ slice_index_or blocks place.block block) c.deref.ensures.value c.in_ok-get.ensures.lookup.1 in
    let found_read = subst (λ es. found ≡ slice_index_or es place.at found) c.deref-2.ensures.value c.in_ok-value.ensures.lookup.1 in
    let read = read_at (λ b. b.items) bs place block found s.entry at block_read found_read in
    sym (value-stands c.args.self.now name place s ∙ ap (λ (e : Name × g.row.V.Denot). Some e.1) read)
