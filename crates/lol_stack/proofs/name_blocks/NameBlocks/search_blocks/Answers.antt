use Rattle.std.proofs.Common.{◌≡◌, ◌<◌, ◌≤◌, ◌-◌, ◌∙◌, sym, ap, subst, refl, map, length, true, false}
use Rattle.std.specs.Prelude.{slice_get, slice_index_or}
use Rattle.std.proofs.lemmas.Option.{slice_get_read}
use Rattle.std.specs.declared.cmp.Ordering.TheVariants.{Less}
use Rattle.std.specs.Ordering.{is_lt}
use Rattle.lol_base.specs.LocalNames.{Name, local_name_cmp}
use Rattle.lol_stack.specs.declared.name_blocks.BlockPlace.{BlockPlace}
use Rattle.lol_stack.specs.NameBlocks.{AreBlocks, StandsInBlocks, IsMissing, is_named}
use Rattle.lol_stack.proofs.NameBlockLemmas.{sought, block_is, stands_at, missing_at, value-missing}
use Rattle.lol_stack.proofs.name_blocks.NameBlocks.search_blocks.Goals as goal

pub returns-then-is_at : goal.returns-then-is_at
returns-then-is_at g c =
    let name = c.args.name.now in
    let bs = c.as_slice-blocks.result.now in
    let found = c.block_for-block.ensures.sought in
    let place : BlockPlace = record { block = c.block_for-block.result; at = c.names_below-at.result } in
    let shown = ap (map (λ b. b.items)) c.as_slice-blocks.ensures.value ∙ c.self.view_is in
    let are = subst AreBlocks (ap (map (λ b. b.items)) (sym c.as_slice-blocks.ensures.value)) c.self.invariant in
    let at = slice_get_read bs (length bs) place.block c.in-Some.names.now refl c.in-Some.ensures.lookup.3.0 c.in-Some.ensures.lookup.1 in
    let round = sought (λ b. b.items) name bs found.0 place.block c.in-Some.names.now are found.1 found.2 found.3 at in
    let same = c.deref.ensures.value in
    let same-2 = c.deref-2.ensures.value in
    record {
      place =
          subst (λ blocks. StandsInBlocks blocks name place) shown
          (stands_at name (map (λ b. b.items) bs) place c.in-Some.names.now.items are (block_is (λ b. b.items) bs place.block c.in-Some.names.now at) round
          (subst (λ es. place.at ≤ length es) same c.names_below-at.ensures.bound)
          (subst (λ es. (d : Name × g.row.V.Denot) → 0 < place.at → local_name_cmp (slice_index_or es (place.at - 1) d).0 name ≡ Less) same c.names_below-at.ensures.before)
          (subst (λ es. is_named (slice_get es place.at) name ≡ true) same-2 (sym c.is_at.ensures ∙ c.if-is_at.true)));
      missing = tt;
    }

pub returns-else-is_at : goal.returns-else-is_at
returns-else-is_at g c =
    let name = c.args.name.now in
    let bs = c.as_slice-blocks.result.now in
    let found = c.block_for-block.ensures.sought in
    let place : BlockPlace = record { block = c.block_for-block.result; at = c.names_below-at.result } in
    let shown = ap (map (λ b. b.items)) c.as_slice-blocks.ensures.value ∙ c.self.view_is in
    let are = subst AreBlocks (ap (map (λ b. b.items)) (sym c.as_slice-blocks.ensures.value)) c.self.invariant in
    let at = slice_get_read bs (length bs) place.block c.in-Some.names.now refl c.in-Some.ensures.lookup.3.0 c.in-Some.ensures.lookup.1 in
    let round = sought (λ b. b.items) name bs found.0 place.block c.in-Some.names.now are found.1 found.2 found.3 at in
    let same = c.deref.ensures.value in
    let same-2 = c.deref-2.ensures.value in
    let missing : IsMissing c.args.self.now name place =
    subst (λ blocks. IsMissing blocks name place) shown
    (missing_at name (map (λ b. b.items) bs) place c.in-Some.names.now.items are (block_is (λ b. b.items) bs place.block c.in-Some.names.now at) round
    (subst (λ es. place.at ≤ length es) same c.names_below-at.ensures.bound)
    (subst (λ es. (d : Name × g.row.V.Denot) → 0 < place.at → local_name_cmp (slice_index_or es (place.at - 1) d).0 name ≡ Less) same c.names_below-at.ensures.before)
    (subst (λ es. (d : Name × g.row.V.Denot) → place.at < length es → is_lt (local_name_cmp (slice_index_or es place.at d).0 name) ≡ false) same c.names_below-at.ensures.after)
    (subst (λ es. is_named (slice_get es place.at) name ≡ false) same-2 (sym c.is_at.ensures ∙ c.if-is_at.false)))
    in
    record { place = missing; missing = value-missing c.args.self.now name place missing }
