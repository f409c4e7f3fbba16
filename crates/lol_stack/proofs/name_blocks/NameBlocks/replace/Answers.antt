use Rattle.std.proofs.Common.{◌≡◌, ◌<◌, ◌∙◌, sym, ap, subst, Some, map, length, cond}
use Rattle.std.specs.Prelude.{slice_get}
use Rattle.std.specs.Vec.{with_item}
use Rattle.lol_base.specs.LocalNames.{Name, same_local_name, local_name_cmp}
use Rattle.std.specs.declared.cmp.Ordering.TheVariants.{Equal}
use Rattle.lol_stack.specs.NameBlocks.{AreBlocks, StandsInBlocks, block_at, value_in_blocks}
use Rattle.lol_stack.proofs.NameBlockLemmas.{read_at, value-stands}
use Rattle.lol_stack.proofs.NameChanges.{map-set, there, entry_there, blocks-set, stands-set, value-set}
use Rattle.lol_stack.proofs.name_blocks.NameBlocks.replace.Goals as goal

pub invariant_of-self : goal.invariant_of-self
invariant_of-self g c =
    let bs = c.self.inside.blocks.items in
    let place = c.args.place in
    let block = c.index_mut-block.result.now in
    let e = c.index_mut.result.now in
    let within = subst (λ blocks. place.at < length (block_at blocks place.block)) (sym c.self.view_is) c.requires in
    let at = there (λ b. b.items) bs place block within c.index_mut-block.ensures.value in
    let found = entry_there (λ b. b.items) bs place block e within c.index_mut-block.ensures.value c.index_mut.ensures.value in
    subst AreBlocks (sym (map-set (λ b. b.items) bs place.block _)) (blocks-set (map (λ b. b.items) bs) place block.items e c.replace.new.dest at found c.self.invariant)

pub returns-clause-was : goal.returns-clause-was
returns-clause-was g c name s =
    let at = subst (λ blocks. slice_get (block_at blocks c.args.place.block) c.args.place.at ≡ Some s.entry) (sym c.self.view_is) s.at in
    let read = read_at (λ b. b.items) c.self.inside.blocks.items c.args.place c.index_mut-block.result.now c.index_mut.result.now s.entry at c.index_mut-block.ensures.value c.index_mut.ensures.value in
    value-stands c.args.self.now name c.args.place s ∙ ap Some (ap (λ (e : Name × g.row.V.Denot). e.1) read ∙ sym c.replace.ensures.value)

pub returns-clause-stands : goal.returns-clause-stands
returns-clause-stands g c name stands =
    let bs = c.self.inside.blocks.items in
    let place = c.args.place in
    let block = c.index_mut-block.result.now in
    let e = c.index_mut.result.now in
    let within = subst (λ blocks. place.at < length (block_at blocks place.block)) (sym c.self.view_is) c.requires in
    let at = there (λ b. b.items) bs place block within c.index_mut-block.ensures.value in
    let found = entry_there (λ b. b.items) bs place block e within c.index_mut-block.ensures.value c.index_mut.ensures.value in
    let s = subst (λ blocks. StandsInBlocks blocks name place) (sym c.self.view_is) stands in
    let read = read_at (λ b. b.items) bs place block e s.entry s.at c.index_mut-block.ensures.value c.index_mut.ensures.value in
    subst (λ blocks. StandsInBlocks blocks name place) (sym (map-set (λ b. b.items) bs place.block _))
    (stands-set (map (λ b. b.items) bs) place block.items e c.replace.new.dest name at found s read)

pub returns-clause-is : goal.returns-clause-is
returns-clause-is g c name stands =
    let bs = c.self.inside.blocks.items in
    let place = c.args.place in
    let block = c.index_mut-block.result.now in
    let e = c.index_mut.result.now in
    let within = subst (λ blocks. place.at < length (block_at blocks place.block)) (sym c.self.view_is) c.requires in
    let at = there (λ b. b.items) bs place block within c.index_mut-block.ensures.value in
    let found = entry_there (λ b. b.items) bs place block e within c.index_mut-block.ensures.value c.index_mut.ensures.value in
    let s = subst (λ blocks. StandsInBlocks blocks name place) (sym c.self.view_is) stands in
    let read = read_at (λ b. b.items) bs place block e s.entry s.at c.index_mut-block.ensures.value c.index_mut.ensures.value in
    let same : local_name_cmp e.0 name ≡ Equal = ap (λ (x : Name × g.row.V.Denot). local_name_cmp x.0 name) (sym read) ∙ s.same in
    (λ q.
    ap (λ blocks. value_in_blocks blocks q) (map-set (λ b. b.items) bs place.block (with_item block place.at (e.0, c.replace.new.dest)))
    ∙ (value-set (map (λ b. b.items) bs) place block.items e c.replace.new.dest name at found c.self.invariant same q
    ∙ (λ i. cond (same_local_name name q) (Some (c.replace.ensures.after i)) (value_in_blocks (c.self.view_is i) q))))
