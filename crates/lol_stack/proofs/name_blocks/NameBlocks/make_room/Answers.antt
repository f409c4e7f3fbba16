use Rattle.std.proofs.Common.{rules, ◌≡◌, ◌<◌, ◌≤◌, ◌+◌, ◌∙◌, sym, ap, subst, List, map, length, take, drop, arith, [], Some, unwrap_or}
use Rattle.std.specs.Prelude.{slice_get, slice_set, slice_index_or}
use Rattle.std.specs.List.{insert}
use Rattle.lol_base.specs.LocalNames.{Name}
use Rattle.lol_stack.specs.NameBlocks.{AreBlocks, AreAscending, joined_blocks, block_at}
use Rattle.lol_stack.proofs.NameChanges.{map-set, map-insert, block_there, same_block, joined-halved, filled-halved, lower-place, upper-place, place_in}
use Rattle.lol_stack.proofs.name_blocks.NameBlocks.make_room.Given as given
use Rattle.lol_stack.proofs.name_blocks.NameBlocks.make_room.Goals as goal
use Rattle.lol_stack.proofs.name_blocks.NameBlocks.make_room.Goals.{After-insert}

-- the blocks, of which the one of the place was full and is halved
module _ (g : given.Over) (c : After-insert g) where
  abbrev blocks : List (List (Name × g.row.V.Denot))
  blocks = map (λ b. b.items) c.self.inside.blocks.items

  abbrev block : List (Name × g.row.V.Denot)
  block = c.index_mut.result.now.items

  abbrev halved : List (List (Name × g.row.V.Denot))
  halved = insert (slice_set blocks c.args.place.block (take 32 block)) (c.args.place.block + 1) (drop 32 block)

  inside : c.args.place.block < length blocks
  inside = subst (λ blocks. c.args.place.block < length blocks) (sym c.self.view_is) c.requires.inside

  at : slice_get blocks c.args.place.block ≡ Some block
  at =
      block_there (λ b. b.items) c.self.inside.blocks.items c.args.place.block c.index_mut.result.now inside
      (subst (λ xs. c.index_mut.result.now ≡ slice_index_or xs c.args.place.block c.index_mut.result.now) c.reserve.ensures.items c.index_mut.ensures.value)

  more : 32 < length block
  more =
      let first = block_there (λ b. b.items) c.self.inside.blocks.items c.args.place.block c.index.result.now inside c.index.ensures in
      let full : 64 ≤ length c.index.result.now.items = grind (arith, rules) in
      omega (arith, full, ap length (same_block _ c.index.result.now.items block first at))

  is : c.insert.new.self.items ≡ insert (slice_set c.reserve.new.self.items c.args.place.block c.split_off.new.self) (c.args.place.block + 1) c.in_ok-upper.upper
      → map (λ b. b.items) c.insert.new.self.items ≡ halved
  is items =
      let place = c.args.place in
      ap (map (λ b. b.items)) items
      ∙ (map-insert (λ b. b.items) (slice_set c.reserve.new.self.items place.block c.split_off.new.self) (place.block + 1) c.in_ok-upper.upper
      ∙ (λ i. insert ((map-set (λ b. b.items) c.reserve.new.self.items place.block c.split_off.new.self
      ∙ (λ j. slice_set (map (λ b. b.items) (c.reserve.ensures.items j)) place.block (c.in_ok-upper.ensures.items j))) i) (place.block + 1) (c.in_ok-upper.ensures.tail i)))

  joined : joined_blocks halved ≡ joined_blocks blocks
  joined = joined-halved blocks c.args.place.block 32 block at

  are : AreBlocks halved
  are = record {
    ascending = subst AreAscending (sym joined) c.self.invariant.ascending;
    filled = filled-halved blocks c.args.place.block 32 block at (omega arith) more c.self.invariant.filled;
  }

pub invariant_of-self-then-place : goal.invariant_of-self-then-place
invariant_of-self-then-place g c =
    let a = (goal.at.invariant_of-self-then-place g c).After-insert in
    subst AreBlocks (sym (is g a c.in_ok-insert.ensures.items)) (are g a)

pub returns-then-place-clause-joined : goal.returns-then-place-clause-joined
returns-then-place-clause-joined g c =
    let a = (goal.at.returns-then-place-clause-joined g c).After-insert in
    ap joined_blocks (is g a c.in_ok-insert.ensures.items) ∙ (joined g a ∙ ap joined_blocks c.self.view_is)

pub returns-then-place-clause-ok : goal.returns-then-place-clause-ok
returns-then-place-clause-ok g c =
    let a = (goal.at.returns-then-place-clause-ok g c).After-insert in
    let within : c.args.place.at ≤ 32 = grind (arith, rules) in
    place_in _ _ _ _ c.args.place c.args.place c.self.view_is (is g a c.in_ok-insert.ensures.items)
    (lower-place (blocks g a) c.args.place 32 (block g a) (at g a) (omega (arith, more g a)) within)

pub invariant_of-self-2 : goal.invariant_of-self-2
invariant_of-self-2 g c =
    let a = (goal.at.invariant_of-self-2 g c).After-insert in
    subst AreBlocks (sym (is g a c.in_ok-insert.ensures.items)) (are g a)

pub returns-clause-joined : goal.returns-clause-joined
returns-clause-joined g c =
    let a = (goal.at.returns-clause-joined g c).After-insert in
    ap joined_blocks (is g a c.in_ok-insert.ensures.items) ∙ (joined g a ∙ ap joined_blocks c.self.view_is)

pub returns-clause-ok : goal.returns-clause-ok
returns-clause-ok g c =
    let a = (goal.at.returns-clause-ok g c).After-insert in
    let place = c.args.place in
    let above : 32 ≤ place.at = grind (arith, rules) in
    let within = subst (λ es. place.at ≤ length es) (ap (λ o. unwrap_or o []) (at g a)) (subst (λ blocks. place.at ≤ length (block_at blocks place.block)) (sym c.self.view_is) c.requires.within) in
    place_in _ _ _ _ place _ c.self.view_is (is g a c.in_ok-insert.ensures.items)
    (upper-place (blocks g a) place 32 (block g a) (at g a) (omega (arith, more g a)) above within)
