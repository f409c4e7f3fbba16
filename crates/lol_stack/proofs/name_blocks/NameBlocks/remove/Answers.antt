use Rattle.std.proofs.Common.{rules, ◌≡◌, ◌<◌, ◌∙◌, sym, ap, subst, List, None, Some, map, length, cond}
use Rattle.std.specs.Prelude.{slice_get, slice_set}
use Rattle.std.specs.List.{remove}
use Rattle.lol_base.specs.LocalNames.{Name, same_local_name, local_name_cmp}
use Rattle.std.specs.declared.cmp.Ordering.TheVariants.{Equal}
use Rattle.lol_stack.specs.NameBlocks.{StandsInBlocks, IsPutAt, block_at, value_in_blocks}
use Rattle.lol_stack.proofs.NameBlockLemmas.{read_at}
use Rattle.lol_stack.proofs.NameChanges.{IsWithout, map-set, map-remove, there, entry_there, without-one, without-block, blocks-without, value-without}
use Rattle.lol_stack.proofs.name_blocks.NameBlocks.remove.Given as given
use Rattle.lol_stack.proofs.name_blocks.NameBlocks.remove.Goals as goal
use Rattle.lol_stack.proofs.name_blocks.NameBlocks.remove.Goals.{After-drop-remove-2, After-drop-remove-then-is_empty, Else-is_empty}

-- the blocks, the one of the place, and what is taken out of it
module _ (g : given.Over) (c : After-drop-remove-2 g) where
  abbrev blocks : List (List (Name × g.row.V.Denot))
  blocks = map (λ b. b.items) c.self.inside.blocks.items

  abbrev block : List (Name × g.row.V.Denot)
  block = c.index_mut-block.result.now.items

  abbrev entry : Name × g.row.V.Denot
  entry = c.remove.result

  within : c.args.place.at < length (block_at blocks c.args.place.block)
  within = subst (λ blocks. c.args.place.at < length (block_at blocks c.args.place.block)) (sym c.self.view_is) c.requires

  at : slice_get blocks c.args.place.block ≡ Some block
  at = there (λ b. b.items) c.self.inside.blocks.items c.args.place c.index_mut-block.result.now within c.index_mut-block.ensures.value

  found : slice_get block c.args.place.at ≡ Some entry
  found = entry_there (λ b. b.items) c.self.inside.blocks.items c.args.place c.index_mut-block.result.now entry within c.index_mut-block.ensures.value c.remove.ensures.value

  set : map (λ b. b.items) (slice_set c.self.inside.blocks.items c.args.place.block c.remove.new.self) ≡ slice_set blocks c.args.place.block (remove block c.args.place.at)
  set = map-set (λ b. b.items) c.self.inside.blocks.items c.args.place.block c.remove.new.self ∙ ap (slice_set blocks c.args.place.block) c.remove.ensures.items

  taken : (new : List (List (Name × g.row.V.Denot))) → IsWithout blocks c.args.place entry new
      → (name : Name) → StandsInBlocks c.args.self.now name c.args.place → IsPutAt name None c.args.self.now new
  taken new without name stands q =
      let s = subst (λ blocks. StandsInBlocks blocks name c.args.place) (sym c.self.view_is) stands in
      let read = read_at (λ b. b.items) c.self.inside.blocks.items c.args.place c.index_mut-block.result.now entry s.entry s.at c.index_mut-block.ensures.value c.remove.ensures.value in
      let same : local_name_cmp entry.0 name ≡ Equal = ap (λ (x : Name × g.row.V.Denot). local_name_cmp x.0 name) (sym read) ∙ s.same in
      value-without blocks c.args.place entry new name without c.self.invariant same q
      ∙ (λ i. cond (same_local_name name q) None (value_in_blocks (c.self.view_is i) q))

-- the block had no other name
module _ (g : given.Over) (c : After-drop-remove-then-is_empty g) where
  abbrev emptied : After-drop-remove-2 g
  emptied = (goal.at.invariant_of-self g c).After-drop-remove-2

  block_gone : IsWithout (blocks g emptied) c.args.place (entry g emptied) (map (λ b. b.items) c.remove-then-is_empty.new.self.items)
  block_gone =
      let left : length c.remove.new.self.items ≡ 0 = search rules in
      let is =
      ap (map (λ b. b.items)) c.remove-then-is_empty.ensures.items
      ∙ (map-remove (λ b. b.items) (slice_set c.self.inside.blocks.items c.args.place.block c.remove.new.self) c.args.place.block
      ∙ ap (λ blocks. remove blocks c.args.place.block) (set g emptied)) in
      subst (IsWithout (blocks g emptied) c.args.place (entry g emptied)) (sym is)
      (without-block (blocks g emptied) c.args.place (block g emptied) (entry g emptied) (at g emptied) (found g emptied) (ap length (sym c.remove.ensures.items) ∙ left))

-- the block has others
module _ (g : given.Over) (c : Else-is_empty g) where
  abbrev lessened : After-drop-remove-2 g
  lessened = (goal.at.invariant_of-self-else-is_empty g c).After-drop-remove-2

  block_left : IsWithout (blocks g lessened) c.args.place (entry g lessened) (map (λ b. b.items) (slice_set c.self.inside.blocks.items c.args.place.block c.remove.new.self))
  block_left =
      let left : 0 < length c.remove.new.self.items = search rules in
      subst (IsWithout (blocks g lessened) c.args.place (entry g lessened)) (sym (set g lessened))
      (without-one (blocks g lessened) c.args.place (block g lessened) (entry g lessened) (at g lessened) (found g lessened) (subst (λ es. 0 < length es) c.remove.ensures.items left))

pub invariant_of-self : goal.invariant_of-self
invariant_of-self g c = blocks-without (blocks g (emptied g c)) c.args.place (entry g (emptied g c)) _ (block_gone g c) c.self.invariant

pub invariant_of-self-else-is_empty : goal.invariant_of-self-else-is_empty
invariant_of-self-else-is_empty g c = blocks-without (blocks g (lessened g c)) c.args.place (entry g (lessened g c)) _ (block_left g c) c.self.invariant

pub returns-then-is_empty : goal.returns-then-is_empty
returns-then-is_empty g c name stands q = taken g (emptied g c) _ (block_gone g c) name stands q

pub returns-else-is_empty : goal.returns-else-is_empty
returns-else-is_empty g c name stands q = taken g (lessened g c) _ (block_left g c) name stands q
