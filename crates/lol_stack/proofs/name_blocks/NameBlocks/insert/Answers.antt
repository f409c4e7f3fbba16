use Rattle.std.proofs.Common.{rules, ◌≡◌, ◌<◌, ◌≤◌, ◌++◌, ◌∙◌, sym, ap, subst, List, map, length, arith, [], ◌∷◌, Some, unwrap_or}
use Rattle.std.specs.Prelude.{slice_get, slice_set}
use Rattle.std.proofs.lemmas.List.{length-map}
use Rattle.lol_base.specs.LocalNames.{Name}
use Rattle.lol_stack.specs.NameBlocks.{AreBlocks, AreAscending, AllFilled, AllBelow, AllAbove, before, from, joined_blocks, block_at}
use Rattle.lol_stack.proofs.NameBlockLemmas.{round-missing, filled-set}
use Rattle.lol_stack.proofs.Refusals.{on_err}
use Rattle.lol_stack.proofs.NameChanges.{map-set, set-same, block_there, joined-with, blocks-with, value-with, length-insert, length-zero}
use Rattle.lol_stack.proofs.name_blocks.NameBlocks.insert.Given as given
use Rattle.lol_stack.proofs.name_blocks.NameBlocks.insert.Goals as goal
use Rattle.lol_stack.proofs.name_blocks.NameBlocks.insert.Goals.{After-index_mut, After-from_residual-in_err-insert, In_ok-insert}

pub returns-then-is_empty-clause-ok : goal.returns-then-is_empty-clause-ok
returns-then-is_empty-clause-ok g c =
    let zero : length c.self.inside.blocks.items ≡ 0 = search rules in
    let none = length-zero c.self.inside.blocks.items zero in
    let first : c.push.new.self.items ≡ (c.args.name, c.args.value) ∷ [] = search rules in
    let blocks : c.push-then-is_empty.new.self.items ≡ c.push.new.self ∷ [] = search rules in
    value-with c.args.self.now (map (λ b. b.items) c.push-then-is_empty.new.self.items) c.args.name c.args.value [] [] tt tt (ap joined_blocks (sym c.self.view_is) ∙ ap (λ bs. joined_blocks (map (λ b. b.items) bs)) none)
    (ap (λ bs. joined_blocks (map (λ b. b.items) bs)) blocks ∙ ap (λ es. joined_blocks (es ∷ [])) first)

pub make_room-requires-clause-inside : goal.make_room-requires-clause-inside
make_room-requires-clause-inside g c =
    let some : 0 < length c.self.inside.blocks.items = search rules in
    c.requires.inside (omega (arith, some, ap length c.self.view_is, length-map c.self.inside.blocks.items (λ b. b.items)))

-- the blocks with room, and the one of the place
module _ (g : given.Over) (c : After-index_mut g) where
  abbrev blocks : List (List (Name × g.row.V.Denot))
  blocks = map (λ b. b.items) c.self-2.inside.blocks.items

  abbrev block : List (Name × g.row.V.Denot)
  block = c.index_mut.result.now.items

  at : slice_get blocks c.in_ok-place.place.block ≡ Some block
  at =
      block_there (λ b. b.items) c.self-2.inside.blocks.items c.in_ok-place.place.block c.index_mut.result.now
      (subst (λ blocks. c.in_ok-place.place.block < length blocks) (sym c.self-2.view_is) c.in_ok-place.ensures.ok.block) c.index_mut.ensures.value

  within : c.in_ok-place.place.at ≤ length block
  within =
      subst (λ es. c.in_ok-place.place.at ≤ length es) (ap (λ o. unwrap_or o []) at)
      (subst (λ blocks. c.in_ok-place.place.at ≤ length (block_at blocks c.in_ok-place.place.block)) (sym c.self-2.view_is) c.in_ok-place.ensures.ok.within)

pub insert-requires : goal.insert-requires
insert-requires g c = let fits = within g c in grind (arith, rules)

-- the blocks after a refusal
same : (g : given.Over) (c : After-from_residual-in_err-insert g)
    → map (λ b. b.items) (slice_set c.self-2.inside.blocks.items c.in_ok-place.place.block c.insert.new.self) ≡ map (λ b. b.items) c.self-2.inside.blocks.items
same g c =
    let a = (goal.at.invariant_of-self-in_err-insert g c).After-index_mut in
    map-set (λ b. b.items) c.self-2.inside.blocks.items c.in_ok-place.place.block c.insert.new.self
    ∙ (ap (slice_set (blocks g a) c.in_ok-place.place.block) c.in_err-insert.ensures.items ∙ set-same (blocks g a) c.in_ok-place.place.block (block g a) (at g a))

pub invariant_of-self-in_err-insert : goal.invariant_of-self-in_err-insert
invariant_of-self-in_err-insert g c = subst AreBlocks (sym (same g c)) c.self-2.invariant

pub returns-in_err-insert-clause-err : goal.returns-in_err-insert-clause-err
returns-in_err-insert-clause-err g c = on_err c.from_residual-in_err-insert.result (ap joined_blocks (same g c) ∙ (ap joined_blocks c.self-2.view_is ∙ c.in_ok-place.ensures.joined))

-- the blocks with the name
module _ (g : given.Over) (c : In_ok-insert g) where
  abbrev a : After-index_mut g
  a = (goal.at.invariant_of-self-2 g c).After-index_mut

  abbrev new : List (List (Name × g.row.V.Denot))
  new = map (λ b. b.items) (slice_set c.self-2.inside.blocks.items c.in_ok-place.place.block c.insert.new.self)

  below : AllBelow c.args.name (before (blocks g a) c.in_ok-place.place)
  below = subst (AllBelow c.args.name) (sym c.in_ok-place.ensures.ok.earlier ∙ ap (λ blocks. before blocks c.in_ok-place.place) (sym c.self-2.view_is)) c.requires.below

  above : AllAbove c.args.name (from (blocks g a) c.in_ok-place.place 0)
  above = subst (AllAbove c.args.name) (sym c.in_ok-place.ensures.ok.later ∙ ap (λ blocks. from blocks c.in_ok-place.place 0) (sym c.self-2.view_is)) c.requires.above

  with : joined_blocks new ≡ before (blocks g a) c.in_ok-place.place ++ (c.args.name, c.args.value) ∷ from (blocks g a) c.in_ok-place.place 0
  with =
      ap joined_blocks (map-set (λ b. b.items) c.self-2.inside.blocks.items c.in_ok-place.place.block c.insert.new.self
      ∙ ap (slice_set (blocks g a) c.in_ok-place.place.block) c.in_ok-insert.ensures.items)
      ∙ joined-with (blocks g a) c.in_ok-place.place (block g a) (c.args.name, c.args.value) (at g a) (within g a)

pub invariant_of-self-2 : goal.invariant_of-self-2
invariant_of-self-2 g c =
    let place = c.in_ok-place.place in
    let e : Name × g.row.V.Denot = (c.args.name, c.args.value) in
    let some : 0 < length c.insert.new.self.items = omega (arith, ap length c.in_ok-insert.ensures.items, length-insert (block g (a g c)) place.at e (within g (a g c))) in
    let filled = subst AllFilled (sym (map-set (λ b. b.items) c.self-2.inside.blocks.items place.block c.insert.new.self)) (filled-set (blocks g (a g c)) place.block c.insert.new.self.items some c.self-2.invariant.filled) in
    blocks-with _ e _ _ (subst AreAscending (round-missing (blocks g (a g c)) place) c.self-2.invariant.ascending) (below g c) (above g c) (with g c) filled

pub returns-clause-ok : goal.returns-clause-ok
returns-clause-ok g c =
    value-with c.args.self.now (new g c) c.args.name c.args.value _ _ (below g c) (above g c)
    (sym c.in_ok-place.ensures.joined ∙ (ap joined_blocks (sym c.self-2.view_is) ∙ round-missing (blocks g (a g c)) c.in_ok-place.place)) (with g c)
