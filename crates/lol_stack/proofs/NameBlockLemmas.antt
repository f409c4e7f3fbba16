-- Blocks of names, round a place.
use Rattle.std.proofs.Common.{◌≡◌, ◌∙◌, refl, sym, ap, subst, ℕ, zero, suc, ◌-◌, ◌<◌, ◌≤◌, arith, Bool, true, false, cond, List, [], ◌∷◌, ◌++◌, length, take, drop, map, Option, Some, None, unwrap_or}
use Rattle.std.specs.Prelude.{slice_get, slice_set, slice_index_or}
use Rattle.std.proofs.lemmas.Option.{get_or_from_slice_get, slice_get-map, slice_get_within}
use Rattle.std.specs.Option.{option_map}
use Rattle.std.proofs.lemmas.List.{length-map}
use Rattle.std.specs.Map.{lookup}
use Rattle.std.specs.declared.cmp.Ordering.TheVariants.{Less, Equal, Greater}
use Rattle.std.specs.Ordering.{is_lt}
use Rattle.lol_base.specs.LocalNames.{Name, same_local_name, local_name_cmp}
use Rattle.lol_base.specs.PlaceLaws.{within_at}
use Rattle.lol_stack.specs.NameBlocks.{joined_blocks, block_at, AllFilled, value_in_blocks, AllBelow, AllAbove, AreAscending, AreBlocks, begins_above, is_named, before, from, StandsInBlocks, IsMissing}
use Rattle.lol_stack.specs.declared.name_blocks.BlockPlace.{BlockPlace}
use Rattle.lol_stack.proofs.NameOrder.{all_above-append, all_above-back, all_above-below, all_above-same, all_below-append, all_below-above, all_below-same, ascending-back, ascending-front, ascending-below, ascending-above, found-missing, found-back, tested-same, same-flip, same-tested, above-other, above-flip}

-- 1. Lists of lists

module _ {A : Type 0} where
  pub append-assoc : (xs ys zs : List A) → (xs ++ ys) ++ zs ≡ xs ++ (ys ++ zs)
  append-assoc [] ys zs = refl
  append-assoc (x ∷ xs) ys zs = ap (λ rest. x ∷ rest) (append-assoc xs ys zs)

  pub joined-append : (xs ys : List (List A)) → joined_blocks (xs ++ ys) ≡ joined_blocks xs ++ joined_blocks ys
  joined-append [] ys = refl
  joined-append (x ∷ xs) ys = ap (λ rest. x ++ rest) (joined-append xs ys) ∙ sym (append-assoc x (joined_blocks xs) (joined_blocks ys))

  pub split-at : (xs : List A) (k : ℕ) (x : A) → slice_get xs k ≡ Some x → xs ≡ take k xs ++ x ∷ drop 1 (drop k xs)
  split-at [] k x at = cc
  split-at (y ∷ ys) zero x at = cc
  split-at (y ∷ ys) (suc k) x at = ap (λ rest. y ∷ rest) (split-at ys k x at)

  pub drop-at : (xs : List A) (k : ℕ) (x : A) → slice_get xs k ≡ Some x → drop k xs ≡ x ∷ drop 1 (drop k xs)
  drop-at [] k x at = cc
  drop-at (y ∷ ys) zero x at = cc
  drop-at (y ∷ ys) (suc k) x at = drop-at ys k x at

  pub take-more : (xs : List A) (k : ℕ) (x : A) → slice_get xs k ≡ Some x → take (suc k) xs ≡ take k xs ++ x ∷ []
  take-more [] k x at = cc
  take-more (y ∷ ys) zero x at = cc
  take-more (y ∷ ys) (suc k) x at = ap (λ rest. y ∷ rest) (take-more ys k x at)

  pub drop-one : (k : ℕ) (xs : List A) → drop 1 (drop k xs) ≡ drop (suc k) xs
  drop-one zero [] = refl
  drop-one (suc k) [] = refl
  drop-one zero (x ∷ xs) = refl
  drop-one (suc k) (x ∷ xs) = drop-one k xs

  pub drop-end : (xs : List A) (k : ℕ) → length xs ≤ k → drop k xs ≡ []
  drop-end [] zero h = refl
  drop-end [] (suc k) h = refl
  drop-end (x ∷ xs) zero h = absurd (omega (arith, h))
  drop-end (x ∷ xs) (suc k) h = drop-end xs k (omega (arith, h))

  pub take-drop : (xs : List A) (k : ℕ) → take k xs ++ drop k xs ≡ xs
  take-drop [] zero = refl
  take-drop [] (suc k) = refl
  take-drop (x ∷ xs) zero = refl
  take-drop (x ∷ xs) (suc k) = ap (λ rest. x ∷ rest) (take-drop xs k)

  -- all blocks are those before one, that one and those after it
  pub joined-at : (blocks : List (List A)) (b : ℕ) → joined_blocks blocks ≡ joined_blocks (take b blocks) ++ (block_at blocks b ++ joined_blocks (drop 1 (drop b blocks)))
  joined-at [] zero = refl
  joined-at [] (suc b) = refl
  joined-at (block ∷ blocks) zero = refl
  joined-at (block ∷ blocks) (suc b) =
      ap (λ rest. block ++ rest) (joined-at blocks b)
      ∙ sym (append-assoc block (joined_blocks (take b blocks)) (block_at blocks b ++ joined_blocks (drop 1 (drop b blocks))))

  -- and with another in its place
  pub joined-set : (blocks : List (List A)) (b : ℕ) (block : List A) → b < length blocks
      → joined_blocks (slice_set blocks b block) ≡ joined_blocks (take b blocks) ++ (block ++ joined_blocks (drop 1 (drop b blocks)))
  joined-set [] b block h = absurd (omega (arith, h))
  joined-set (other ∷ blocks) zero block h = refl
  joined-set (other ∷ blocks) (suc b) block h =
      ap (λ rest. other ++ rest) (joined-set blocks b block (omega (arith, h)))
      ∙ sym (append-assoc other (joined_blocks (take b blocks)) (block ++ joined_blocks (drop 1 (drop b blocks))))

  pub filled-set : (blocks : List (List A)) (b : ℕ) (block : List A) → 0 < length block → AllFilled blocks → AllFilled (slice_set blocks b block)
  filled-set [] b block some h = h
  filled-set (other ∷ blocks) zero block some h = (some, h.1)
  filled-set (other ∷ blocks) (suc b) block some h = (h.0, filled-set blocks b block some h.1)

  pub filled-at : (blocks : List (List A)) (b : ℕ) (block : List A) → slice_get blocks b ≡ Some block → AllFilled blocks → 0 < length block
  filled-at [] b block at h = cc
  filled-at (other ∷ blocks) zero block at h = let is : other ≡ block = cc in subst (λ xs. 0 < length xs) is h.0
  filled-at (other ∷ blocks) (suc b) block at h = filled-at blocks b block at h.1

-- 2. Round a place

is_less : (a b : Name) → is_lt (local_name_cmp a b) ≡ true → local_name_cmp a b ≡ Less
is_less a b h =
    elim (local_name_cmp a b) as (λ o. is_lt o ≡ true → o ≡ Less) [ Less ↦ λ e. refl | Equal ↦ λ e. cc | Greater ↦ λ e. cc ] h

module _ {V : Type 0} where
  pub round-missing : (blocks : List (List (Name × V))) (place : BlockPlace) → joined_blocks blocks ≡ before blocks place ++ from blocks place 0
  round-missing blocks place =
      let block = block_at blocks place.block in
      let later = joined_blocks (drop 1 (drop place.block blocks)) in
      joined-at blocks place.block
      ∙ (ap (λ xs. joined_blocks (take place.block blocks) ++ (xs ++ later)) (sym (take-drop block place.at))
      ∙ (ap (λ xs. joined_blocks (take place.block blocks) ++ xs) (append-assoc (take place.at block) (drop place.at block) later)
      ∙ sym (append-assoc (joined_blocks (take place.block blocks)) (take place.at block) (drop place.at block ++ later))))

  pub round-entry : (blocks : List (List (Name × V))) (place : BlockPlace) (e : Name × V) → slice_get (block_at blocks place.block) place.at ≡ Some e
      → joined_blocks blocks ≡ before blocks place ++ e ∷ from blocks place 1
  round-entry blocks place e at =
      round-missing blocks place
      ∙ ap (λ xs. before blocks place ++ (xs ++ joined_blocks (drop 1 (drop place.block blocks)))) (drop-at (block_at blocks place.block) place.at e at)

  -- 3. What a search finds

  not_above : (a b : Name) → is_lt (local_name_cmp a b) ≡ false → (es : List (Name × V)) → AllBelow b es → AllBelow a es
  not_above a b h es below =
      elim (local_name_cmp a b) as (λ o. local_name_cmp a b ≡ o → is_lt o ≡ false → AllBelow a es) [
        | Less ↦ λ is e. cc
        | Equal ↦ λ is e. all_below-same b a (same-flip a b is) es below
        | Greater ↦ λ is e. all_below-above b a (above-flip a b is) es below
      ] refl h

  -- where a block doesn't begin above a name, the blocks before it are below
  pub blocks_below : (name : Name) (blocks : List (List (Name × V))) (b : ℕ) (block : List (Name × V)) → AreBlocks blocks → slice_get blocks b ≡ Some block
      → begins_above name block ≡ false → AllBelow name (joined_blocks (take b blocks))
  blocks_below name blocks b [] are at begins = absurd (omega (arith, filled-at blocks b [] at are.filled))
  blocks_below name blocks b (e ∷ es) are at begins =
      let whole : joined_blocks blocks ≡ joined_blocks (take b blocks) ++ e ∷ (es ++ joined_blocks (drop 1 (drop b blocks))) =
      joined-at blocks b ∙ ap (λ found. joined_blocks (take b blocks) ++ (unwrap_or found [] ++ joined_blocks (drop 1 (drop b blocks)))) at in
      not_above name e.0 begins (joined_blocks (take b blocks))
      (ascending-below (joined_blocks (take b blocks)) e (es ++ joined_blocks (drop 1 (drop b blocks))) (subst AreAscending whole are.ascending))

  -- and where one begins above it, it and those after it are above
  pub blocks_above : (name : Name) (blocks : List (List (Name × V))) (p : ℕ) → AreAscending (joined_blocks blocks) → AllFilled blocks
      → ((block : List (Name × V)) → slice_get blocks p ≡ Some block → begins_above name block ≡ true) → AllAbove name (joined_blocks (drop p blocks))
  blocks_above name [] zero ascending filled begins = tt
  blocks_above name [] (suc p) ascending filled begins = tt
  blocks_above name ([] ∷ blocks) zero ascending filled begins = absurd (omega (arith, filled.0))
  blocks_above name ((e ∷ es) ∷ blocks) zero ascending filled begins =
      let less = is_less name e.0 (begins (e ∷ es) refl) in
      (less, all_above-below name e.0 less (es ++ joined_blocks blocks) ascending.0)
  blocks_above name (block ∷ blocks) (suc p) ascending filled begins =
      blocks_above name blocks p (ascending-back block (joined_blocks blocks) ascending) filled.1 begins

  pub block-ascending : (blocks : List (List (Name × V))) (b : ℕ) (block : List (Name × V)) → slice_get blocks b ≡ Some block → AreAscending (joined_blocks blocks) → AreAscending block
  block-ascending blocks b block at h =
      let whole : joined_blocks blocks ≡ joined_blocks (take b blocks) ++ (block ++ joined_blocks (drop 1 (drop b blocks))) =
      joined-at blocks b ∙ ap (λ found. joined_blocks (take b blocks) ++ (unwrap_or found [] ++ joined_blocks (drop 1 (drop b blocks)))) at in
      ascending-front block (joined_blocks (drop 1 (drop b blocks))) (ascending-back (joined_blocks (take b blocks)) (block ++ joined_blocks (drop 1 (drop b blocks))) (subst AreAscending whole h))

  -- the names of a block up to one that is below
  pub names_below : (name : Name) (es : List (Name × V)) (at : ℕ) → AreAscending es → at ≤ length es
      → ((d : Name × V) → 0 < at → local_name_cmp (slice_index_or es (at - 1) d).0 name ≡ Less) → AllBelow name (take at es)
  names_below name es zero ascending within below = tt
  names_below name es (suc k) ascending within below =
      let found = within_at es k (omega (arith, within)) in
      let less : local_name_cmp found.0.0 name ≡ Less =
      subst (λ e. local_name_cmp e.0 name ≡ Less) (ap (λ n. slice_index_or es n found.0) (omega arith) ∙ get_or_from_slice_get es k found.0 found.0 found.1) (below found.0 (omega arith)) in
      subst (AllBelow name) (sym (take-more es k found.0 found.1))
      (all_below-append name (take k es) (found.0 ∷ [])
      (all_below-above found.0.0 name less (take k es)
      (ascending-below (take k es) found.0 (drop 1 (drop k es)) (subst AreAscending (split-at es k found.0 found.1) ascending)))
      (less, tt))

  pub named_entry : (name : Name) (found : Option (Name × V)) → is_named found name ≡ true → (e : Name × V) × (found ≡ Some e) × (local_name_cmp e.0 name ≡ Equal)
  named_entry name None h = cc
  named_entry name (Some e) h = (e, refl, same-tested e.0 name h)

  -- those after one that is the same
  pub names_above : (name : Name) (es : List (Name × V)) (at : ℕ) (e : Name × V) → AreAscending es → slice_get es at ≡ Some e → local_name_cmp e.0 name ≡ Equal
      → AllAbove name (drop 1 (drop at es))
  names_above name es at e ascending found same =
      all_above-same name e.0 (same-flip e.0 name same) (drop 1 (drop at es))
      (ascending-above (take at es) e (drop 1 (drop at es)) (subst AreAscending (split-at es at e found) ascending))

  -- and those from one that is neither the same nor below
  pub others_above : (name : Name) (es : List (Name × V)) (at : ℕ) → AreAscending es
      → ((d : Name × V) → at < length es → is_lt (local_name_cmp (slice_index_or es at d).0 name) ≡ false) → is_named (slice_get es at) name ≡ false
      → AllAbove name (drop at es)
  others_above name [] zero ascending above other = tt
  others_above name [] (suc at) ascending above other = tt
  others_above name (e ∷ es) zero ascending above other =
      let less = above-other e.0 name (above e (omega arith)) other in
      (less, all_above-below name e.0 less es ascending.0)
  others_above name (e ∷ es) (suc at) ascending above other =
      others_above name es at ascending.1 (λ d h. above d (omega (arith, h))) other

  pub block_is : {B : Type 0} (items : B → List (Name × V)) (bs : List B) (b : ℕ) (block : B) → slice_get bs b ≡ Some block → slice_get (map items bs) b ≡ Some (items block)
  block_is items bs b block at = slice_get-map items bs b ∙ ap (option_map items) at

  from_first : (name : Name) (blocks : List (List (Name × V))) → AllAbove name (joined_blocks (drop 0 blocks)) → AllAbove name (joined_blocks (drop 1 (drop 0 blocks)))
  from_first name [] above = tt
  from_first name (block ∷ blocks) above = all_above-back name block (joined_blocks blocks) above

  -- The blocks before the one in which a name is sought are below it, and those after it above.
  pub sought : {B : Type 0} (items : B → List (Name × V)) (name : Name) (bs : List B) (p b : ℕ) (block : B) → AreBlocks (map items bs) → b ≡ p - 1
      → ((d : B) → 0 < p → begins_above name (items (slice_index_or bs (p - 1) d)) ≡ false)
      → ((d : B) → p < length bs → begins_above name (items (slice_index_or bs p d)) ≡ true)
      → slice_get bs b ≡ Some block
      → AllBelow name (joined_blocks (take b (map items bs))) × AllAbove name (joined_blocks (drop 1 (drop b (map items bs))))
  sought {B = B} items name bs p b block are is not_above above at =
      let later : AllAbove name (joined_blocks (drop p (map items bs))) =
      blocks_above name (map items bs) p are.ascending are.filled (λ c found. above_at c found)
      in
      parts p is not_above later
    where
      above_at : (c : List (Name × V)) → slice_get (map items bs) p ≡ Some c → begins_above name c ≡ true
      above_at c found =
          let within : p < length bs = omega (arith, slice_get_within (map items bs) p c found, length-map bs items) in
          let x = within_at bs p within in
          let same : items x.0 ≡ c = (let is : Some (items x.0) ≡ Some c = sym (block_is items bs p x.0 x.1) ∙ found in cc) in
          subst (λ es. begins_above name es ≡ true) same
          (subst (λ y. begins_above name (items y) ≡ true) (get_or_from_slice_get bs p x.0 x.0 x.1) (above x.0 within))

      parts : (p : ℕ) → b ≡ p - 1 → ((d : B) → 0 < p → begins_above name (items (slice_index_or bs (p - 1) d)) ≡ false)
          → AllAbove name (joined_blocks (drop p (map items bs)))
          → AllBelow name (joined_blocks (take b (map items bs))) × AllAbove name (joined_blocks (drop 1 (drop b (map items bs))))
      parts zero is before later =
          let none : b ≡ 0 = omega (arith, is) in
          subst (λ k. AllBelow name (joined_blocks (take k (map items bs))) × AllAbove name (joined_blocks (drop 1 (drop k (map items bs))))) (sym none)
          (tt, from_first name (map items bs) later)
      parts (suc k) is before later =
          let one : b ≡ k = omega (arith, is) in
          let begins : begins_above name (items block) ≡ false =
          subst (λ y. begins_above name (items y) ≡ false)
          (ap (λ n. slice_index_or bs n block) (sym is) ∙ get_or_from_slice_get bs b block block at) (before block (omega arith)) in (
            blocks_below name (map items bs) b (items block) are (block_is items bs b block at) begins,
            subst (λ rest. AllAbove name (joined_blocks rest)) (ap (λ n. drop (suc n) (map items bs)) (sym one) ∙ sym (drop-one b (map items bs))) later,
          )

  pub stands_at : (name : Name) (blocks : List (List (Name × V))) (place : BlockPlace) (block : List (Name × V)) → AreBlocks blocks
      → slice_get blocks place.block ≡ Some block
      → AllBelow name (joined_blocks (take place.block blocks)) × AllAbove name (joined_blocks (drop 1 (drop place.block blocks)))
      → place.at ≤ length block → ((d : Name × V) → 0 < place.at → local_name_cmp (slice_index_or block (place.at - 1) d).0 name ≡ Less)
      → is_named (slice_get block place.at) name ≡ true → StandsInBlocks blocks name place
  stands_at name blocks place block are at round within below named =
      let e = named_entry name (slice_get block place.at) named in
      let whole : block_at blocks place.block ≡ block = ap (λ found. unwrap_or found []) at in
      let ascending = block-ascending blocks place.block block at are.ascending in
      record {
        entry = e.0;
        at = ap (λ es. slice_get es place.at) whole ∙ e.1;
        same = e.2;
        below =
            subst (λ es. AllBelow name (joined_blocks (take place.block blocks) ++ take place.at es)) (sym whole)
            (all_below-append name (joined_blocks (take place.block blocks)) (take place.at block) round.0 (names_below name block place.at ascending within below));
        above =
            subst (λ es. AllAbove name (drop 1 (drop place.at es) ++ joined_blocks (drop 1 (drop place.block blocks)))) (sym whole)
            (all_above-append name (drop 1 (drop place.at block)) (joined_blocks (drop 1 (drop place.block blocks))) (names_above name block place.at e.0 ascending e.1 e.2) round.1);
      }

  pub missing_at : (name : Name) (blocks : List (List (Name × V))) (place : BlockPlace) (block : List (Name × V)) → AreBlocks blocks
      → slice_get blocks place.block ≡ Some block
      → AllBelow name (joined_blocks (take place.block blocks)) × AllAbove name (joined_blocks (drop 1 (drop place.block blocks)))
      → place.at ≤ length block → ((d : Name × V) → 0 < place.at → local_name_cmp (slice_index_or block (place.at - 1) d).0 name ≡ Less)
      → ((d : Name × V) → place.at < length block → is_lt (local_name_cmp (slice_index_or block place.at d).0 name) ≡ false)
      → is_named (slice_get block place.at) name ≡ false → IsMissing blocks name place
  missing_at name blocks place block are at round within below above other =
      let whole : block_at blocks place.block ≡ block = ap (λ found. unwrap_or found []) at in
      let ascending = block-ascending blocks place.block block at are.ascending in
      record {
        inside = λ some. slice_get_within blocks place.block block at;
        within = subst (λ es. place.at ≤ length es) (sym whole) within;
        below =
            subst (λ es. AllBelow name (joined_blocks (take place.block blocks) ++ take place.at es)) (sym whole)
            (all_below-append name (joined_blocks (take place.block blocks)) (take place.at block) round.0 (names_below name block place.at ascending within below));
        above =
            subst (λ es. AllAbove name (drop place.at es ++ joined_blocks (drop 1 (drop place.block blocks)))) (sym whole)
            (all_above-append name (drop place.at block) (joined_blocks (drop 1 (drop place.block blocks))) (others_above name block place.at ascending above other) round.1);
      }

  -- the entry of a place, read by its two indices
  pub read_at : {B : Type 0} (items : B → List (Name × V)) (bs : List B) (place : BlockPlace) (block : B) (e : Name × V) (found : Name × V)
      → slice_get (block_at (map items bs) place.block) place.at ≡ Some found
      → block ≡ slice_index_or bs place.block block → e ≡ slice_index_or (items block) place.at e → found ≡ e
  read_at {B = B} items bs place block e found at block_read read =
      let there = block_there (slice_get bs place.block) refl in
      let same : there.0 ≡ block = sym (get_or_from_slice_get bs place.block there.0 block there.1) ∙ sym block_read in
      let whole : block_at (map items bs) place.block ≡ items block =
      ap (λ o. unwrap_or o []) (block_is items bs place.block there.0 there.1) ∙ ap items same in
      sym (get_or_from_slice_get (items block) place.at found e (ap (λ es. slice_get es place.at) (sym whole) ∙ at)) ∙ sym read
    where
      block_there : (o : Option B) → slice_get bs place.block ≡ o → (x : B) × (slice_get bs place.block ≡ Some x)
      block_there None is =
          let none : block_at (map items bs) place.block ≡ [] = ap (λ o. unwrap_or o []) (slice_get-map items bs place.block ∙ ap (option_map items) is) in
          cc (ap (λ es. slice_get es place.at) (sym none) ∙ at)
      block_there (Some x) is = (x, is)

  -- 4. What names find

  pub value-stands : (blocks : List (List (Name × V))) (name : Name) (place : BlockPlace) (s : StandsInBlocks blocks name place) → value_in_blocks blocks name ≡ Some s.entry.1
  value-stands blocks name place s =
      ap (lookup (same_local_name name)) (round-entry blocks place s.entry s.at)
      ∙ (found-back name (before blocks place) (s.entry ∷ from blocks place 1) s.below
      ∙ ap (λ same. cond same (Some s.entry.1) (lookup (same_local_name name) (from blocks place 1))) (tested-same name s.entry.0 (same-flip s.entry.0 name s.same)))

  pub value-missing : (blocks : List (List (Name × V))) (name : Name) (place : BlockPlace) → IsMissing blocks name place → value_in_blocks blocks name ≡ None
  value-missing blocks name place m =
      ap (lookup (same_local_name name)) (round-missing blocks place) ∙ found-missing name (before blocks place) (from blocks place 0) m.below m.above

  -- a single block is the one in which a name is sought
  pub single_block : {B : Type 0} (items : B → List (Name × V)) (name : Name) (bs : List B) → length bs ≤ 1
      → (p : ℕ) × (0 ≡ p - 1) × ((d : B) → 0 < p → begins_above name (items (slice_index_or bs (p - 1) d)) ≡ false)
      × ((d : B) → p < length bs → begins_above name (items (slice_index_or bs p d)) ≡ true)
  single_block items name [] few = (0, refl, λ d h. absurd (omega (arith, h)), λ d h. absurd (omega (arith, h)))
  single_block {B = B} items name (b ∷ []) few = by_case (begins_above name (items b)) refl
    where
      by_case : (above : Bool) → begins_above name (items b) ≡ above
          → (p : ℕ) × (0 ≡ p - 1) × ((d : B) → 0 < p → begins_above name (items (slice_index_or (b ∷ []) (p - 1) d)) ≡ false)
          × ((d : B) → p < 1 → begins_above name (items (slice_index_or (b ∷ []) p d)) ≡ true)
      by_case true above = (0, refl, λ d h. absurd (omega (arith, h)), λ d h. above)
      by_case false above = (1, refl, λ d h. above, λ d h. absurd (omega (arith, h)))
  single_block items name (a ∷ b ∷ bs) few = absurd (omega (arith, few))
