-- Blocks of names after a change at a place.
use Rattle.std.proofs.Common.{◌≡◌, ◌∙◌, refl, sym, ap, subst, ℕ, zero, suc, ◌+◌, ◌-◌, ◌<◌, ◌≤◌, arith, true, false, cond, List, [], ◌∷◌, ◌++◌, length, take, drop, map, Option, Some, None, unwrap_or}
use Rattle.std.specs.Prelude.{slice_get, slice_set, slice_index_or}
use Rattle.std.specs.List.{insert, remove}
use Rattle.std.proofs.lemmas.Option.{slice_get_read, slice_get_within}
use Rattle.std.proofs.lemmas.List.{length-set, length-drop, drop-drop, take-take, append-nil}
use Rattle.std.proofs.Math.Seq.{take-add}
use Rattle.std.proofs.Common.{length-append}
use Rattle.std.proofs.lemmas.List.{length-map}
use Rattle.std.specs.Map.{lookup}
use Rattle.std.specs.declared.cmp.Ordering.TheVariants.{Equal}
use Rattle.lol_base.specs.LocalNames.{Name, same_local_name, local_name_cmp}
use Rattle.lol_stack.specs.NameBlocks.{joined_blocks, block_at, AllFilled, AllBelow, AllAbove, AreAscending, AreBlocks, before, from, StandsInBlocks, IsPutAt, IsSamePlace}
use Rattle.lol_stack.specs.declared.name_blocks.BlockPlace.{BlockPlace}
use Rattle.lol_stack.proofs.NameOrder.{ascending-below, ascending-above, ascending-without, ascending-with, found-with, found-missing, same-alike, same-flip, same-tested, all_above-same, all_below-same}
use Rattle.lol_stack.proofs.NameBlockLemmas.{block_is, append-assoc, joined-append, split-at, take-drop, filled-set}

-- 1. A list of lists, as the ones before a place, the one there, and the ones after it

module _ {A : Type 0} where
  pub map-set : {B : Type 0} (f : B → A) (xs : List B) (k : ℕ) (x : B) → map f (slice_set xs k x) ≡ slice_set (map f xs) k (f x)
  map-set f [] k x = refl
  map-set f (y ∷ ys) zero x = refl
  map-set f (y ∷ ys) (suc k) x = ap (λ rest. f y ∷ rest) (map-set f ys k x)

  pub map-append : {B : Type 0} (f : B → A) (xs ys : List B) → map f (xs ++ ys) ≡ map f xs ++ map f ys
  map-append f [] ys = refl
  map-append f (x ∷ xs) ys = ap (λ rest. f x ∷ rest) (map-append f xs ys)

  pub map-take : {B : Type 0} (f : B → A) (k : ℕ) (xs : List B) → map f (take k xs) ≡ take k (map f xs)
  map-take f zero [] = refl
  map-take f (suc k) [] = refl
  map-take f zero (x ∷ xs) = refl
  map-take f (suc k) (x ∷ xs) = ap (λ rest. f x ∷ rest) (map-take f k xs)

  pub map-drop : {B : Type 0} (f : B → A) (k : ℕ) (xs : List B) → map f (drop k xs) ≡ drop k (map f xs)
  map-drop f zero [] = refl
  map-drop f (suc k) [] = refl
  map-drop f zero (x ∷ xs) = refl
  map-drop f (suc k) (x ∷ xs) = map-drop f k xs

  pub map-remove : {B : Type 0} (f : B → A) (xs : List B) (k : ℕ) → map f (remove xs k) ≡ remove (map f xs) k
  map-remove f xs k = map-append f (take k xs) (drop (suc k) xs) ∙ (λ i. map-take f k xs i ++ map-drop f (suc k) xs i)

  pub map-insert : {B : Type 0} (f : B → A) (xs : List B) (k : ℕ) (x : B) → map f (insert xs k x) ≡ insert (map f xs) k (f x)
  map-insert f xs k x = map-append f (take k xs) (x ∷ drop k xs) ∙ (λ i. map-take f k xs i ++ f x ∷ map-drop f k xs i)

  pub length-zero : (xs : List A) → length xs ≡ 0 → xs ≡ []
  length-zero [] h = refl
  length-zero (x ∷ xs) h = absurd (omega (arith, h))

  pub length-take : (xs : List A) (k : ℕ) → k ≤ length xs → length (take k xs) ≡ k
  length-take [] zero h = refl
  length-take [] (suc k) h = absurd (omega (arith, h))
  length-take (x ∷ xs) zero h = refl
  length-take (x ∷ xs) (suc k) h = omega (arith, length-take xs k (omega (arith, h)))

  pub take-front : (xs ys : List A) → take (length xs) (xs ++ ys) ≡ xs
  take-front [] [] = refl
  take-front [] (y ∷ ys) = refl
  take-front (x ∷ xs) ys = ap (λ rest. x ∷ rest) (take-front xs ys)

  pub drop-front : (xs ys : List A) → drop (length xs) (xs ++ ys) ≡ ys
  drop-front [] ys = refl
  drop-front (x ∷ xs) ys = drop-front xs ys

  pub get-front : (xs : List A) (y : A) (ys : List A) → slice_get (xs ++ y ∷ ys) (length xs) ≡ Some y
  get-front [] y ys = refl
  get-front (x ∷ xs) y ys = get-front xs y ys

  pub set-front : (xs : List A) (y : A) (ys : List A) (z : A) → slice_set (xs ++ y ∷ ys) (length xs) z ≡ xs ++ z ∷ ys
  set-front [] y ys z = refl
  set-front (x ∷ xs) y ys z = ap (λ rest. x ∷ rest) (set-front xs y ys z)

  pub set-same : (xs : List A) (k : ℕ) (x : A) → slice_get xs k ≡ Some x → slice_set xs k x ≡ xs
  set-same [] k x at = refl
  set-same (y ∷ ys) zero x at = let is : Some y ≡ Some x = at in cc
  set-same (y ∷ ys) (suc k) x at = ap (λ rest. y ∷ rest) (set-same ys k x at)

  pub remove-front : (xs : List A) (y : A) (ys : List A) → remove (xs ++ y ∷ ys) (length xs) ≡ xs ++ ys
  remove-front [] y [] = refl
  remove-front [] y (z ∷ ys) = refl
  remove-front (x ∷ xs) y ys = ap (λ rest. x ∷ rest) (remove-front xs y ys)

  pub insert-front : (xs : List A) (y : A) (ys : List A) (z : A) → insert (xs ++ y ∷ ys) (length xs + 1) z ≡ xs ++ y ∷ z ∷ ys
  insert-front [] y [] z = refl
  insert-front [] y (x ∷ ys) z = refl
  insert-front (x ∷ xs) y ys z = ap (λ n. insert (x ∷ (xs ++ y ∷ ys)) n z) next ∙ ap (λ rest. x ∷ rest) (insert-front xs y ys z)
    where
      next : length (x ∷ xs) + 1 ≡ suc (length xs + 1)
      next = omega arith

  pub length-insert : (xs : List A) (k : ℕ) (x : A) → k ≤ length xs → 0 < length (insert xs k x)
  length-insert xs k x h = omega (arith, length-append (take k xs) (x ∷ drop k xs))

  -- a list with a block at a place, by what stands before it and after it
  pub record At (blocks : List A) (b : ℕ) (block : A) : Type 0 where
    pub pre : List A
    pub post : List A
    pub is : blocks ≡ pre ++ block ∷ post
    pub place : b ≡ length pre

  abbrev pub at_from : (blocks : List A) (b : ℕ) (block : A) → slice_get blocks b ≡ Some block → At blocks b block
  at_from blocks b block at = record {
    pre = take b blocks;
    post = drop 1 (drop b blocks);
    is = split-at blocks b block at;
    place = sym (length-take blocks b (omega (arith, slice_get_within blocks b block at)));
  }

module _ {A : Type 0} where
  pub filled-append : (xs ys : List (List A)) → AllFilled xs → AllFilled ys → AllFilled (xs ++ ys)
  filled-append [] ys f g = g
  filled-append (x ∷ xs) ys f g = (f.0, filled-append xs ys f.1 g)

  pub filled-front : (xs ys : List (List A)) → AllFilled (xs ++ ys) → AllFilled xs
  filled-front [] ys h = tt
  filled-front (x ∷ xs) ys h = (h.0, filled-front xs ys h.1)

  pub filled-back : (xs ys : List (List A)) → AllFilled (xs ++ ys) → AllFilled ys
  filled-back [] ys h = h
  filled-back (x ∷ xs) ys h = filled-back xs ys h.1

-- 2. Round a place

module _ {V : Type 0} where
  pub before-at : (pre : List (List (Name × V))) (block : List (Name × V)) (post : List (List (Name × V))) (n : ℕ)
      → before (pre ++ block ∷ post) (record { block = length pre; at = n }) ≡ joined_blocks pre ++ take n block
  before-at pre block post n =
      ap (λ bs. joined_blocks bs ++ take n (block_at (pre ++ block ∷ post) (length pre))) (take-front pre (block ∷ post))
      ∙ ap (λ o. joined_blocks pre ++ take n (unwrap_or o [])) (get-front pre block post)

  pub from-at : (pre : List (List (Name × V))) (block : List (Name × V)) (post : List (List (Name × V))) (n m : ℕ)
      → from (pre ++ block ∷ post) (record { block = length pre; at = n }) m ≡ drop m (drop n block) ++ joined_blocks post
  from-at pre block post n m =
      ap (λ bs. drop m (drop n (block_at (pre ++ block ∷ post) (length pre))) ++ joined_blocks (drop 1 bs)) (drop-front pre (block ∷ post))
      ∙ ap (λ o. drop m (drop n (unwrap_or o [])) ++ joined_blocks post) (get-front pre block post)

  pub joined-round : (pre : List (List (Name × V))) (xs ys : List (Name × V)) (post : List (List (Name × V)))
      → joined_blocks (pre ++ (xs ++ ys) ∷ post) ≡ (joined_blocks pre ++ xs) ++ (ys ++ joined_blocks post)
  joined-round pre xs ys post =
      joined-append pre ((xs ++ ys) ∷ post)
      ∙ (ap (λ rest. joined_blocks pre ++ rest) (append-assoc xs ys (joined_blocks post))
      ∙ sym (append-assoc (joined_blocks pre) xs (ys ++ joined_blocks post)))

  -- an entry, with what stands before it and after it
  pub record Around (blocks : List (List (Name × V))) (place : BlockPlace) (e : Name × V) : Type 0 where
    pub pre : List (List (Name × V))
    pub post : List (List (Name × V))
    pub xs : List (Name × V)
    pub ys : List (Name × V)
    pub is : blocks ≡ pre ++ (xs ++ e ∷ ys) ∷ post
    pub place_is : place ≡ record { block = length pre; at = length xs }

  -- the same where no entry stands
  pub record Between (blocks : List (List (Name × V))) (place : BlockPlace) : Type 0 where
    pub pre : List (List (Name × V))
    pub post : List (List (Name × V))
    pub xs : List (Name × V)
    pub ys : List (Name × V)
    pub is : blocks ≡ pre ++ (xs ++ ys) ∷ post
    pub place_is : place ≡ record { block = length pre; at = length xs }

  abbrev pub around_from : (blocks : List (List (Name × V))) (place : BlockPlace) (block : List (Name × V)) (e : Name × V)
      → slice_get blocks place.block ≡ Some block → slice_get block place.at ≡ Some e → Around blocks place e
  around_from blocks place block e at found =
      let a = at_from blocks place.block block at in
      let inside = at_from block place.at e found in
      record {
        pre = a.pre;
        post = a.post;
        xs = inside.pre;
        ys = inside.post;
        is = a.is ∙ ap (λ es. a.pre ++ es ∷ a.post) inside.is;
        place_is = λ i. record { block = a.place i; at = inside.place i };
      }

  abbrev pub between_from : (blocks : List (List (Name × V))) (place : BlockPlace) (block : List (Name × V))
      → slice_get blocks place.block ≡ Some block → place.at ≤ length block → Between blocks place
  between_from blocks place block at within =
      let a = at_from blocks place.block block at in
      let length_is : place.at ≡ length (take place.at block) = sym (length-take block place.at within) in
      record {
        pre = a.pre;
        post = a.post;
        xs = take place.at block;
        ys = drop place.at block;
        is = a.is ∙ ap (λ es. a.pre ++ es ∷ a.post) (sym (take-drop block place.at));
        place_is = λ i. record { block = a.place i; at = length_is i };
      }

  pub before-around : (blocks : List (List (Name × V))) (place : BlockPlace) (e : Name × V) (a : Around blocks place e) → before blocks place ≡ joined_blocks a.pre ++ a.xs
  before-around blocks place e a =
      (λ i. before (a.is i) (a.place_is i)) ∙ (before-at a.pre (a.xs ++ e ∷ a.ys) a.post (length a.xs) ∙ ap (λ es. joined_blocks a.pre ++ es) (take-front a.xs (e ∷ a.ys)))

  pub from-around : (blocks : List (List (Name × V))) (place : BlockPlace) (e : Name × V) (a : Around blocks place e) → from blocks place 1 ≡ a.ys ++ joined_blocks a.post
  from-around blocks place e a =
      (λ i. from (a.is i) (a.place_is i) 1) ∙ (from-at a.pre (a.xs ++ e ∷ a.ys) a.post (length a.xs) 1 ∙ ap (λ es. drop 1 es ++ joined_blocks a.post) (drop-front a.xs (e ∷ a.ys)))

  pub at-around : (blocks : List (List (Name × V))) (place : BlockPlace) (e : Name × V) → Around blocks place e → slice_get (block_at blocks place.block) place.at ≡ Some e
  at-around blocks place e a =
      (λ i. slice_get (block_at (a.is i) (a.place_is i).block) (a.place_is i).at)
      ∙ (ap (λ o. slice_get (unwrap_or o []) (length a.xs)) (get-front a.pre (a.xs ++ e ∷ a.ys) a.post) ∙ get-front a.xs e a.ys)

  pub joined-around : (blocks : List (List (Name × V))) (place : BlockPlace) (e : Name × V) (a : Around blocks place e)
      → joined_blocks blocks ≡ (joined_blocks a.pre ++ a.xs) ++ e ∷ (a.ys ++ joined_blocks a.post)
  joined-around blocks place e a = ap joined_blocks a.is ∙ joined-round a.pre a.xs (e ∷ a.ys) a.post

  -- another entry in its place
  abbrev pub around-set : (blocks : List (List (Name × V))) (place : BlockPlace) (block : List (Name × V)) (e y : Name × V)
      → slice_get blocks place.block ≡ Some block → slice_get block place.at ≡ Some e
      → Around (slice_set blocks place.block (slice_set block place.at y)) place y
  around-set blocks place block e y at found =
      let a = at_from blocks place.block block at in
      let inside = at_from block place.at e found in
      record {
        pre = a.pre;
        post = a.post;
        xs = inside.pre;
        ys = inside.post;
        is =
            (λ i. slice_set (a.is i) (a.place i) (slice_set (inside.is i) (inside.place i) y))
            ∙ (set-front a.pre block a.post (slice_set (inside.pre ++ e ∷ inside.post) (length inside.pre) y)
            ∙ ap (λ es. a.pre ++ es ∷ a.post) (set-front inside.pre e inside.post y));
        place_is = λ i. record { block = a.place i; at = inside.place i };
      }

  -- 3. What names find after a change

  found-changed : (xs : List (Name × V)) (e : Name × V) (ys : List (Name × V)) (v : V) (name : Name) → local_name_cmp e.0 name ≡ Equal
      → AllBelow e.0 xs → AllAbove e.0 ys → (q : Name)
      → lookup (same_local_name q) (xs ++ (e.0, v) ∷ ys) ≡ cond (same_local_name name q) (Some v) (lookup (same_local_name q) (xs ++ e ∷ ys))
  found-changed xs e ys v name same below above q =
      found-with xs (e.0, v) ys below above q
      ∙ (elim (same_local_name e.0 q) as
      (λ b. cond b (Some v) (lookup (same_local_name q) (xs ++ ys)) ≡ cond b (Some v) (cond b (Some e.1) (lookup (same_local_name q) (xs ++ ys)))) [ true ↦ refl | false ↦ refl ]
      ∙ ((λ i. cond (same-alike e.0 name q same i) (Some v) (sym (found-with xs e ys below above q) i))))

  found-removed : (xs : List (Name × V)) (e : Name × V) (ys : List (Name × V)) (name : Name) → local_name_cmp e.0 name ≡ Equal
      → AllBelow e.0 xs → AllAbove e.0 ys → (q : Name)
      → lookup (same_local_name q) (xs ++ ys) ≡ cond (same_local_name name q) None (lookup (same_local_name q) (xs ++ e ∷ ys))
  found-removed xs e ys name same below above q =
      elim (same_local_name e.0 q) as
      (λ b. same_local_name e.0 q ≡ b → lookup (same_local_name q) (xs ++ ys) ≡ cond b None (cond b (Some e.1) (lookup (same_local_name q) (xs ++ ys)))) [
        | true ↦ λ is.
            let equal = same-tested e.0 q is in
            found-missing q xs ys (all_below-same e.0 q equal xs below) (all_above-same q e.0 (same-flip e.0 q equal) ys above)
        | false ↦ λ other. refl
      ] refl
      ∙ (λ i. cond (same-alike e.0 name q same i) None (sym (found-with xs e ys below above q) i))

  -- 4. Another value

  pub blocks-set : (blocks : List (List (Name × V))) (place : BlockPlace) (block : List (Name × V)) (e : Name × V) (v : V)
      → slice_get blocks place.block ≡ Some block → slice_get block place.at ≡ Some e → AreBlocks blocks
      → AreBlocks (slice_set blocks place.block (slice_set block place.at (e.0, v)))
  blocks-set blocks place block e v at found are =
      let new = slice_set blocks place.block (slice_set block place.at (e.0, v)) in
      let a = around_from blocks place block e at found in
      let n = around-set blocks place block e (e.0, v) at found in
      let old = subst AreAscending (joined-around blocks place e a) are.ascending in
      let xs = joined_blocks a.pre ++ a.xs in
      let ys = a.ys ++ joined_blocks a.post in
      let filled : 0 < length (slice_set block place.at (e.0, v)) = omega (arith, length-set block place.at (e.0, v), slice_get_within block place.at e found) in
      record {
        ascending =
            subst AreAscending (sym (joined-around new place (e.0, v) n))
            (ascending-with xs (e.0, v) ys (ascending-below xs e ys old) (ascending-above xs e ys old) (ascending-without xs e ys old));
        filled = filled-set blocks place.block (slice_set block place.at (e.0, v)) filled are.filled;
      }

  pub stands-set : (blocks : List (List (Name × V))) (place : BlockPlace) (block : List (Name × V)) (e : Name × V) (v : V) (name : Name)
      → slice_get blocks place.block ≡ Some block → slice_get block place.at ≡ Some e → (s : StandsInBlocks blocks name place) → s.entry ≡ e
      → StandsInBlocks (slice_set blocks place.block (slice_set block place.at (e.0, v))) name place
  stands-set blocks place block e v name at found s is =
      let new = slice_set blocks place.block (slice_set block place.at (e.0, v)) in
      let a = around_from blocks place block e at found in
      let n = around-set blocks place block e (e.0, v) at found in
      record {
        entry = (e.0, v);
        at = at-around new place (e.0, v) n;
        same = ap (λ (x : Name × V). local_name_cmp x.0 name) (sym is) ∙ s.same;
        below = subst (AllBelow name) (before-around blocks place e a ∙ sym (before-around new place (e.0, v) n)) s.below;
        above = subst (AllAbove name) (from-around blocks place e a ∙ sym (from-around new place (e.0, v) n)) s.above;
      }

  pub value-set : (blocks : List (List (Name × V))) (place : BlockPlace) (block : List (Name × V)) (e : Name × V) (v : V) (name : Name)
      → slice_get blocks place.block ≡ Some block → slice_get block place.at ≡ Some e → AreBlocks blocks → local_name_cmp e.0 name ≡ Equal
      → IsPutAt name (Some v) blocks (slice_set blocks place.block (slice_set block place.at (e.0, v)))
  value-set blocks place block e v name at found are same q =
      let new = slice_set blocks place.block (slice_set block place.at (e.0, v)) in
      let a = around_from blocks place block e at found in
      let n = around-set blocks place block e (e.0, v) at found in
      let old = subst AreAscending (joined-around blocks place e a) are.ascending in
      let xs = joined_blocks a.pre ++ a.xs in
      let ys = a.ys ++ joined_blocks a.post in
      ap (lookup (same_local_name q)) (joined-around new place (e.0, v) n)
      ∙ (found-changed xs e ys v name same (ascending-below xs e ys old) (ascending-above xs e ys old) q
      ∙ ap (λ es. cond (same_local_name name q) (Some v) (lookup (same_local_name q) es)) (sym (joined-around blocks place e a)))

  -- 5. A name that goes

  joined-gone : (pre : List (List (Name × V))) (xs ys : List (Name × V)) (post : List (List (Name × V))) → xs ++ ys ≡ []
      → joined_blocks (pre ++ post) ≡ (joined_blocks pre ++ xs) ++ (ys ++ joined_blocks post)
  joined-gone pre xs ys post none =
      joined-append pre post
      ∙ (ap (λ es. joined_blocks pre ++ (es ++ joined_blocks post)) (sym none)
      ∙ (ap (λ rest. joined_blocks pre ++ rest) (append-assoc xs ys (joined_blocks post))
      ∙ sym (append-assoc (joined_blocks pre) xs (ys ++ joined_blocks post))))

  -- the names but one, however they stand in blocks
  pub record IsWithout (blocks : List (List (Name × V))) (place : BlockPlace) (e : Name × V) (new : List (List (Name × V))) : Type 0 where
    pub around : Around blocks place e
    pub is : joined_blocks new ≡ (joined_blocks around.pre ++ around.xs) ++ (around.ys ++ joined_blocks around.post)
    pub filled : AllFilled blocks → AllFilled new

  pub without-one : (blocks : List (List (Name × V))) (place : BlockPlace) (block : List (Name × V)) (e : Name × V)
      → slice_get blocks place.block ≡ Some block → slice_get block place.at ≡ Some e → 0 < length (remove block place.at)
      → IsWithout blocks place e (slice_set blocks place.block (remove block place.at))
  without-one blocks place block e at found some =
      let a = at_from blocks place.block block at in
      let inside = at_from block place.at e found in
      let rest : remove block place.at ≡ inside.pre ++ inside.post =
      (λ i. remove (inside.is i) (inside.place i)) ∙ remove-front inside.pre e inside.post in
      record {
        around = around_from blocks place block e at found;
        is =
            ap joined_blocks
            ((λ i. slice_set (a.is i) (a.place i) (rest i)) ∙ set-front a.pre block a.post (inside.pre ++ inside.post))
            ∙ joined-round a.pre inside.pre inside.post a.post;
        filled = filled-set blocks place.block (remove block place.at) some;
      }

  pub without-block : (blocks : List (List (Name × V))) (place : BlockPlace) (block : List (Name × V)) (e : Name × V)
      → slice_get blocks place.block ≡ Some block → slice_get block place.at ≡ Some e → length (remove block place.at) ≡ 0
      → IsWithout blocks place e (remove (slice_set blocks place.block (remove block place.at)) place.block)
  without-block blocks place block e at found none =
      let a = at_from blocks place.block block at in
      let inside = at_from block place.at e found in
      let rest : remove block place.at ≡ inside.pre ++ inside.post =
      (λ i. remove (inside.is i) (inside.place i)) ∙ remove-front inside.pre e inside.post in
      let left : remove (slice_set blocks place.block (remove block place.at)) place.block ≡ a.pre ++ a.post =
      (λ i. remove (slice_set (a.is i) (a.place i) (remove block place.at)) (a.place i))
      ∙ (ap (λ bs. remove bs (length a.pre)) (set-front a.pre block a.post (remove block place.at))
      ∙ remove-front a.pre (remove block place.at) a.post) in
      record {
        around = around_from blocks place block e at found;
        is = ap joined_blocks left ∙ joined-gone a.pre inside.pre inside.post a.post (sym rest ∙ length-zero (remove block place.at) none);
        filled = λ filled.
            let whole = subst AllFilled a.is filled in
            subst AllFilled (sym left) (filled-append a.pre a.post (filled-front a.pre (block ∷ a.post) whole) (filled-back a.pre (block ∷ a.post) whole).1);
      }

  pub blocks-without : (blocks : List (List (Name × V))) (place : BlockPlace) (e : Name × V) (new : List (List (Name × V))) → IsWithout blocks place e new → AreBlocks blocks → AreBlocks new
  blocks-without blocks place e new w are =
      let old = subst AreAscending (joined-around blocks place e w.around) are.ascending in
      record {
        ascending = subst AreAscending (sym w.is) (ascending-without (joined_blocks w.around.pre ++ w.around.xs) e (w.around.ys ++ joined_blocks w.around.post) old);
        filled = w.filled are.filled;
      }

  pub value-without : (blocks : List (List (Name × V))) (place : BlockPlace) (e : Name × V) (new : List (List (Name × V))) (name : Name) → IsWithout blocks place e new
      → AreBlocks blocks → local_name_cmp e.0 name ≡ Equal → IsPutAt name None blocks new
  value-without blocks place e new name w are same q =
      let old = subst AreAscending (joined-around blocks place e w.around) are.ascending in
      let xs = joined_blocks w.around.pre ++ w.around.xs in
      let ys = w.around.ys ++ joined_blocks w.around.post in
      ap (lookup (same_local_name q)) w.is
      ∙ (found-removed xs e ys name same (ascending-below xs e ys old) (ascending-above xs e ys old) q
      ∙ ap (λ es. cond (same_local_name name q) None (lookup (same_local_name q) es)) (sym (joined-around blocks place e w.around)))

  -- 6. A name that comes

  pub before-between : (blocks : List (List (Name × V))) (place : BlockPlace) (a : Between blocks place) → before blocks place ≡ joined_blocks a.pre ++ a.xs
  before-between blocks place a =
      (λ i. before (a.is i) (a.place_is i)) ∙ (before-at a.pre (a.xs ++ a.ys) a.post (length a.xs) ∙ ap (λ es. joined_blocks a.pre ++ es) (take-front a.xs a.ys))

  pub from-between : (blocks : List (List (Name × V))) (place : BlockPlace) (a : Between blocks place) → from blocks place 0 ≡ a.ys ++ joined_blocks a.post
  from-between blocks place a =
      (λ i. from (a.is i) (a.place_is i) 0) ∙ (from-at a.pre (a.xs ++ a.ys) a.post (length a.xs) 0 ∙ ap (λ es. es ++ joined_blocks a.post) (drop-front a.xs a.ys))

  pub insert-between : (xs ys : List (Name × V)) (e : Name × V) → insert (xs ++ ys) (length xs) e ≡ xs ++ e ∷ ys
  insert-between xs ys e = (λ i. take-front xs ys i ++ e ∷ drop-front xs ys i)

  -- the names with one more, between those that stood before its place and after it
  pub joined-with : (blocks : List (List (Name × V))) (place : BlockPlace) (block : List (Name × V)) (e : Name × V)
      → slice_get blocks place.block ≡ Some block → place.at ≤ length block
      → joined_blocks (slice_set blocks place.block (insert block place.at e)) ≡ before blocks place ++ e ∷ from blocks place 0
  joined-with blocks place block e at within =
      let a = at_from blocks place.block block at in
      let b = between_from blocks place block at within in
      let more : insert block place.at e ≡ b.xs ++ e ∷ b.ys =
      (λ i. insert (sym (take-drop block place.at) i) (sym (length-take block place.at within) i) e) ∙ insert-between b.xs b.ys e in
      ap joined_blocks ((λ i. slice_set (a.is i) (a.place i) (more i)) ∙ set-front a.pre block a.post (b.xs ++ e ∷ b.ys))
      ∙ (joined-round a.pre b.xs (e ∷ b.ys) a.post
      ∙ (λ i. sym (before-between blocks place b) i ++ e ∷ sym (from-between blocks place b) i))

  -- what a list of names becomes that holds one more
  pub blocks-with : (new : List (List (Name × V))) (e : Name × V) (xs ys : List (Name × V)) → AreAscending (xs ++ ys) → AllBelow e.0 xs → AllAbove e.0 ys
      → joined_blocks new ≡ xs ++ e ∷ ys → AllFilled new → AreBlocks new
  blocks-with new e xs ys ascending below above is filled = record {
    ascending = subst AreAscending (sym is) (ascending-with xs e ys below above ascending);
    filled = filled;
  }

  pub value-with : (old new : List (List (Name × V))) (name : Name) (v : V) (xs ys : List (Name × V)) → AllBelow name xs → AllAbove name ys
      → joined_blocks old ≡ xs ++ ys → joined_blocks new ≡ xs ++ (name, v) ∷ ys → IsPutAt name (Some v) old new
  value-with old new name v xs ys below above was is q =
      ap (lookup (same_local_name q)) is
      ∙ (found-with xs (name, v) ys below above q
      ∙ ap (λ es. cond (same_local_name name q) (Some v) (lookup (same_local_name q) es)) (sym was))

  -- 7. A block in halves

  -- the list with a block's beginning and its rest in its place
  pub halved : (blocks : List (List (Name × V))) (b half : ℕ) (block : List (Name × V)) (a : At blocks b block)
      → insert (slice_set blocks b (take half block)) (b + 1) (drop half block) ≡ a.pre ++ take half block ∷ drop half block ∷ a.post
  halved blocks b half block a =
      (λ i. insert (slice_set (a.is i) (a.place i) (take half block)) (a.place i + 1) (drop half block))
      ∙ (ap (λ bs. insert bs (length a.pre + 1) (drop half block)) (set-front a.pre block a.post (take half block))
      ∙ insert-front a.pre (take half block) a.post (drop half block))

  pub joined-halved : (blocks : List (List (Name × V))) (b half : ℕ) (block : List (Name × V)) → slice_get blocks b ≡ Some block
      → joined_blocks (insert (slice_set blocks b (take half block)) (b + 1) (drop half block)) ≡ joined_blocks blocks
  joined-halved blocks b half block at =
      let a = at_from blocks b block at in
      ap joined_blocks (halved blocks b half block a)
      ∙ (joined-append a.pre (take half block ∷ drop half block ∷ a.post)
      ∙ (ap (λ rest. joined_blocks a.pre ++ rest) (sym (append-assoc (take half block) (drop half block) (joined_blocks a.post)) ∙ ap (λ es. es ++ joined_blocks a.post) (take-drop block half))
      ∙ (sym (joined-append a.pre (block ∷ a.post)) ∙ ap joined_blocks (sym a.is))))

  pub filled-halved : (blocks : List (List (Name × V))) (b half : ℕ) (block : List (Name × V)) → slice_get blocks b ≡ Some block → 0 < half → half < length block
      → AllFilled blocks → AllFilled (insert (slice_set blocks b (take half block)) (b + 1) (drop half block))
  filled-halved blocks b half block at some more filled =
      let a = at_from blocks b block at in
      let whole = subst AllFilled a.is filled in
      let lower : 0 < length (take half block) = omega (arith, length-take block half (omega (arith, more)), some) in
      let upper : 0 < length (drop half block) = omega (arith, length-drop half block, more) in
      subst AllFilled (sym (halved blocks b half block a))
      (filled-append a.pre (take half block ∷ drop half block ∷ a.post) (filled-front a.pre (block ∷ a.post) whole)
      (lower, (upper, (filled-back a.pre (block ∷ a.post) whole).1)))

  drop-halves : (xs : List (Name × V)) (n m : ℕ) → n ≤ m → m ≤ length xs → drop n (take m xs) ++ drop m xs ≡ drop n xs
  drop-halves [] zero zero h k = refl
  drop-halves [] zero (suc m) h k = refl
  drop-halves [] (suc n) zero h k = refl
  drop-halves [] (suc n) (suc m) h k = refl
  drop-halves (x ∷ xs) zero zero h k = refl
  drop-halves (x ∷ xs) zero (suc m) h k = ap (λ rest. x ∷ rest) (take-drop xs m)
  drop-halves (x ∷ xs) (suc n) zero h k = absurd (omega (arith, h))
  drop-halves (x ∷ xs) (suc n) (suc m) h k = drop-halves xs n m (omega (arith, h)) (omega (arith, k))

  take-halves : (xs : List (Name × V)) (n m : ℕ) → m ≤ n → take m xs ++ take (n - m) (drop m xs) ≡ take n xs
  take-halves xs n m h = let both : m + (n - m) ≡ n = omega (arith, h) in sym (take-add m (n - m) xs) ∙ ap (λ k. take k xs) both

  drop-rest : (xs : List (Name × V)) (n m : ℕ) → m ≤ n → drop (n - m) (drop m xs) ≡ drop n xs
  drop-rest xs n m h = let both : m + (n - m) ≡ n = omega (arith, h) in drop-drop (n - m) m xs ∙ ap (λ k. drop k xs) both

  before-pre : (blocks pre : List (List (Name × V))) (block : List (Name × V)) (post : List (List (Name × V))) (b n : ℕ) → blocks ≡ pre ++ block ∷ post → b ≡ length pre
      → before blocks (record { block = b; at = n }) ≡ joined_blocks pre ++ take n block
  before-pre blocks pre block post b n is place = (λ i. before (is i) (record { block = place i; at = n })) ∙ before-at pre block post n

  from-pre : (blocks pre : List (List (Name × V))) (block : List (Name × V)) (post : List (List (Name × V))) (b n : ℕ) → blocks ≡ pre ++ block ∷ post → b ≡ length pre
      → from blocks (record { block = b; at = n }) 0 ≡ drop n block ++ joined_blocks post
  from-pre blocks pre block post b n is place = (λ i. from (is i) (record { block = place i; at = n }) 0) ∙ from-at pre block post n 0

  at-pre : (blocks pre : List (List (Name × V))) (block : List (Name × V)) (post : List (List (Name × V))) (b : ℕ) → blocks ≡ pre ++ block ∷ post → b ≡ length pre
      → block_at blocks b ≡ block
  at-pre blocks pre block post b is place = (λ i. block_at (is i) (place i)) ∙ ap (λ o. unwrap_or o []) (get-front pre block post)

  within-pre : (blocks pre : List (List (Name × V))) (block : List (Name × V)) (post : List (List (Name × V))) (b : ℕ) → blocks ≡ pre ++ block ∷ post → b ≡ length pre → b < length blocks
  within-pre blocks pre block post b is place = omega (arith, ap length is, place, length-append pre (block ∷ post))

  -- a place in the lower half
  pub lower-place : (blocks : List (List (Name × V))) (place : BlockPlace) (half : ℕ) (block : List (Name × V)) → slice_get blocks place.block ≡ Some block
      → half ≤ length block → place.at ≤ half
      → IsSamePlace blocks place (insert (slice_set blocks place.block (take half block)) (place.block + 1) (drop half block)) place
  lower-place blocks place half block at whole within =
      let a = at_from blocks place.block block at in
      let new = insert (slice_set blocks place.block (take half block)) (place.block + 1) (drop half block) in
      let is = halved blocks place.block half block a in
      record {
        block = within-pre new a.pre (take half block) (drop half block ∷ a.post) place.block is a.place;
        within =
            subst (λ es. place.at ≤ length es) (sym (at-pre new a.pre (take half block) (drop half block ∷ a.post) place.block is a.place))
            (omega (arith, within, length-take block half whole));
        earlier =
            before-pre new a.pre (take half block) (drop half block ∷ a.post) place.block place.at is a.place
            ∙ (ap (λ es. joined_blocks a.pre ++ es) (take-take place.at half block within)
            ∙ sym (before-pre blocks a.pre block a.post place.block place.at a.is a.place));
        later =
            from-pre new a.pre (take half block) (drop half block ∷ a.post) place.block place.at is a.place
            ∙ (sym (append-assoc (drop place.at (take half block)) (drop half block) (joined_blocks a.post))
            ∙ (ap (λ es. es ++ joined_blocks a.post) (drop-halves block place.at half within whole)
            ∙ sym (from-pre blocks a.pre block a.post place.block place.at a.is a.place)));
      }

  -- and one in the upper half
  pub upper-place : (blocks : List (List (Name × V))) (place : BlockPlace) (half : ℕ) (block : List (Name × V)) → slice_get blocks place.block ≡ Some block
      → half ≤ length block → half ≤ place.at → place.at ≤ length block
      → IsSamePlace blocks place (insert (slice_set blocks place.block (take half block)) (place.block + 1) (drop half block)) (record { block = place.block + 1; at = place.at - half })
  upper-place blocks place half block at whole above within =
      let a = at_from blocks place.block block at in
      let new = insert (slice_set blocks place.block (take half block)) (place.block + 1) (drop half block) in
      let pre : List (List (Name × V)) = a.pre ++ take half block ∷ [] in
      let is : new ≡ pre ++ drop half block ∷ a.post =
      halved blocks place.block half block a ∙ sym (append-assoc a.pre (take half block ∷ []) (drop half block ∷ a.post)) in
      let place_is : place.block + 1 ≡ length pre = omega (arith, a.place, length-append a.pre (take half block ∷ [])) in
      let pre_is : joined_blocks pre ≡ joined_blocks a.pre ++ take half block =
      joined-append a.pre (take half block ∷ []) ∙ ap (λ es. joined_blocks a.pre ++ es) (append-nil (take half block)) in
      record {
        block = within-pre new pre (drop half block) a.post (place.block + 1) is place_is;
        within =
            subst (λ es. place.at - half ≤ length es) (sym (at-pre new pre (drop half block) a.post (place.block + 1) is place_is))
            (omega (arith, within, above, length-drop half block));
        earlier =
            before-pre new pre (drop half block) a.post (place.block + 1) (place.at - half) is place_is
            ∙ (ap (λ es. es ++ take (place.at - half) (drop half block)) pre_is
            ∙ (append-assoc (joined_blocks a.pre) (take half block) (take (place.at - half) (drop half block))
            ∙ (ap (λ es. joined_blocks a.pre ++ es) (take-halves block place.at half above)
            ∙ sym (before-pre blocks a.pre block a.post place.block place.at a.is a.place))));
        later =
            from-pre new pre (drop half block) a.post (place.block + 1) (place.at - half) is place_is
            ∙ (ap (λ es. es ++ joined_blocks a.post) (drop-rest block place.at half above)
            ∙ sym (from-pre blocks a.pre block a.post place.block place.at a.is a.place));
      }

  -- 8. What two indices read

  pub there : {B : Type 0} (items : B → List (Name × V)) (bs : List B) (place : BlockPlace) (block : B) → place.at < length (block_at (map items bs) place.block)
      → block ≡ slice_index_or bs place.block block → slice_get (map items bs) place.block ≡ Some (items block)
  there items bs place block within read = first items bs place.block place.at block within read
    where
      first : {C : Type 0} (items : C → List (Name × V)) (bs : List C) (k n : ℕ) (block : C) → n < length (block_at (map items bs) k) → block ≡ slice_index_or bs k block
          → slice_get (map items bs) k ≡ Some (items block)
      first items [] k n block within read = absurd (omega (arith, within))
      first items (b ∷ bs) zero n block within read = ap (λ x. Some (items x)) (sym read)
      first items (b ∷ bs) (suc k) n block within read = first items bs k n block within read

  pub entry_there : {B : Type 0} (items : B → List (Name × V)) (bs : List B) (place : BlockPlace) (block : B) (e : Name × V) → place.at < length (block_at (map items bs) place.block)
      → block ≡ slice_index_or bs place.block block → e ≡ slice_index_or (items block) place.at e → slice_get (items block) place.at ≡ Some e
  entry_there items bs place block e within block_read read =
      let whole : block_at (map items bs) place.block ≡ items block = ap (λ o. unwrap_or o []) (there items bs place block within block_read) in
      slice_get_read (items block) (length (items block)) place.at e refl (subst (λ es. place.at < length es) whole within) read

  pub block_there : {B : Type 0} (items : B → List (Name × V)) (bs : List B) (b : ℕ) (block : B) → b < length (map items bs)
      → block ≡ slice_index_or bs b block → slice_get (map items bs) b ≡ Some (items block)
  block_there items bs b block inside read = block_is items bs b block (slice_get_read bs (length bs) b block refl (omega (arith, inside, length-map bs items)) read)

  pub same_block : (found : Option (List (Name × V))) (xs ys : List (Name × V)) → found ≡ Some xs → found ≡ Some ys → xs ≡ ys
  same_block found xs ys a b = let is : Some xs ≡ Some ys = sym a ∙ b in cc

  pub place_in : (old shown left new : List (List (Name × V))) (place moved : BlockPlace) → old ≡ shown → new ≡ left → IsSamePlace old place left moved → IsSamePlace shown place new moved
  place_in old shown left new place moved was is same =
      subst (λ blocks. IsSamePlace blocks place new moved) was (subst (λ blocks. IsSamePlace old place blocks moved) (sym is) same)
