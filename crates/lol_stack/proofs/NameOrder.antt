-- Lists of entries whose names ascend, and what a name finds in them.
use Rattle.std.proofs.Common.{◌≡◌, ◌∙◌, refl, sym, ap, true, false, cond, List, [], ◌∷◌, ◌++◌, Some, None}
use Rattle.std.specs.Map.{lookup}
use Rattle.std.specs.declared.cmp.Ordering.TheVariants.{Less, Equal, Greater}
use Rattle.std.specs.Ordering.{ordering_reverse, is_eq, is_lt}
use Rattle.lol_base.specs.LocalNames.{Name, same_local_name, local_name_cmp}
use Rattle.lol_base.specs.NameLaws.{local_name_total_order, same_local_name-ties}
use Rattle.lol_stack.specs.NameBlocks.{AllBelow, AllAbove, AreAscending}

-- 1. Two names

pub above-flip : (a b : Name) → local_name_cmp a b ≡ Greater → local_name_cmp b a ≡ Less
above-flip a b h = local_name_total_order.antisymm b a ∙ ap ordering_reverse h

pub below-flip : (a b : Name) → local_name_cmp a b ≡ Less → local_name_cmp b a ≡ Greater
below-flip a b h = local_name_total_order.antisymm b a ∙ ap ordering_reverse h

pub same-flip : (a b : Name) → local_name_cmp a b ≡ Equal → local_name_cmp b a ≡ Equal
same-flip a b h = local_name_total_order.antisymm b a ∙ ap ordering_reverse h

-- a name that is below another is below those that are the same as that
pub below-same : (a b c : Name) → local_name_cmp a b ≡ Less → local_name_cmp b c ≡ Equal → local_name_cmp a c ≡ Less
below-same a b c less same = above-flip c a (sym (local_name_total_order.congr b c a same) ∙ below-flip a b less)

pub same-below : (a b c : Name) → local_name_cmp a b ≡ Equal → local_name_cmp b c ≡ Less → local_name_cmp a c ≡ Less
same-below a b c same less = local_name_total_order.congr a b c same ∙ less

pub same-tested : (a b : Name) → same_local_name a b ≡ true → local_name_cmp a b ≡ Equal
same-tested a b h =
    elim (local_name_cmp a b) as (λ o. is_eq o ≡ true → o ≡ Equal) [
      | Less ↦ λ e. cc
      | Equal ↦ λ e. refl
      | Greater ↦ λ e. cc
    ] (sym (same_local_name-ties a b) ∙ h)

pub tested-same : (a b : Name) → local_name_cmp a b ≡ Equal → same_local_name a b ≡ true
tested-same a b h = same_local_name-ties a b ∙ ap is_eq h

pub tested-below : (a b : Name) → local_name_cmp a b ≡ Less → same_local_name a b ≡ false
tested-below a b h = same_local_name-ties a b ∙ ap is_eq h

pub tested-above : (a b : Name) → local_name_cmp b a ≡ Less → same_local_name a b ≡ false
tested-above a b h = same_local_name-ties a b ∙ ap is_eq (below-flip b a h)

-- what is neither below a name nor the same is above it
pub above-other : (a b : Name) → is_lt (local_name_cmp a b) ≡ false → same_local_name a b ≡ false → local_name_cmp b a ≡ Less
above-other a b not_below other =
    above-flip a b (elim (local_name_cmp a b) as (λ o. is_lt o ≡ false → is_eq o ≡ false → o ≡ Greater) [
      | Less ↦ λ e f. cc
      | Equal ↦ λ e f. cc
      | Greater ↦ λ e f. refl
    ] not_below (sym (same_local_name-ties a b) ∙ other))

pub other-flip : (a b : Name) → same_local_name a b ≡ false → same_local_name b a ≡ false
other-flip a b other =
    elim (same_local_name b a) as (λ same. same_local_name b a ≡ same → same ≡ false) [
      | true ↦ λ same. sym (tested-same a b (same-flip b a (same-tested b a same))) ∙ other
      | false ↦ λ h. refl
    ] refl

-- same names are told apart from others alike
pub same-alike : (a b q : Name) → local_name_cmp a b ≡ Equal → same_local_name a q ≡ same_local_name b q
same-alike a b q h = same_local_name-ties a q ∙ (ap is_eq (local_name_total_order.congr a b q h) ∙ sym (same_local_name-ties b q))

-- 2. Names above and below the names of a list

module _ {V : Type 0} where
  pub all_above-below : (a b : Name) → local_name_cmp a b ≡ Less → (es : List (Name × V)) → AllAbove b es → AllAbove a es
  all_above-below a b less [] above = tt
  all_above-below a b less (e ∷ es) above = (local_name_total_order.trans a b e.0 less above.0, all_above-below a b less es above.1)

  pub all_above-same : (a b : Name) → local_name_cmp a b ≡ Equal → (es : List (Name × V)) → AllAbove b es → AllAbove a es
  all_above-same a b same [] above = tt
  all_above-same a b same (e ∷ es) above = (same-below a b e.0 same above.0, all_above-same a b same es above.1)

  pub all_below-above : (a b : Name) → local_name_cmp a b ≡ Less → (es : List (Name × V)) → AllBelow a es → AllBelow b es
  all_below-above a b less [] below = tt
  all_below-above a b less (e ∷ es) below = (local_name_total_order.trans e.0 a b below.0 less, all_below-above a b less es below.1)

  pub all_below-same : (a b : Name) → local_name_cmp a b ≡ Equal → (es : List (Name × V)) → AllBelow a es → AllBelow b es
  all_below-same a b same [] below = tt
  all_below-same a b same (e ∷ es) below = (below-same e.0 a b below.0 same, all_below-same a b same es below.1)

  pub all_above-append : (a : Name) (xs ys : List (Name × V)) → AllAbove a xs → AllAbove a ys → AllAbove a (xs ++ ys)
  all_above-append a [] ys h k = k
  all_above-append a (x ∷ xs) ys h k = (h.0, all_above-append a xs ys h.1 k)

  pub all_above-front : (a : Name) (xs ys : List (Name × V)) → AllAbove a (xs ++ ys) → AllAbove a xs
  all_above-front a [] ys h = tt
  all_above-front a (x ∷ xs) ys h = (h.0, all_above-front a xs ys h.1)

  pub all_above-back : (a : Name) (xs ys : List (Name × V)) → AllAbove a (xs ++ ys) → AllAbove a ys
  all_above-back a [] ys h = h
  all_above-back a (x ∷ xs) ys h = all_above-back a xs ys h.1

  pub all_below-append : (a : Name) (xs ys : List (Name × V)) → AllBelow a xs → AllBelow a ys → AllBelow a (xs ++ ys)
  all_below-append a [] ys h k = k
  all_below-append a (x ∷ xs) ys h k = (h.0, all_below-append a xs ys h.1 k)

  -- 3. Ascending lists

  pub ascending-back : (xs ys : List (Name × V)) → AreAscending (xs ++ ys) → AreAscending ys
  ascending-back [] ys h = h
  ascending-back (x ∷ xs) ys h = ascending-back xs ys h.1

  pub ascending-front : (xs ys : List (Name × V)) → AreAscending (xs ++ ys) → AreAscending xs
  ascending-front [] ys h = tt
  ascending-front (x ∷ xs) ys h = (all_above-front x.0 xs ys h.0, ascending-front xs ys h.1)

  -- those before an entry are below it
  pub ascending-below : (xs : List (Name × V)) (e : Name × V) (ys : List (Name × V)) → AreAscending (xs ++ e ∷ ys) → AllBelow e.0 xs
  ascending-below [] e ys h = tt
  ascending-below (x ∷ xs) e ys h = ((all_above-back x.0 xs (e ∷ ys) h.0).0, ascending-below xs e ys h.1)

  -- and those after it above
  pub ascending-above : (xs : List (Name × V)) (e : Name × V) (ys : List (Name × V)) → AreAscending (xs ++ e ∷ ys) → AllAbove e.0 ys
  ascending-above xs e ys h = (ascending-back xs (e ∷ ys) h).0

  pub ascending-without : (xs : List (Name × V)) (e : Name × V) (ys : List (Name × V)) → AreAscending (xs ++ e ∷ ys) → AreAscending (xs ++ ys)
  ascending-without [] e ys h = h.1
  ascending-without (x ∷ xs) e ys h = (
    all_above-append x.0 xs ys (all_above-front x.0 xs (e ∷ ys) h.0) (all_above-back x.0 xs (e ∷ ys) h.0).1,
    ascending-without xs e ys h.1,
  )

  pub ascending-with : (xs : List (Name × V)) (e : Name × V) (ys : List (Name × V)) → AllBelow e.0 xs → AllAbove e.0 ys → AreAscending (xs ++ ys) → AreAscending (xs ++ e ∷ ys)
  ascending-with [] e ys below above h = (above, h)
  ascending-with (x ∷ xs) e ys below above h = (
    all_above-append x.0 xs (e ∷ ys) (all_above-front x.0 xs ys h.0) (below.0, all_above-back x.0 xs ys h.0),
    ascending-with xs e ys below.1 above h.1,
  )

  -- 4. What a name finds

  pub found-none : (a : Name) (es : List (Name × V)) → AllAbove a es → lookup (same_local_name a) es ≡ None
  found-none a [] h = refl
  found-none a (e ∷ es) h = ap (λ same. cond same (Some e.1) (lookup (same_local_name a) es)) (tested-below a e.0 h.0) ∙ found-none a es h.1

  pub found-back : (a : Name) (xs ys : List (Name × V)) → AllBelow a xs → lookup (same_local_name a) (xs ++ ys) ≡ lookup (same_local_name a) ys
  found-back a [] ys h = refl
  found-back a (x ∷ xs) ys h =
      ap (λ same. cond same (Some x.1) (lookup (same_local_name a) (xs ++ ys))) (tested-above a x.0 h.0) ∙ found-back a xs ys h.1

  -- a name that stands nowhere finds nothing
  pub found-missing : (a : Name) (xs ys : List (Name × V)) → AllBelow a xs → AllAbove a ys → lookup (same_local_name a) (xs ++ ys) ≡ None
  found-missing a xs ys below above = found-back a xs ys below ∙ found-none a ys above

  found-past : (q : Name) (xs : List (Name × V)) (e : Name × V) (ys : List (Name × V))
      → same_local_name q e.0 ≡ false → lookup (same_local_name q) (xs ++ e ∷ ys) ≡ lookup (same_local_name q) (xs ++ ys)
  found-past q [] e ys other = ap (λ same. cond same (Some e.1) (lookup (same_local_name q) ys)) other
  found-past q (x ∷ xs) e ys other = ap (λ found. cond (same_local_name q x.0) (Some x.1) found) (found-past q xs e ys other)

  -- what each name finds where one stands
  pub found-with : (xs : List (Name × V)) (e : Name × V) (ys : List (Name × V)) → AllBelow e.0 xs → AllAbove e.0 ys → (q : Name)
      → lookup (same_local_name q) (xs ++ e ∷ ys) ≡ cond (same_local_name e.0 q) (Some e.1) (lookup (same_local_name q) (xs ++ ys))
  found-with xs e ys below above q =
      elim (same_local_name e.0 q) as
      (λ same. same_local_name e.0 q ≡ same
      → lookup (same_local_name q) (xs ++ e ∷ ys) ≡ cond same (Some e.1) (lookup (same_local_name q) (xs ++ ys))) [
        | true ↦ λ same.
            let equal = same-tested e.0 q same in
            found-back q xs (e ∷ ys) (all_below-same e.0 q equal xs below)
            ∙ ap (λ test. cond test (Some e.1) (lookup (same_local_name q) ys)) (tested-same q e.0 (same-flip e.0 q equal))
        | false ↦ λ other. found-past q xs e ys (other-flip e.0 q other)
      ] refl
