-- What a list contains, by recursion on the list.
use Rattle.std.proofs.Common.{◌≡◌, ◌≢◌, ℕ, zero, suc, ◌+◌, ◌<◌, Bool, true, false, cond, filter, flat_map, List, [], ◌∷◌, ◌++◌, length, get_or, Contains, AllPairs, ◌⊎◌, ◌↔◌, map, inl, inr, refl, sym, ap, ◌∙◌, subst, arith}
use Rattle.std.specs.List.{count_by, list_any}
use Rattle.std.proofs.lemmas.List.Elements.{Contains-append_left, Contains-append_right, Contains-append_cases}
use Rattle.std.proofs.lemmas.List.Folds.{Any-from_list_any, list_any-from_Any}
use Rattle.std.proofs.lemmas.List.Sums.{length-filter, sum_by-append}

module _ {T : Type 0} where
  -- an element of a list
  abbrev pub Among : List T → T → Type 0
  Among [] x = ⊥
  Among (y ∷ ys) x = (y ≡ x) ⊎ Among ys x

  contains_at : (ys : List T) (x : T) (k : ℕ) → k < length ys → get_or ys k x ≡ x → Among ys x
  contains_at [] x k within is = absurd (omega (arith, within))
  contains_at (y ∷ ys) x zero within is = inl is
  contains_at (y ∷ ys) x (suc k) within is = inr (contains_at ys x k (omega (arith, within)) is)

  pub among_from_contains : (ys : List T) (x : T) → Contains ys x → Among ys x
  among_from_contains ys x h = contains_at ys x h.0 h.1 h.2

  pub contains_from_among : (ys : List T) (x : T) → Among ys x → Contains ys x
  contains_from_among [] x h = absurd h
  contains_from_among (y ∷ ys) x (inl is) = (0, omega arith, is)
  contains_from_among (y ∷ ys) x (inr h) = let rest = contains_from_among ys x h in Contains-append_right (y ∷ []) ys x rest

  -- each element differs from all after it
  abbrev pub Distinct : List T → Type 0
  Distinct [] = Unit {0}
  Distinct (x ∷ xs) = (Among xs x → ⊥) × Distinct xs

  pub among_front : (front back : List T) (x : T) → Among front x → Among (front ++ back) x
  among_front [] back x h = absurd h
  among_front (y ∷ front) back x (inl is) = inl is
  among_front (y ∷ front) back x (inr h) = inr (among_front front back x h)

  pub among_back : (front back : List T) (x : T) → Among back x → Among (front ++ back) x
  among_back [] back x h = h
  among_back (y ∷ front) back x h = inr (among_back front back x h)

  pub among_either : (front back : List T) (x : T) → Among (front ++ back) x → Among front x ⊎ Among back x
  among_either [] back x h = inr h
  among_either (y ∷ front) back x (inl is) = inl (inl is)
  among_either (y ∷ front) back x (inr h) = elim (among_either front back x h) [ inl in_front ↦ inl (inr in_front) | inr in_back ↦ inr in_back ]

  -- a list round one of its elements
  pub record Parts (xs : List T) (x : T) : Type 0 where
    pub front : List T
    pub back : List T
    pub is : xs ≡ front ++ x ∷ back

  pub parts_at : (xs : List T) (x : T) → Among xs x → Parts xs x
  parts_at [] x h = absurd h
  parts_at (y ∷ xs) x (inl is) = record { front = []; back = xs; is = ap (λ z. z ∷ xs) is }
  parts_at (y ∷ xs) x (inr h) = let rest = parts_at xs x h in record { front = y ∷ rest.front; back = rest.back; is = ap (λ zs. y ∷ zs) rest.is }

  -- without that element the list is as distinct, and no longer has it
  distinct_rest : (front back : List T) (x : T) → Distinct (front ++ x ∷ back) → Distinct (front ++ back)
  distinct_rest [] back x h = h.1
  distinct_rest (y ∷ front) back x h = (
    λ again. h.0 (elim (among_either front back y again) [ inl a ↦ among_front front (x ∷ back) y a | inr b ↦ among_back front (x ∷ back) y (inr b) ]),
    distinct_rest front back x h.1,
  )

  gone : (front back : List T) (x : T) → Distinct (front ++ x ∷ back) → Among (front ++ back) x → ⊥
  gone [] back x h again = h.0 again
  gone (y ∷ front) back x h (inl is) = h.0 (among_back front (x ∷ back) y (inl (sym is)))
  gone (y ∷ front) back x h (inr again) = gone front back x h.1 again

  pub count_by-cons : (p : T → Bool) (x : T) (xs : List T) → count_by p (x ∷ xs) ≡ cond (p x) 1 0 + count_by p xs
  count_by-cons p x xs = omega (arith, sum_by-append (λ (y : T). cond (p y) 1 0) (x ∷ []) xs)

  count_rest : (p : T → Bool) (front back : List T) (x : T) → count_by p (front ++ x ∷ back) ≡ cond (p x) 1 0 + count_by p (front ++ back)
  count_rest p [] back x = count_by-cons p x back
  count_rest p (y ∷ front) back x =
      omega (arith, count_by-cons p y (front ++ x ∷ back), count_by-cons p y (front ++ back), count_rest p front back x)

  -- Lists that have the same elements, each once, count alike.
  pub same_count : (p : T → Bool) (xs ys : List T) → Distinct xs → Distinct ys → ((x : T) → Among xs x → Among ys x) → ((x : T) → Among ys x → Among xs x) → count_by p xs ≡ count_by p ys
  same_count p [] [] dx dy to from = refl
  same_count p [] (y ∷ ys) dx dy to from = absurd (from y (inl refl))
  same_count p (x ∷ xs) ys dx dy to from =
      let parts = parts_at ys x (to x (inl refl)) in
      let front = parts.front in
      let back = parts.back in
      let dy' : Distinct (front ++ x ∷ back) = subst Distinct parts.is dy in
      let rest = same_count p xs (front ++ back) dx.1 (distinct_rest front back x dy')
      (λ y h. elim (among_either front (x ∷ back) y (subst (λ zs. Among zs y) parts.is (to y (inr h)))) [
        | inl a ↦ among_front front back y a
        | inr b ↦ other y h front back b
      ])
      (λ y h. elim (from y (subst (λ zs. Among zs y) (sym parts.is) (elim (among_either front back y h) [ inl a ↦ among_front front (x ∷ back) y a | inr b ↦ among_back front (x ∷ back) y (inr b) ]))) [
        | inl is ↦ absurd (gone front back x dy' (subst (Among (front ++ back)) (sym is) h))
        | inr a ↦ a
      ]) in
      count_by-cons p x xs ∙ (ap (λ n. cond (p x) 1 0 + n) rest ∙ (sym (count_rest p front back x) ∙ ap (count_by p) (sym parts.is)))
    where
      other : (y : T) → Among xs y → (front back : List T) → Among (x ∷ back) y → Among (front ++ back) y
      other y h front back (inl is) = absurd (dx.0 (subst (Among xs) (sym is) h))
      other y h front back (inr b) = among_back front back y b

  -- between `Distinct` and the same by places
  pub distinct_from_pairs : (xs : List T) → AllPairs (λ x y. x ≢ y) xs → Distinct xs
  distinct_from_pairs [] h = tt
  distinct_from_pairs (x ∷ xs) h = (
    λ again. let at = contains_from_among xs x again in h 0 (suc at.0) x (omega arith) (omega (arith, at.1)) (sym at.2),
    distinct_from_pairs xs (λ i j d below within. h (suc i) (suc j) d (omega (arith, below)) (omega (arith, within))),
  )

pub map-map : {A B C : Type 0} (f : B → C) (g : A → B) (xs : List A) → map f (map g xs) ≡ map (λ x. f (g x)) xs
map-map f g [] = refl
map-map f g (x ∷ xs) = ap (λ ys. f (g x) ∷ ys) (map-map f g xs)

-- an appended list has the members of both
pub contains-append : {A : Type 0} (xs ys : List A) (x : A) → Contains (xs ++ ys) x ↔ (Contains xs x ⊎ Contains ys x)
contains-append xs ys x = (
  Contains-append_cases xs ys x,
  λ either. elim either [ inl h ↦ Contains-append_left xs ys x h | inr h ↦ Contains-append_right xs ys x h ],
)

-- Filtered and mapped lists.

module _ {A : Type 0} (p : A → Bool) where
  among_cond : (b : Bool) (y : A) (ys : List A) (x : A) → Among (cond b (y ∷ ys) ys) x → ((b ≡ true) × (y ≡ x)) ⊎ Among ys x
  among_cond true y ys x (inl is) = inl (refl, is)
  among_cond true y ys x (inr h) = inr h
  among_cond false y ys x h = inr h

  cond_front : (b : Bool) (y : A) (ys : List A) → b ≡ true → Among (cond b (y ∷ ys) ys) y
  cond_front true y ys h = inl refl
  cond_front false y ys h = cc

  cond_back : (b : Bool) (y : A) (ys : List A) (x : A) → Among ys x → Among (cond b (y ∷ ys) ys) x
  cond_back true y ys x h = inr h
  cond_back false y ys x h = h

  pub among_filter : (xs : List A) (x : A) → Among (filter p xs) x → Among xs x × (p x ≡ true)
  among_filter [] x h = absurd h
  among_filter (y ∷ xs) x h = elim (among_cond (p y) y (filter p xs) x h) [
    | inl here ↦ (inl here.1, subst (λ z. p z ≡ true) here.1 here.0)
    | inr later ↦ let rest = among_filter xs x later in (inr rest.0, rest.1)
  ]

  pub filter_among : (xs : List A) (x : A) → Among xs x → p x ≡ true → Among (filter p xs) x
  filter_among [] x h fits = absurd h
  filter_among (y ∷ xs) x (inl is) fits = subst (λ z. Among (filter p (y ∷ xs)) z) is (cond_front (p y) y (filter p xs) (ap p is ∙ fits))
  filter_among (y ∷ xs) x (inr h) fits = cond_back (p y) y (filter p xs) x (filter_among xs x h fits)

module _ {A B : Type 0} (f : A → B) where
  pub among_map : (xs : List A) (y : B) → Among (map f xs) y → (x : A) × Among xs x × (f x ≡ y)
  among_map [] y h = absurd h
  among_map (x ∷ xs) y (inl is) = (x, inl refl, is)
  among_map (x ∷ xs) y (inr h) = let rest = among_map xs y h in (rest.0, inr rest.1, rest.2)

  pub map_among : (xs : List A) (x : A) → Among xs x → Among (map f xs) (f x)
  map_among [] x h = absurd h
  map_among (y ∷ xs) x (inl is) = inl (ap f is)
  map_among (y ∷ xs) x (inr h) = inr (map_among xs x h)

-- a test that some element passes
pub passes_too : {T : Type 0} (p : T → Bool) (xs ys : List T) → ((x : T) → Contains xs x → Contains ys x) → list_any p xs ≡ true → list_any p ys ≡ true
passes_too p xs ys to some =
    let found = Any-from_list_any p xs some in
    let there = to found.1 (found.0, found.2, found.3) in
    list_any-from_Any p ys (there.0, found.1, there.1, there.2, found.4)

pub among_too : {T : Type 0} (xs ys : List T) → ((x : T) → Contains xs x → Contains ys x) → (x : T) → Among xs x → Among ys x
among_too xs ys to x a = among_from_contains ys x (to x (contains_from_among xs x a))

-- Lists each of whose elements stands once.

module _ {A : Type 0} where
  pub distinct_append : (xs ys : List A) → Distinct xs → Distinct ys → ((x : A) → Among xs x → Among ys x → ⊥) → Distinct (xs ++ ys)
  distinct_append [] ys dx dy apart = dy
  distinct_append (x ∷ xs) ys dx dy apart = (
    λ again. elim (among_either xs ys x again) [ inl h ↦ dx.0 h | inr h ↦ apart x (inl refl) h ],
    distinct_append xs ys dx.1 dy (λ y h. apart y (inr h)),
  )

  pub all_counted : (xs : List A) → count_by (λ x. true) xs ≡ length xs
  all_counted [] = refl
  all_counted (x ∷ xs) = count_by-cons (λ x. true) x xs ∙ omega (arith, all_counted xs)

  pub same_length : (xs ys : List A) → Distinct xs → Distinct ys → ((x : A) → Among xs x → Among ys x) → ((x : A) → Among ys x → Among xs x) → length xs ≡ length ys
  same_length xs ys dx dy to from = sym (all_counted xs) ∙ (same_count (λ x. true) xs ys dx dy to from ∙ all_counted ys)

  module _ (p : A → Bool) where
    distinct_cond : (b : Bool) (y : A) (ys : List A) → (Among ys y → ⊥) → Distinct ys → Distinct (cond b (y ∷ ys) ys)
    distinct_cond true y ys fresh d = (fresh, d)
    distinct_cond false y ys fresh d = d

    pub distinct_filter : (xs : List A) → Distinct xs → Distinct (filter p xs)
    distinct_filter [] d = tt
    distinct_filter (y ∷ xs) d = distinct_cond (p y) y (filter p xs) (λ h. d.0 (among_filter p xs y h).0) (distinct_filter xs d.1)

    pub any_among : (xs : List A) (x : A) → Among xs x → p x ≡ true → list_any p xs ≡ true
    any_among xs x h fits = let at = contains_from_among xs x h in list_any-from_Any p xs (at.0, x, at.1, at.2, fits)

    pub among_any : (xs : List A) → list_any p xs ≡ true → (x : A) × Among xs x × (p x ≡ true)
    among_any xs h = let found = Any-from_list_any p xs h in (found.1, among_from_contains xs found.1 (found.0, found.2, found.3), found.4)

    -- those that pass, of two lists that share them, each once, are as many
    pub same_passing : (xs ys : List A) → Distinct xs → Distinct ys → ((x : A) → p x ≡ true → Among xs x → Among ys x) → ((x : A) → p x ≡ true → Among ys x → Among xs x) → count_by p xs ≡ count_by p ys
    same_passing xs ys dx dy to from =
        sym (length-filter p xs)
        ∙ (same_length (filter p xs) (filter p ys) (distinct_filter xs dx) (distinct_filter ys dy)
        (λ x h. let at = among_filter p xs x h in filter_among p ys x (to x at.1 at.0) at.1)
        (λ x h. let at = among_filter p ys x h in filter_among p xs x (from x at.1 at.0) at.1)
        ∙ length-filter p ys)

-- Lists of lists.

module _ {A B : Type 0} (f : A → List B) where
  pub among_flat_map : (xs : List A) (y : B) → Among (flat_map f xs) y → (x : A) × Among xs x × Among (f x) y
  among_flat_map [] y h = absurd h
  among_flat_map (x ∷ xs) y h = elim (among_either (f x) (flat_map f xs) y h) [
    | inl here ↦ (x, inl refl, here)
    | inr later ↦ let rest = among_flat_map xs y later in (rest.0, inr rest.1, rest.2)
  ]

  pub flat_map_among : (xs : List A) (x : A) (y : B) → Among xs x → Among (f x) y → Among (flat_map f xs) y
  flat_map_among [] x y h at = absurd h
  flat_map_among (z ∷ xs) x y (inl is) at = among_front (f z) (flat_map f xs) y (subst (λ w. Among (f w) y) (sym is) at)
  flat_map_among (z ∷ xs) x y (inr h) at = among_back (f z) (flat_map f xs) y (flat_map_among xs x y h at)

  -- Lists that are distinct by themselves, of which no two share an element, are so together.
  pub distinct_flat_map : (xs : List A) → Distinct xs → ((x : A) → Among xs x → Distinct (f x)) → ((x x' : A) (y : B) → Among xs x → Among xs x' → Among (f x) y → Among (f x') y → x ≡ x') → Distinct (flat_map f xs)
  distinct_flat_map [] d each apart = tt
  distinct_flat_map (x ∷ xs) d each apart =
      distinct_append (f x) (flat_map f xs) (each x (inl refl))
      (distinct_flat_map xs d.1 (λ z h. each z (inr h)) (λ z z' y h h' a a'. apart z z' y (inr h) (inr h') a a'))
      (λ y here later. let at = among_flat_map xs y later in d.0 (subst (Among xs) (sym (apart x at.0 y (inl refl) (inr at.1) here at.2)) at.1))
