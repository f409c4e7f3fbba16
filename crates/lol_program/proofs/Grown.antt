-- What a grown forest has.
use Rattle.std.proofs.Common.{ℕ, zero, suc, arith, ◌≡◌, ◌↔◌, ◌⊎◌, inl, inr, ⊎_elim, List, [], ◌∷◌, Option, Some, None, refl, sym, ap, subst, ◌∙◌}
use Rattle.std.specs.Prelude.{Contains}
use Rattle.lol_css.specs.declared.selector.Combinator.{Combinator}
use Rattle.lol_css.specs.declared.selector.Combinator.TheVariants.{Child, Descendant}
use Rattle.lol_instructions.specs.Compounds.{Compound}
use Rattle.lol_program.specs.Paths.{Path, Then}
use Rattle.lol_program.specs.Forest.{Forest, none, more, Node, link, SiblingsDiffer, HasTop}
use Rattle.lol_program.specs.Growth.{fresh, AtRoot, Takes, Under, Adds, AddsFirst}
use Rattle.lol_program.specs.NodeMemberLaws.{HasUnder, HasIn, IsPlacedAt, IsPair, HasNode, HasPair, BringsNode, BringsPair, BringsFirst, HasAdded, HasAddedFirst}

of_rest : {A B N : Type 0} → B ⊎ N → (A ⊎ B) ⊎ N
of_rest (inl b) = inl (inr b)
of_rest (inr n) = inr n

of_first : {A B N : Type 0} → A ⊎ N → (A ⊎ B) ⊎ N
of_first (inl b) = inl (inl b)
of_first (inr n) = inr n

only_first : {A A' B N : Type 0} → (A' → A ⊎ N) → A' ⊎ B → (A ⊎ B) ⊎ N
only_first f (inl a) = of_first (f a)
only_first f (inr b) = inl (inr b)

only_rest : {A B B' N : Type 0} → (B' → B ⊎ N) → A ⊎ B' → (A ⊎ B) ⊎ N
only_rest f (inl a) = inl (inl a)
only_rest f (inr b) = of_rest (f b)

kept_first : {A A' B N : Type 0} → (A ⊎ N → A') → (A ⊎ B) ⊎ N → A' ⊎ B
kept_first f (inl (inl a)) = inl (f (inl a))
kept_first f (inl (inr b)) = inr b
kept_first f (inr n) = inl (f (inr n))

kept_rest : {A B B' N : Type 0} → (B ⊎ N → B') → (A ⊎ B) ⊎ N → A ⊎ B'
kept_rest f (inl (inl a)) = inl a
kept_rest f (inl (inr b)) = inr (f (inl b))
kept_rest f (inr n) = inr (f (inr n))

module _ (Own : Path → List ℕ → Type 0) (New : Type 0) (make : Compound → Path) (c : Compound) (R : Node → Node → Type 0) where
  -- a changed node has what it had and the new, and nothing more
  abbrev Grows : Type 0
  Grows = (n m : Node) → n.compound ≡ c → R n m → HasIn Own make m ↔ (HasIn Own make n ⊎ New)

  from_fresh : (Own (make c) [] → New) → HasIn Own make (fresh c) ⊎ New → ⊥ ⊎ New
  from_fresh at_fresh (inl (inl own)) = inr (at_fresh own)
  from_fresh at_fresh (inl (inr (inl x))) = absurd x
  from_fresh at_fresh (inl (inr (inr x))) = absurd x
  from_fresh at_fresh (inr new) = inr new

  only_none : (Own (make c) [] → New) → Grows → (m : Node) → R (fresh c) m → HasUnder Own make (link m none) → ⊥ ⊎ New
  only_none at_fresh grows m r (inl here) = from_fresh at_fresh ((grows (fresh c) m refl r).0 here)
  only_none at_fresh grows m r (inr x) = absurd x

  only_new : (Own (make c) [] → New) → Grows → (old new : Forest) → AtRoot c R old new → HasUnder Own make new → HasUnder Own make old ⊎ New
  only_new at_fresh grows none new h has = only_none at_fresh grows h.0 h.1 (subst (HasUnder Own make) h.2 has)
  only_new at_fresh grows (more d ids children descendants rest) new (inl h) has =
      only_first (λ x. (grows (record { compound = d; ids = ids; children = children; descendants = descendants }) h.1 h.0 h.2).0 x) (subst (HasUnder Own make) h.3 has)
  only_new at_fresh grows (more d ids children descendants rest) new (inr h) has =
      only_rest (λ x. only_new at_fresh grows rest h.1 h.2 x) (subst (HasUnder Own make) h.3 has)

  kept_and_new : Grows → (old new : Forest) → AtRoot c R old new → HasUnder Own make old ⊎ New → HasUnder Own make new
  kept_and_new grows none new h (inl x) = absurd x
  kept_and_new grows none new h (inr x) = subst (HasUnder Own make) (sym h.2) (inl ((grows (fresh c) h.0 refl h.1).1 (inr x)))
  kept_and_new grows (more d ids children descendants rest) new (inl h) has =
      subst (HasUnder Own make) (sym h.3) (kept_first (λ x. (grows (record { compound = d; ids = ids; children = children; descendants = descendants }) h.1 h.0 h.2).1 x) has)
  kept_and_new grows (more d ids children descendants rest) new (inr h) has =
      subst (HasUnder Own make) (sym h.3) (kept_rest (λ x. kept_and_new grows rest h.1 h.2 x) has)

  pub at_root_has : (Own (make c) [] → New) → Grows → (old new : Forest) → AtRoot c R old new → HasUnder Own make new ↔ (HasUnder Own make old ⊎ New)
  at_root_has at_fresh grows old new h = (only_new at_fresh grows old new h, kept_and_new grows old new h)

-- what is new at a node, or under it
module _ (Own : Path → List ℕ → Type 0) (Here Below : Type 0) (make : Compound → Path) where
  only_child : {O A B A' : Type 0} → (A' → A ⊎ Below) → O ⊎ (A' ⊎ B) → (O ⊎ (A ⊎ B)) ⊎ (Here ⊎ Below)
  only_child f (inl o) = inl (inl o)
  only_child f (inr (inr b)) = inl (inr (inr b))
  only_child f (inr (inl a)) = go (f a)
    where
      go : {O A B : Type 0} → A ⊎ Below → (O ⊎ (A ⊎ B)) ⊎ (Here ⊎ Below)
      go (inl a) = inl (inr (inl a))
      go (inr n) = inr (inr n)

  only_descendant : {O A B B' : Type 0} → (B' → B ⊎ Below) → O ⊎ (A ⊎ B') → (O ⊎ (A ⊎ B)) ⊎ (Here ⊎ Below)
  only_descendant f (inl o) = inl (inl o)
  only_descendant f (inr (inl a)) = inl (inr (inl a))
  only_descendant f (inr (inr b)) = go (f b)
    where
      go : {O A B : Type 0} → B ⊎ Below → (O ⊎ (A ⊎ B)) ⊎ (Here ⊎ Below)
      go (inl b) = inl (inr (inr b))
      go (inr n) = inr (inr n)

  all_child : {O A B A' : Type 0} → (Here → O) → (A ⊎ Below → A') → (O ⊎ (A ⊎ B)) ⊎ (Here ⊎ Below) → O ⊎ (A' ⊎ B)
  all_child h f (inl (inl o)) = inl o
  all_child h f (inl (inr (inl a))) = inr (inl (f (inl a)))
  all_child h f (inl (inr (inr b))) = inr (inr b)
  all_child h f (inr (inl x)) = inl (h x)
  all_child h f (inr (inr x)) = inr (inl (f (inr x)))

  all_descendant : {O A B B' : Type 0} → (Here → O) → (B ⊎ Below → B') → (O ⊎ (A ⊎ B)) ⊎ (Here ⊎ Below) → O ⊎ (A ⊎ B')
  all_descendant h f (inl (inl o)) = inl o
  all_descendant h f (inl (inr (inl a))) = inr (inl a)
  all_descendant h f (inl (inr (inr b))) = inr (inr (f (inl b)))
  all_descendant h f (inr (inl x)) = inl (h x)
  all_descendant h f (inr (inr x)) = inr (inr (f (inr x)))

  pub grows_under : (step : Combinator) (R : Forest → Forest → Type 0) (n m : Node)
      → (Here → Own (make n.compound) n.ids)
      → ((old new : Forest) → R old new → HasUnder Own (Then (make n.compound) step) new ↔ (HasUnder Own (Then (make n.compound) step) old ⊎ Below))
      → Under step R n m → HasIn Own make m ↔ (HasIn Own make n ⊎ (Here ⊎ Below))
  grows_under Child R n m here law u =
      subst (λ (k : Node). HasIn Own make k ↔ (HasIn Own make n ⊎ (Here ⊎ Below))) (sym u.2)
      (only_child (λ x. (law n.children u.0 u.1).0 x), all_child here (λ x. (law n.children u.0 u.1).1 x))
  grows_under Descendant R n m here law u =
      subst (λ (k : Node). HasIn Own make k ↔ (HasIn Own make n ⊎ (Here ⊎ Below))) (sym u.2)
      (only_descendant (λ x. (law n.descendants u.0 u.1).0 x), all_descendant here (λ x. (law n.descendants u.0 u.1).1 x))

-- a node that takes an id, or none
takes_node : (make : Compound → Path) (path : Path) (id : Option ℕ) (n m : Node) → Takes id n m → HasIn (IsPlacedAt path) make m ↔ (HasIn (IsPlacedAt path) make n ⊎ (make n.compound ≡ path))
takes_node make path None n m t = subst (λ (k : Node). HasIn (IsPlacedAt path) make k ↔ (HasIn (IsPlacedAt path) make n ⊎ (make n.compound ≡ path))) (sym t) ((λ x. inl x), merge)
  where
    merge : {A B : Type 0} → (A ⊎ B) ⊎ A → A ⊎ B
    merge (inl x) = x
    merge (inr a) = inl a
takes_node make path (Some id) n m t =
    subst (λ (k : Node). HasIn (IsPlacedAt path) make k ↔ (HasIn (IsPlacedAt path) make n ⊎ (make n.compound ≡ path))) (sym t.2) ((λ x. inl x), merge)
  where
    merge : {A B : Type 0} → (A ⊎ B) ⊎ A → A ⊎ B
    merge (inl x) = x
    merge (inr a) = inl a

takes_pair : (make : Compound → Path) (path : Path) (x : ℕ) (id : Option ℕ) (n m : Node) → Takes id n m → HasIn (IsPair path x) make m ↔ (HasIn (IsPair path x) make n ⊎ ((make n.compound ≡ path) × (id ≡ Some x)))
takes_pair make path x None n m t =
    subst (λ (k : Node). HasIn (IsPair path x) make k ↔ (HasIn (IsPair path x) make n ⊎ ((make n.compound ≡ path) × (None ≡ Some x)))) (sym t) ((λ y. inl y), only)
  where
    never : None ≡ Some x → ⊥
    never e = cc

    only : {A B : Type 0} → A ⊎ (B × (None ≡ Some x)) → A
    only (inl y) = y
    only (inr e) = absurd (never e.1)
takes_pair make path x (Some id) n m t =
    subst (λ (k : Node). HasIn (IsPair path x) make k ↔ (HasIn (IsPair path x) make n ⊎ ((make n.compound ≡ path) × (Some id ≡ Some x)))) (sym t.2) (only (to (t.1 x).0), all (from (t.1 x).1))
  where
    to : {A B : Type 0} → (A → B ⊎ (id ≡ x)) → A → B ⊎ (Some id ≡ Some x)
    to {A} {B} f a = go (f a)
      where
        go : B ⊎ (id ≡ x) → B ⊎ (Some id ≡ Some x)
        go (inl b) = inl b
        go (inr e) = inr (ap Some e)

    from : {A B : Type 0} → (B ⊎ (id ≡ x) → A) → B ⊎ (Some id ≡ Some x) → A
    from f (inl b) = f (inl b)
    from f (inr e) = f (inr (cc))

    only : {E C C' I B : Type 0} → (C' → C ⊎ I) → (E × C') ⊎ B → ((E × C) ⊎ B) ⊎ (E × I)
    only f (inr b) = inl (inr b)
    only f (inl e) = go e.0 (f e.1)
      where
        go : {E C I B : Type 0} → E → C ⊎ I → ((E × C) ⊎ B) ⊎ (E × I)
        go e (inl c) = inl (inl (e, c))
        go e (inr i) = inr (e, i)

    all : {E C C' I B : Type 0} → (C ⊎ I → C') → ((E × C) ⊎ B) ⊎ (E × I) → (E × C') ⊎ B
    all f (inl (inl e)) = inl (e.0, f (inl e.1))
    all f (inl (inr b)) = inr b
    all f (inr e) = inl (e.0, f (inr e.1))

no_member : (x : ℕ) → Contains [] x → ⊥
no_member x h = omega (arith, h.1)

drop_never : {A B C : Type 0} → A ↔ (B ⊎ (⊥ ⊎ C)) → A ↔ (B ⊎ C)
drop_never {A} {B} {C} h = (λ a. to (h.0 a), λ x. h.1 (from x))
  where
    to : B ⊎ (⊥ ⊎ C) → B ⊎ C
    to (inl b) = inl b
    to (inr (inl x)) = absurd x
    to (inr (inr c)) = inr c

    from : B ⊎ C → B ⊎ (⊥ ⊎ C)
    from (inl b) = inl b
    from (inr c) = inr (inr c)

pub added_nodes : (id : Option ℕ) (make : Compound → Path) (path : Path) (c : Compound) (rest : List (Combinator × Compound)) (old new : Forest) → Adds id c rest old new → HasNode make new path ↔ (HasNode make old path ⊎ BringsNode make c rest path)
added_nodes id make path c [] old new h =
    at_root_has (IsPlacedAt path) (make c ≡ path) make c (Takes id) (λ own. own)
    (λ n m e t. subst (λ (d : Compound). HasIn (IsPlacedAt path) make m ↔ (HasIn (IsPlacedAt path) make n ⊎ (make d ≡ path))) e (takes_node make path id n m t))
    old new h
added_nodes id make path c (step ∷ rest) old new h =
    at_root_has (IsPlacedAt path) ((make c ≡ path) ⊎ BringsNode (Then (make c) step.0) step.1 rest path) make c (Under step.0 (Adds id step.1 rest)) (λ own. inl own)
    (λ n m e u. subst (λ (d : Compound). HasIn (IsPlacedAt path) make m ↔ (HasIn (IsPlacedAt path) make n ⊎ ((make d ≡ path) ⊎ BringsNode (Then (make d) step.0) step.1 rest path))) e
    (grows_under (IsPlacedAt path) (make n.compound ≡ path) (BringsNode (Then (make n.compound) step.0) step.1 rest path) make step.0 (Adds id step.1 rest) n m (λ x. x)
    (λ o w k. added_nodes id (Then (make n.compound) step.0) path step.1 rest o w k) u))
    old new h

pub added_pairs : (id : Option ℕ) (make : Compound → Path) (path : Path) (x : ℕ) (c : Compound) (rest : List (Combinator × Compound)) (old new : Forest) → Adds id c rest old new → HasPair make new path x ↔ (HasPair make old path x ⊎ BringsPair id make c rest path x)
added_pairs id make path x c [] old new h =
    at_root_has (IsPair path x) ((make c ≡ path) × (id ≡ Some x)) make c (Takes id) (λ own. absurd (no_member x own.1))
    (λ n m e t. subst (λ (d : Compound). HasIn (IsPair path x) make m ↔ (HasIn (IsPair path x) make n ⊎ ((make d ≡ path) × (id ≡ Some x)))) e (takes_pair make path x id n m t))
    old new h
added_pairs id make path x c (step ∷ rest) old new h =
    at_root_has (IsPair path x) (BringsPair id (Then (make c) step.0) step.1 rest path x) make c (Under step.0 (Adds id step.1 rest)) (λ own. absurd (no_member x own.1))
    (λ n m e u. subst (λ (d : Compound). HasIn (IsPair path x) make m ↔ (HasIn (IsPair path x) make n ⊎ BringsPair id (Then (make d) step.0) step.1 rest path x)) e
    (drop_never (grows_under (IsPair path x) ⊥ (BringsPair id (Then (make n.compound) step.0) step.1 rest path x) make step.0 (Adds id step.1 rest) n m (λ never. absurd never)
    (λ o w k. added_pairs id (Then (make n.compound) step.0) path x step.1 rest o w k) u)))
    old new h

with_never : {A B : Type 0} → A ≡ B → A ↔ (B ⊎ ⊥)
with_never {A} {B} e = subst (λ (T : Type 0). A ↔ (T ⊎ ⊥)) e ((λ a. inl a), from)
  where
    from : A ⊎ ⊥ → A
    from (inl a) = a
    from (inr x) = absurd x

without_never : {A B : Type 0} → A ↔ (B ⊎ ⊥) → A ↔ B
without_never {A} {B} h = (λ a. to (h.0 a), λ b. h.1 (inl b))
  where
    to : B ⊎ ⊥ → B
    to (inl b) = b
    to (inr x) = absurd x

pub first_nodes : (k : ℕ) (make : Compound → Path) (path : Path) (c : Compound) (rest : List (Combinator × Compound)) (old new : Forest) → AddsFirst k c rest old new → HasNode make new path ↔ (HasNode make old path ⊎ BringsFirst k make c rest path)
first_nodes zero make path c rest old new h = with_never (ap (λ f. HasNode make f path) h)
first_nodes (suc k) make path c [] old new h =
    at_root_has (IsPlacedAt path) (make c ≡ path) make c (λ n m. m ≡ n) (λ own. own)
    (λ n m e t. subst (λ (i : Node). HasIn (IsPlacedAt path) make i ↔ (HasIn (IsPlacedAt path) make n ⊎ (make c ≡ path))) (sym t)
    (subst (λ (d : Compound). HasIn (IsPlacedAt path) make n ↔ (HasIn (IsPlacedAt path) make n ⊎ (make d ≡ path))) e ((λ y. inl y), merge)))
    old new h
  where
    merge : {A B : Type 0} → (A ⊎ B) ⊎ A → A ⊎ B
    merge (inl y) = y
    merge (inr a) = inl a
first_nodes (suc k) make path c (step ∷ rest) old new h =
    at_root_has (IsPlacedAt path) ((make c ≡ path) ⊎ BringsFirst k (Then (make c) step.0) step.1 rest path) make c (Under step.0 (AddsFirst k step.1 rest)) (λ own. inl own)
    (λ n m e u. subst (λ (d : Compound). HasIn (IsPlacedAt path) make m ↔ (HasIn (IsPlacedAt path) make n ⊎ ((make d ≡ path) ⊎ BringsFirst k (Then (make d) step.0) step.1 rest path))) e
    (grows_under (IsPlacedAt path) (make n.compound ≡ path) (BringsFirst k (Then (make n.compound) step.0) step.1 rest path) make step.0 (AddsFirst k step.1 rest) n m (λ x. x)
    (λ o w t. first_nodes k (Then (make n.compound) step.0) path step.1 rest o w t) u))
    old new h

pub first_pairs : (k : ℕ) (make : Compound → Path) (path : Path) (x : ℕ) (c : Compound) (rest : List (Combinator × Compound)) (old new : Forest) → AddsFirst k c rest old new → HasPair make new path x ↔ (HasPair make old path x ⊎ ⊥)
first_pairs zero make path x c rest old new h = with_never (ap (λ f. HasPair make f path x) h)
first_pairs (suc k) make path x c [] old new h =
    at_root_has (IsPair path x) ⊥ make c (λ n m. m ≡ n) (λ own. no_member x own.1)
    (λ n m e t. with_never (ap (HasIn (IsPair path x) make) t))
    old new h
first_pairs (suc k) make path x c (step ∷ rest) old new h =
    at_root_has (IsPair path x) ⊥ make c (Under step.0 (AddsFirst k step.1 rest)) (λ own. no_member x own.1)
    (λ n m e u. drop_never (grows_under (IsPair path x) ⊥ ⊥ make step.0 (AddsFirst k step.1 rest) n m (λ never. absurd never)
    (λ o w t. first_pairs k (Then (make n.compound) step.0) path x step.1 rest o w t) u))
    old new h

pub has_added : (id : Option ℕ) (make : Compound → Path) (c : Compound) (rest : List (Combinator × Compound)) (old new : Forest) → Adds id c rest old new → HasAdded id make c rest old new
has_added id make c rest old new h =
    record { nodes = λ path. added_nodes id make path c rest old new h; pairs = λ path x. added_pairs id make path x c rest old new h }

pub has_added_first : (k : ℕ) (make : Compound → Path) (c : Compound) (rest : List (Combinator × Compound)) (old new : Forest) → AddsFirst k c rest old new → HasAddedFirst k make c rest old new
has_added_first k make c rest old new h =
    record { nodes = λ path. first_nodes k make path c rest old new h; pairs = λ path x. without_never (first_pairs k make path x c rest old new h) }

-- siblings still differ
abbrev DifferIn : Node → Type 0
DifferIn n = SiblingsDiffer n.children × SiblingsDiffer n.descendants

module _ (c : Compound) (R : Node → Node → Type 0) (same : (n m : Node) → R n m → m.compound ≡ n.compound) where
  tops_kept : (x : Compound) (old new : Forest) → AtRoot c R old new → HasTop x new → HasTop x old ⊎ (c ≡ x)
  tops_kept x none new h top = go (subst (HasTop x) h.2 top)
    where
      go : HasTop x (link h.0 none) → ⊥ ⊎ (c ≡ x)
      go (inl e) = inr (sym (same (fresh c) h.0 h.1) ∙ e)
      go (inr never) = absurd never
  tops_kept x (more d ids children descendants rest) new (inl h) top = go (subst (HasTop x) h.3 top)
    where
      go : HasTop x (link h.1 rest) → ((d ≡ x) ⊎ HasTop x rest) ⊎ (c ≡ x)
      go (inl e) = inl (inl (sym (same _ h.1 h.2) ∙ e))
      go (inr t) = inl (inr t)
  tops_kept x (more d ids children descendants rest) new (inr h) top = only_rest (λ t. tops_kept x rest h.1 h.2 t) (subst (HasTop x) h.3 top)

  at_root_differ : ((n m : Node) → R n m → DifferIn n → DifferIn m) → (old new : Forest) → AtRoot c R old new → SiblingsDiffer old → SiblingsDiffer new
  at_root_differ law none new h differ = subst SiblingsDiffer (sym h.2) (λ never. never, ((law (fresh c) h.0 h.1 (tt, tt)).0, ((law (fresh c) h.0 h.1 (tt, tt)).1, tt)))
  at_root_differ law (more d ids children descendants rest) new (inl h) differ =
      let under = law _ h.1 h.2 (differ.1.0, differ.1.1.0) in
      subst SiblingsDiffer (sym h.3) (subst (λ (e : Compound). HasTop e rest → ⊥) (sym (same _ h.1 h.2)) differ.0, (under.0, (under.1, differ.1.1.1)))
  at_root_differ law (more d ids children descendants rest) new (inr h) differ =
      subst SiblingsDiffer (sym h.3) (λ top. ⊎_elim differ.0 (λ e. h.0 (sym e)) (tops_kept d rest h.1 h.2 top), (differ.1.0, (differ.1.1.0, at_root_differ law rest h.1 h.2 differ.1.1.1)))

pub under_same : (step : Combinator) (R : Forest → Forest → Type 0) (n m : Node) → Under step R n m → m.compound ≡ n.compound
under_same Child R n m u = ap (λ k. k.compound) u.2
under_same Descendant R n m u = ap (λ k. k.compound) u.2

under_differ : (step : Combinator) (R : Forest → Forest → Type 0) → ((old new : Forest) → R old new → SiblingsDiffer old → SiblingsDiffer new) → (n m : Node) → Under step R n m → DifferIn n → DifferIn m
under_differ Child R law n m u d = subst DifferIn (sym u.2) (law n.children u.0 u.1 d.0, d.1)
under_differ Descendant R law n m u d = subst DifferIn (sym u.2) (d.0, law n.descendants u.0 u.1 d.1)

pub takes_same : (id : Option ℕ) (n m : Node) → Takes id n m → m.compound ≡ n.compound
takes_same None n m t = ap (λ k. k.compound) t
takes_same (Some id) n m t = ap (λ k. k.compound) t.2

takes_differ : (id : Option ℕ) (n m : Node) → Takes id n m → DifferIn n → DifferIn m
takes_differ None n m t d = subst DifferIn (sym t) d
takes_differ (Some id) n m t d = subst DifferIn (sym t.2) d

pub added_differ : (id : Option ℕ) (c : Compound) (rest : List (Combinator × Compound)) (old new : Forest) → Adds id c rest old new → SiblingsDiffer old → SiblingsDiffer new
added_differ id c [] old new h d = at_root_differ c (Takes id) (takes_same id) (takes_differ id) old new h d
added_differ id c (step ∷ rest) old new h d =
    at_root_differ c (Under step.0 (Adds id step.1 rest)) (under_same step.0 (Adds id step.1 rest)) (under_differ step.0 (Adds id step.1 rest) (λ o w k. added_differ id step.1 rest o w k)) old new h d

pub first_differ : (k : ℕ) (c : Compound) (rest : List (Combinator × Compound)) (old new : Forest) → AddsFirst k c rest old new → SiblingsDiffer old → SiblingsDiffer new
first_differ zero c rest old new h d = subst SiblingsDiffer (sym h) d
first_differ (suc k) c [] old new h d = at_root_differ c (λ n m. m ≡ n) (λ n m t. ap (λ k. k.compound) t) (λ n m t d. subst DifferIn (sym t) d) old new h d
first_differ (suc k) c (step ∷ rest) old new h d =
    at_root_differ c (Under step.0 (AddsFirst k step.1 rest)) (under_same step.0 (AddsFirst k step.1 rest)) (under_differ step.0 (AddsFirst k step.1 rest) (λ o w t. first_differ k step.1 rest o w t)) old new h d
