-- What a forest has stands in the lists of its nodes and pairs, and nothing else does.
use Rattle.std.proofs.Common.{ℕ, zero, suc, length, length-append, arith, ◌≡◌, ◌↔◌, ◌⊎◌, inl, inr, ⊎_elim, map, List, [], ◌∷◌, ◌++◌, Option, Some, None, refl, sym, ap, subst}
use Rattle.std.specs.Prelude.{Contains}
use Rattle.lol_css.specs.declared.selector.Combinator.{Combinator}
use Rattle.lol_css.specs.declared.selector.Combinator.TheVariants.{Child, Descendant}
use Rattle.lol_instructions.specs.Compounds.{Compound}
use Rattle.lol_program.specs.Paths.{Path, First, Then, extended, beginnings}
use Rattle.lol_program.specs.Forest.{Forest, none, more, size, tops, below, nodes_in, pairs_in}
use Rattle.lol_program.specs.NodeMemberLaws.{HasNode, HasPair, BringsNode, BringsPair, BringsFirst}
use Rattle.lol_base.specs.MemberLaws.{Among, among_from_contains, contains_from_among, among_front, among_back, among_either}
use Rattle.lol_program.specs.IdsForNodes.{pairs_with}

-- 1. Nodes

node_among : (make : Compound → Path) (f : Forest) (path : Path) → HasNode make f path → Among (tops make f) path ⊎ Among (below make f) path
node_among make none path h = absurd h
node_among make (more c ids children descendants rest) path (inl (inl is)) = inl (inl is)
node_among make (more c ids children descendants rest) path (inl (inr (inl h))) =
    let mc = Then (make c) Child in
    let md = Then (make c) Descendant in
    inr (among_front (tops mc children ++ below mc children) ((tops md descendants ++ below md descendants) ++ below make rest) path
    (⊎_elim (λ (a : Among (tops mc children) path). among_front (tops mc children) (below mc children) path a) (λ (a : Among (below mc children) path). among_back (tops mc children) (below mc children) path a) (node_among mc children path h)))
node_among make (more c ids children descendants rest) path (inl (inr (inr h))) =
    let mc = Then (make c) Child in
    let md = Then (make c) Descendant in
    inr (among_back (tops mc children ++ below mc children) ((tops md descendants ++ below md descendants) ++ below make rest) path
    (among_front (tops md descendants ++ below md descendants) (below make rest) path
    (⊎_elim (λ (a : Among (tops md descendants) path). among_front (tops md descendants) (below md descendants) path a) (λ (a : Among (below md descendants) path). among_back (tops md descendants) (below md descendants) path a) (node_among md descendants path h))))
node_among make (more c ids children descendants rest) path (inr h) =
    let mc = Then (make c) Child in
    let md = Then (make c) Descendant in
    ⊎_elim
    (λ (a : Among (tops make rest) path). inl (inr a))
    (λ (a : Among (below make rest) path). inr (among_back (tops mc children ++ below mc children) ((tops md descendants ++ below md descendants) ++ below make rest) path (among_back (tops md descendants ++ below md descendants) (below make rest) path a)))
    (node_among make rest path h)

pub among_top : (make : Compound → Path) (f : Forest) (path : Path) → Among (tops make f) path → HasNode make f path
among_top make none path h = absurd h
among_top make (more c ids children descendants rest) path (inl is) = inl (inl is)
among_top make (more c ids children descendants rest) path (inr h) = inr (among_top make rest path h)

pub among_below : (make : Compound → Path) (f : Forest) (path : Path) → Among (below make f) path → HasNode make f path
among_below make none path h = absurd h
among_below make (more c ids children descendants rest) path h =
    let mc = Then (make c) Child in
    let md = Then (make c) Descendant in
    ⊎_elim
    (λ (a : Among (tops mc children ++ below mc children) path). inl (inr (inl (⊎_elim (λ (t : Among (tops mc children) path). among_top mc children path t) (λ (t : Among (below mc children) path). among_below mc children path t) (among_either (tops mc children) (below mc children) path a)))))
    (λ (b : Among ((tops md descendants ++ below md descendants) ++ below make rest) path). ⊎_elim
    (λ (a : Among (tops md descendants ++ below md descendants) path). inl (inr (inr (⊎_elim (λ (t : Among (tops md descendants) path). among_top md descendants path t) (λ (t : Among (below md descendants) path). among_below md descendants path t) (among_either (tops md descendants) (below md descendants) path a)))))
    (λ (r : Among (below make rest) path). inr (among_below make rest path r))
    (among_either (tops md descendants ++ below md descendants) (below make rest) path b))
    (among_either (tops mc children ++ below mc children) ((tops md descendants ++ below md descendants) ++ below make rest) path h)

pub nodes_listed : (make : Compound → Path) (f : Forest) (path : Path) → Contains (nodes_in make f) path ↔ HasNode make f path
nodes_listed make f path = (
  λ h. ⊎_elim (λ (t : Among (tops make f) path). among_top make f path t) (λ (t : Among (below make f) path). among_below make f path t) (among_either (tops make f) (below make f) path (among_from_contains (nodes_in make f) path h)),
  λ h. contains_from_among (nodes_in make f) path
      (⊎_elim (λ (t : Among (tops make f) path). among_front (tops make f) (below make f) path t) (λ (t : Among (below make f) path). among_back (tops make f) (below make f) path t) (node_among make f path h)),
)

-- 2. Pairs

own_to : (at : Path) (pair : Path × ℕ) (ids : List ℕ) → Among (map (λ n. (at, n)) ids) pair → (at ≡ pair.0) × Among ids pair.1
own_to at pair [] h = absurd h
own_to at pair (n ∷ ids) (inl is) = (ap (λ (p : Path × ℕ). p.0) is, inl (ap (λ (p : Path × ℕ). p.1) is))
own_to at pair (n ∷ ids) (inr h) = let r = own_to at pair ids h in (r.0, inr r.1)

own_from : (at : Path) (pair : Path × ℕ) (ids : List ℕ) → at ≡ pair.0 → Among ids pair.1 → Among (map (λ n. (at, n)) ids) pair
own_from at pair [] e h = absurd h
own_from at pair (n ∷ ids) e (inl s) = inl (λ i. (e i, s i))
own_from at pair (n ∷ ids) e (inr h) = inr (own_from at pair ids e h)

pair_to : (make : Compound → Path) (f : Forest) (pair : Path × ℕ) → Among (pairs_in make f) pair → HasPair make f pair.0 pair.1
pair_to make none pair h = absurd h
pair_to make (more c ids children descendants rest) pair h =
    let mc = Then (make c) Child in
    let md = Then (make c) Descendant in
    let own : List (Path × ℕ) = map (λ n. (make c, n)) ids in
    ⊎_elim
    (λ (a : Among own pair). let o = own_to (make c) pair ids a in inl (inl (o.0, contains_from_among ids pair.1 o.1)))
    (λ (a : Among (pairs_in mc children ++ (pairs_in md descendants ++ pairs_in make rest)) pair). ⊎_elim
    (λ (b : Among (pairs_in mc children) pair). inl (inr (inl (pair_to mc children pair b))))
    (λ (b : Among (pairs_in md descendants ++ pairs_in make rest) pair). ⊎_elim
    (λ (d : Among (pairs_in md descendants) pair). inl (inr (inr (pair_to md descendants pair d))))
    (λ (d : Among (pairs_in make rest) pair). inr (pair_to make rest pair d))
    (among_either (pairs_in md descendants) (pairs_in make rest) pair b))
    (among_either (pairs_in mc children) (pairs_in md descendants ++ pairs_in make rest) pair a))
    (among_either own (pairs_in mc children ++ (pairs_in md descendants ++ pairs_in make rest)) pair h)

pair_from : (make : Compound → Path) (f : Forest) (pair : Path × ℕ) → HasPair make f pair.0 pair.1 → Among (pairs_in make f) pair
pair_from make none pair h = absurd h
pair_from make (more c ids children descendants rest) pair (inl (inl o)) = among_front (map (λ n. (make c, n)) ids) _ pair (own_from (make c) pair ids o.0 (among_from_contains ids pair.1 o.1))
pair_from make (more c ids children descendants rest) pair (inl (inr (inl h))) =
    among_back (map (λ n. (make c, n)) ids) _ pair (among_front (pairs_in (Then (make c) Child) children) _ pair (pair_from (Then (make c) Child) children pair h))
pair_from make (more c ids children descendants rest) pair (inl (inr (inr h))) =
    among_back (map (λ n. (make c, n)) ids) _ pair (among_back (pairs_in (Then (make c) Child) children) _ pair (among_front (pairs_in (Then (make c) Descendant) descendants) _ pair (pair_from (Then (make c) Descendant) descendants pair h)))
pair_from make (more c ids children descendants rest) pair (inr h) =
    among_back (map (λ n. (make c, n)) ids) _ pair (among_back (pairs_in (Then (make c) Child) children) _ pair (among_back (pairs_in (Then (make c) Descendant) descendants) _ pair (pair_from make rest pair h)))

pub pairs_listed : (make : Compound → Path) (f : Forest) (pair : Path × ℕ) → Contains (pairs_in make f) pair ↔ HasPair make f pair.0 pair.1
pairs_listed make f pair = (λ h. pair_to make f pair (among_from_contains (pairs_in make f) pair h), λ h. contains_from_among (pairs_in make f) pair (pair_from make f pair h))

-- 3. What a path brings

brings_to : (make : Compound → Path) (front : List Path) → ((c : Compound) → beginnings (make c) ≡ make c ∷ front) → (c : Compound) (rest : List (Combinator × Compound)) (path : Path)
    → Among (beginnings (extended (make c) rest)) path → BringsNode make c rest path ⊎ Among front path
brings_to make front e c [] path h = subst (λ (l : List Path). Among l path) (e c) h
brings_to make front e c (step ∷ rest) path h =
    ⊎_elim
    (λ (b : BringsNode (Then (make c) step.0) step.1 rest path). inl (inr b))
    (λ (b : Among (beginnings (make c)) path). ⊎_elim (λ (d : make c ≡ path). inl (inl d)) (λ (d : Among front path). inr d) (subst (λ (l : List Path). Among l path) (e c) b))
    (brings_to (Then (make c) step.0) (beginnings (make c)) (λ d. refl) step.1 rest path h)

brings_from : (make : Compound → Path) (front : List Path) → ((c : Compound) → beginnings (make c) ≡ make c ∷ front) → (c : Compound) (rest : List (Combinator × Compound)) (path : Path)
    → BringsNode make c rest path ⊎ Among front path → Among (beginnings (extended (make c) rest)) path
brings_from make front e c [] path h = subst (λ (l : List Path). Among l path) (sym (e c)) h
brings_from make front e c (step ∷ rest) path (inl (inl h)) =
    brings_from (Then (make c) step.0) (beginnings (make c)) (λ d. refl) step.1 rest path (inr (subst (λ (l : List Path). Among l path) (sym (e c)) (inl h)))
brings_from make front e c (step ∷ rest) path (inl (inr h)) = brings_from (Then (make c) step.0) (beginnings (make c)) (λ d. refl) step.1 rest path (inl h)
brings_from make front e c (step ∷ rest) path (inr h) =
    brings_from (Then (make c) step.0) (beginnings (make c)) (λ d. refl) step.1 rest path (inr (subst (λ (l : List Path). Among l path) (sym (e c)) (inr h)))

pub brings_beginnings : (c : Compound) (rest : List (Combinator × Compound)) (path : Path) → BringsNode First c rest path ↔ Contains (beginnings (extended (First c) rest)) path
brings_beginnings c rest path = (
  λ h. contains_from_among (beginnings (extended (First c) rest)) path (brings_from First [] (λ d. refl) c rest path (inl h)),
  λ h. ⊎_elim (λ (b : BringsNode First c rest path). b) (λ (never : ⊥). absurd never) (brings_to First [] (λ d. refl) c rest path (among_from_contains (beginnings (extended (First c) rest)) path h)),
)

pub first_brings : (k : ℕ) (make : Compound → Path) (c : Compound) (rest : List (Combinator × Compound)) (path : Path) → BringsFirst k make c rest path → BringsNode make c rest path
first_brings zero make c rest path h = absurd h
first_brings (suc k) make c [] path h = h
first_brings (suc k) make c (step ∷ rest) path (inl h) = inl h
first_brings (suc k) make c (step ∷ rest) path (inr h) = inr (first_brings k (Then (make c) step.0) step.1 rest path h)

brings_pair : (id : Option ℕ) (make : Compound → Path) (c : Compound) (rest : List (Combinator × Compound)) (path : Path) (x : ℕ) → BringsPair id make c rest path x ≡ ((extended (make c) rest ≡ path) × (id ≡ Some x))
brings_pair id make c [] path x = refl
brings_pair id make c (step ∷ rest) path x = brings_pair id (Then (make c) step.0) step.1 rest path x

given_pair : (id : Option ℕ) (path : Path) (pair : Path × ℕ) → ((path ≡ pair.0) × (id ≡ Some pair.1)) ↔ Among (pairs_with id path) pair
given_pair None path pair = (λ h. absurd (never h.1), λ h. absurd h)
  where
    never : None ≡ Some pair.1 → ⊥
    never e = cc
given_pair (Some id) path pair = (λ h. inl (λ i. (h.0 i, same h.1 i)), from)
  where
    same : Some id ≡ Some pair.1 → id ≡ pair.1
    same e = cc

    from : Among ((path, id) ∷ []) pair → (path ≡ pair.0) × (Some id ≡ Some pair.1)
    from (inl is) = (ap (λ (p : Path × ℕ). p.0) is, ap (λ (p : Path × ℕ). Some p.1) is)
    from (inr never) = absurd never

pub brings_given : (id : Option ℕ) (c : Compound) (rest : List (Combinator × Compound)) (pair : Path × ℕ) → BringsPair id First c rest pair.0 pair.1 ↔ Contains (pairs_with id (extended (First c) rest)) pair
brings_given id c rest pair =
    let path = extended (First c) rest in
    let both = given_pair id path pair in
    subst (λ (T : Type 0). T ↔ Contains (pairs_with id path) pair) (sym (brings_pair id First c rest pair.0 pair.1))
    (λ h. contains_from_among (pairs_with id path) pair (both.0 h), λ h. both.1 (among_from_contains (pairs_with id path) pair h))

-- 4. How many nodes

pub size-nodes : (make : Compound → Path) (f : Forest) → length (nodes_in make f) ≡ size f
size-nodes make none = refl
size-nodes make (more c ids children descendants rest) =
    let mc = Then (make c) Child in
    let md = Then (make c) Descendant in
    omega (
      arith,
      length-append (make c ∷ tops make rest) ((tops mc children ++ below mc children) ++ ((tops md descendants ++ below md descendants) ++ below make rest)),
      length-append (tops mc children ++ below mc children) ((tops md descendants ++ below md descendants) ++ below make rest),
      length-append (tops md descendants ++ below md descendants) (below make rest),
      length-append (tops make rest) (below make rest),
      size-nodes mc children,
      size-nodes md descendants,
      size-nodes make rest,
    )

pub node_of_list : (make : Compound → Path) (f : Forest) (path : Path) → Among (tops make f ++ below make f) path → HasNode make f path
node_of_list make f path h = ⊎_elim (λ (t : Among (tops make f) path). among_top make f path t) (λ (t : Among (below make f) path). among_below make f path t) (among_either (tops make f) (below make f) path h)
