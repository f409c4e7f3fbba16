-- Each node has a path of its own.
use Rattle.std.proofs.Common.{ℕ, zero, suc, ◌<◌, ◌≤◌, ◌≡◌, ◌≢◌, inl, inr, ⊎_elim, List, [], ◌∷◌, ◌++◌, length, arith, refl, sym, ap, subst, ◌∙◌}
use Rattle.std.specs.Prelude.{AllPairs}
use Rattle.std.proofs.lemmas.List.{get_or_default}
use Rattle.lol_css.specs.declared.selector.Combinator.{Combinator}
use Rattle.lol_css.specs.declared.selector.Combinator.TheVariants.{Child, Descendant}
use Rattle.lol_instructions.specs.Compounds.{Compound}
use Rattle.lol_program.specs.Paths.{Path, First, Then, beginnings}
use Rattle.lol_program.specs.Forest.{Forest, none, more, tops, below, nodes_in, HasTop, SiblingsDiffer}
use Rattle.lol_program.specs.NodeMemberLaws.{HasNode}
use Rattle.lol_program.specs.NodeListLaws.{among_below, node_of_list}
use Rattle.lol_base.specs.MemberLaws.{Among, Distinct, among_from_contains, among_either}

-- 1. Lists

Distinct-append : {T : Type 0} (xs ys : List T) → Distinct xs → Distinct ys → ((x : T) → Among xs x → Among ys x → ⊥) → Distinct (xs ++ ys)
Distinct-append [] ys dx dy apart = dy
Distinct-append (x ∷ xs) ys dx dy apart = (
  λ h. ⊎_elim (λ (a : Among xs x). dx.0 a) (λ (a : Among ys x). apart x (inl refl) a) (among_either xs ys x h),
  Distinct-append xs ys dx.1 dy (λ y a b. apart y (inr a) b),
)

pub AllPairs-from_Distinct : {T : Type 0} (xs : List T) → Distinct xs → AllPairs (λ a b. a ≢ b) xs
AllPairs-from_Distinct [] h i j d less within = absurd (omega (arith, within))
AllPairs-from_Distinct (x ∷ xs) h zero zero d less within = absurd (omega (arith, less))
AllPairs-from_Distinct (x ∷ xs) h zero (suc j) d less within = λ e.
    let w : j < length xs = omega (arith, within) in
    h.0 (among_from_contains xs x (j, w, get_or_default xs j x d w ∙ sym e))
AllPairs-from_Distinct (x ∷ xs) h (suc i) zero d less within = absurd (omega (arith, less))
AllPairs-from_Distinct (x ∷ xs) h (suc i) (suc j) d less within = AllPairs-from_Distinct xs h.1 i j d (omega (arith, less)) (omega (arith, within))

-- 2. Beginnings

abbrev depth : Path → ℕ
depth (First c) = 1
depth (Then front step c) = suc (depth front)

no_deeper : (path q : Path) → Among (beginnings path) q → depth q ≤ depth path
no_deeper (First c) q (inl is) = subst (λ (p : Path). depth p ≤ 1) is (omega arith)
no_deeper (First c) q (inr h) = absurd h
no_deeper (Then front step c) q (inl is) = subst (λ (p : Path). depth p ≤ suc (depth front)) is (omega arith)
no_deeper (Then front step c) q (inr h) = omega (arith, no_deeper front q h)

-- one of each depth
one_depth : (path q r : Path) → Among (beginnings path) q → Among (beginnings path) r → depth q ≡ depth r → q ≡ r
one_depth (First c) q r (inl a) (inl b) e = sym a ∙ b
one_depth (First c) q r (inr a) b e = absurd a
one_depth (First c) q r (inl a) (inr b) e = absurd b
one_depth (Then front step c) q r (inl a) (inl b) e = sym a ∙ b
one_depth (Then front step c) q r (inl a) (inr b) e = absurd (omega (arith, ap depth a, no_deeper front r b, e))
one_depth (Then front step c) q r (inr a) (inl b) e = absurd (omega (arith, ap depth b, no_deeper front q a, e))
one_depth (Then front step c) q r (inr a) (inr b) e = one_depth front q r a b e

pub begins_itself : (path : Path) → Among (beginnings path) path
begins_itself (First c) = inl refl
begins_itself (Then front step c) = inl refl

pub front_begins : (path front : Path) (step : Combinator) (c : Compound) → Among (beginnings path) (Then front step c) → Among (beginnings path) front
front_begins (First d) front step c (inl is) = cc
front_begins (First d) front step c (inr h) = absurd h
front_begins (Then f s d) front step c (inl is) = let same : f ≡ front = cc in inr (subst (Among (beginnings f)) same (begins_itself f))
front_begins (Then f s d) front step c (inr h) = inr (front_begins f front step c h)

-- a node begins with a root
begins : (make : Compound → Path) (f : Forest) (path : Path) → HasNode make f path → (d : Compound) × (HasTop d f × Among (beginnings path) (make d))
begins make none path h = absurd h
begins make (more c ids children descendants rest) path (inl (inl is)) = (c, (inl refl, subst (λ (p : Path). Among (beginnings p) (make c)) is (begins_itself (make c))))
begins make (more c ids children descendants rest) path (inl (inr (inl h))) = let b = begins (Then (make c) Child) children path h in (c, (inl refl, front_begins path (make c) Child b.0 b.1.1))
begins make (more c ids children descendants rest) path (inl (inr (inr h))) = let b = begins (Then (make c) Descendant) descendants path h in (c, (inl refl, front_begins path (make c) Descendant b.0 b.1.1))
begins make (more c ids children descendants rest) path (inr h) = let b = begins make rest path h in (b.0, (inr b.1.0, b.1.1))

-- 3. Nodes

module _ (make : Compound → Path) (n : ℕ) (len : (c : Compound) → depth (make c) ≡ n) (same : (a b : Compound) → make a ≡ make b → a ≡ b) where
  top_is : (f : Forest) (path : Path) → Among (tops make f) path → (d : Compound) × (HasTop d f × (make d ≡ path))
  top_is none path h = absurd h
  top_is (more c ids children descendants rest) path (inl is) = (c, (inl refl, is))
  top_is (more c ids children descendants rest) path (inr h) = let t = top_is rest path h in (t.0, (inr t.1.0, t.1.1))

  top_depth : (f : Forest) (path : Path) → Among (tops make f) path → depth path ≡ n
  top_depth f path h = let t = top_is f path h in subst (λ (p : Path). depth p ≡ n) t.1.1 (len t.0)

  tops_distinct : (f : Forest) → SiblingsDiffer f → Distinct (tops make f)
  tops_distinct none d = tt
  tops_distinct (more c ids children descendants rest) d = (
    λ h. let t = top_is rest (make c) h in d.0 (subst (λ (e : Compound). HasTop e rest) (same t.0 c t.1.1) t.1.0),
    tops_distinct rest d.1.1.1,
  )

  deeper : (c : Compound) (step : Combinator) (f : Forest) (path : Path) → HasNode (Then (make c) step) f path → suc n ≤ depth path
  deeper c step f path h = let b = begins (Then (make c) step) f path h in omega (arith, no_deeper path (Then (make c) step b.0) b.1.1, len c)

  below_depth : (f : Forest) (path : Path) → Among (below make f) path → suc n ≤ depth path
  below_depth none path h = absurd h
  below_depth (more c ids children descendants rest) path h =
      let mc = Then (make c) Child in
      let md = Then (make c) Descendant in
      ⊎_elim
      (λ (a : Among (tops mc children ++ below mc children) path). deeper c Child children path (node_of_list mc children path a))
      (λ (b : Among ((tops md descendants ++ below md descendants) ++ below make rest) path). ⊎_elim
      (λ (a : Among (tops md descendants ++ below md descendants) path). deeper c Descendant descendants path (node_of_list md descendants path a))
      (λ (r : Among (below make rest) path). below_depth rest path r)
      (among_either (tops md descendants ++ below md descendants) (below make rest) path b))
      (among_either (tops mc children ++ below mc children) ((tops md descendants ++ below md descendants) ++ below make rest) path h)

  tops_apart : (f : Forest) (path : Path) → Among (tops make f) path → Among (below make f) path → ⊥
  tops_apart f path a b = omega (arith, top_depth f path a, below_depth f path b)

  steps_apart : (c : Compound) (f g : Forest) (path : Path) → HasNode (Then (make c) Child) f path → HasNode (Then (make c) Descendant) g path → ⊥
  steps_apart c f g path a b =
      let x = begins (Then (make c) Child) f path a in
      let y = begins (Then (make c) Descendant) g path b in
      let e = one_depth path (Then (make c) Child x.0) (Then (make c) Descendant y.0) x.1.1 y.1.1 refl in
      never e
    where
      never : {a b : Compound} → Then (make c) Child a ≡ Then (make c) Descendant b → ⊥
      never e = cc

  rest_apart : (c : Compound) (step : Combinator) (f rest : Forest) (path : Path) → (HasTop c rest → ⊥) → HasNode (Then (make c) step) f path → HasNode make rest path → ⊥
  rest_apart c step f rest path other a b =
      let x = begins (Then (make c) step) f path a in
      let y = begins make rest path b in
      let e = one_depth path (make c) (make y.0) (front_begins path (make c) step x.0 x.1.1) y.1.1 (len c ∙ sym (len y.0)) in
      other (subst (λ (d : Compound). HasTop d rest) (sym (same c y.0 e)) y.1.0)

next_len : (make : Compound → Path) (n : ℕ) → ((c : Compound) → depth (make c) ≡ n) → (c : Compound) (step : Combinator) (d : Compound) → depth (Then (make c) step d) ≡ suc n
next_len make n len c step d = ap suc (len c)

next_same : (make : Compound → Path) (c : Compound) (step : Combinator) (a b : Compound) → Then (make c) step a ≡ Then (make c) step b → a ≡ b
next_same make c step a b e = cc

below_distinct : (make : Compound → Path) (n : ℕ) → ((c : Compound) → depth (make c) ≡ n) → ((a b : Compound) → make a ≡ make b → a ≡ b) → (f : Forest) → SiblingsDiffer f → Distinct (below make f)
below_distinct make n len same none d = tt
below_distinct make n len same (more c ids children descendants rest) d =
    let mc = Then (make c) Child in
    let md = Then (make c) Descendant in
    let lc = next_len make n len c Child in
    let ld = next_len make n len c Descendant in
    let sc = next_same make c Child in
    let sd = next_same make c Descendant in
    let a = tops mc children ++ below mc children in
    let b = tops md descendants ++ below md descendants in
    let r = below make rest in
    let da = Distinct-append (tops mc children) (below mc children) (tops_distinct mc (suc n) lc sc children d.1.0) (below_distinct mc (suc n) lc sc children d.1.0) (tops_apart mc (suc n) lc sc children) in
    let db = Distinct-append (tops md descendants) (below md descendants) (tops_distinct md (suc n) ld sd descendants d.1.1.0) (below_distinct md (suc n) ld sd descendants d.1.1.0) (tops_apart md (suc n) ld sd descendants) in
    Distinct-append a (b ++ r) da
    (Distinct-append b r db (below_distinct make n len same rest d.1.1.1)
    (λ path x y. rest_apart make n len same c Descendant descendants rest path d.0 (node_of_list md descendants path x) (among_below make rest path y)))
    (λ path x y. ⊎_elim
    (λ (z : Among b path). steps_apart make n len same c children descendants path (node_of_list mc children path x) (node_of_list md descendants path z))
    (λ (z : Among r path). rest_apart make n len same c Child children rest path d.0 (node_of_list mc children path x) (among_below make rest path z))
    (among_either b r path y))

first_same : (a b : Compound) → First a ≡ First b → a ≡ b
first_same a b e = cc

-- Each node has a path of its own.
pub nodes_distinct : (f : Forest) → SiblingsDiffer f → Distinct (nodes_in First f)
nodes_distinct f d =
    Distinct-append (tops First f) (below First f) (tops_distinct First 1 (λ c. refl) first_same f d) (below_distinct First 1 (λ c. refl) first_same f d) (tops_apart First 1 (λ c. refl) first_same f)
