-- A path that stands.
use Rattle.std.proofs.Common.{ℕ, zero, suc, ◌≡◌, ◌↔◌, length, inl, inr, arith, ◌∷◌, map, get_or, List, [], Option, None, Some, refl, ap, sym, subst, ◌∙◌}
use Rattle.std.proofs.lemmas.List.{get_or-map}
use Rattle.lol_memory.specs.Ids.{Ids, ascending}
use Rattle.lol_css.specs.declared.selector.Combinator.{Combinator}
use Rattle.lol_css.specs.declared.selector.Combinator.TheVariants.{Child, Descendant}
use Rattle.lol_instructions.specs.Compounds.{Compound}
use Rattle.lol_program.specs.Forest.{Node, Forest, none, more}
use Rattle.lol_program.specs.Growth.{fresh, AtRoot, Takes, Under, grown_under, Adds, AddsFirst, AtTop, StandsWith, StandsUnder, IsWith}
use Rattle.lol_program.specs.Indices.{IsIndex, HasIndex, IsNowhere}
use Rattle.lol_program.specs.IdsForNodes.{SetTakes}
use Rattle.lol_program.specs.Views.{node_of, forest_of, linked, steps_of, tests_of_compound}
use Rattle.lol_css.specs.declared.selector.Compound as css
use Rattle.lol_program.specs.declared.ast_node.AstNode.{AstNode}
use Rattle.lol_program.specs.declared.ast_node.AstNode.TheViews.{out-AstNode}
use Rattle.lol_program.specs.NodeViewLaws.{shape, node_out}
use Rattle.lol_program.specs.IdSetLaws.{with_id-IsWith}
use Rattle.lol_program.proofs.Placed.{index_within}
use Rattle.lol_program.proofs.Grown.{under_same, takes_same}

-- a node's set that takes an id, or none
pub SetTakes-Takes : (id : Option ℕ) (c : Compound) (old new : Ids) (children descendants : Forest) → SetTakes id old new
    → Takes id (record { compound = c; ids = ascending old; children = children; descendants = descendants }) (record { compound = c; ids = ascending new; children = children; descendants = descendants })
SetTakes-Takes None c old new children descendants g = λ i. record { compound = c; ids = ascending (g i); children = children; descendants = descendants }
SetTakes-Takes (Some id) c old new children descendants g = (ascending new, subst (λ (s : Ids). IsWith id (ascending old) (ascending s)) (sym g) (with_id-IsWith old id), refl)

module _ (c : Compound) (P : Node → Type 0) where
  at_top_nowhere : (nodes : List Node) → IsNowhere c nodes → AtTop c P (linked nodes) → ⊥
  at_top_nowhere [] nowhere t = t
  at_top_nowhere (n ∷ nodes) nowhere (inl h) = nowhere 0 n (omega arith) h.0
  at_top_nowhere (n ∷ nodes) nowhere (inr h) = at_top_nowhere nodes (λ k d l. nowhere (suc k) d (omega (arith, l))) h.1

  at_top_index : (nodes : List Node) (i : ℕ) (d : Node) → IsIndex c nodes i → AtTop c P (linked nodes) → P (get_or nodes i d)
  at_top_index [] i d p t = absurd t
  at_top_index (n ∷ nodes) zero d p (inl h) = h.1
  at_top_index (n ∷ nodes) zero d p (inr h) = absurd (h.0 (p.here d))
  at_top_index (n ∷ nodes) (suc i) d p (inl h) = absurd (p.before 0 d (omega arith) h.0)
  at_top_index (n ∷ nodes) (suc i) d p (inr h) = at_top_index nodes i d (record { within = omega (arith, p.within); here = λ e. p.here e; before = λ k e l. p.before (suc k) e (omega (arith, l)) }) h.1

  -- at the node that was found
  pub stands_at : (old mid : List AstNode) (i : ℕ) (n : AstNode) → HasIndex c (map node_of old) (map node_of mid) i → n ≡ get_or mid i n → AtTop c P (forest_of old) → P (shape (out-AstNode n))
  stands_at old mid i n (inl h) at t =
      let found = at_top_index (map node_of old) i (node_of n) h.1 t in
      let same : get_or (map node_of old) i (node_of n) ≡ shape (out-AstNode n) =
      ap (λ (ns : List Node). get_or ns i (node_of n)) (sym h.0) ∙ (get_or-map node_of mid i n (node_of n) (index_within c old mid i (inl h)) ∙ (ap node_of (sym at) ∙ node_out n)) in
      subst P same found
  stands_at old mid i n (inr h) at t = absurd (at_top_nowhere (map node_of old) h.2 t)

  index_at_top : (nodes : List Node) (i : ℕ) (d : Node) → IsIndex c nodes i → P (get_or nodes i d) → AtTop c P (linked nodes)
  index_at_top [] i d p h = absurd (omega (arith, p.within))
  index_at_top (n ∷ nodes) zero d p h = inl (p.here d, h)
  index_at_top (n ∷ nodes) (suc i) d p h =
      inr (p.before 0 d (omega arith), index_at_top nodes i d (record { within = omega (arith, p.within); here = λ e. p.here e; before = λ k e l. p.before (suc k) e (omega (arith, l)) }) h)

  -- what holds at the first root with the compound is what holds at the node that was found
  pub top_is_at : (nodes : List AstNode) (i : ℕ) (n : AstNode) → IsIndex c (map node_of nodes) i → n ≡ get_or nodes i n → AtTop c P (forest_of nodes) ↔ P (shape (out-AstNode n))
  top_is_at nodes i n p at =
      let same : get_or (map node_of nodes) i (node_of n) ≡ shape (out-AstNode n) =
      get_or-map node_of nodes i n (node_of n) (index_within c nodes nodes i (inl (refl, p))) ∙ (ap node_of (sym at) ∙ node_out n) in
      (λ t. subst P same (at_top_index (map node_of nodes) i (node_of n) p t), λ h. index_at_top (map node_of nodes) i (node_of n) p (subst P (sym same) h))

module _ (P : List ℕ → Type 0) where
  pub stands_nowhere : (c : Compound) (rest : List (Combinator × Compound)) (nodes : List Node) → IsNowhere c nodes → StandsWith P c rest (linked nodes) → ⊥
  stands_nowhere c [] nodes nowhere s = at_top_nowhere c (λ n. P n.ids) nodes nowhere s
  stands_nowhere c (step ∷ rest) nodes nowhere s = at_top_nowhere c (λ n. StandsWith P step.1 rest (grown_under step.0 n)) nodes nowhere s

  -- a path of one compound
  stands_none : (c : Compound) (rest : List (Combinator × css.Compound)) (f : Forest) → length rest ≡ 0 → StandsWith P c (steps_of rest) f ≡ AtTop c (λ n. P n.ids) f
  stands_none c [] f e = refl
  stands_none c (s ∷ rest) f e = absurd (omega (arith, e))

  -- a path of several
  stands_some : (c : Compound) (all rest : List (Combinator × css.Compound)) (s : Combinator × css.Compound) (step : Combinator) (f : Forest) → all ≡ s ∷ rest → s.0 ≡ step
      → StandsWith P c (steps_of all) f ≡ AtTop c (λ n. StandsWith P (tests_of_compound s.1) (steps_of rest) (grown_under step n)) f
  stands_some c all rest s step f e g =
      ap (λ (ss : List (Combinator × css.Compound)). StandsWith P c (steps_of ss) f) e ∙ ap (λ (t : Combinator). AtTop c (λ n. StandsWith P (tests_of_compound s.1) (steps_of rest) (grown_under t n)) f) g

  -- what stands of a path of one compound, or of several, at the node that was found
  pub stands_here : (c : Compound) (rest : List (Combinator × css.Compound)) (nodes : List AstNode) (i : ℕ) (n : AstNode) → length rest ≡ 0 → IsIndex c (map node_of nodes) i → n ≡ get_or nodes i n
      → StandsWith P c (steps_of rest) (forest_of nodes) ↔ P (ascending (out-AstNode n).match_ids)
  stands_here c rest nodes i n e p at =
      let same = stands_none c rest (forest_of nodes) e in
      let law = top_is_at c (λ m. P m.ids) nodes i n p at in
      (λ s. law.0 (subst (λ (X : Type 0). X) same s), λ h. subst (λ (X : Type 0). X) (sym same) (law.1 h))

  pub stands_further : (c : Compound) (all rest : List (Combinator × css.Compound)) (s : Combinator × css.Compound) (step : Combinator) (nodes : List AstNode) (i : ℕ) (n : AstNode)
      → all ≡ s ∷ rest → s.0 ≡ step → IsIndex c (map node_of nodes) i → n ≡ get_or nodes i n
      → StandsWith P c (steps_of all) (forest_of nodes) ↔ StandsWith P (tests_of_compound s.1) (steps_of rest) (grown_under step (shape (out-AstNode n)))
  stands_further c all rest s step nodes i n e g p at =
      let same = stands_some c all rest s step (forest_of nodes) e g in
      let law = top_is_at c (λ m. StandsWith P (tests_of_compound s.1) (steps_of rest) (grown_under step m)) nodes i n p at in
      (λ t. law.0 (subst (λ (X : Type 0). X) same t), λ h. subst (λ (X : Type 0). X) (sym same) (law.1 h))

  -- what stood of the path where the node was found, or would be made
  pub stands_last : (c : Compound) (rest : List (Combinator × css.Compound)) (old mid : List AstNode) (i : ℕ) (n : AstNode) → length rest ≡ 0 → HasIndex c (map node_of old) (map node_of mid) i → n ≡ get_or mid i n
      → StandsWith P c (steps_of rest) (forest_of old) → P (ascending (out-AstNode n).match_ids)
  stands_last c rest old mid i n e h at s = stands_at c (λ m. P m.ids) old mid i n h at (subst (λ (X : Type 0). X) (stands_none c rest (forest_of old) e) s)

  pub stands_next : (c : Compound) (all rest : List (Combinator × css.Compound)) (s : Combinator × css.Compound) (step : Combinator) (old mid : List AstNode) (i : ℕ) (n : AstNode)
      → all ≡ s ∷ rest → s.0 ≡ step → HasIndex c (map node_of old) (map node_of mid) i → n ≡ get_or mid i n
      → StandsWith P c (steps_of all) (forest_of old) → StandsWith P (tests_of_compound s.1) (steps_of rest) (grown_under step (shape (out-AstNode n)))
  stands_next c all rest s step old mid i n e g h at t =
      stands_at c (λ m. StandsWith P (tests_of_compound s.1) (steps_of rest) (grown_under step m)) old mid i n h at (subst (λ (X : Type 0). X) (stands_some c all rest s step (forest_of old) e g) t)

-- What stands stays while a forest grows, and so does what the id that it takes leaves true.
abbrev pub KeepsWith : (List ℕ → Type 0) → Forest → Forest → Type 0
KeepsWith P old new = (c : Compound) (rest : List (Combinator × Compound)) → StandsWith P c rest old → StandsWith P c rest new

-- an id, if there is one, leaves P true of the ids that it joins
abbrev pub Leaves : Option ℕ → (List ℕ → Type 0) → Type 0
Leaves given P = (id : ℕ) → given ≡ Some id → (old new : List ℕ) → IsWith id old new → P old → P new

module _ (P : List ℕ → Type 0) where
  abbrev KeepsIn : Node → Node → Type 0
  KeepsIn n m = (m.compound ≡ n.compound) × ((P n.ids → P m.ids) × (KeepsWith P n.children m.children × KeepsWith P n.descendants m.descendants))

  -- what a node has, and has under it
  abbrev InNode : List (Combinator × Compound) → Node → Type 0
  InNode [] n = P n.ids
  InNode (step ∷ rest) n = StandsWith P step.1 rest (grown_under step.0 n)

  stands_in : (c : Compound) (rest : List (Combinator × Compound)) (f : Forest) → StandsWith P c rest f ≡ AtTop c (InNode rest) f
  stands_in c [] f = refl
  stands_in c (step ∷ rest) f = refl

  kept_in : (rest : List (Combinator × Compound)) (n m : Node) → KeepsIn n m → InNode rest n → InNode rest m
  kept_in [] n m k h = k.1.0 h
  kept_in (step ∷ rest) n m k h = by_step step.0 h
    where
      by_step : (s : Combinator) → StandsWith P step.1 rest (grown_under s n) → StandsWith P step.1 rest (grown_under s m)
      by_step Child t = k.1.1.0 step.1 rest t
      by_step Descendant t = k.1.1.1 step.1 rest t

  module _ (c : Compound) (R : Node → Node → Type 0) (law : (n m : Node) → R n m → KeepsIn n m) where
    tops_kept : (d : Compound) (rest : List (Combinator × Compound)) (old new : Forest) → AtRoot c R old new → AtTop d (InNode rest) old → AtTop d (InNode rest) new
    tops_kept d rest none new h t = absurd t
    tops_kept d rest (more e ids children descendants others) new (inl h) (inl t) =
        let k = law _ h.1 h.2 in
        subst (AtTop d (InNode rest)) (sym h.3) (inl (k.0 ∙ t.0, kept_in rest _ h.1 k t.1))
    tops_kept d rest (more e ids children descendants others) new (inl h) (inr t) =
        let k = law _ h.1 h.2 in
        subst (AtTop d (InNode rest)) (sym h.3) (inr (λ is. t.0 (sym k.0 ∙ is), t.1))
    tops_kept d rest (more e ids children descendants others) new (inr h) (inl t) = subst (AtTop d (InNode rest)) (sym h.3) (inl t)
    tops_kept d rest (more e ids children descendants others) new (inr h) (inr t) =
        subst (AtTop d (InNode rest)) (sym h.3) (inr (t.0, tops_kept d rest others h.1 h.2 t.1))

    root_keeps : (old new : Forest) → AtRoot c R old new → KeepsWith P old new
    root_keeps old new h d rest s = subst (λ (X : Type 0). X) (sym (stands_in d rest new)) (tops_kept d rest old new h (subst (λ (X : Type 0). X) (stands_in d rest old) s))

  no_change : (f : Forest) → KeepsWith P f f
  no_change f c rest s = s

  same_keeps : (n m : Node) → m ≡ n → KeepsIn n m
  same_keeps n m e = subst (KeepsIn n) (sym e) (refl, (λ p. p, (no_change n.children, no_change n.descendants)))

  takes_keeps : (id : Option ℕ) → Leaves id P → (n m : Node) → Takes id n m → KeepsIn n m
  takes_keeps None leaves n m t = same_keeps n m t
  takes_keeps (Some id) leaves n m t = subst (KeepsIn n) (sym t.2) (refl, (leaves id refl n.ids t.0 t.1, (no_change n.children, no_change n.descendants)))

  under_keeps : (step : Combinator) (R : Forest → Forest → Type 0) → ((old new : Forest) → R old new → KeepsWith P old new) → (n m : Node) → Under step R n m → KeepsIn n m
  under_keeps Child R law n m u = subst (KeepsIn n) (sym u.2) (refl, (λ p. p, (law n.children u.0 u.1, no_change n.descendants)))
  under_keeps Descendant R law n m u = subst (KeepsIn n) (sym u.2) (refl, (λ p. p, (no_change n.children, law n.descendants u.0 u.1)))

  pub adds_keeps : (id : Option ℕ) → Leaves id P → (c : Compound) (rest : List (Combinator × Compound)) (old new : Forest) → Adds id c rest old new → KeepsWith P old new
  adds_keeps id leaves c [] old new h = root_keeps c (Takes id) (takes_keeps id leaves) old new h
  adds_keeps id leaves c (step ∷ rest) old new h =
      root_keeps c (Under step.0 (Adds id step.1 rest)) (under_keeps step.0 (Adds id step.1 rest) (λ o w k. adds_keeps id leaves step.1 rest o w k)) old new h

  pub first_keeps : (k : ℕ) (c : Compound) (rest : List (Combinator × Compound)) (old new : Forest) → AddsFirst k c rest old new → KeepsWith P old new
  first_keeps zero c rest old new h = subst (KeepsWith P old) (sym h) (no_change old)
  first_keeps (suc k) c [] old new h = root_keeps c (Takes None) same_keeps old new h
  first_keeps (suc k) c (step ∷ rest) old new h = root_keeps c (Under step.0 (AddsFirst k step.1 rest)) (under_keeps step.0 (AddsFirst k step.1 rest) (λ o w t. first_keeps k step.1 rest o w t)) old new h

-- paths stay
abbrev pub Keeps : Forest → Forest → Type 0
Keeps old new = KeepsWith (λ ids. Unit {0}) old new

-- A path that was added stands.
module _ (c : Compound) (R : Node → Node → Type 0) (same : (n m : Node) → R n m → m.compound ≡ n.compound) (P : Node → Type 0) (law : (n m : Node) → R n m → P m) where
  root_stands : (old new : Forest) → AtRoot c R old new → AtTop c P new
  root_stands none new h = subst (AtTop c P) (sym h.2) (inl (same (fresh c) h.0 h.1, law (fresh c) h.0 h.1))
  root_stands (more d ids children descendants rest) new (inl h) = subst (AtTop c P) (sym h.3) (inl (same _ h.1 h.2 ∙ h.0, law _ h.1 h.2))
  root_stands (more d ids children descendants rest) new (inr h) = subst (AtTop c P) (sym h.3) (inr (h.0, root_stands rest h.1 h.2))

under_stands : (step : Combinator) (R : Forest → Forest → Type 0) (Q : Forest → Type 0) → ((old new : Forest) → R old new → Q new) → (n m : Node) → Under step R n m → Q (grown_under step m)
under_stands Child R Q law n m u = subst (λ (k : Node). Q k.children) (sym u.2) (law n.children u.0 u.1)
under_stands Descendant R Q law n m u = subst (λ (k : Node). Q k.descendants) (sym u.2) (law n.descendants u.0 u.1)

pub adds_stands : (id : Option ℕ) (c : Compound) (rest : List (Combinator × Compound)) (old new : Forest) → Adds id c rest old new → StandsUnder c rest new
adds_stands id c [] old new h = root_stands c (Takes id) (takes_same id) (λ n. Unit {0}) (λ n m t. tt) old new h
adds_stands id c (step ∷ rest) old new h =
    root_stands c (Under step.0 (Adds id step.1 rest)) (under_same step.0 (Adds id step.1 rest)) (λ n. StandsUnder step.1 rest (grown_under step.0 n))
    (under_stands step.0 (Adds id step.1 rest) (StandsUnder step.1 rest) (λ o w k. adds_stands id step.1 rest o w k)) old new h
