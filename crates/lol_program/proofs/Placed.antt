-- A node that is changed in its place.
use Rattle.std.proofs.Common.{ℕ, zero, suc, ◌≡◌, ◌<◌, ◌+◌, inl, inr, arith, ◌++◌, map, get_or, length, List, [], ◌∷◌, Option, None, Result, Ok, Err, OnOk, OnErr, refl, ap, sym, subst, ◌∙◌}
use Rattle.std.specs.Prelude.{slice_set}
use Rattle.std.proofs.lemmas.List.{get_or-map, map-set, length-map, length-append}
use Rattle.std.proofs.Math.Seq.{set-append_seam, get_or-append_seam}
use Rattle.lol_css.specs.declared.selector.Combinator.{Combinator}
use Rattle.lol_instructions.specs.Compounds.{Compound}
use Rattle.lol_program.specs.Forest.{Node, Forest, link, size, SiblingsDiffer}
use Rattle.lol_css.specs.declared.selector.Compound as css
use Rattle.lol_program.proofs.Grown.{added_differ, first_differ}
use Rattle.lol_program.specs.Indices.{IsIndex, HasIndex, IsNowhere}
use Rattle.lol_program.specs.Growth.{fresh, AtRoot, Takes, Under, Adds, AddsFirst}
use Rattle.lol_program.specs.Views.{node_of, forest_of, linked, steps_of, tests_of_compound}
use Rattle.lol_program.specs.declared.ast_node.AstNode.{AstNode}
use Rattle.lol_program.specs.declared.ast_node.AstNode.TheOpen.{AstNode-F}
use Rattle.lol_program.specs.declared.ast_node.AstNode.TheViews.{out-AstNode, roll-AstNode}
use Rattle.lol_program.specs.NodeViewLaws.{shape, node_roll, node_out}

module _ (c : Compound) (R : Node → Node → Type 0) (m : Node) where
  at_found : (nodes : List Node) (i : ℕ) (d : Node) → IsIndex c nodes i → R (get_or nodes i d) m → AtRoot c R (linked nodes) (linked (slice_set nodes i m))
  at_found [] i d p r = absurd (omega (arith, p.within))
  at_found (n ∷ nodes) zero d p r = inl (p.here d, m, r, refl)
  at_found (n ∷ nodes) (suc i) d p r =
      inr (p.before 0 d (omega arith), linked (slice_set nodes i m), at_found nodes i d (record { within = omega (arith, p.within); here = λ e. p.here e; before = λ k e h. p.before (suc k) e (omega arith) }) r, refl)

  at_end : (nodes : List Node) → IsNowhere c nodes → R (fresh c) m → AtRoot c R (linked nodes) (linked (nodes ++ m ∷ []))
  at_end [] nowhere r = (m, r, refl)
  at_end (n ∷ nodes) nowhere r = inr (nowhere 0 n (omega arith), linked (nodes ++ m ∷ []), at_end nodes (λ k d h. nowhere (suc k) d (omega arith)) r, refl)

  at_index : (old mid : List Node) (i : ℕ) (d : Node) → HasIndex c old mid i → R (get_or mid i d) m → AtRoot c R (linked old) (linked (slice_set mid i m))
  at_index old mid i d (inl h) r =
      subst (λ (ns : List Node). AtRoot c R (linked old) (linked (slice_set ns i m))) (sym h.0) (at_found old i d h.1 (subst (λ (ns : List Node). R (get_or ns i d) m) h.0 r))
  at_index old mid i d (inr h) r =
      let e : slice_set mid i m ≡ old ++ m ∷ [] = ap (λ ns. slice_set ns i m) h.0 ∙ (ap (λ k. slice_set (old ++ fresh c ∷ []) k m) h.1 ∙ set-append_seam old (fresh c) [] m) in
      let f : get_or mid i d ≡ fresh c = ap (λ ns. get_or ns i d) h.0 ∙ (ap (λ k. get_or (old ++ fresh c ∷ []) k d) h.1 ∙ get_or-append_seam old (fresh c) [] d) in
      subst (λ (ns : List Node). AtRoot c R (linked old) (linked ns)) (sym e) (at_end old h.2 (subst (λ (n : Node). R n m) f r))

node_within : (c : Compound) (old mid : List Node) (i : ℕ) → HasIndex c old mid i → i < length mid
node_within c old mid i (inl h) = subst (λ (ns : List Node). i < length ns) (sym h.0) h.1.within
node_within c old mid i (inr h) = omega (arith, h.1, ap length h.0, length-append old (fresh c ∷ []))

pub index_within : (c : Compound) (old mid : List AstNode) (i : ℕ) → HasIndex c (map node_of old) (map node_of mid) i → i < length mid
index_within c old mid i h = omega (arith, node_within c (map node_of old) (map node_of mid) i h, length-map mid node_of)

-- the node at i becomes x
pub set_at_index : (c : Compound) (R : Node → Node → Type 0) (old mid : List AstNode) (i : ℕ) (n : AstNode) (x : AstNode-F AstNode)
    → HasIndex c (map node_of old) (map node_of mid) i → n ≡ get_or mid i n → R (shape (out-AstNode n)) (shape x)
    → AtRoot c R (forest_of old) (forest_of (slice_set mid i (roll-AstNode x)))
set_at_index c R old mid i n x h at r =
    let within = index_within c old mid i h in
    let e : map node_of (slice_set mid i (roll-AstNode x)) ≡ slice_set (map node_of mid) i (shape x) = map-set node_of mid i (roll-AstNode x) ∙ ap (λ y. slice_set (map node_of mid) i y) (node_roll x) in
    let f : get_or (map node_of mid) i (node_of n) ≡ shape (out-AstNode n) = get_or-map node_of mid i n (node_of n) within ∙ (ap node_of (sym at) ∙ node_out n) in
    subst (λ (ns : List Node). AtRoot c R (forest_of old) (linked ns)) (sym e)
    (at_index c R (shape x) (map node_of old) (map node_of mid) i (node_of n) h (subst (λ (y : Node). R y (shape x)) (sym f) r))

pub size_set : (mid : List AstNode) (i : ℕ) (n : AstNode) (x : AstNode-F AstNode) → i < length mid → n ≡ get_or mid i n
    → size (forest_of (slice_set mid i (roll-AstNode x))) + (size (shape (out-AstNode n)).children + size (shape (out-AstNode n)).descendants) ≡ size (forest_of mid) + (size (shape x).children + size (shape x).descendants)
size_set [] i n x within at = absurd (omega (arith, within))
size_set (y ∷ mid) zero n x within at =
    let e : node_of y ≡ shape (out-AstNode n) = ap node_of (sym at) ∙ node_out n in
    omega (arith, ap (λ (z : Node). size (link z (forest_of mid))) e, ap (λ (z : Node). size (link z (forest_of mid))) (node_roll x))
size_set (y ∷ mid) (suc i) n x within at = omega (arith, size_set mid i n x (omega (arith, within)) at)

pub adds_none : (id : Option ℕ) (c : Compound) (rest : List (Combinator × css.Compound)) (old new : Forest) → length rest ≡ 0 → AtRoot c (Takes id) old new → Adds id c (steps_of rest) old new
adds_none id c [] old new e h = h
adds_none id c (s ∷ rest) old new e h = absurd (omega (arith, e))

pub adds_some : (id : Option ℕ) (c : Compound) (all rest : List (Combinator × css.Compound)) (s : Combinator × css.Compound) (step : Combinator) (old new : Forest) → all ≡ s ∷ rest → s.0 ≡ step
    → AtRoot c (Under step (Adds id (tests_of_compound s.1) (steps_of rest))) old new → Adds id c (steps_of all) old new
adds_some id c all rest s step old new e f h =
    subst (λ (ss : List (Combinator × css.Compound)). Adds id c (steps_of ss) old new) (sym e) (subst (λ (t : Combinator). AtRoot c (Under t (Adds id (tests_of_compound s.1) (steps_of rest))) old new) (sym f) h)

pub first_none : (c : Compound) (rest : List (Combinator × css.Compound)) (old new : Forest) → length rest ≡ 0 → AtRoot c (Takes None) old new → AddsFirst 1 c (steps_of rest) old new
first_none c [] old new e h = h
first_none c (s ∷ rest) old new e h = absurd (omega (arith, e))

pub first_some : (k : ℕ) (c : Compound) (all rest : List (Combinator × css.Compound)) (s : Combinator × css.Compound) (step : Combinator) (old new : Forest) → all ≡ s ∷ rest → s.0 ≡ step
    → AtRoot c (Under step (AddsFirst k (tests_of_compound s.1) (steps_of rest))) old new → AddsFirst (suc k) c (steps_of all) old new
first_some k c all rest s step old new e f h =
    subst (λ (ss : List (Combinator × css.Compound)). AddsFirst (suc k) c (steps_of ss) old new) (sym e) (subst (λ (t : Combinator). AtRoot c (Under t (AddsFirst k (tests_of_compound s.1) (steps_of rest))) old new) (sym f) h)

pub differ_after : {T E : Type 0} (r : Result T E) (id : Option ℕ) (c : Compound) (rest : List (Combinator × Compound)) (old new : Forest)
    → OnOk r (Adds id c rest old new) → OnErr r ((k : ℕ) × AddsFirst k c rest old new) → SiblingsDiffer old → SiblingsDiffer new
differ_after (Ok x) id c rest old new h e d = added_differ id c rest old new h d
differ_after (Err x) id c rest old new h e d = first_differ e.0 c rest old new e.1 d
