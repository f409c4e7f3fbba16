-- Nodes beside the node index that has their keys.
use Rattle.std.proofs.Math.Decide.{dec_le}
use Rattle.std.proofs.Common.{ℕ, zero, suc, ◌+◌, ◌≡◌, ◌≢◌, ◌<◌, ◌≤◌, inl, inr, arith, ◌++◌, map, get_or, length, take, List, [], ◌∷◌, ap, sym, subst, ◌∙◌, refl, true≢false}
use Rattle.std.specs.Prelude.{slice_set, Option, Some, None, IfNone, IsSome, is_some}
use Rattle.std.specs.declared.hash.DefaultHasher.{DefaultHasher}
use Rattle.std.specs.BTreeMap.{Updates}
use Rattle.std.specs.Ordering.{nat_cmp}
use Rattle.std.proofs.lemmas.Grind.{common_steps}
use Rattle.std.proofs.lemmas.List.{get_or-map, get_or-take, map-set, map-append, length-map, length-take}
use Rattle.std.proofs.Math.Seq.{get_or-append_seam}
use Rattle.lol_css.specs.declared.selector.Combinator.{Combinator}
use Rattle.lol_css.specs.declared.selector.Combinator.TheVariants.{Child, Descendant}
use Rattle.lol_instructions.specs.Compounds.{Compound}
use Rattle.lol_program.specs.Forest.{Node, Forest, none, more, HasTop, SiblingsDiffer}
use Rattle.lol_program.specs.Growth.{fresh, grown_under}
use Rattle.lol_program.specs.Indices.{IsIndex, HasIndex, IsNowhere, IsNowhereFrom}
use Rattle.lol_program.specs.Views.{node_of, forest_of, linked}
use Rattle.lol_program.specs.NodeKeys.{node_key, list_under}
use Rattle.lol_program.specs.Indexed.{at_key, KeepsKeys, few, salts, IsListed, IsFirstFree, IsIndexedFrom, IsIndexed}
use Rattle.lol_program.specs.declared.node_index.NodeIndex.{NodeIndex}
use Rattle.lol_program.specs.declared.ast_node.AstNode.{AstNode}
use Rattle.lol_program.specs.declared.ast_node.AstNode.TheOpen.{AstNode-F}
use Rattle.lol_program.specs.declared.ast_node.AstNode.TheViews.{out-AstNode, roll-AstNode}
use Rattle.lol_program.specs.NodeViewLaws.{shape, node_roll, node_out}
use Rattle.lol_program.proofs.Placed.{index_within}

-- 1. Indices among siblings that differ

top_at : (c : Compound) (nodes : List Node) (i : ℕ) (d : Node) → i < length nodes → (get_or nodes i d).compound ≡ c → HasTop c (linked nodes)
top_at c [] i d within is = absurd (omega (arith, within))
top_at c (n ∷ nodes) zero d within is = inl is
top_at c (n ∷ nodes) (suc i) d within is = inr (top_at c nodes i d (omega (arith, within)) is)

pub index_from_differ : (c : Compound) (nodes : List Node) (i : ℕ) → SiblingsDiffer (linked nodes) → i < length nodes → ((d : Node) → (get_or nodes i d).compound ≡ c) → IsIndex c nodes i
index_from_differ c nodes i differ within here = record { within = within; here = here; before = apart nodes i differ within here }
  where
    apart : (nodes : List Node) (i : ℕ) → SiblingsDiffer (linked nodes) → i < length nodes → ((d : Node) → (get_or nodes i d).compound ≡ c) → (k : ℕ) (d : Node) → k < i → (get_or nodes k d).compound ≡ c → ⊥
    apart [] i differ within here k d below is = absurd (omega (arith, within))
    apart (n ∷ nodes) zero differ within here k d below is = absurd (omega (arith, below))
    apart (n ∷ nodes) (suc i) differ within here zero d below is =
        differ.0 (subst (λ (e : Compound). HasTop e (linked nodes)) (sym is) (top_at c nodes i d (omega (arith, within)) (here d)))
    apart (n ∷ nodes) (suc i) differ within here (suc k) d below is = apart nodes i differ.1.1.1 (omega (arith, within)) (λ e. here e) k d (omega (arith, below)) is

-- at the first n of them, and at all
module _ (c : Compound) (nodes : List Node) (n : ℕ) where
  within_both : (i : ℕ) → i < length (take n nodes) → (i < n) × (i < length nodes)
  within_both i within = let e = length-take n nodes in (omega (arith, e, within), omega (arith, e, within))

  pub index_among_first : (i : ℕ) → IsIndex c (take n nodes) i → IsIndex c nodes i
  index_among_first i p =
      let within = within_both i p.within in record {
        within = within.1;
        here = λ d. sym (ap (λ (m : Node). m.compound) (get_or-take n nodes i d within.0)) ∙ p.here d;
        before = λ k d below is. p.before k d below (ap (λ (m : Node). m.compound) (get_or-take n nodes k d (omega (arith, below, within.0))) ∙ is);
      }

  pub nowhere_after_first : n ≤ length nodes → IsNowhere c (take n nodes) → IsNowhereFrom n c nodes → IsNowhere c nodes
  nowhere_after_first long first after k d within is = elim (dec_le n k) [
    | yes h ↦ after k d h within is
    | no h ↦ first k d (let e = length-take n nodes in omega (arith, e, h, long)) (ap (λ (m : Node). m.compound) (get_or-take n nodes k d (omega (arith, h))) ∙ is)
  ]

pub if_none : {X : Type 0} {P Q : Type 0} (o : Option X) → (P → Q) → IfNone o P → IfNone o Q
if_none None f p = f p
if_none (Some x) f p = tt

-- 2. Keys of a node

-- At the keys for the salts below one stands no node with these tests.
abbrev pub StandOthers : NodeIndex → DefaultHasher → Compound → List Node → ℕ → Type 0
StandOthers node_index list c nodes salt = (s : ℕ) → s < salt → (i : ℕ) (d : Node) → at_key node_index (node_key list s c) ≡ Some i → i < length nodes → (get_or nodes i d).compound ≢ c

-- what a key has, it keeps
key_stays : (old new : NodeIndex) → KeepsKeys old new → (key : ℕ) → IsSome (at_key old key) → IsSome (at_key new key)
key_stays old new keeps key there = stays (at_key old key) refl there
  where
    stays : (o : Option ℕ) → at_key old key ≡ o → IsSome o → IsSome (at_key new key)
    stays None is there = absurd (true≢false (sym there))
    stays (Some index) is there = ap is_some (keeps key index is)

module _ (old new : NodeIndex) (key index : ℕ) (updates : Updates nat_cmp old.indices new.indices key (Some index)) where
  -- what stands at other keys
  pub keeps_at_free : at_key old key ≡ None → KeepsKeys old new
  keeps_at_free free other i is = grind (arith, common_steps)

  pub listed_at_free : (list : DefaultHasher) (c : Compound) → IsFirstFree old list c key → IsListed new list index c
  listed_at_free list c first many salt within others = elim (dec_le first.salt salt) [
    | no below ↦ key_stays old new (keeps_at_free first.free) (node_key list salt c) (first.taken salt (omega (arith, below)))
    | yes above ↦ elim (dec_le salt first.salt) [
      | yes same ↦ ap (λ (k : ℕ). is_some (at_key new (node_key list k c))) (let e : salt ≡ first.salt = omega (arith, above, same) in e) ∙ ap (λ (k : ℕ). is_some (at_key new k)) (sym first.is) ∙ ap is_some updates.1
      | no after ↦ absurd (others first.salt (omega (arith, after)) (ap (at_key new) (sym first.is) ∙ updates.1))
    ]
  ]

-- 3. Keys of forests

listed_grows : (old new : NodeIndex) → KeepsKeys old new → (list : DefaultHasher) (index : ℕ) (c : Compound) → IsListed old list index c → IsListed new list index c
listed_grows old new keeps list index c listed many salt within others =
    key_stays old new keeps (node_key list salt c) (listed many salt within (λ s below is. others s below (keeps (node_key list s c) index is)))

pub indexed_grows : (old new : NodeIndex) → KeepsKeys old new → (list : DefaultHasher) (index : ℕ) (f : Forest) → IsIndexedFrom old list index f → IsIndexedFrom new list index f
indexed_grows old new keeps list index none indexed = tt
indexed_grows old new keeps list index (more c ids children descendants rest) indexed = (
  listed_grows old new keeps list index c indexed.0,
  (
    indexed_grows old new keeps (list_under list index Child) 0 children indexed.1.0,
    (
      indexed_grows old new keeps (list_under list index Descendant) 0 descendants indexed.1.1.0,
      indexed_grows old new keeps list (index + 1) rest indexed.1.1.1,
    ),
  ),
)

-- the nodes under the node at an index of a list
abbrev pub IsIndexedUnder : NodeIndex → DefaultHasher → ℕ → Node → Type 0
IsIndexedUnder node_index list index n = IsIndexed node_index (list_under list index Child) n.children × IsIndexed node_index (list_under list index Descendant) n.descendants

module _ (node_index : NodeIndex) (list : DefaultHasher) where
  listed_at : (index : ℕ) (nodes : List Node) (i at : ℕ) (d : Node) → i < length nodes → at ≡ index + i → IsIndexedFrom node_index list index (linked nodes) → IsListed node_index list at (get_or nodes i d).compound
  listed_at index [] i at d within is indexed = absurd (omega (arith, within))
  listed_at index (n ∷ nodes) zero at d within is indexed = subst (λ (k : ℕ). IsListed node_index list k n.compound) (let e : index ≡ at = omega (arith, is) in e) indexed.0
  listed_at index (n ∷ nodes) (suc i) at d within is indexed = listed_at (index + 1) nodes i at d (omega (arith, within)) (omega (arith, is)) indexed.1.1.1

  listed_node : (nodes : List Node) (i : ℕ) (d : Node) (c : Compound) → i < length nodes → (get_or nodes i d).compound ≡ c → IsIndexed node_index list (linked nodes) → IsListed node_index list i c
  listed_node nodes i d c within is indexed = subst (IsListed node_index list i) is (listed_at 0 nodes i i d within (omega arith) indexed)

  -- where one key of a node is free, and at those for the salts before it stand other nodes
  pub nowhere_by_key : (c : Compound) (nodes : List Node) (salt : ℕ) → salt < salts → IsIndexed node_index list (linked nodes) → at_key node_index (node_key list salt c) ≡ None → StandOthers node_index list c nodes salt → IsNowhereFrom few c nodes
  nowhere_by_key c nodes salt within indexed free others k d many inside is =
      true≢false (sym (listed_node nodes k d c inside is indexed many salt within (λ s below at. others s below k d at inside is)) ∙ ap is_some free)

  indexed_last : (index : ℕ) (c : Compound) (nodes : List Node) (at : ℕ) → at ≡ index + length nodes → IsIndexedFrom node_index list index (linked nodes) → IsListed node_index list at c
      → IsIndexedFrom node_index list index (linked (nodes ++ fresh c ∷ []))
  indexed_last index c [] at is indexed listed = (subst (λ (k : ℕ). IsListed node_index list k c) (let e : at ≡ index = omega (arith, is) in e) listed, (tt, (tt, tt)))
  indexed_last index c (n ∷ nodes) at is indexed listed = (indexed.0, (indexed.1.0, (indexed.1.1.0, indexed_last (index + 1) c nodes at (omega (arith, is)) indexed.1.1.1 listed)))

  indexed_at : (index : ℕ) (nodes : List Node) (i at : ℕ) (d : Node) → i < length nodes → at ≡ index + i → IsIndexedFrom node_index list index (linked nodes) → IsIndexedUnder node_index list at (get_or nodes i d)
  indexed_at index [] i at d within is indexed = absurd (omega (arith, within))
  indexed_at index (n ∷ nodes) zero at d within is indexed = subst (λ (k : ℕ). IsIndexedUnder node_index list k n) (let e : index ≡ at = omega (arith, is) in e) (indexed.1.0, indexed.1.1.0)
  indexed_at index (n ∷ nodes) (suc i) at d within is indexed = indexed_at (index + 1) nodes i at d (omega (arith, within)) (omega (arith, is)) indexed.1.1.1

  indexed_set : (index : ℕ) (nodes : List Node) (i at : ℕ) (d m : Node) → i < length nodes → at ≡ index + i → IsIndexedFrom node_index list index (linked nodes) → m.compound ≡ (get_or nodes i d).compound → IsIndexedUnder node_index list at m
      → IsIndexedFrom node_index list index (linked (slice_set nodes i m))
  indexed_set index [] i at d m within is indexed same under = absurd (omega (arith, within))
  indexed_set index (n ∷ nodes) zero at d m within is indexed same under =
      let here : IsIndexedUnder node_index list index m = subst (λ (k : ℕ). IsIndexedUnder node_index list k m) (let e : at ≡ index = omega (arith, is) in e) under in
      (subst (λ (e : Compound). IsListed node_index list index e) (sym same) indexed.0, (here.0, (here.1, indexed.1.1.1)))
  indexed_set index (n ∷ nodes) (suc i) at d m within is indexed same under =
      (indexed.0, (indexed.1.0, (indexed.1.1.0, indexed_set (index + 1) nodes i at d m (omega (arith, within)) (omega (arith, is)) indexed.1.1.1 same under)))

  -- after a node is made
  pub indexed_push : (nodes : List AstNode) (n : AstNode) (c : Compound) (index : ℕ) → node_of n ≡ fresh c → index ≡ length nodes → IsIndexed node_index list (forest_of nodes) → IsListed node_index list index c → IsIndexed node_index list (forest_of (nodes ++ n ∷ []))
  indexed_push nodes n c index is last indexed listed =
      subst (λ (ns : List Node). IsIndexed node_index list (linked ns)) (sym (map-append node_of nodes (n ∷ []) ∙ ap (λ (m : Node). map node_of nodes ++ m ∷ []) is))
      (indexed_last 0 c (map node_of nodes) index (omega (arith, last, length-map nodes node_of)) indexed listed)

-- 4. At the node that was found or made

differ_at : (nodes : List Node) (i : ℕ) (d : Node) → i < length nodes → SiblingsDiffer (linked nodes) → SiblingsDiffer (get_or nodes i d).children × SiblingsDiffer (get_or nodes i d).descendants
differ_at [] i d within differ = absurd (omega (arith, within))
differ_at (n ∷ nodes) zero d within differ = (differ.1.0, differ.1.1.0)
differ_at (n ∷ nodes) (suc i) d within differ = differ_at nodes i d (omega (arith, within)) differ.1.1.1

abbrev DifferUnder : Node → Type 0
DifferUnder n = SiblingsDiffer n.children × SiblingsDiffer n.descendants

differ_found : (c : Compound) (old mid : List Node) (i : ℕ) (d : Node) → HasIndex c old mid i → SiblingsDiffer (linked old) → DifferUnder (get_or mid i d)
differ_found c old mid i d (inl h) differ = subst (λ (ns : List Node). DifferUnder (get_or ns i d)) (sym h.0) (differ_at old i d h.1.within differ)
differ_found c old mid i d (inr h) differ =
    subst DifferUnder (sym (ap (λ (ns : List Node). get_or ns i d) h.0 ∙ ap (λ (k : ℕ). get_or (old ++ fresh c ∷ []) k d) h.1 ∙ get_or-append_seam old (fresh c) [] d)) (tt, tt)

module _ (c : Compound) (old mid : List AstNode) (i : ℕ) (n : AstNode) (h : HasIndex c (map node_of old) (map node_of mid) i) (at : n ≡ get_or mid i n) where
  found : get_or (map node_of mid) i (node_of n) ≡ shape (out-AstNode n)
  found = get_or-map node_of mid i n (node_of n) (index_within c old mid i h) ∙ ap node_of (sym at) ∙ node_out n

  within : i < length (map node_of mid)
  within = omega (arith, index_within c old mid i h, length-map mid node_of)

  pub differ_under : SiblingsDiffer (forest_of old) → DifferUnder (shape (out-AstNode n))
  differ_under differ = subst DifferUnder found (differ_found c (map node_of old) (map node_of mid) i (node_of n) h differ)

  pub indexed_under : (node_index : NodeIndex) (list : DefaultHasher) → IsIndexed node_index list (forest_of mid) → IsIndexedUnder node_index list i (shape (out-AstNode n))
  indexed_under node_index list indexed = subst (IsIndexedUnder node_index list i) found (indexed_at node_index list 0 (map node_of mid) i i (node_of n) within (omega arith) indexed)

  -- and it is changed
  pub set_indexed : (node_index : NodeIndex) (list : DefaultHasher) (x : AstNode-F AstNode) → IsIndexed node_index list (forest_of mid) → (shape x).compound ≡ (shape (out-AstNode n)).compound → IsIndexedUnder node_index list i (shape x)
      → IsIndexed node_index list (forest_of (slice_set mid i (roll-AstNode x)))
  set_indexed node_index list x indexed same under =
      let there : (shape x).compound ≡ (get_or (map node_of mid) i (node_of n)).compound = same ∙ ap (λ (m : Node). m.compound) (sym found) in
      let e : map node_of (slice_set mid i (roll-AstNode x)) ≡ slice_set (map node_of mid) i (shape x) = map-set node_of mid i (roll-AstNode x) ∙ ap (λ y. slice_set (map node_of mid) i y) (node_roll x) in
      subst (λ (ns : List Node). IsIndexed node_index list (linked ns)) (sym e) (indexed_set node_index list 0 (map node_of mid) i i (node_of n) (shape x) within (omega arith) indexed there under)

-- 5. What is asked for where a path goes on

pub next_asks : (node_index : NodeIndex) (list next : DefaultHasher) (index : ℕ) (n : Node) (step : Combinator) → next ≡ list_under list index step → IsIndexedUnder node_index list index n → DifferUnder n
    → IsIndexed node_index next (grown_under step n) × SiblingsDiffer (grown_under step n)
next_asks node_index list next index n Child is indexed differ = (subst (λ (l : DefaultHasher). IsIndexed node_index l n.children) (sym is) indexed.0, differ.0)
next_asks node_index list next index n Descendant is indexed differ = (subst (λ (l : DefaultHasher). IsIndexed node_index l n.descendants) (sym is) indexed.1, differ.1)
