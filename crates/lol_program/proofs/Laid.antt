-- The layout of a tree is a program of its selectors.
use Rattle.std.proofs.Common.{Bool, ◌≡◌, ℕ, zero, suc, ◌+◌, ◌<◌, ◌≤◌, List, [], ◌∷◌, ◌++◌, length, map, Option, Some, None, ◌⊎◌, inl, inr, refl, sym, ap, ◌∙◌, subst, arith, Contains}
use Rattle.std.specs.List.{list_any}
use Rattle.std.specs.declared.ops.Range.{Range}
use Rattle.std.proofs.lemmas.List.{map-append, length-append, length-map}
use Rattle.std.proofs.lemmas.Option.{none-some}
use Rattle.lol_css.specs.declared.selector.Combinator.{Combinator}
use Rattle.lol_css.specs.declared.selector.Combinator.TheVariants.{Child, Descendant}
use Rattle.lol_instructions.specs.Compounds.{Compound, has_test_by_type}
use Rattle.lol_program.specs.Paths.{Path, First, Then, last_compound}
use Rattle.lol_program.specs.Forest.{Forest, none, more, size, tops, below, nodes_in, SiblingsDiffer}
use Rattle.lol_program.specs.NodeMemberLaws.{HasPair}
use Rattle.lol_program.specs.NodeListLaws.{pairs_listed}
use Rattle.lol_base.specs.MemberLaws.{Among, Distinct, among_front, among_back, among_either}
use Rattle.lol_program.specs.NodeOnceLaws.{nodes_distinct, AllPairs-from_Distinct}
use Rattle.lol_program.specs.Programs.{Instruction, IsWithin, IsAt, HoldsAddresses, IsRangeOf, IsInstruction, IsProgramOf, above}
use Rattle.lol_program.specs.Layouts.{width, range_of, instruction_of, Entry, laid_tops, laid_below, laid, selectors_in, program_of, LayoutsArePrograms, WorkedLayout}
use Rattle.lol_base.specs.PlaceLaws.{some_is, at_among, same_at, one_place, at_within}
use Rattle.lol_program.specs.StepLaws.{one_front, one_step}
use Rattle.lol_program.proofs.ListIndices.{at_map, map_at}
use Rattle.lol_program.proofs.ByType.{any_by_type-nodes}

-- 1. Addresses in order

abbrev pub Numbered : ℕ → List Entry → Type 0
Numbered n [] = Unit {0}
Numbered n (t ∷ ts) = (t.address ≡ n) × Numbered (suc n) ts

numbered_from : (m n : ℕ) (ts : List Entry) → m ≡ n → Numbered m ts → Numbered n ts
numbered_from m n ts is h = subst (λ k. Numbered k ts) is h

numbered_append : (n : ℕ) (xs ys : List Entry) → Numbered n xs → Numbered (n + length xs) ys → Numbered n (xs ++ ys)
numbered_append n [] ys hx hy = numbered_from (n + 0) n ys (omega arith) hy
numbered_append n (x ∷ xs) ys hx hy = (hx.0, numbered_append (suc n) xs ys hx.1 (numbered_from (n + suc (length xs)) (suc n + length xs) ys (omega arith) hy))

numbered_among : (n : ℕ) (ts : List Entry) (t : Entry) → Numbered n ts → Among ts t → (k : ℕ) × (t.address ≡ n + k) × IsAt ts k t
numbered_among n [] t h a = absurd a
numbered_among n (x ∷ ts) t h (inl is) = (0, ap (λ (t : Entry). t.address) (sym is) ∙ (h.0 ∙ omega arith), ap Some is)
numbered_among n (x ∷ ts) t h (inr a) = let rest = numbered_among (suc n) ts t h.1 a in (suc rest.0, rest.1 ∙ omega arith, rest.2)

pub numbered_at : (n : ℕ) (ts : List Entry) (k : ℕ) (t : Entry) → Numbered n ts → IsAt ts k t → t.address ≡ n + k
numbered_at n [] k t h at = cc
numbered_at n (x ∷ ts) zero t h at = let is : x ≡ t = cc in ap (λ (t : Entry). t.address) (sym is) ∙ (h.0 ∙ omega arith)
numbered_at n (x ∷ ts) (suc k) t h at = numbered_at (suc n) ts k t h.1 at ∙ omega arith

length_tops : (make : Compound → Path) (f : Forest) (at free : ℕ) → length (laid_tops make f at free) ≡ width f
length_tops make none at free = refl
length_tops make (more c ids children descendants rest) at free = ap suc (length_tops make rest (suc at) (free + (size children + size descendants)))

length_below : (make : Compound → Path) (f : Forest) (free : ℕ) → width f + length (laid_below make f free) ≡ size f
length_below make none free = refl
length_below make (more c ids children descendants rest) free =
    let mc = Then (make c) Child in
    let md = Then (make c) Descendant in
    let tc = laid_tops mc children free (free + width children) in
    let bc = laid_below mc children (free + width children) in
    let td = laid_tops md descendants (free + size children) ((free + size children) + width descendants) in
    let bd = laid_below md descendants ((free + size children) + width descendants) in
    let br = laid_below make rest (free + (size children + size descendants)) in
    omega (
      arith,
      length-append (tc ++ bc) ((td ++ bd) ++ br),
      length-append tc bc,
      length-append (td ++ bd) br,
      length-append td bd,
      length_tops mc children free (free + width children),
      length_tops md descendants (free + size children) ((free + size children) + width descendants),
      length_below mc children (free + width children),
      length_below md descendants ((free + size children) + width descendants),
      length_below make rest (free + (size children + size descendants)),
    )

pub length_laid : (make : Compound → Path) (f : Forest) (at : ℕ) → length (laid make f at) ≡ size f
length_laid make f at =
    omega (arith, length-append (laid_tops make f at (at + width f)) (laid_below make f (at + width f)), length_tops make f at (at + width f), length_below make f (at + width f))

tops_numbered : (make : Compound → Path) (f : Forest) (at free : ℕ) → Numbered at (laid_tops make f at free)
tops_numbered make none at free = tt
tops_numbered make (more c ids children descendants rest) at free = (refl, tops_numbered make rest (suc at) (free + (size children + size descendants)))

pub laid_from : (make : Compound → Path) (f : Forest) (at : ℕ) → Numbered (at + width f) (laid_below make f (at + width f)) → Numbered at (laid make f at)
laid_from make f at h =
    let tops_length = length_tops make f at (at + width f) in
    numbered_append at (laid_tops make f at (at + width f)) (laid_below make f (at + width f)) (tops_numbered make f at (at + width f))
    (numbered_from (at + width f) (at + length (laid_tops make f at (at + width f))) (laid_below make f (at + width f)) (omega (arith, tops_length)) h)

pub below_numbered : (make : Compound → Path) (f : Forest) (free : ℕ) → Numbered free (laid_below make f free)
below_numbered make none free = tt
below_numbered make (more c ids children descendants rest) free =
    let mc = Then (make c) Child in
    let md = Then (make c) Descendant in
    let all_c = laid mc children free in
    let all_d = laid md descendants (free + size children) in
    let br = laid_below make rest (free + (size children + size descendants)) in
    let nc : Numbered free all_c = laid_from mc children free (below_numbered mc children (free + width children)) in
    let nd : Numbered (free + size children) all_d = laid_from md descendants (free + size children) (below_numbered md descendants ((free + size children) + width descendants)) in
    let lc : length all_c ≡ size children = length_laid mc children free in
    let ld : length all_d ≡ size descendants = length_laid md descendants (free + size children) in
    let nr : Numbered ((free + size children) + length all_d) br = numbered_from (free + (size children + size descendants)) ((free + size children) + length all_d) br (omega (arith, ld)) (below_numbered make rest (free + (size children + size descendants))) in
    let rest_numbered : Numbered (free + size children) (all_d ++ br) = numbered_append (free + size children) all_d br nd nr in
    numbered_append free all_c (all_d ++ br) nc (numbered_from (free + size children) (free + length all_c) (all_d ++ br) (omega (arith, lc)) rest_numbered)

-- 2. Paths

tops_paths : (make : Compound → Path) (f : Forest) (at free : ℕ) → map (λ (t : Entry). t.path) (laid_tops make f at free) ≡ tops make f
tops_paths make none at free = refl
tops_paths make (more c ids children descendants rest) at free = ap (λ ps. make c ∷ ps) (tops_paths make rest (suc at) (free + (size children + size descendants)))

laid_paths : (make : Compound → Path) (f : Forest) (at : ℕ) → map (λ (t : Entry). t.path) (laid_below make f (at + width f)) ≡ below make f → map (λ (t : Entry). t.path) (laid make f at) ≡ nodes_in make f
laid_paths make f at h = map-append (λ (t : Entry). t.path) (laid_tops make f at (at + width f)) (laid_below make f (at + width f)) ∙ (λ i. tops_paths make f at (at + width f) i ++ h i)

below_paths : (make : Compound → Path) (f : Forest) (free : ℕ) → map (λ (t : Entry). t.path) (laid_below make f free) ≡ below make f
below_paths make none free = refl
below_paths make (more c ids children descendants rest) free =
    let mc = Then (make c) Child in
    let md = Then (make c) Descendant in
    let br = laid_below make rest (free + (size children + size descendants)) in
    map-append (λ (t : Entry). t.path) (laid mc children free) (laid md descendants (free + size children) ++ br)
    ∙ (λ i. laid_paths mc children free (below_paths mc children (free + width children)) i
    ++ (map-append (λ (t : Entry). t.path) (laid md descendants (free + size children)) br
    ∙ (λ j. laid_paths md descendants (free + size children) (below_paths md descendants ((free + size children) + width descendants)) j ++ below_paths make rest (free + (size children + size descendants)) j)) i)

-- 3. Siblings

top_is : (make : Compound → Path) (f : Forest) (at free : ℕ) (t : Entry) → Among (laid_tops make f at free) t → (c : Compound) × (t.path ≡ make c) × IsWithin t.address (record { start = at; end = at + width f }) × (range_of f at ≡ Some (record { start = at; end = at + width f }))
top_is make none at free t h = absurd h
top_is make (more c ids children descendants rest) at free t (inl is) =
    let address : at ≡ t.address = ap (λ (t : Entry). t.address) is in
    (c, sym (ap (λ (t : Entry). t.path) is), (omega (arith, address), omega (arith, address)), refl)
top_is make (more c ids children descendants rest) at free t (inr h) =
    let later = top_is make rest (suc at) (free + (size children + size descendants)) t h in
    let within = later.2 in
    (later.0, later.1, (omega (arith, within.0), omega (arith, within.1)), refl)

top_at : (make : Compound → Path) (f : Forest) (at free k : ℕ) → at ≤ k → k < at + width f → (t : Entry) × Among (laid_tops make f at free) t × (t.address ≡ k)
top_at make none at free k low high = absurd (omega (arith, low, high))
top_at make (more c ids children descendants rest) at free k low high =
    by_cases (split at k low) (λ above. top_at make rest (suc at) (free + (size children + size descendants)) k above (omega (arith, high)))
  where
    split : (a b : ℕ) → a ≤ b → (a ≡ b) ⊎ (suc a ≤ b)
    split a b h = grind arith

    by_cases : (at ≡ k) ⊎ (suc at ≤ k) → (suc at ≤ k → (t : Entry) × Among (laid_tops make rest (suc at) (free + (size children + size descendants))) t × (t.address ≡ k))
        → (t : Entry) × Among (laid_tops make (more c ids children descendants rest) at free) t × (t.address ≡ k)
    by_cases (inl is) later = (record { address = at; path = make c; instruction = instruction_of c ids children descendants free }, inl refl, is)
    by_cases (inr high') later = let x = later high' in (x.0, inr x.1, x.2)

-- 4. What is said of a node among all entries

abbrev Within : List Entry → List Entry → Type 0
Within part whole = (t : Entry) → Among part t → Among whole t

record IsNode (all : List Entry) (t : Entry) : Type 0 where
  ids : List ℕ
  children : Forest
  descendants : Forest
  free : ℕ
  is : t.instruction ≡ instruction_of (last_compound t.path) ids children descendants free
  child_tops : Within (laid_tops (Then t.path Child) children free (free + width children)) all
  descendant_tops : Within (laid_tops (Then t.path Descendant) descendants (free + size children) ((free + size children) + width descendants)) all

module _ (all : List Entry) where
  module _ (make : Compound → Path) (c : Compound) (ids : List ℕ) (children descendants rest : Forest) (free : ℕ) where
    abbrev inner_c : List Entry
    inner_c = laid (Then (make c) Child) children free

    abbrev inner_d : List Entry
    inner_d = laid (Then (make c) Descendant) descendants (free + size children)

    abbrev inner_r : List Entry
    inner_r = laid_below make rest (free + (size children + size descendants))

    in_children : Within (inner_c ++ (inner_d ++ inner_r)) all → Within inner_c all
    in_children h t a = h t (among_front inner_c (inner_d ++ inner_r) t a)

    in_descendants : Within (inner_c ++ (inner_d ++ inner_r)) all → Within inner_d all
    in_descendants h t a = h t (among_back inner_c (inner_d ++ inner_r) t (among_front inner_d inner_r t a))

    in_rest : Within (inner_c ++ (inner_d ++ inner_r)) all → Within inner_r all
    in_rest h t a = h t (among_back inner_c (inner_d ++ inner_r) t (among_back inner_d inner_r t a))

    parts : (t : Entry) → Among (inner_c ++ (inner_d ++ inner_r)) t → Among inner_c t ⊎ (Among inner_d t ⊎ Among inner_r t)
    parts t a = elim (among_either inner_c (inner_d ++ inner_r) t a) [ inl x ↦ inl x | inr y ↦ inr (among_either inner_d inner_r t y) ]

  in_tops : (make : Compound → Path) (f : Forest) (at : ℕ) → Within (laid make f at) all → Within (laid_tops make f at (at + width f)) all
  in_tops make f at h t a = h t (among_front (laid_tops make f at (at + width f)) (laid_below make f (at + width f)) t a)

  in_below : (make : Compound → Path) (f : Forest) (at : ℕ) → Within (laid make f at) all → Within (laid_below make f (at + width f)) all
  in_below make f at h t a = h t (among_back (laid_tops make f at (at + width f)) (laid_below make f (at + width f)) t a)

  node_of_top : (make : Compound → Path) → ((c : Compound) → last_compound (make c) ≡ c) → (f : Forest) (at free : ℕ) → Within (laid_below make f free) all → (t : Entry) → Among (laid_tops make f at free) t → IsNode all t
  node_of_top make last none at free h t a = absurd a
  node_of_top make last (more c ids children descendants rest) at free h t (inl is) =
      subst (IsNode all) is (record {
        ids = ids;
        children = children;
        descendants = descendants;
        free = free;
        is = ap (λ d. instruction_of d ids children descendants free) (sym (last c));
        child_tops = in_tops (Then (make c) Child) children free (in_children make c ids children descendants rest free h);
        descendant_tops = in_tops (Then (make c) Descendant) descendants (free + size children) (in_descendants make c ids children descendants rest free h);
      })
  node_of_top make last (more c ids children descendants rest) at free h t (inr a) =
      node_of_top make last rest (suc at) (free + (size children + size descendants)) (in_rest make c ids children descendants rest free h) t a

  node_of_below : (make : Compound → Path) → (f : Forest) (free : ℕ) → Within (laid_below make f free) all → (t : Entry) → Among (laid_below make f free) t → IsNode all t
  node_of_below make none free h t a = absurd a
  node_of_below make (more c ids children descendants rest) free h t a =
      let mc = Then (make c) Child in
      let md = Then (make c) Descendant in
      let hc = in_below mc children free (in_children make c ids children descendants rest free h) in
      let hd = in_below md descendants (free + size children) (in_descendants make c ids children descendants rest free h) in
      elim (parts make c ids children descendants rest free t a) [
        | inl x ↦ elim (among_either (laid_tops mc children free (free + width children)) (laid_below mc children (free + width children)) t x) [
          | inl top ↦ node_of_top mc (λ d. refl) children free (free + width children) hc t top
          | inr deep ↦ node_of_below mc children (free + width children) hc t deep
        ]
        | inr (inl y) ↦ elim (among_either (laid_tops md descendants (free + size children) ((free + size children) + width descendants)) (laid_below md descendants ((free + size children) + width descendants)) t y) [
          | inl top ↦ node_of_top md (λ d. refl) descendants (free + size children) ((free + size children) + width descendants) hd t top
          | inr deep ↦ node_of_below md descendants ((free + size children) + width descendants) hd t deep
        ]
        | inr (inr z) ↦ node_of_below make rest (free + (size children + size descendants)) (in_rest make c ids children descendants rest free h) t z
      ]

-- 5. What is under a node

abbrev which : Combinator → Instruction → Option (Range ℕ)
which Child i = i.jumps
which Descendant i = i.hereditary_jumps

record HasParent (all : List Entry) (t : Entry) : Type 0 where
  parent : Entry
  among : Among all parent
  step : Combinator
  range : Range ℕ
  gives : which step parent.instruction ≡ Some range
  within : IsWithin t.address range
  under : above t.path ≡ Some (parent.path, step)

module _ (all : List Entry) where
  parent_of_below : (make : Compound → Path) (f : Forest) (at free : ℕ) → Within (laid_tops make f at free) all → Within (laid_below make f free) all → (t : Entry) → Among (laid_below make f free) t → HasParent all t
  parent_of_below make none at free ht hb t a = absurd a
  parent_of_below make (more c ids children descendants rest) at free ht hb t a =
      let mc = Then (make c) Child in
      let md = Then (make c) Descendant in
      let u : Entry = record { address = at; path = make c; instruction = instruction_of c ids children descendants free } in
      let hc = in_children all make c ids children descendants rest free hb in
      let hd = in_descendants all make c ids children descendants rest free hb in
      elim (parts all make c ids children descendants rest free t a) [
        | inl x ↦ elim (among_either (laid_tops mc children free (free + width children)) (laid_below mc children (free + width children)) t x) [
          | inl top ↦ let is = top_is mc children free (free + width children) t top in
              record { parent = u; among = ht u (inl refl); step = Child; range = record { start = free; end = free + width children }; gives = is.3; within = is.2; under = ap above is.1 }
          | inr deep ↦ parent_of_below mc children free (free + width children) (in_tops all mc children free hc) (in_below all mc children free hc) t deep
        ]
        | inr (inl y) ↦ elim (among_either (laid_tops md descendants (free + size children) ((free + size children) + width descendants)) (laid_below md descendants ((free + size children) + width descendants)) t y) [
          | inl top ↦ let is = top_is md descendants (free + size children) ((free + size children) + width descendants) t top in
              record { parent = u; among = ht u (inl refl); step = Descendant; range = record { start = free + size children; end = (free + size children) + width descendants }; gives = is.3; within = is.2; under = ap above is.1 }
          | inr deep ↦ parent_of_below md descendants (free + size children) ((free + size children) + width descendants) (in_tops all md descendants (free + size children) hd) (in_below all md descendants (free + size children) hd) t deep
        ]
        | inr (inr z) ↦ parent_of_below make rest (suc at) (free + (size children + size descendants)) (λ v b. ht v (inr b)) (in_rest all make c ids children descendants rest free hb) t z
      ]

  entry_of_pair : (make : Compound → Path) (f : Forest) (at free : ℕ) → Within (laid_tops make f at free) all → Within (laid_below make f free) all → (path : Path) (id : ℕ) → HasPair make f path id
      → (t : Entry) × Among all t × (t.path ≡ path) × Contains t.instruction.ids id
  entry_of_pair make none at free ht hb path id h = absurd h
  entry_of_pair make (more c ids children descendants rest) at free ht hb path id (inl (inl h)) =
      let u : Entry = record { address = at; path = make c; instruction = instruction_of c ids children descendants free } in
      (u, ht u (inl refl), h.0, h.1)
  entry_of_pair make (more c ids children descendants rest) at free ht hb path id (inl (inr (inl h))) =
      let mc = Then (make c) Child in
      let hc = in_children all make c ids children descendants rest free hb in
      entry_of_pair mc children free (free + width children) (in_tops all mc children free hc) (in_below all mc children free hc) path id h
  entry_of_pair make (more c ids children descendants rest) at free ht hb path id (inl (inr (inr h))) =
      let md = Then (make c) Descendant in
      let hd = in_descendants all make c ids children descendants rest free hb in
      entry_of_pair md descendants (free + size children) ((free + size children) + width descendants) (in_tops all md descendants (free + size children) hd) (in_below all md descendants (free + size children) hd) path id h
  entry_of_pair make (more c ids children descendants rest) at free ht hb path id (inr h) =
      entry_of_pair make rest (suc at) (free + (size children + size descendants)) (λ v b. ht v (inr b)) (in_rest all make c ids children descendants rest free hb) path id h

pair_of_top : (make : Compound → Path) (f : Forest) (at free : ℕ) (t : Entry) (id : ℕ) → Among (laid_tops make f at free) t → Contains t.instruction.ids id → HasPair make f t.path id
pair_of_top make none at free t id a h = absurd a
pair_of_top make (more c ids children descendants rest) at free t id (inl is) h =
    inl (inl (ap (λ (t : Entry). t.path) is, subst (λ (t : Entry). Contains t.instruction.ids id) (sym is) h))
pair_of_top make (more c ids children descendants rest) at free t id (inr a) h = inr (pair_of_top make rest (suc at) (free + (size children + size descendants)) t id a h)

pair_of_below : (make : Compound → Path) (f : Forest) (free : ℕ) (t : Entry) (id : ℕ) → Among (laid_below make f free) t → Contains t.instruction.ids id → HasPair make f t.path id
pair_of_below make none free t id a h = absurd a
pair_of_below make (more c ids children descendants rest) free t id a h =
    let mc = Then (make c) Child in
    let md = Then (make c) Descendant in
    elim (parts [] make c ids children descendants rest free t a) [
      | inl x ↦ elim (among_either (laid_tops mc children free (free + width children)) (laid_below mc children (free + width children)) t x) [
        | inl top ↦ inl (inr (inl (pair_of_top mc children free (free + width children) t id top h)))
        | inr deep ↦ inl (inr (inl (pair_of_below mc children (free + width children) t id deep h)))
      ]
      | inr (inl y) ↦ elim (among_either (laid_tops md descendants (free + size children) ((free + size children) + width descendants)) (laid_below md descendants ((free + size children) + width descendants)) t y) [
        | inl top ↦ inl (inr (inr (pair_of_top md descendants (free + size children) ((free + size children) + width descendants) t id top h)))
        | inr deep ↦ inl (inr (inr (pair_of_below md descendants ((free + size children) + width descendants) t id deep h)))
      ]
      | inr (inr z) ↦ inr (pair_of_below make rest (free + (size children + size descendants)) t id z h)
    ]

-- 6. The whole layout

module _ (f : Forest) (differ : SiblingsDiffer f) where
  abbrev entries : List Entry
  entries = laid First f 0

  abbrev entry_tops : List Entry
  entry_tops = laid_tops First f 0 (0 + width f)

  abbrev entry_below : List Entry
  entry_below = laid_below First f (0 + width f)

  abbrev paths : List Path
  paths = map (λ (t : Entry). t.path) entries

  abbrev instructions : List Instruction
  instructions = map (λ (t : Entry). t.instruction) entries

  paths_are : paths ≡ nodes_in First f
  paths_are = laid_paths First f 0 (below_paths First f (0 + width f))

  entries_numbered : Numbered 0 entries
  entries_numbered = laid_from First f 0 (below_numbered First f (0 + width f))

  once : Distinct paths
  once = subst Distinct (sym paths_are) (nodes_distinct f differ)

  address_of_entry : (t : Entry) → Among entries t → IsAt entries t.address t
  address_of_entry t a =
      let at = numbered_among 0 entries t entries_numbered a in
      let address : at.0 ≡ t.address = omega (arith, at.1) in
      subst (λ k. IsAt entries k t) address at.2

  path_of_entry : (t : Entry) → Among entries t → IsAt paths t.address t.path
  path_of_entry t a = map_at (λ (t : Entry). t.path) entries t.address t (address_of_entry t a)

  entry_at : (k : ℕ) (path : Path) → IsAt paths k path → (t : Entry) × Among entries t × (t.address ≡ k) × (t.path ≡ path)
  entry_at k path at =
      let x = at_map (λ (t : Entry). t.path) entries k path at in
      let address = numbered_at 0 entries k x.0 entries_numbered x.1 in
      (x.0, at_among entries k x.0 x.1, omega (arith, address), x.2)

  same_entry : (t u : Entry) → Among entries t → Among entries u → t.path ≡ u.path → t ≡ u
  same_entry t u a b same =
      let address : t.address ≡ u.address = one_place paths once t.address u.address u.path (path_of_entry t a ∙ ap Some same) (path_of_entry u b) in
      same_at entries u.address t u (subst (λ k. IsAt entries k t) address (address_of_entry t a)) (address_of_entry u b)

  tops_within : Within entry_tops entries
  tops_within t a = among_front entry_tops entry_below t a

  below_within : Within entry_below entries
  below_within t a = among_back entry_tops entry_below t a

  node_entry : (t : Entry) → Among entries t → IsNode entries t
  node_entry t a = elim (among_either entry_tops entry_below t a) [
    | inl top ↦ node_of_top entries First (λ c. refl) f 0 (0 + width f) below_within t top
    | inr deep ↦ node_of_below entries First f (0 + width f) below_within t deep
  ]

  parent_entry : (t : Entry) → Among entries t → Among entry_tops t ⊎ HasParent entries t
  parent_entry t a = elim (among_either entry_tops entry_below t a) [
    | inl top ↦ inl top
    | inr deep ↦ inr (parent_of_below entries First f 0 (0 + width f) tops_within below_within t deep)
  ]

  -- the parent's range holds what stands under a node
  under_range : (t : Entry) → Among entries t → (step : Combinator) (k : ℕ) (q : Path) → IsAt paths k q → above q ≡ Some (t.path, step) → (r : Range ℕ) × (which step t.instruction ≡ Some r) × IsWithin k r
  under_range t a step k q at under =
      let u = entry_at k q at in
      elim (parent_entry u.0 u.1) [
        | inl top ↦ let is = top_is First f 0 (0 + width f) u.0 top in
            let no : None ≡ Some (t.path, step) = ap above (sym is.1 ∙ u.3) ∙ under in
            absurd (none-some _ no)
        | inr h ↦
            let both = sym h.under ∙ (ap above u.3 ∙ under) in
            let same = same_entry h.parent t h.among a (one_front h.parent.path t.path h.step step both) in
            let gives : which step t.instruction ≡ Some h.range = (λ i. which (sym (one_step h.parent.path t.path h.step step both) i) (sym same i).instruction) ∙ h.gives in
            (h.range, gives, subst (λ n. IsWithin n h.range) u.2 h.within)
      ]

  range_right : (t : Entry) → Among entries t → (step : Combinator) (F : Forest) (a x : ℕ) → which step t.instruction ≡ range_of F a → Within (laid_tops (Then t.path step) F a x) entries → IsRangeOf paths (range_of F a) (Some (t.path, step))
  range_right t among step none a x is h = λ k q at under. let r = under_range t among step k q at under in none-some _ (sym is ∙ r.1)
  range_right t among step (more c ids children descendants rest) a x is h = (
    record {
      ordered = omega arith;
      inside =
          let last = top_at (Then t.path step) (more c ids children descendants rest) a x (a + width rest) (omega arith) (omega arith) in
          let within = at_within paths last.0.address last.0.path (path_of_entry last.0 (h last.0 last.1)) in
          let address = last.2 in
          omega (arith, within, address);
      members = λ k. (
        λ within.
            let u = top_at (Then t.path step) (more c ids children descendants rest) a x k within.0 within.1 in
            let top = top_is (Then t.path step) (more c ids children descendants rest) a x u.0 u.1 in
            (u.0.path, subst (λ n. IsAt paths n u.0.path) u.2 (path_of_entry u.0 (h u.0 u.1)), ap above top.1),
        λ at. let r = under_range t among step k at.0 at.1 at.2 in subst (IsWithin k) (some_is (sym r.1 ∙ is)) r.2,
      );
    },
    omega arith,
  )

  instruction_right : (by_keys : Bool) (t : Entry) → Among entries t → IsInstruction (selectors_in by_keys f) paths t.path t.instruction
  instruction_right by_keys t a =
      let node = node_entry t a in
      record {
        means = λ e. (ap (λ (i : Instruction). i.value e) node.is, ap (λ (i : Instruction). i.holds e) node.is);
        keys = ap (λ (i : Instruction). i.keys) node.is;
        ids = λ id. (
          λ h. (pairs_listed First f (t.path, id)).1 (elim (among_either entry_tops entry_below t a) [
            | inl top ↦ pair_of_top First f 0 (0 + width f) t id top h
            | inr deep ↦ pair_of_below First f (0 + width f) t id deep h
          ]),
          λ h.
              let u = entry_of_pair entries First f 0 (0 + width f) tops_within below_within t.path id ((pairs_listed First f (t.path, id)).0 h) in
              subst (λ (v : Entry). Contains v.instruction.ids id) (same_entry u.0 t u.1 a u.2) u.3,
        );
        jumps =
            let is : t.instruction.jumps ≡ range_of node.children node.free = ap (λ (i : Instruction). i.jumps) node.is in
            subst (λ o. IsRangeOf paths o (Some (t.path, Child))) (sym is) (range_right t a Child node.children node.free (node.free + width node.children) is node.child_tops);
        hereditary_jumps =
            let is : t.instruction.hereditary_jumps ≡ range_of node.descendants (node.free + size node.children) = ap (λ (i : Instruction). i.hereditary_jumps) node.is in
            subst (λ o. IsRangeOf paths o (Some (t.path, Descendant))) (sym is)
            (range_right t a Descendant node.descendants (node.free + size node.children) ((node.free + size node.children) + width node.descendants) is node.descendant_tops);
      }

  entry_right : HoldsAddresses paths (record { start = 0; end = width f }) None
  entry_right = record {
    ordered = omega arith;
    inside = omega (arith, length-map entries (λ (t : Entry). t.path), length_laid First f 0, length_below First f (0 + width f));
    members = λ k. (
      λ within.
          let within_k = within.1 in
          let u = top_at First f 0 (0 + width f) k (omega arith) (omega (arith, within_k)) in
          let top = top_is First f 0 (0 + width f) u.0 u.1 in
          (u.0.path, subst (λ n. IsAt paths n u.0.path) u.2 (path_of_entry u.0 (tops_within u.0 u.1)), ap above top.1),
      λ at.
          let u = entry_at k at.0 at.1 in
          elim (parent_entry u.0 u.1) [
            | inl top ↦ let is = (top_is First f 0 (0 + width f) u.0 top).2 in let address = u.2 in (omega arith, omega (arith, is.1, address))
            | inr h ↦ absurd (some_none (sym h.under ∙ (ap above u.3 ∙ at.2)))
          ],
    );
  }
    where
      some_none : {A : Type 0} {x : A} → Some x ≡ None → ⊥
      some_none e = cc

  whole : (by_keys : Bool) → IsProgramOf (selectors_in by_keys f) paths (program_of f)
  whole by_keys = record {
    same = λ path. (λ h. subst (λ ps. Contains ps path) paths_are h, λ h. subst (λ ps. Contains ps path) (sym paths_are) h);
    once = AllPairs-from_Distinct paths once;
    count = length-map entries (λ (t : Entry). t.instruction) ∙ sym (length-map entries (λ (t : Entry). t.path));
    entry = entry_right;
    by_type = sym (any_by_type-nodes First (λ c. refl) f) ∙ ap (list_any (λ path. has_test_by_type (last_compound path))) (sym paths_are);
    each = λ address path i at at'.
        let t = entry_at address path at in
        let here = subst (λ k. IsAt instructions k t.0.instruction) t.2 (map_at (λ (t : Entry). t.instruction) entries t.0.address t.0 (address_of_entry t.0 t.1)) in
        let same : t.0.instruction ≡ i = same_at instructions address t.0.instruction i here at' in
        subst (IsInstruction (selectors_in by_keys f) paths path) same (subst (λ q. IsInstruction (selectors_in by_keys f) paths q t.0.instruction) t.3 (instruction_right by_keys t.0 t.1));
  }

pub layouts_are_programs : LayoutsArePrograms
layouts_are_programs by_keys f differ = subst (λ ps. IsProgramOf (selectors_in by_keys f) ps (program_of f)) (paths_are f differ) (whole f differ by_keys)

pub worked_layout : WorkedLayout
worked_layout div p = (refl, refl)
