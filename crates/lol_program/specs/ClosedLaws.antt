-- Nodes hold what their members stand under.
use Rattle.std.proofs.Common.{◌≡◌, ℕ, ◌⊎◌, inl, inr, refl, sym, subst, List, [], ◌∷◌}
use Rattle.std.specs.Prelude.{flat_map}
use Rattle.lol_css.specs.declared.selector.Combinator.{Combinator}
use Rattle.lol_css.specs.declared.selector.Combinator.TheVariants.{Child, Descendant}
use Rattle.lol_instructions.specs.Compounds.{Compound}
use Rattle.lol_program.specs.Paths.{Path, First, Then, beginnings, all_beginnings}
use Rattle.lol_program.specs.Forest.{Forest, none, more}
use Rattle.lol_program.specs.Asts.{trees_of, nodes_of}
use Rattle.lol_program.specs.Laws.{TreesAreClosed, BeginningsAreClosed}
use Rattle.lol_program.specs.NodeMemberLaws.{HasNode, HasPair}
use Rattle.lol_program.specs.NodeListLaws.{nodes_listed, pairs_listed}
use Rattle.lol_base.specs.MemberLaws.{Among, among_from_contains, contains_from_among, among_front, among_back, among_either}
use Rattle.lol_program.specs.NodeOnceLaws.{begins_itself, front_begins, nodes_distinct, AllPairs-from_Distinct}

-- 1. Trees

front_in : (make : Compound → Path) (B : Path → Type 0) → ((c d : Compound) (front : Path) (step : Combinator) → make c ≡ Then front step d → B front)
    → (f : Forest) (front : Path) (step : Combinator) (d : Compound) → HasNode make f (Then front step d) → B front ⊎ HasNode make f front
front_in make B own none front step d h = absurd h
front_in make B own (more c ids children descendants rest) front step d (inl (inl is)) = inl (own c d front step is)
front_in make B own (more c ids children descendants rest) front step d (inl (inr (inl h))) =
    elim (front_in (Then (make c) Child) (λ path. make c ≡ path) (λ c' d' front' step' e. cc) children front step d h) [
      | inl is ↦ inr (inl (inl is))
      | inr below ↦ inr (inl (inr (inl below)))
    ]
front_in make B own (more c ids children descendants rest) front step d (inl (inr (inr h))) =
    elim (front_in (Then (make c) Descendant) (λ path. make c ≡ path) (λ c' d' front' step' e. cc) descendants front step d h) [
      | inl is ↦ inr (inl (inl is))
      | inr below ↦ inr (inl (inr (inr below)))
    ]
front_in make B own (more c ids children descendants rest) front step d (inr h) =
    elim (front_in make B own rest front step d h) [ inl b ↦ inl b | inr later ↦ inr (inr later) ]

-- a pair's path is that of a node
pub pair_at_node : (make : Compound → Path) (f : Forest) (path : Path) (id : ℕ) → HasPair make f path id → HasNode make f path
pair_at_node make none path id h = absurd h
pair_at_node make (more c ids children descendants rest) path id (inl (inl own)) = inl (inl own.0)
pair_at_node make (more c ids children descendants rest) path id (inl (inr (inl h))) = inl (inr (inl (pair_at_node (Then (make c) Child) children path id h)))
pair_at_node make (more c ids children descendants rest) path id (inl (inr (inr h))) = inl (inr (inr (pair_at_node (Then (make c) Descendant) descendants path id h)))
pair_at_node make (more c ids children descendants rest) path id (inr h) = inr (pair_at_node make rest path id h)

no_front : (c d : Compound) (front : Path) (step : Combinator) → First c ≡ Then front step d → ⊥
no_front c d front step e = cc

pub trees_are_closed : TreesAreClosed
trees_are_closed by_keys ast =
    let f = trees_of ast in
    record {
      once = AllPairs-from_Distinct (nodes_of ast) (nodes_distinct f ast.siblings);
      fronts = λ front step c h. elim (front_in First (λ path. ⊥) no_front f front step c ((nodes_listed First f (Then front step c)).0 h)) [
        | inl never ↦ absurd never
        | inr node ↦ (nodes_listed First f front).1 node
      ];
      paths = λ path id h. (nodes_listed First f path).1 (pair_at_node First f path id ((pairs_listed First f (path, id)).0 h));
    }

-- 2. Beginnings

pub among_flat_map : {A B : Type 0} (f : A → List B) (xs : List A) (y : B) → Among (flat_map f xs) y → (x : A) × Among xs x × Among (f x) y
among_flat_map f [] y h = absurd h
among_flat_map f (x ∷ xs) y h = elim (among_either (f x) (flat_map f xs) y h) [
  | inl here ↦ (x, inl refl, here)
  | inr later ↦ let rest = among_flat_map f xs y later in (rest.0, inr rest.1, rest.2)
]

flat_map_among : {A B : Type 0} (f : A → List B) (xs : List A) (x : A) (y : B) → Among xs x → Among (f x) y → Among (flat_map f xs) y
flat_map_among f [] x y h g = absurd h
flat_map_among f (z ∷ xs) x y (inl is) g = among_front (f z) (flat_map f xs) y (subst (λ w. Among (f w) y) (sym is) g)
flat_map_among f (z ∷ xs) x y (inr h) g = among_back (f z) (flat_map f xs) y (flat_map_among f xs x y h g)

pub beginnings_are_closed : BeginningsAreClosed
beginnings_are_closed s are =
    let start = λ (pair : Path × ℕ). beginnings pair.0 in
    record {
      once = are.each_once;
      fronts = λ front step c h.
          let at = among_flat_map start s.pairs (Then front step c) (among_from_contains (all_beginnings s.pairs) (Then front step c) ((are.members (Then front step c)).0 h)) in
          (are.members front).1 (contains_from_among (all_beginnings s.pairs) front (flat_map_among start s.pairs at.0 front at.1 (front_begins at.0.0 front step c at.2)));
      paths = λ path id h.
          (are.members path).1 (contains_from_among (all_beginnings s.pairs) path (flat_map_among start s.pairs (path, id) path (among_from_contains s.pairs (path, id) h) (begins_itself path)));
    }
