-- Witnesses, and the nearest one.
use Rattle.std.proofs.Common.{◌≡◌, ℕ, ◌<◌, ◌≤◌, Bool, true, false, cond, ◌&&◌, ◌||◌, List, [], ◌∷◌, length, Option, Some, None, ◌+◌, inl, inr, refl, sym, ap, ◌∙◌, subst, arith}
use Rattle.std.specs.Prelude.{is_some}
use Rattle.std.specs.Option.{option_map}
use Rattle.lol_css.specs.declared.selector.Combinator.{Combinator}
use Rattle.lol_css.specs.declared.selector.Combinator.TheVariants.{Child, Descendant}
use Rattle.lol_base.specs.BoolLaws.{and_parts, and_of}
use Rattle.lol_instructions.specs.Tests.{Element}
use Rattle.lol_instructions.specs.Compounds.{Compound, all_hold}
use Rattle.lol_program.specs.Paths.{Path, First, Then, beginnings}
use Rattle.lol_machine.specs.Matching.{matches, step_reaches, some_ancestor_passes}
use Rattle.lol_machine.specs.Standing.{Descend}
use Rattle.lol_reasons.specs.Witnesses.{SomeAncestorHas, StepLeadsTo, IsWitness, first_found, found_at_nearest, step_finds, innermost_witness, AreNoNearer, given_at_nearest, step_gives, known_witness}
use Rattle.lol_reasons.specs.WitnessLaws.{InnermostIsWitness, MatchesByWitness, InnermostWhereMatches, WitnessesAreComplete, NoneIsNearer, InnermostIsOnlyOne, InnermostIsKnown}

-- 1. Options

-- what stands under a test, or nothing
if_some : {T : Type 0} (b : Bool) (o : Option T) (x : T) → cond b o None ≡ Some x → (b ≡ true) × (o ≡ Some x)
if_some true o x h = (refl, h)
if_some false o x h = cc

is_some-if : {T : Type 0} (b : Bool) (o : Option T) → is_some (cond b o None) ≡ (b && is_some o)
is_some-if true o = refl
is_some-if false o = refl

is_some-map : {A B : Type 0} (f : A → B) (o : Option A) → is_some (option_map f o) ≡ is_some o
is_some-map f None = refl
is_some-map f (Some x) = refl

-- a value that was mapped
record Mapped {A B : Type 0} (f : A → B) (o : Option A) (y : B) : Type 0 where
  from : A
  is : o ≡ Some from
  gives : f from ≡ y

some_injective : {T : Type 0} (x y : T) → Some x ≡ Some y → x ≡ y
some_injective x y h = ap (of_some x) h
  where
    of_some : {T : Type 0} → T → Option T → T
    of_some d None = d
    of_some d (Some z) = z

mapped : {A B : Type 0} (f : A → B) (o : Option A) (y : B) → option_map f o ≡ Some y → Mapped f o y
mapped f None y h = cc
mapped f (Some x) y h = record { from = x; is = refl; gives = some_injective (f x) y h }

record IsThere {T : Type 0} (o : Option T) : Type 0 where
  value : T
  is : o ≡ Some value

there : {T : Type 0} (o : Option T) → is_some o ≡ true → IsThere o
there None h = cc
there (Some x) h = record { value = x; is = refl }

is_some-first : (a b : Option (List ℕ)) → is_some (first_found a b) ≡ (is_some a || is_some b)
is_some-first None b = refl
is_some-first (Some x) b = refl

-- 2. The nearest witness is one

module _ (find : Element → List Element → Option (List ℕ)) where
  is_some-nearest : (outer : List Element) → is_some (found_at_nearest find outer) ≡ some_ancestor_passes (λ e around. is_some (find e around)) outer
  is_some-nearest [] = refl
  is_some-nearest (a ∷ outer) = is_some-first (find a outer) (found_at_nearest find outer) ∙ ap (λ b. is_some (find a outer) || b) (is_some-nearest outer)

  is_some-step : (step : Combinator) (outer : List Element) → is_some (step_finds step find outer) ≡ step_reaches step (λ e around. is_some (find e around)) outer
  is_some-step Child [] = refl
  is_some-step Child (parent ∷ outer) = refl
  is_some-step Descendant outer = is_some-nearest outer

  module _ (P : Element → List Element → Type 0) (w : List ℕ) (right : (e : Element) (outer : List Element) → find e outer ≡ Some w → P e outer) where
    nearest_has : (outer : List Element) → found_at_nearest find outer ≡ Some w → SomeAncestorHas P outer
    nearest_has [] h = cc
    nearest_has (a ∷ outer) h = by_first (find a outer) refl h (nearest_has outer)
      where
        by_first : (o : Option (List ℕ)) → find a outer ≡ o → first_found o (found_at_nearest find outer) ≡ Some w → (found_at_nearest find outer ≡ Some w → SomeAncestorHas P outer) → SomeAncestorHas P (a ∷ outer)
        by_first None is h later = inr (later h)
        by_first (Some x) is h later = inl (right a outer (is ∙ h))

    step_has : (step : Combinator) (outer : List Element) → step_finds step find outer ≡ Some w → StepLeadsTo step P outer
    step_has Child [] h = cc
    step_has Child (parent ∷ outer) h = right parent outer h
    step_has Descendant outer h = nearest_has outer h

pub innermost_is_witness : InnermostIsWitness
innermost_is_witness (First c) e outer w h =
    let parts = if_some (all_hold c e) (Some (e.number ∷ [])) w h in
    subst (λ v. IsWitness (First c) v e outer) (some_injective (e.number ∷ []) w parts.1) (refl, parts.0, refl)
innermost_is_witness (Then front step c) e outer w h =
    let parts = if_some (all_hold c e) (option_map (λ above. e.number ∷ above) (step_finds step (λ a around. innermost_witness front a around) outer)) w h in
    let m = mapped (λ above. e.number ∷ above) (step_finds step (λ a around. innermost_witness front a around) outer) w parts.1 in
    subst (λ v. IsWitness (Then front step c) v e outer) m.gives
    (refl, parts.0, step_has (λ a around. innermost_witness front a around) (λ a around. IsWitness front m.from a around) m.from (λ a around found. innermost_is_witness front a around m.from found) step outer m.is)

pub innermost_where_matches : InnermostWhereMatches
innermost_where_matches (First c) e outer = is_some-if (all_hold c e) (Some (e.number ∷ []))
innermost_where_matches (Then front step c) e outer =
    is_some-if (all_hold c e) (option_map (λ above. e.number ∷ above) (step_finds step (λ a around. innermost_witness front a around) outer))
    ∙ ap (λ b. all_hold c e && b) (
    is_some-map (λ above. e.number ∷ above) (step_finds step (λ a around. innermost_witness front a around) outer)
    ∙ is_some-step (λ a around. innermost_witness front a around) step outer
    ∙ (λ i. step_reaches step (λ a around. innermost_where_matches front a around i) outer)
    )

-- 3. A path with a witness matches

module _ (test : Element → List Element → Bool) (P : Element → List Element → Type 0) (passes : (e : Element) (outer : List Element) → P e outer → test e outer ≡ true) where
  ancestor_passes : (outer : List Element) → SomeAncestorHas P outer → some_ancestor_passes test outer ≡ true
  ancestor_passes [] h = absurd h
  ancestor_passes (a ∷ outer) (inl h) = λ i. passes a outer h i || some_ancestor_passes test outer
  ancestor_passes (a ∷ outer) (inr h) = or_later (test a outer) (ancestor_passes outer h)
    where
      or_later : (b : Bool) → some_ancestor_passes test outer ≡ true → (b || some_ancestor_passes test outer) ≡ true
      or_later true h = refl
      or_later false h = h

  step_passes : (step : Combinator) (outer : List Element) → StepLeadsTo step P outer → step_reaches step test outer ≡ true
  step_passes Child [] h = absurd h
  step_passes Child (parent ∷ outer) h = passes parent outer h
  step_passes Descendant outer h = ancestor_passes outer h

pub witness_matches : (path : Path) (e : Element) (outer : List Element) (w : List ℕ) → IsWitness path w e outer → matches path e outer ≡ true
witness_matches (First c) e outer [] h = absurd h
witness_matches (First c) e outer (n ∷ above) h = and_of (all_hold c e) true h.1 refl
witness_matches (Then front step c) e outer [] h = absurd h
witness_matches (Then front step c) e outer (n ∷ above) h =
    and_of (all_hold c e) (step_reaches step (λ a around. matches front a around) outer) h.1
    (step_passes (λ a around. matches front a around) (λ a around. IsWitness front above a around) (λ a around inner. witness_matches front a around above inner) step outer h.2)

pub matches_by_witness : MatchesByWitness
matches_by_witness path e outer = (
  λ h. let o = there (innermost_witness path e outer) (innermost_where_matches path e outer ∙ h) in (o.value, innermost_is_witness path e outer o.value o.is),
  λ h. witness_matches path e outer h.0 h.1,
)

module _ (P : Element → List Element → Type 0) (Q : Type 0) (gives : (e : Element) (outer : List Element) → P e outer → Q) where
  step_brings : (step : Combinator) (outer : List Element) → StepLeadsTo step P outer → Q
  step_brings Child [] h = absurd h
  step_brings Child (parent ∷ outer) h = gives parent outer h
  step_brings Descendant [] h = absurd h
  step_brings Descendant (a ∷ outer) (inl h) = gives a outer h
  step_brings Descendant (a ∷ outer) (inr h) = step_brings Descendant outer h

pub witnesses_are_complete : WitnessesAreComplete
witnesses_are_complete (First c) e outer [] h = absurd h
witnesses_are_complete (First c) e outer (n ∷ above) h = λ i. length (n ∷ h.2 i)
witnesses_are_complete (Then front step c) e outer [] h = absurd h
witnesses_are_complete (Then front step c) e outer (n ∷ above) h =
    let rest = step_brings (λ a around. IsWitness front above a around) (length above ≡ length (beginnings front)) (λ a around inner. witnesses_are_complete front a around above inner) step outer h.2 in
    omega (arith, rest)

-- 4. It is innermost

-- the first element of a chain at which a path has a witness
abbrev found_in : Path → List Element → Option (List ℕ)
found_in path chain = found_at_nearest (λ a around. innermost_witness path a around) chain

abbrev HasWitness : Path → List ℕ → List Element → Type 0
HasWitness path v chain = SomeAncestorHas (λ a around. IsWitness path v a around) chain

step_is_around : (path : Path) (v : List ℕ) (step : Combinator) (outer : List Element) → StepLeadsTo step (λ a around. IsWitness path v a around) outer → HasWitness path v outer
step_is_around path v Child [] h = absurd h
step_is_around path v Child (parent ∷ outer) h = inl h
step_is_around path v Descendant outer h = h

found_is_around : (path : Path) (w : List ℕ) (step : Combinator) (outer : List Element) → step_finds step (λ a around. innermost_witness path a around) outer ≡ Some w → found_in path outer ≡ Some w
found_is_around path w Child [] h = cc
found_is_around path w Child (parent ∷ outer) h = λ i. first_found (h i) (found_in path outer)
found_is_around path w Descendant outer h = h

no_witness : (path : Path) (e : Element) (outer : List Element) (v : List ℕ) → innermost_witness path e outer ≡ None → IsWitness path v e outer → ⊥
no_witness path e outer v none h =
    let some = innermost_where_matches path e outer ∙ witness_matches path e outer v h in
    let not_some : is_some (innermost_witness path e outer) ≡ false = ap is_some none in
    cc

-- a witness at an element of a chain: its first number is at most the chain's first, and the rest is of an element inside the chain
module _ (front : Path) (step : Combinator) (c : Compound) (n : ℕ) (above : List ℕ) where
  rest_around : (chain : List Element) → HasWitness (Then front step c) (n ∷ above) chain → HasWitness front above chain
  rest_around [] h = absurd h
  rest_around (x ∷ chain) (inl h) = inr (step_is_around front above step chain h.2)
  rest_around (x ∷ chain) (inr h) = inr (rest_around chain h)

  rest_after : (x : Element) (chain : List Element) → HasWitness (Then front step c) (n ∷ above) (x ∷ chain) → HasWitness front above chain
  rest_after x chain (inl h) = step_is_around front above step chain h.2
  rest_after x chain (inr h) = rest_around chain h

first_number : (path : Path) (n : ℕ) (above : List ℕ) (e : Element) (outer : List Element) → IsWitness path (n ∷ above) e outer → n ≡ e.number
first_number (First c) n above e outer h = h.0
first_number (Then front step c) n above e outer h = h.0

below_bound : (path : Path) (n : ℕ) (above : List ℕ) (bound : ℕ) (chain : List Element) → Descend bound chain → HasWitness path (n ∷ above) chain → n < bound
below_bound path n above bound [] d h = absurd h
below_bound path n above bound (x ∷ chain) d (inl h) = omega (arith, d.0, first_number path n above x chain h)
below_bound path n above bound (x ∷ chain) d (inr h) = let later = below_bound path n above x.number chain d.1 h in omega (arith, d.0, later)

at_most_first : (path : Path) (n : ℕ) (above : List ℕ) (x : Element) (chain : List Element) → Descend x.number chain → HasWitness path (n ∷ above) (x ∷ chain) → n ≤ x.number
at_most_first path n above x chain d (inl h) = omega (arith, first_number path n above x chain h)
at_most_first path n above x chain d (inr h) = let below = below_bound path n above x.number chain d h in omega (arith, below)

-- no witness at an element of a chain is empty
empty_witness : (path : Path) (chain : List Element) → HasWitness path [] chain → ⊥
empty_witness path [] h = absurd h
empty_witness (First c) (x ∷ chain) (inl h) = absurd h
empty_witness (Then front step c) (x ∷ chain) (inl h) = absurd h
empty_witness path (x ∷ chain) (inr h) = empty_witness path chain h

abbrev IsInnermostIn : Path → List Element → Type 0
IsInnermostIn path chain = (v w : List ℕ) → found_in path chain ≡ Some w → HasWitness path v chain → AreNoNearer v w

one_number : (c : Compound) (n m : ℕ) (above : List ℕ) (chain : List Element) → HasWitness (First c) (n ∷ above) chain → above ≡ []
one_number c n m above [] h = absurd h
one_number c n m above (x ∷ chain) (inl h) = h.2
one_number c n m above (x ∷ chain) (inr h) = one_number c n m above chain h

-- a witness found at the first element of a chain
at_first : (path : Path) (x : Element) (chain : List Element) → Descend x.number chain
    → ((front : Path) (step : Combinator) (c : Compound) → path ≡ Then front step c → IsInnermostIn front chain)
    → (v w : List ℕ) → innermost_witness path x chain ≡ Some w → HasWitness path v (x ∷ chain) → AreNoNearer v w
at_first path x chain d inner [] w found h = absurd (empty_witness path (x ∷ chain) h)
at_first (First c) x chain d inner (n ∷ above) w found h =
    let parts = if_some (all_hold c x) (Some (x.number ∷ [])) w found in
    let one = one_number c n n above (x ∷ chain) h in
    subst (λ u. AreNoNearer (n ∷ above) u) (some_injective (x.number ∷ []) w parts.1)
    (subst (λ u. AreNoNearer (n ∷ u) (x.number ∷ [])) (sym one) (at_most_first (First c) n above x chain d h, tt))
at_first (Then front step c) x chain d inner (n ∷ above) w found h =
    let parts = if_some (all_hold c x) (option_map (λ rest. x.number ∷ rest) (step_finds step (λ a around. innermost_witness front a around) chain)) w found in
    let m = mapped (λ rest. x.number ∷ rest) (step_finds step (λ a around. innermost_witness front a around) chain) w parts.1 in
    subst (λ u. AreNoNearer (n ∷ above) u) m.gives
    (at_most_first (Then front step c) n above x chain d h, inner front step c refl above m.from (found_is_around front m.from step chain m.is) (rest_after front step c n above x chain h))

-- in every chain
abbrev IsInnermost : Path → Type 0
IsInnermost path = (bound : ℕ) (chain : List Element) → Descend bound chain → IsInnermostIn path chain

chain_step : (path : Path) → ((front : Path) (step : Combinator) (c : Compound) → path ≡ Then front step c → IsInnermost front) → IsInnermost path
chain_step path inner bound [] d v w found h = absurd h
chain_step path inner bound (x ∷ chain) d v w found h =
    by_first (innermost_witness path x chain) refl found h (chain_step path inner x.number chain d.1 v w)
  where
    by_first : (o : Option (List ℕ)) → innermost_witness path x chain ≡ o → first_found o (found_in path chain) ≡ Some w → HasWitness path v (x ∷ chain)
        → (found_in path chain ≡ Some w → HasWitness path v chain → AreNoNearer v w) → AreNoNearer v w
    by_first (Some u) is found h later = at_first path x chain d.1 (λ front step c same. inner front step c same x.number chain d.1) v w (is ∙ found) h
    by_first None is found (inl h) later = absurd (no_witness path x chain v is h)
    by_first None is found (inr h) later = later found h

-- what a path of more than one compound stands under
front_of : Path → Path → Path
front_of d (First c) = d
front_of d (Then front step c) = front

not_then : (c d : Compound) (front : Path) (step : Combinator) → First c ≡ Then front step d → ⊥
not_then c d front step h = cc

is_innermost : (path : Path) → IsInnermost path
unfolding front_of
is_innermost (First c) = chain_step (First c) (λ front step d same. absurd (not_then c d front step same))
is_innermost (Then front step c) = chain_step (Then front step c) (λ f s d same. subst IsInnermost (ap (front_of front) same) (is_innermost front))

pub none_is_nearer : NoneIsNearer
none_is_nearer path e outer d v w found h =
    is_innermost path (e.number + 1) (e ∷ outer) (omega arith, d) v w (λ i. first_found (found i) (found_in path outer)) (inl h)

-- 5. And the only one

both_no_nearer : (v w : List ℕ) → AreNoNearer v w → AreNoNearer w v → v ≡ w
both_no_nearer [] [] a b = refl
both_no_nearer [] (n ∷ w) a b = absurd a
both_no_nearer (m ∷ v) [] a b = absurd a
both_no_nearer (m ∷ v) (n ∷ w) a b =
    let same : m ≡ n = omega (arith, a.0, b.0) in
    λ i. same i ∷ both_no_nearer v w a.1 b.1 i

pub innermost_is_only_one : InnermostIsOnlyOne
innermost_is_only_one path e outer d w witness innermost =
    let o = there (innermost_witness path e outer) (innermost_where_matches path e outer ∙ witness_matches path e outer w witness) in
    let back = none_is_nearer path e outer d w o.value o.is witness in
    let forth = innermost o.value (innermost_is_witness path e outer o.value o.is) in
    o.is ∙ ap Some (both_no_nearer o.value w forth back)

-- 6. What is known of matching is enough

module _ (find : Element → List Element → Option (List ℕ)) (test : Element → List Element → Bool) (give : Element → List Element → List ℕ)
    (gives : (e : Element) (outer : List Element) → test e outer ≡ true → find e outer ≡ Some (give e outer))
    (none : (e : Element) (outer : List Element) → test e outer ≡ false → find e outer ≡ None) where
  nearest_known : (outer : List Element) → some_ancestor_passes test outer ≡ true → found_at_nearest find outer ≡ Some (given_at_nearest test give outer)
  nearest_known [] h = cc
  nearest_known (a ∷ outer) h = by_test (test a outer) refl h (nearest_known outer)
    where
      by_test : (b : Bool) → test a outer ≡ b → (b || some_ancestor_passes test outer) ≡ true
          → (some_ancestor_passes test outer ≡ true → found_at_nearest find outer ≡ Some (given_at_nearest test give outer))
          → first_found (find a outer) (found_at_nearest find outer) ≡ Some (cond b (give a outer) (given_at_nearest test give outer))
      by_test true is passes later = λ i. first_found (gives a outer is i) (found_at_nearest find outer)
      by_test false is passes later = (λ i. first_found (none a outer is i) (found_at_nearest find outer)) ∙ later passes

  step_known : (step : Combinator) (outer : List Element) → step_reaches step test outer ≡ true → step_finds step find outer ≡ Some (step_gives step test give outer)
  step_known Child [] h = cc
  step_known Child (parent ∷ outer) h = gives parent outer h
  step_known Descendant outer h = nearest_known outer h

nothing_found : (path : Path) (e : Element) (outer : List Element) → matches path e outer ≡ false → innermost_witness path e outer ≡ None
nothing_found path e outer h = by_option (innermost_witness path e outer) (innermost_where_matches path e outer ∙ h)
  where
    by_option : (o : Option (List ℕ)) → is_some o ≡ false → o ≡ None
    by_option None h = refl
    by_option (Some w) h = cc

pub innermost_is_known : InnermostIsKnown
innermost_is_known (First c) e outer h =
    let holds = (and_parts (all_hold c e) true h).0 in
    ap (λ (b : Bool). cond b (Some (e.number ∷ [])) None) holds
innermost_is_known (Then front step c) e outer h =
    let parts = and_parts (all_hold c e) (step_reaches step (λ a around. matches front a around) outer) h in
    let found = step_known (λ a around. innermost_witness front a around) (λ a around. matches front a around) (λ a around. known_witness matches front a around) (λ a around fits. innermost_is_known front a around fits) (nothing_found front) step outer parts.1 in
    λ i. cond (parts.0 i) (option_map (λ above. e.number ∷ above) (found i)) None
