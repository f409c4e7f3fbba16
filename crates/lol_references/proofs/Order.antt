-- The first of some rows with whose names bytes begin has the longest of these names, if no name goes on with one that is before it.
use Rattle.std.proofs.Common.{◌≡◌, ℕ, ◌<◌, Bool, true, false, List, [], ◌∷◌, length, take, Option, Some, None, refl, sym, ◌∙◌, ap, arith}
use Rattle.std.specs.Prelude.{nat_eq, nat_lt, not, ◌&&◌, cond, find}
use Rattle.std.specs.Option.{option_map_or}
use Rattle.std.specs.List.{list_all, starts_with}
use Rattle.std.specs.Cmp.Lexicographic.{same_text}
use Rattle.std.proofs.lemmas.Cmp.{nat_list_eq_equiv}
use Rattle.std.proofs.lemmas.Bool.{ltb-true, le-ltb}
use Rattle.std.proofs.lemmas.List.{length-take-le, take-take}
use Rattle.lol_references.specs.Names.{name_end, begins_with_name, is_longer}

pub first : (a b : Bool) → (a && b) ≡ true → a ≡ true
first true b h = refl
first false b h = cc

pub second : (a b : Bool) → (a && b) ≡ true → b ≡ true
second true b h = h
second false b h = cc

pub both : (a b : Bool) → a ≡ true → b ≡ true → (a && b) ≡ true
both a b h k = rw (h, k) refl

-- what each element that passes one test passes too
pub all_pass : {X : Type 0} (p q : X → Bool) (xs : List X) → ((x : X) → p x ≡ true → q x ≡ true) → list_all p xs ≡ true → list_all q xs ≡ true
all_pass p q [] h all = refl
all_pass p q (x ∷ xs) h all =
    both (q x) (list_all q xs) (h x (first (p x) (list_all p xs) all)) (all_pass p q xs h (second (p x) (list_all p xs) all))

-- a row with whose name bytes begin has one
pub record Begins (bytes row : List ℕ) : Type 0 where
  pub short : name_end row < length row
  pub same : take (name_end row) row ≡ take (name_end row) bytes

option_begins : (bytes row : List ℕ) (b : Bool) → nat_lt (name_end row) (length row) ≡ b
    → option_map_or (λ len. starts_with nat_eq bytes (take len row)) (cond b (Some (name_end row)) None) false ≡ true → Begins bytes row
option_begins bytes row false e h = cc
option_begins bytes row true e h =
    let short : name_end row < length row = ltb-true (name_end row) (length row) e in
    let name = take (name_end row) row in
    let len : length name ≡ name_end row = length-take-le (name_end row) row (omega arith) in
    record { short = short; same = same_text name (take (length name) bytes) (sym h) ∙ ap (λ n. take n bytes) len }

pub begun : (bytes row : List ℕ) → begins_with_name bytes row ≡ true → Begins bytes row
begun bytes row h = option_begins bytes row (nat_lt (name_end row) (length row)) refl h

-- the name of a row begins with that of another one
abbrev pub continues : List ℕ → List ℕ → Bool
continues row later = starts_with nat_eq (take (name_end later) later) (take (name_end row) row)

unfoldable pub in_order : List (List ℕ) → Bool
in_order [] = true
in_order (row ∷ rows) = list_all (λ later. not (continues row later)) rows && in_order rows

-- of two names with which bytes begin the longer one continues the other
longer_continues : (bytes row later : List ℕ) → begins_with_name bytes row ≡ true → begins_with_name bytes later ≡ true
    → nat_lt (name_end row) (name_end later) ≡ true → continues row later ≡ true
longer_continues bytes row later h k longer =
    let below : name_end row < name_end later = ltb-true (name_end row) (name_end later) longer in
    let a = begun bytes row h in
    let b = begun bytes later k in
    let name = take (name_end row) row in
    let len : length name ≡ name_end row = length-take-le (name_end row) row (let s = a.short in omega arith) in
    let same : take (length name) (take (name_end later) later) ≡ name =
    ap (λ n. take n (take (name_end later) later)) len
    ∙ ap (λ (x : List ℕ). take (name_end row) x) b.same
    ∙ take-take (name_end row) (name_end later) bytes (omega arith)
    ∙ sym a.same in
    rw same (nat_list_eq_equiv.refl name)

-- no row has a longer name, where this one is read
abbrev pub no_longer : List ℕ → Option (List ℕ) → List ℕ → Bool
no_longer bytes read other = not (begins_with_name bytes other && is_longer read other)

not_longer : (bytes row later : List ℕ) → begins_with_name bytes row ≡ true → not (continues row later) ≡ true → no_longer bytes (Some row) later ≡ true
not_longer bytes row later h k = by_tests (begins_with_name bytes later) (nat_lt (name_end row) (name_end later)) refl refl
  where
    by_tests : (a b : Bool) → begins_with_name bytes later ≡ a → nat_lt (name_end row) (name_end later) ≡ b → not (a && b) ≡ true
    by_tests false b e f = refl
    by_tests true false e f = refl
    by_tests true true e f =
        let on = longer_continues bytes row later h e f in rw on at k

itself : (bytes row : List ℕ) (b : Bool) → not (b && nat_lt (name_end row) (name_end row)) ≡ true
itself bytes row b = rw (le-ltb (name_end row) (name_end row) (omega arith)) (nothing b)
  where
    nothing : (b : Bool) → not (b && false) ≡ true
    nothing true = refl
    nothing false = refl

first_is_longest : (bytes row : List ℕ) (rows : List (List ℕ)) (b : Bool) → begins_with_name bytes row ≡ b
    → list_all (λ later. not (continues row later)) rows ≡ true
    → list_all (no_longer bytes (find (begins_with_name bytes) rows)) rows ≡ true
    → list_all (no_longer bytes (cond b (Some row) (find (begins_with_name bytes) rows))) (row ∷ rows) ≡ true
first_is_longest bytes row rows true e apart later =
    both (no_longer bytes (Some row) row) (list_all (no_longer bytes (Some row)) rows)
    (itself bytes row (begins_with_name bytes row))
    (all_pass (λ x. not (continues row x)) (no_longer bytes (Some row)) rows (λ x h. not_longer bytes row x e h) apart)
first_is_longest bytes row rows false e apart later =
    both (no_longer bytes (find (begins_with_name bytes) rows) row) (list_all (no_longer bytes (find (begins_with_name bytes) rows)) rows)
    (rw e refl) later

pub longest : (bytes : List ℕ) (rows : List (List ℕ)) → in_order rows ≡ true
    → list_all (no_longer bytes (find (begins_with_name bytes) rows)) rows ≡ true
unfolding in_order
longest bytes [] h = refl
longest bytes (row ∷ rows) h =
    let apart = first (list_all (λ later. not (continues row later)) rows) (in_order rows) h in
    let later = second (list_all (λ later. not (continues row later)) rows) (in_order rows) h in
    first_is_longest bytes row rows (begins_with_name bytes row) refl apart (longest bytes rows later)
