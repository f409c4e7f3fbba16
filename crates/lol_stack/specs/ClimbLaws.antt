-- Levels of counters by type, as children are counted and levels are cut.
use Rattle.std.proofs.Common.{◌≡◌, ◌∙◌, sym, ap, refl, subst, true≢false, ℕ, suc, ◌<◌, ◌≤◌, Bool, true, false, ◌&&◌, nat_lt, nat_le, List, [], ◌∷◌, ◌++◌, map, arith}
use Rattle.std.specs.Bool.{if◌then◌else◌}
use Rattle.std.specs.List.{filter}
use Rattle.std.proofs.lemmas.Bool.Decides.{Decides-ltb, nat_tests}
use Rattle.std.proofs.lemmas.List.{map-append}
use Rattle.lol_base.specs.LocalNames.{Name, same_local_name}
use Rattle.lol_base.specs.MemberLaws.{map-map}
use Rattle.lol_stack.specs.Levels.{is_at_level, counted_at_last}
use Rattle.lol_stack.specs.TypedCounts.{TypedCount, key_of, is_of, levels_of, last_counted, counted_by_type, all_above, cut_to}
use Rattle.lol_stack.specs.TypedLaws.{levels_in, first_or, Climb, IsRising, StandUpTo, NoneStand, CountingStands, CuttingStands, CuttingFilters}
use Rattle.lol_stack.specs.TypedListLaws.{levels_of-cons, levels_of-same, keys-last_counted, levels-last_counted, levels-started}

-- 1. The levels of a name after one more child is counted

abbrev pub started : ℕ → Name → TypedCount
started level name = record { level = level; name = name; count = 1 }

-- the levels of each name after one more is counted
pub levels_again : (ts : List TypedCount) (name q : Name) → levels_of q (last_counted ts name) ≡ (if same_local_name name q then counted_at_last (levels_of q ts) else levels_of q ts)
levels_again ts name q =
    sym (levels-last_counted ts name (λ r. levels_of r ts) (λ r. if same_local_name name r then counted_at_last (levels_of r ts) else levels_of r ts) (λ r. refl) (λ r. refl) q)

pub levels_first : (ts : List TypedCount) (level : ℕ) (name q : Name) → levels_of q (ts ++ started level name ∷ []) ≡ (if same_local_name name q then levels_of q ts ++ (level, 1) ∷ [] else levels_of q ts)
levels_first ts level name q =
    sym (levels-started ts (started level name) (λ r. levels_of r ts) (λ r. if same_local_name name r then levels_of r ts ++ (level, 1) ∷ [] else levels_of r ts) (λ r. refl) (λ r. refl) q)

-- 2. Levels that don't fall

pub climb_top : (top level : ℕ) (levels : List ℕ) → Climb top (level ∷ levels) → level ≤ top
climb_top top level [] c = c.0
climb_top top level (next ∷ levels) c = let below = climb_top top next levels c.1 in omega (arith, c.0, below)

pub climb_lower : (a b : ℕ) (levels : List ℕ) → a ≤ b → Climb a levels → Climb b levels
climb_lower a b [] h c = tt
climb_lower a b (level ∷ []) h c = (omega (arith, c.0, h), tt)
climb_lower a b (level ∷ next ∷ levels) h c = (c.0, climb_lower a b (next ∷ levels) h c.1)

pub is_above : (level n : ℕ) → level < n → nat_lt level n ≡ true
is_above level n h = (Decides-ltb level n).1 h

pub not_above : (level n : ℕ) → n ≤ level → nat_lt level n ≡ false
not_above level n h = grind (arith, nat_tests)

-- above a level from one counter on
pub climb_above : (top level : ℕ) (t : TypedCount) (ts : List TypedCount) → Climb top (levels_in (t ∷ ts)) → level < t.level → all_above level (t ∷ ts) ≡ true
climb_above top level t [] c h = ap (λ b. b && true) (is_above level t.level h)
climb_above top level t (u ∷ ts) c h =
    let next = c.0 in
    (λ i. is_above level t.level h i && climb_above top level u ts c.1 (omega (arith, next, h)) i)

levels_by_keys : (ts : List TypedCount) → map (λ (k : ℕ × Name). k.0) (map key_of ts) ≡ levels_in ts
levels_by_keys ts = map-map (λ (k : ℕ × Name). k.0) key_of ts

pub same_levels : (ts : List TypedCount) (name : Name) → levels_in (last_counted ts name) ≡ levels_in ts
same_levels ts name = sym (levels_by_keys (last_counted ts name)) ∙ (ap (map (λ (k : ℕ × Name). k.0)) (keys-last_counted ts name) ∙ levels_by_keys ts)

first_push : (top : ℕ) (levels : List ℕ) → first_or top (levels ++ top ∷ []) ≡ first_or top levels
first_push top [] = refl
first_push top (level ∷ levels) = refl

climb_push : (top : ℕ) (levels : List ℕ) → Climb top levels → Climb top (levels ++ top ∷ [])
climb_push top [] c = (omega arith, tt)
climb_push top (level ∷ levels) c = (subst (λ n. level ≤ n) (sym (first_push top levels)) c.0, climb_push top levels c.1)

pub climb_counted : (top : ℕ) (ts : List TypedCount) (name : Name) → Climb top (levels_in ts) → Climb top (levels_in (counted_by_type ts top name))
climb_counted top ts name c = by_test (is_at_level top (levels_of name ts))
  where
    by_test : (b : Bool) → Climb top (levels_in (if b then last_counted ts name else ts ++ started top name ∷ []))
    by_test true = subst (Climb top) (sym (same_levels ts name)) c
    by_test false = subst (Climb top) (sym (map-append (λ (t : TypedCount). t.level) ts (started top name ∷ []))) (climb_push top (levels_in ts) c)

first_cut : (top depth low : ℕ) (ts : List TypedCount) → low ≤ depth → low ≤ first_or top (levels_in ts) → low ≤ first_or depth (levels_in (cut_to depth ts))
first_cut top depth low [] h first = h
first_cut top depth low (t ∷ ts) h first = by_test (all_above depth (t ∷ ts))
  where
    by_test : (b : Bool) → low ≤ first_or depth (levels_in (if b then [] else t ∷ cut_to depth ts))
    by_test true = h
    by_test false = first

pub climb_cut : (top depth : ℕ) (ts : List TypedCount) → Climb top (levels_in ts) → Climb depth (levels_in (cut_to depth ts))
climb_cut top depth [] c = tt
climb_cut top depth (t ∷ ts) c = by_test (all_above depth (t ∷ ts)) refl (climb_cut top depth ts c.1) (nat_lt depth t.level) refl
  where
    by_test : (b : Bool) → all_above depth (t ∷ ts) ≡ b → Climb depth (levels_in (cut_to depth ts)) → (above : Bool) → nat_lt depth t.level ≡ above → Climb depth (levels_in (if b then [] else t ∷ cut_to depth ts))
    by_test true is later above at = tt
    by_test false is later true at = let all = climb_above top depth t ts c ((Decides-ltb depth t.level).0 at) in cc
    by_test false is later false at =
        let within : t.level ≤ depth = grind (arith, nat_tests) in
        (first_cut top depth t.level ts within c.0, later)

-- 3. Levels of a name rise

rising_lower : (a b : ℕ) (xs : List (ℕ × ℕ)) → a ≤ b → IsRising a xs → IsRising b xs
rising_lower a b [] within rises = tt
rising_lower a b (x ∷ []) within rises = omega arith
rising_lower a b (x ∷ y ∷ xs) within rises = (rises.0, rising_lower a b (y ∷ xs) within rises.1)

rising_counted : (level : ℕ) (xs : List (ℕ × ℕ)) → IsRising level xs → IsRising level (counted_at_last xs)
rising_counted level [] rises = tt
rising_counted level (x ∷ []) rises = rises
rising_counted level (x ∷ y ∷ []) rises = rises
rising_counted level (x ∷ y ∷ z ∷ xs) rises = (rises.0, rising_counted level (y ∷ z ∷ xs) rises.1)

-- one more counter of a name that has none at the level
rising_push : (top level : ℕ) (xs : List (ℕ × ℕ)) → top ≤ level → is_at_level level xs ≡ false → IsRising top xs → IsRising level (xs ++ (level, 1) ∷ [])
rising_push top level [] within none rises = omega arith
rising_push top level (x ∷ []) within none rises =
    let below : x.0 < level = grind (arith, nat_tests, none, rises) in
    (below, omega arith)
rising_push top level (x ∷ y ∷ xs) within none rises = (rises.0, rising_push top level (y ∷ xs) within none rises.1)

-- the same from a level on
abbrev RiseFrom : ℕ → ℕ → List (ℕ × ℕ) → Type 0
RiseFrom low level [] = low ≤ suc level
RiseFrom low level (x ∷ xs) = (low ≤ x.0) × RiseFrom (suc x.0) level xs

to_from : (low level : ℕ) (x : ℕ × ℕ) (xs : List (ℕ × ℕ)) → low ≤ x.0 → IsRising level (x ∷ xs) → RiseFrom low level (x ∷ xs)
to_from low level x [] above rises = (above, omega (arith, rises))
to_from low level x (y ∷ xs) above rises = let next : suc x.0 ≤ y.0 = omega (arith, rises.0) in (above, to_from (suc x.0) level y xs next rises.1)

rises_from : (level : ℕ) (xs : List (ℕ × ℕ)) → IsRising level xs → RiseFrom 0 level xs
rises_from level [] rises = omega arith
rises_from level (x ∷ xs) rises = to_from 0 level x xs (omega arith) rises

from_rises : (low level : ℕ) (xs : List (ℕ × ℕ)) → RiseFrom low level xs → IsRising level xs
from_rises low level [] rises = tt
from_rises low level (x ∷ []) rises = omega (arith, rises.1)
from_rises low level (x ∷ y ∷ xs) rises = let next : suc x.0 ≤ y.0 = rises.1.0 in (omega (arith, next), from_rises (suc x.0) level (y ∷ xs) rises.1)

-- where not all from a counter on are above a level, that one isn't
within_level : (top level : ℕ) (t : TypedCount) (ts : List TypedCount) → Climb top (levels_in (t ∷ ts)) → all_above level (t ∷ ts) ≡ false → t.level ≤ level
within_level top level t ts climb some = by_test (nat_lt level t.level) refl
  where
    by_test : (b : Bool) → nat_lt level t.level ≡ b → t.level ≤ level
    by_test true is = let all = climb_above top level t ts climb ((Decides-ltb level t.level).0 is) in absurd (true≢false (sym all ∙ some))
    by_test false is = grind (arith, nat_tests)

rising_cut : (low top level : ℕ) (ts : List TypedCount) (name : Name) → low ≤ suc level → Climb top (levels_in ts) → RiseFrom low top (levels_of name ts)
    → RiseFrom low level (levels_of name (cut_to level ts))
rising_cut low top level [] name within climb rises = within
rising_cut low top level (t ∷ ts) name within climb rises =
    by_test (all_above level (t ∷ ts)) refl (is_of name t) refl (λ from enough before. rising_cut from top level ts name enough climb.1 before)
  where
    by_test : (b : Bool) → all_above level (t ∷ ts) ≡ b → (own : Bool) → is_of name t ≡ own
        → ((from : ℕ) → from ≤ suc level → RiseFrom from top (levels_of name ts) → RiseFrom from level (levels_of name (cut_to level ts)))
        → RiseFrom low level (levels_of name (if b then [] else t ∷ cut_to level ts))
    by_test true all own is later = within
    by_test false some true is later =
        let below = within_level top level t ts climb some in
        let before = subst (RiseFrom low top) (levels_of-cons name t ts true is) rises in
        subst (RiseFrom low level) (sym (levels_of-cons name t (cut_to level ts) true is)) (before.0, later (suc t.level) (omega (arith, below)) before.1)
    by_test false some false is later =
        let before = subst (RiseFrom low top) (levels_of-cons name t ts false is) rises in
        subst (RiseFrom low level) (sym (levels_of-cons name t (cut_to level ts) false is)) (later low within before)

-- 4. Both

pub stand_lower : (a b : ℕ) (ts : List TypedCount) → a ≤ b → StandUpTo a ts → StandUpTo b ts
stand_lower a b ts within stand = record {
  climb = climb_lower a b (levels_in ts) within stand.climb;
  rise = λ name. rising_lower a b (levels_of name ts) within (stand.rise name);
}

pub none_stand : NoneStand
none_stand level = record { climb = tt; rise = λ name. tt }

pub counting_stands : CountingStands
counting_stands ts top level name stand within = record {
  climb = climb_counted level ts name (climb_lower top level (levels_in ts) within stand.climb);
  rise = λ q. by_test q (is_at_level level (levels_of name ts)) refl (same_local_name name q) refl;
}
  where
    before : (q : Name) → IsRising level (levels_of q ts)
    before q = rising_lower top level (levels_of q ts) within (stand.rise q)

    by_test : (q : Name) (at : Bool) → is_at_level level (levels_of name ts) ≡ at → (same : Bool) → same_local_name name q ≡ same
        → IsRising level (levels_of q (if at then last_counted ts name else ts ++ started level name ∷ []))
    by_test q true at true same =
        let levels = levels_again ts name q ∙ ap (λ b. if b then counted_at_last (levels_of q ts) else levels_of q ts) same in
        subst (IsRising level) (sym levels) (rising_counted level (levels_of q ts) (before q))
    by_test q true at false other =
        let levels = levels_again ts name q ∙ ap (λ b. if b then counted_at_last (levels_of q ts) else levels_of q ts) other in
        subst (IsRising level) (sym levels) (before q)
    by_test q false at true same =
        let levels = levels_first ts level name q ∙ ap (λ b. if b then levels_of q ts ++ (level, 1) ∷ [] else levels_of q ts) same in
        let none = ap (is_at_level level) (levels_of-same name q same ts) ∙ at in
        subst (IsRising level) (sym levels) (rising_push top level (levels_of q ts) within none (stand.rise q))
    by_test q false at false other =
        let levels = levels_first ts level name q ∙ ap (λ b. if b then levels_of q ts ++ (level, 1) ∷ [] else levels_of q ts) other in
        subst (IsRising level) (sym levels) (before q)

pub cutting_stands : CuttingStands
cutting_stands ts top level stand = record {
  climb = climb_cut top level ts stand.climb;
  rise = λ name. from_rises 0 level (levels_of name (cut_to level ts)) (rising_cut 0 top level ts name (omega arith) stand.climb (rises_from top (levels_of name ts) (stand.rise name)));
}

-- 5. What a cut leaves

abbrev is_within : ℕ → TypedCount → Bool
is_within level t = nat_le t.level level

none_within : (level : ℕ) (ts : List TypedCount) → all_above level ts ≡ true → filter (is_within level) ts ≡ []
none_within level [] all = refl
none_within level (t ∷ ts) all = by_test (nat_lt level t.level) refl all (none_within level ts)
  where
    by_test : (b : Bool) → nat_lt level t.level ≡ b → (b && all_above level ts) ≡ true → (all_above level ts ≡ true → filter (is_within level) ts ≡ [])
        → filter (is_within level) (t ∷ ts) ≡ []
    by_test true is rest later =
        let above : nat_le t.level level ≡ false = grind (arith, nat_tests) in
        ap (λ b. if b then t ∷ filter (is_within level) ts else filter (is_within level) ts) above ∙ later rest
    by_test false is rest later = absurd (true≢false (sym rest))

pub cutting_filters : CuttingFilters
cutting_filters [] top level climb = refl
cutting_filters (t ∷ ts) top level climb = by_test (all_above level (t ∷ ts)) refl (cutting_filters ts top level climb.1)
  where
    by_test : (b : Bool) → all_above level (t ∷ ts) ≡ b → cut_to level ts ≡ filter (is_within level) ts
        → (if b then [] else t ∷ cut_to level ts) ≡ filter (is_within level) (t ∷ ts)
    by_test true all later = sym (none_within level (t ∷ ts) all)
    by_test false some later =
        let low = within_level top level t ts climb some in
        let within : nat_le t.level level ≡ true = grind (arith, nat_tests, low) in
        ap (λ rest. t ∷ rest) later
        ∙ sym (ap (λ b. if b then t ∷ filter (is_within level) ts else filter (is_within level) ts) within)
