-- Lists of counters by type, and the levels of each name in them.
use Rattle.std.proofs.Common.{◌≡◌, ◌∙◌, sym, ap, refl, subst, true≢false, ℕ, ◌-◌, ◌<◌, ◌≤◌, suc, Bool, true, false, cond, ◌||◌, ◌&&◌, nat_lt, List, [], ◌∷◌, ◌++◌, length, map, drop, arith, length-append}
use Rattle.std.specs.Bool.{if◌then◌else◌}
use Rattle.std.specs.List.{list_any, filter}
use Rattle.std.proofs.lemmas.Bool.Decides.{nat_tests}
use Rattle.std.proofs.lemmas.List.{map-append}
use Rattle.std.specs.Str.{bytes_eq}
use Rattle.std.proofs.lemmas.Slice.Eq.{bytes_eq-Decides}
use Rattle.lol_base.specs.BoolLaws.{and-true, and-false}
use Rattle.lol_base.specs.LocalNames.{Name, same_local_name}
use Rattle.lol_base.specs.NameLaws.{same_lowercased}
use Rattle.lol_base.specs.PlaceLaws.{head_is, tail_is}
use Rattle.lol_stack.specs.Levels.{one_more, is_at_level, counted_at_last, without_last}
use Rattle.lol_stack.specs.TypedCounts.{TypedCount, key_of, is_of, level_of, levels_of, last_counted, counted_by_type, all_above, cut_to}
use Rattle.lol_stack.specs.TypedViews.{first_count, without_first, typed_counts_of, AreLevels}

-- ---- names

-- equal names are told from others alike
is_of-same : (name q : Name) → same_local_name name q ≡ true → (t : TypedCount) → is_of q t ≡ is_of name t
is_of-same name q same t = ap (λ bytes. bytes_eq t.name.lowercased bytes) (sym (same_lowercased name q same))

name_is_its_own : (name : Name) → same_local_name name name ≡ true
name_is_its_own name = (bytes_eq-Decides name.lowercased name.lowercased).1 refl

filter-congr : {A : Type 0} (p q : A → Bool) → ((x : A) → p x ≡ q x) → (xs : List A) → filter p xs ≡ filter q xs
filter-congr p q same [] = refl
filter-congr p q same (x ∷ xs) =
    ap (λ test. cond test (x ∷ filter p xs) (filter p xs)) (same x) ∙ ap (λ rest. cond (q x) (x ∷ rest) rest) (filter-congr p q same xs)

pub levels_of-same : (name q : Name) → same_local_name name q ≡ true → (ts : List TypedCount) → levels_of q ts ≡ levels_of name ts
levels_of-same name q same ts = ap (map level_of) (filter-congr (is_of q) (is_of name) (is_of-same name q same) ts)

-- ---- the counters from their keys and their levels

pub joined-keys : (ks : List (ℕ × Name)) (levels : Name → List (ℕ × ℕ)) → map key_of (typed_counts_of ks levels) ≡ ks
joined-keys [] levels = refl
joined-keys (k ∷ ks) levels = ap (λ rest. k ∷ rest) (joined-keys ks (without_first k.1 levels))

-- one counter before others
pub levels_of-cons : (q : Name) (t : TypedCount) (ts : List TypedCount) (b : Bool) → is_of q t ≡ b → levels_of q (t ∷ ts) ≡ cond b (level_of t ∷ levels_of q ts) (levels_of q ts)
levels_of-cons q t ts true is = ap (λ test. map level_of (cond test (t ∷ filter (is_of q) ts) (filter (is_of q) ts))) is
levels_of-cons q t ts false is = ap (λ test. map level_of (cond test (t ∷ filter (is_of q) ts) (filter (is_of q) ts))) is

without_first-levels : (t : TypedCount) (ts : List TypedCount) (levels : Name → List (ℕ × ℕ)) → AreLevels levels (t ∷ ts) → AreLevels (without_first t.name levels) ts
without_first-levels t ts levels are q =
    elim (same_local_name t.name q) as
    (λ same. same_local_name t.name q ≡ same → (if same then drop 1 (levels q) else levels q) ≡ levels_of q ts) [
      | true ↦ λ same. ap (drop 1) (are q ∙ levels_of-cons q t ts true same)
      | false ↦ λ other. are q ∙ levels_of-cons q t ts false other
    ] refl

pub joined-is : (ts : List TypedCount) (levels : Name → List (ℕ × ℕ)) → AreLevels levels ts → typed_counts_of (map key_of ts) levels ≡ ts
joined-is [] levels are = refl
joined-is (t ∷ ts) levels are =
    let first : first_count (levels t.name) ≡ t.count = ap first_count (are t.name ∙ levels_of-cons t.name t ts true (name_is_its_own t.name)) in
    let rest = joined-is ts (without_first t.name levels) (without_first-levels t ts levels are) in
    ap (λ count. record { level = t.level; name = t.name; count = count } ∷ typed_counts_of (map key_of ts) (without_first t.name levels)) first
    ∙ ap (λ more. t ∷ more) rest

-- where the keys and the levels are those of some counters, these are the counters
pub view-is : (ts : List TypedCount) (ks : List (ℕ × Name)) (levels : Name → List (ℕ × ℕ)) → ks ≡ map key_of ts → AreLevels levels ts → typed_counts_of ks levels ≡ ts
view-is ts ks levels keys are = ap (λ k. typed_counts_of k levels) keys ∙ joined-is ts levels are

pub view-keeps : (ts : List TypedCount) (ks : List (ℕ × Name)) (levels : Name → List (ℕ × ℕ)) → ks ≡ map key_of ts → AreLevels levels ts → AreLevels levels (typed_counts_of ks levels)
view-keeps ts ks levels keys are = subst (AreLevels levels) (sym (view-is ts ks levels keys are)) are

-- what is known of counters that were seen
pub keys-seen : (ts : List TypedCount) (ks : List (ℕ × Name)) (levels : Name → List (ℕ × ℕ)) → typed_counts_of ks levels ≡ ts → ks ≡ map key_of ts
keys-seen ts ks levels seen = sym (joined-keys ks levels) ∙ ap (map key_of) seen

pub levels-seen : (ts : List TypedCount) (ks : List (ℕ × Name)) (levels : Name → List (ℕ × ℕ)) → typed_counts_of ks levels ≡ ts → AreLevels levels (typed_counts_of ks levels) → AreLevels levels ts
levels-seen ts ks levels seen are = subst (AreLevels levels) seen are

pub levels-kept : (ts : List TypedCount) (old new : Name → List (ℕ × ℕ)) → AreLevels old ts → ((q : Name) → new q ≡ old q) → AreLevels new ts
levels-kept ts old new are same q = same q ∙ are q

pub levels-uncounted : (ts : List TypedCount) (name : Name) (old new : Name → List (ℕ × ℕ)) → AreLevels old ts
    → ((q : Name) → new q ≡ (if same_local_name name q then old q else old q)) → AreLevels new ts
levels-uncounted ts name old new are same q =
    same q ∙ (elim (same_local_name name q) as (λ b. (if b then old q else old q) ≡ old q) [ true ↦ refl | false ↦ refl ] ∙ are q)

-- ---- one more counted by the last counter of a name

pub keys-last_counted : (ts : List TypedCount) (name : Name) → map key_of (last_counted ts name) ≡ map key_of ts
keys-last_counted [] name = refl
keys-last_counted (t ∷ ts) name =
    elim (list_any (is_of name) ts) as
    (λ more. map key_of (if more then t ∷ last_counted ts name else (if same_local_name t.name name then record t { count = one_more t.count } else t) ∷ ts) ≡ map key_of (t ∷ ts)) [
      | true ↦ ap (λ rest. key_of t ∷ rest) (keys-last_counted ts name)
      | false ↦
          elim (same_local_name t.name name) as (λ same. map key_of ((if same then record t { count = one_more t.count } else t) ∷ ts) ≡ map key_of (t ∷ ts)) [
            | true ↦ refl
            | false ↦ refl
          ]
    ]

pub levels_of-none : (name : Name) (ts : List TypedCount) → list_any (is_of name) ts ≡ false → levels_of name ts ≡ []
levels_of-none name [] none = refl
levels_of-none name (t ∷ ts) none =
    elim (is_of name t) as (λ b. is_of name t ≡ b → (b || list_any (is_of name) ts) ≡ false → levels_of name (t ∷ ts) ≡ []) [
      | true ↦ λ is h. absurd (true≢false h)
      | false ↦ λ is h. levels_of-cons name t ts false is ∙ levels_of-none name ts h
    ] refl none

counted_last-cons : (name : Name) (ts : List TypedCount) (x : ℕ × ℕ) → list_any (is_of name) ts ≡ true → counted_at_last (x ∷ levels_of name ts) ≡ x ∷ counted_at_last (levels_of name ts)
counted_last-cons name [] x some = absurd (true≢false (sym some))
counted_last-cons name (t ∷ ts) x some =
    elim (is_of name t) as (λ b. is_of name t ≡ b → (b || list_any (is_of name) ts) ≡ true → counted_at_last (x ∷ levels_of name (t ∷ ts)) ≡ x ∷ counted_at_last (levels_of name (t ∷ ts))) [
      | true ↦ λ is h. rw (levels_of-cons name t ts true is) refl
      | false ↦ λ is h. rw (levels_of-cons name t ts false is) (counted_last-cons name ts x h)
    ] refl some

-- of the name itself
own_levels : (ts : List TypedCount) (name : Name) → levels_of name (last_counted ts name) ≡ counted_at_last (levels_of name ts)
own_levels [] name = refl
own_levels (t ∷ ts) name =
    elim (list_any (is_of name) ts) as
    (λ more. list_any (is_of name) ts ≡ more
    → levels_of name (if more then t ∷ last_counted ts name else (if same_local_name t.name name then record t { count = one_more t.count } else t) ∷ ts) ≡ counted_at_last (levels_of name (t ∷ ts))) [
      | true ↦ λ some.
          elim (is_of name t) as (λ b. is_of name t ≡ b → levels_of name (t ∷ last_counted ts name) ≡ counted_at_last (levels_of name (t ∷ ts))) [
            | true ↦ λ is.
                levels_of-cons name t (last_counted ts name) true is
                ∙ (ap (λ rest. level_of t ∷ rest) (own_levels ts name)
                ∙ (sym (counted_last-cons name ts (level_of t) some) ∙ ap counted_at_last (sym (levels_of-cons name t ts true is))))
            | false ↦ λ is.
                levels_of-cons name t (last_counted ts name) false is ∙ (own_levels ts name ∙ ap counted_at_last (sym (levels_of-cons name t ts false is)))
          ] refl
      | false ↦ λ none.
          elim (same_local_name t.name name) as
          (λ b. same_local_name t.name name ≡ b → levels_of name ((if b then record t { count = one_more t.count } else t) ∷ ts) ≡ counted_at_last (levels_of name (t ∷ ts))) [
            | true ↦ λ is.
                levels_of-cons name (record t { count = one_more t.count }) ts true is
                ∙ (ap (λ rest. (t.level, one_more t.count) ∷ rest) (levels_of-none name ts none)
                ∙ ap counted_at_last (sym (levels_of-cons name t ts true is ∙ ap (λ rest. level_of t ∷ rest) (levels_of-none name ts none))))
            | false ↦ λ is.
                levels_of-cons name t ts false is
                ∙ (levels_of-none name ts none ∙ ap counted_at_last (sym (levels_of-cons name t ts false is ∙ levels_of-none name ts none)))
          ] refl
    ] refl

-- of another name
same_turned : (a b q : Name) → same_local_name a b ≡ true → same_local_name a q ≡ same_local_name b q
same_turned a b q same = ap (λ bytes. bytes_eq bytes q.lowercased) (same_lowercased a b same)

other_levels : (ts : List TypedCount) (name q : Name) → same_local_name name q ≡ false → levels_of q (last_counted ts name) ≡ levels_of q ts
other_levels [] name q other = refl
other_levels (t ∷ ts) name q other =
    elim (list_any (is_of name) ts) as
    (λ more. levels_of q (if more then t ∷ last_counted ts name else (if same_local_name t.name name then record t { count = one_more t.count } else t) ∷ ts) ≡ levels_of q (t ∷ ts)) [
      | true ↦
          elim (is_of q t) as (λ b. is_of q t ≡ b → levels_of q (t ∷ last_counted ts name) ≡ levels_of q (t ∷ ts)) [
            | true ↦ λ is.
                levels_of-cons q t (last_counted ts name) true is ∙ (ap (λ rest. level_of t ∷ rest) (other_levels ts name q other) ∙ sym (levels_of-cons q t ts true is))
            | false ↦ λ is. levels_of-cons q t (last_counted ts name) false is ∙ (other_levels ts name q other ∙ sym (levels_of-cons q t ts false is))
          ] refl
      | false ↦
          elim (same_local_name t.name name) as
          (λ b. same_local_name t.name name ≡ b → levels_of q ((if b then record t { count = one_more t.count } else t) ∷ ts) ≡ levels_of q (t ∷ ts)) [
            | true ↦ λ is.
                let apart : is_of q t ≡ false = same_turned t.name name q is ∙ other in
                levels_of-cons q (record t { count = one_more t.count }) ts false apart ∙ sym (levels_of-cons q t ts false apart)
            | false ↦ λ is. refl
          ] refl
    ]

pub levels-last_counted : (ts : List TypedCount) (name : Name) (old new : Name → List (ℕ × ℕ)) → AreLevels old ts
    → ((q : Name) → new q ≡ (if same_local_name name q then counted_at_last (old q) else old q)) → AreLevels new (last_counted ts name)
levels-last_counted ts name old new are changed q =
    changed q
    ∙ elim (same_local_name name q) as
    (λ same. same_local_name name q ≡ same → (if same then counted_at_last (old q) else old q) ≡ levels_of q (last_counted ts name)) [
      | true ↦ λ same.
          ap counted_at_last (are q ∙ levels_of-same name q same ts) ∙ (sym (own_levels ts name) ∙ sym (levels_of-same name q same (last_counted ts name)))
      | false ↦ λ other. are q ∙ sym (other_levels ts name q other)
    ] refl

-- ---- one more counter

levels_of-push : (q : Name) (ts : List TypedCount) (t : TypedCount) (b : Bool) → is_of q t ≡ b → levels_of q (ts ++ t ∷ []) ≡ cond b (levels_of q ts ++ level_of t ∷ []) (levels_of q ts)
levels_of-push q [] t true is = levels_of-cons q t [] true is
levels_of-push q [] t false is = levels_of-cons q t [] false is
levels_of-push q (u ∷ ts) t true is =
    elim (is_of q u) as (λ b. is_of q u ≡ b → levels_of q (u ∷ (ts ++ t ∷ [])) ≡ levels_of q (u ∷ ts) ++ level_of t ∷ []) [
      | true ↦ λ own.
          levels_of-cons q u (ts ++ t ∷ []) true own
          ∙ (ap (λ rest. level_of u ∷ rest) (levels_of-push q ts t true is) ∙ ap (λ front. front ++ level_of t ∷ []) (sym (levels_of-cons q u ts true own)))
      | false ↦ λ own.
          levels_of-cons q u (ts ++ t ∷ []) false own ∙ (levels_of-push q ts t true is ∙ ap (λ front. front ++ level_of t ∷ []) (sym (levels_of-cons q u ts false own)))
    ] refl
levels_of-push q (u ∷ ts) t false is =
    elim (is_of q u) as (λ b. is_of q u ≡ b → levels_of q (u ∷ (ts ++ t ∷ [])) ≡ levels_of q (u ∷ ts)) [
      | true ↦ λ own.
          levels_of-cons q u (ts ++ t ∷ []) true own ∙ (ap (λ rest. level_of u ∷ rest) (levels_of-push q ts t false is) ∙ sym (levels_of-cons q u ts true own))
      | false ↦ λ own. levels_of-cons q u (ts ++ t ∷ []) false own ∙ (levels_of-push q ts t false is ∙ sym (levels_of-cons q u ts false own))
    ] refl

pub levels-started : (ts : List TypedCount) (t : TypedCount) (old new : Name → List (ℕ × ℕ)) → AreLevels old ts
    → ((q : Name) → new q ≡ (if same_local_name t.name q then old q ++ level_of t ∷ [] else old q)) → AreLevels new (ts ++ t ∷ [])
levels-started ts t old new are changed q =
    changed q
    ∙ elim (same_local_name t.name q) as
    (λ same. same_local_name t.name q ≡ same → (if same then old q ++ level_of t ∷ [] else old q) ≡ levels_of q (ts ++ t ∷ [])) [
      | true ↦ λ same. ap (λ front. front ++ level_of t ∷ []) (are q) ∙ sym (levels_of-push q ts t true same)
      | false ↦ λ other. are q ∙ sym (levels_of-push q ts t false other)
    ] refl

pub keys-push : (ts : List TypedCount) (t : TypedCount) → map key_of (ts ++ t ∷ []) ≡ map key_of ts ++ key_of t ∷ []
keys-push ts t = map-append key_of ts (t ∷ [])

-- ---- one counter less

pub without_last-push : {A : Type 0} (xs : List A) (x : A) → without_last (xs ++ x ∷ []) ≡ xs
without_last-push [] x = refl
without_last-push (y ∷ xs) x =
    let more : length (y ∷ (xs ++ x ∷ [])) - 1 ≡ suc (length (xs ++ x ∷ []) - 1) = omega (arith, length-append xs (x ∷ [])) in
    rw more (ap (λ rest. y ∷ rest) (without_last-push xs x))

pub levels-stopped : (ts : List TypedCount) (t : TypedCount) (old new : Name → List (ℕ × ℕ)) → AreLevels old (ts ++ t ∷ [])
    → ((q : Name) → new q ≡ (if same_local_name t.name q then without_last (old q) else old q)) → AreLevels new ts
levels-stopped ts t old new are changed q =
    changed q
    ∙ elim (same_local_name t.name q) as
    (λ same. same_local_name t.name q ≡ same → (if same then without_last (old q) else old q) ≡ levels_of q ts) [
      | true ↦ λ same. ap without_last (are q ∙ levels_of-push q ts t true same) ∙ without_last-push (levels_of q ts) (level_of t)
      | false ↦ λ other. are q ∙ levels_of-push q ts t false other
    ] refl

-- counters whose keys end in one
pub record EndsIn (ts : List TypedCount) (ks : List (ℕ × Name)) (k : ℕ × Name) : Type 0 where
  pub front : List TypedCount
  pub last : TypedCount
  pub whole : ts ≡ front ++ last ∷ []
  pub keys : map key_of front ≡ ks
  pub key : key_of last ≡ k

pub ends_in : (ts : List TypedCount) (ks : List (ℕ × Name)) (k : ℕ × Name) → map key_of ts ≡ ks ++ k ∷ [] → EndsIn ts ks k
ends_in [] [] k is = absurd (cc)
ends_in [] (l ∷ ks) k is = absurd (cc)
ends_in (t ∷ []) [] k is = record { front = []; last = t; whole = refl; keys = refl; key = head_is (key_of t) k [] [] is }
ends_in (t ∷ u ∷ ts) [] k is = absurd (let e = tail_is (key_of t) k (key_of u ∷ map key_of ts) [] is in cc)
ends_in (t ∷ ts) (l ∷ ks) k is =
    let rest = ends_in ts ks k (tail_is (key_of t) l (map key_of ts) (ks ++ k ∷ []) is) in
    record {
      front = t ∷ rest.front;
      last = rest.last;
      whole = ap (λ more. t ∷ more) rest.whole;
      keys = ap (λ more. key_of t ∷ more) rest.keys ∙ ap (λ first. first ∷ ks) (head_is (key_of t) l (map key_of ts) (ks ++ k ∷ []) is);
      key = rest.key;
    }

-- ---- those above a level

all_above-push : (level : ℕ) (ts : List TypedCount) (t : TypedCount) (b : Bool) → nat_lt level t.level ≡ b → all_above level (ts ++ t ∷ []) ≡ (all_above level ts && b)
all_above-push level [] t true is = rw is refl
all_above-push level [] t false is = rw is refl
all_above-push level (u ∷ ts) t b is =
    elim (nat_lt level u.level) as (λ above. (above && all_above level (ts ++ t ∷ [])) ≡ ((above && all_above level ts) && b)) [
      | true ↦ all_above-push level ts t b is
      | false ↦ refl
    ]

pub cut_to-above : (level : ℕ) (ts : List TypedCount) (t : TypedCount) → level < t.level → cut_to level (ts ++ t ∷ []) ≡ cut_to level ts
cut_to-above level [] t above = let is : nat_lt level t.level ≡ true = grind (arith, nat_tests) in rw is refl
cut_to-above level (u ∷ ts) t above =
    let is : nat_lt level t.level ≡ true = grind (arith, nat_tests) in
    ap (λ all. if all then [] else u ∷ cut_to level (ts ++ t ∷ [])) (all_above-push level (u ∷ ts) t true is ∙ and-true (all_above level (u ∷ ts)))
    ∙ ap (λ rest. if all_above level (u ∷ ts) then [] else u ∷ rest) (cut_to-above level ts t above)

pub cut_to-within : (level : ℕ) (ts : List TypedCount) (t : TypedCount) → t.level ≤ level → cut_to level (ts ++ t ∷ []) ≡ ts ++ t ∷ []
cut_to-within level [] t within = let is : nat_lt level t.level ≡ false = grind (arith, nat_tests) in rw is refl
cut_to-within level (u ∷ ts) t within =
    let is : nat_lt level t.level ≡ false = grind (arith, nat_tests) in
    ap (λ all. if all then [] else u ∷ cut_to level (ts ++ t ∷ [])) (all_above-push level (u ∷ ts) t false is ∙ and-false (all_above level (u ∷ ts)))
    ∙ ap (λ rest. u ∷ rest) (cut_to-within level ts t within)

-- ---- a child that is counted

pub counted-again : (ts : List TypedCount) (level : ℕ) (name : Name) → is_at_level level (levels_of name ts) ≡ true → last_counted ts name ≡ counted_by_type ts level name
counted-again ts level name at = rw at refl

pub counted-first : (ts : List TypedCount) (level : ℕ) (name : Name) → is_at_level level (levels_of name ts) ≡ false
    → ts ++ record { level = level; name = name; count = 1 } ∷ [] ≡ counted_by_type ts level name
counted-first ts level name at = rw at refl

-- ---- the last of a list

last_or : {A : Type 0} → A → List A → A
last_or d [] = d
last_or d (x ∷ xs) = last_or x xs

last_or-push : {A : Type 0} (d : A) (xs : List A) (x : A) → last_or d (xs ++ x ∷ []) ≡ x
unfolding last_or
last_or-push d [] x = refl
last_or-push d (y ∷ xs) x = last_or-push y xs x

pub same_last : {A : Type 0} (xs ys : List A) (x y : A) → xs ++ x ∷ [] ≡ ys ++ y ∷ [] → x ≡ y
same_last xs ys x y same = sym (last_or-push x xs x) ∙ (ap (last_or x) same ∙ last_or-push x ys y)

-- where the last counter isn't above a level, none is dropped
pub cut_to-ends : (ts : List TypedCount) (ks : List (ℕ × Name)) (k : ℕ × Name) (level : ℕ) → EndsIn ts ks k → k.0 ≤ level → cut_to level ts ≡ ts
cut_to-ends ts ks k level ends within =
    let same : ends.last.level ≡ k.0 = ap (λ (key : ℕ × Name). key.0) ends.key in
    subst (λ xs. cut_to level xs ≡ xs) (sym ends.whole) (cut_to-within level ends.front ends.last (omega (arith, same)))
