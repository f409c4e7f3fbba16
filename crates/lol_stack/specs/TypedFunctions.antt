-- Counts by type as a function of level and name, as children are counted and levels are cut.
use Rattle.std.proofs.Common.{◌≡◌, ◌∙◌, sym, ap, refl, true≢false, ℕ, ◌+◌, ◌<◌, ◌≤◌, Bool, true, false, ◌&&◌, ◌||◌, nat_eq, nat_le, List, [], ◌∷◌, ◌++◌, Some, None, unwrap_or, arith}
use Rattle.std.specs.Bool.{if◌then◌else◌}
use Rattle.std.specs.List.{list_any, filter}
use Rattle.std.specs.Str.{bytes_eq}
use Rattle.std.specs.Cmp.{unsigned_Decides}
use Rattle.std.proofs.lemmas.Bool.Decides.{nat_tests}
use Rattle.std.proofs.lemmas.Slice.Eq.{bytes_eq-Decides}
use Rattle.lol_base.specs.LocalNames.{Name, same_local_name}
use Rattle.lol_instructions.specs.Counters.{full_count}
use Rattle.lol_stack.specs.Levels.{is_at_level, one_more, count_if_at}
use Rattle.lol_stack.specs.TypedCounts.{TypedCount, is_of, level_of, levels_of, last_counted}
use Rattle.lol_stack.specs.TypedLaws.{contributes, typed_of, IsRising, CountsAtTheirLevel, CountingAddsOne, CuttingDropsAbove}
use Rattle.lol_stack.specs.ClimbLaws.{cutting_filters}
use Rattle.lol_stack.specs.LevelLaws.{one_more-free}
use Rattle.lol_stack.specs.TypedListLaws.{levels_of-cons, levels_of-none}

abbrev added : ℕ → Name → ℕ → List ℕ → ℕ
added level name l q = if nat_eq level l && bytes_eq name.lowercased q then 1 else 0

-- ---- one more counter

typed_of-push : (ts : List TypedCount) (t : TypedCount) (l : ℕ) (q : List ℕ) → typed_of (ts ++ t ∷ []) l q ≡ typed_of ts l q + contributes l q t
typed_of-push [] t l q = omega arith
typed_of-push (u ∷ ts) t l q = omega (arith, typed_of-push ts t l q)

-- ---- one more of the last counter

is_at-more : (level : ℕ) (name : Name) (ts : List TypedCount) (x : ℕ × ℕ) → list_any (is_of name) ts ≡ true → is_at_level level (x ∷ levels_of name ts) ≡ is_at_level level (levels_of name ts)
is_at-more level name [] x some = absurd (true≢false (sym some))
is_at-more level name (t ∷ ts) x some =
    elim (is_of name t) as (λ b. is_of name t ≡ b → (b || list_any (is_of name) ts) ≡ true → is_at_level level (x ∷ levels_of name (t ∷ ts)) ≡ is_at_level level (levels_of name (t ∷ ts))) [
      | true ↦ λ is h. rw (levels_of-cons name t ts true is) refl
      | false ↦ λ is h. rw (levels_of-cons name t ts false is) (is_at-more level name ts x h)
    ] refl some

-- a counter that counts one more, and stands at this level and name
bumped : (t : TypedCount) (level : ℕ) (name : Name) (l : ℕ) (q : List ℕ) → t.level ≡ level → t.name.lowercased ≡ name.lowercased → t.count < full_count
    → contributes l q (record t { count = one_more t.count }) ≡ contributes l q t + added level name l q
bumped t level name l q same_level same_name free =
    let more = one_more-free t.count free in
    ap (λ n. if nat_eq n l && bytes_eq t.name.lowercased q then one_more t.count else 0) same_level
    ∙ (ap (λ n. if nat_eq level l && bytes_eq n q then one_more t.count else 0) same_name
    ∙ (elim (nat_eq level l && bytes_eq name.lowercased q) as
    (λ own. (if own then one_more t.count else 0) ≡ (if own then t.count else 0) + (if own then 1 else 0)) [
      | true ↦ more
      | false ↦ omega arith
    ]
    ∙ ap (λ n. n + added level name l q)
    (sym (ap (λ n. if nat_eq n l && bytes_eq t.name.lowercased q then t.count else 0) same_level ∙ ap (λ n. if nat_eq level l && bytes_eq n q then t.count else 0) same_name))))

-- what stands at its own level and name
own_count : (t : TypedCount) (level : ℕ) (name : Name) → t.level ≡ level → t.name.lowercased ≡ name.lowercased → contributes level name.lowercased t ≡ t.count
own_count t level name same_level same_name =
    let l : nat_eq t.level level ≡ true = (unsigned_Decides t.level level).1 same_level in
    let n : bytes_eq t.name.lowercased name.lowercased ≡ true = (bytes_eq-Decides t.name.lowercased name.lowercased).1 same_name in
    ap (λ b. if b && bytes_eq t.name.lowercased name.lowercased then t.count else 0) l ∙ ap (λ b. if b then t.count else 0) n

typed_of-last : (ts : List TypedCount) (level : ℕ) (name : Name) → is_at_level level (levels_of name ts) ≡ true → typed_of ts level name.lowercased < full_count → (l : ℕ) (q : List ℕ)
    → typed_of (last_counted ts name) l q ≡ typed_of ts l q + added level name l q
typed_of-last [] level name at free l q = absurd (true≢false (sym at))
typed_of-last (t ∷ ts) level name at free l q =
    elim (list_any (is_of name) ts) as
    (λ more. list_any (is_of name) ts ≡ more
    → typed_of (if more then t ∷ last_counted ts name else (if same_local_name t.name name then record t { count = one_more t.count } else t) ∷ ts) l q
    ≡ (contributes l q t + typed_of ts l q) + added level name l q) [
      | true ↦ λ some.
          let rest : is_at_level level (levels_of name ts) ≡ true =
          elim (is_of name t) as (λ b. is_of name t ≡ b → is_at_level level (levels_of name ts) ≡ true) [
            | true ↦ λ is. sym (is_at-more level name ts (level_of t) some) ∙ (sym (ap (is_at_level level) (levels_of-cons name t ts true is)) ∙ at)
            | false ↦ λ is. sym (ap (is_at_level level) (levels_of-cons name t ts false is)) ∙ at
          ] refl
          in
          let few : typed_of ts level name.lowercased < full_count = omega (arith, free) in
          omega (arith, typed_of-last ts level name rest few l q)
      | false ↦ λ none.
          elim (same_local_name t.name name) as
          (λ b. same_local_name t.name name ≡ b
          → typed_of ((if b then record t { count = one_more t.count } else t) ∷ ts) l q ≡ (contributes l q t + typed_of ts l q) + added level name l q) [
            | true ↦ λ is.
                let only = levels_of-cons name t ts true is ∙ ap (λ rest. level_of t ∷ rest) (levels_of-none name ts none) in
                let same_level : t.level ≡ level = (unsigned_Decides t.level level).0 (sym (ap (is_at_level level) only) ∙ at) in
                let same_name = (bytes_eq-Decides t.name.lowercased name.lowercased).0 is in
                let own = own_count t level name same_level same_name in
                let few : t.count < full_count = omega (arith, own, free) in
                omega (arith, bumped t level name l q same_level same_name few)
            | false ↦ λ is.
                let empty = levels_of-cons name t ts false is ∙ levels_of-none name ts none in
                absurd (true≢false (sym at ∙ ap (is_at_level level) empty))
          ] refl
    ] refl

pub counting_adds_one : CountingAddsOne
counting_adds_one ts level name free l q =
    elim (is_at_level level (levels_of name ts)) as
    (λ at. is_at_level level (levels_of name ts) ≡ at
    → typed_of (if at then last_counted ts name else ts ++ record { level = level; name = name; count = 1 } ∷ []) l q ≡ typed_of ts l q + added level name l q) [
      | true ↦ λ at. typed_of-last ts level name at free l q
      | false ↦ λ other. typed_of-push ts (record { level = level; name = name; count = 1 }) l q
    ] refl

-- ---- levels that are cut

typed_of-within : (ts : List TypedCount) (level l : ℕ) (q : List ℕ)
    → typed_of (filter (λ t. nat_le t.level level) ts) l q ≡ (if nat_le l level then typed_of ts l q else 0)
typed_of-within [] level l q = elim (nat_le l level) as (λ b. typed_of [] l q ≡ (if b then typed_of [] l q else 0)) [ true ↦ refl | false ↦ refl ]
typed_of-within (t ∷ ts) level l q = by_test (nat_le t.level level) refl (nat_le l level) refl (typed_of-within ts level l q)
  where
    apart : nat_eq t.level l ≡ false → contributes l q t ≡ 0
    apart other = ap (λ b. if b && bytes_eq t.name.lowercased q then t.count else 0) other

    by_test : (own : Bool) → nat_le t.level level ≡ own → (low : Bool) → nat_le l level ≡ low
        → typed_of (filter (λ (t : TypedCount). nat_le t.level level) ts) l q ≡ (if low then typed_of ts l q else 0)
        → typed_of (if own then t ∷ filter (λ (t : TypedCount). nat_le t.level level) ts else filter (λ (t : TypedCount). nat_le t.level level) ts) l q
        ≡ (if low then contributes l q t + typed_of ts l q else 0)
    by_test true le true low rest = ap (λ n. contributes l q t + n) rest
    by_test true le false high rest = omega (arith, rest, apart (grind (arith, nat_tests, le, high)))
    by_test false gt true low rest = omega (arith, rest, apart (grind (arith, nat_tests, gt, low)))
    by_test false gt false high rest = rest

pub cutting_drops_above : CuttingDropsAbove
cutting_drops_above ts level top climb l q = ap (λ left. typed_of left l q) (cutting_filters ts top level climb) ∙ typed_of-within ts level l q

first_within : (level : ℕ) (x : ℕ × ℕ) (xs : List (ℕ × ℕ)) → IsRising level (x ∷ xs) → x.0 ≤ level
first_within level x [] rises = rises
first_within level x (y ∷ xs) rises =
    let more = first_within level y xs rises.1 in
    let before : x.0 < y.0 = rises.0 in
    omega arith

-- ---- the last counter of a name

sum_at : ℕ → List (ℕ × ℕ) → ℕ
sum_at level [] = 0
sum_at level (x ∷ xs) = (if nat_eq x.0 level then x.1 else 0) + sum_at level xs

typed_of-levels : (ts : List TypedCount) (level : ℕ) (name : Name) → typed_of ts level name.lowercased ≡ sum_at level (levels_of name ts)
unfolding sum_at
typed_of-levels [] level name = refl
typed_of-levels (t ∷ ts) level name =
    let rest = typed_of-levels ts level name in
    elim (is_of name t) as
    (λ own. is_of name t ≡ own → contributes level name.lowercased t + typed_of ts level name.lowercased ≡ sum_at level (levels_of name (t ∷ ts))) [
      | true ↦ λ is.
          let same : bytes_eq t.name.lowercased name.lowercased ≡ true = is in
          let here : contributes level name.lowercased t ≡ (if nat_eq t.level level then t.count else 0) =
          elim (nat_eq t.level level) as (λ b. (if b && bytes_eq t.name.lowercased name.lowercased then t.count else 0) ≡ (if b then t.count else 0)) [
            | true ↦ ap (λ b. if b then t.count else 0) same
            | false ↦ refl
          ]
          in
          ap (λ n. n + typed_of ts level name.lowercased) here
          ∙ (ap (λ n. (if nat_eq t.level level then t.count else 0) + n) rest ∙ sym (ap (sum_at level) (levels_of-cons name t ts true is)))
      | false ↦ λ is.
          let same : bytes_eq t.name.lowercased name.lowercased ≡ false = is in
          let here : contributes level name.lowercased t ≡ 0 =
          elim (nat_eq t.level level) as (λ b. (if b && bytes_eq t.name.lowercased name.lowercased then t.count else 0) ≡ 0) [
            | true ↦ ap (λ b. if b then t.count else 0) same
            | false ↦ refl
          ]
          in
          omega (arith, here, rest, ap (sum_at level) (levels_of-cons name t ts false is))
    ] refl

rising_sum : (level : ℕ) (xs : List (ℕ × ℕ)) → IsRising level xs → unwrap_or (count_if_at level xs) 0 ≡ sum_at level xs
unfolding sum_at
rising_sum level [] rises = refl
rising_sum level (x ∷ []) rises =
    elim (nat_eq x.0 level) as (λ b. unwrap_or (if b then Some x.1 else None) 0 ≡ (if b then x.1 else 0) + 0) [
      | true ↦ omega arith
      | false ↦ refl
    ]
rising_sum level (x ∷ y ∷ xs) rises =
    let rest = rising_sum level (y ∷ xs) rises.1 in
    let within = first_within level y xs rises.1 in
    let before : x.0 < y.0 = rises.0 in
    let apart : nat_eq x.0 level ≡ false = grind (arith, nat_tests) in
    let none : (if nat_eq x.0 level then x.1 else 0) ≡ 0 = ap (λ b. if b then x.1 else 0) apart in
    omega (arith, rest, none)

pub counts_at_their_level : CountsAtTheirLevel
counts_at_their_level ts level name rises = rising_sum level (levels_of name ts) rises ∙ sym (typed_of-levels ts level name)
