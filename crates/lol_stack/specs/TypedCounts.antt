-- Counts of children by type.
use Rattle.std.specs.Prelude.{ℕ, ◌≡◌, ◌<◌, Bool, if◌then◌else◌, nat_lt, List, [], ◌∷◌, ◌++◌, map, filter, Option, MatchBool}
use Rattle.std.specs.List.{list_any, list_all}
use Rattle.lol_base.specs.LocalNames.{Name, same_local_name}
use Rattle.lol_stack.specs.Levels.{one_more, is_at_level, count_if_at}

-- A counter of the children of one name that an element has had: its level (how many elements were open), the name, the count.
pub record TypedCount : Type 0 where
  pub level : ℕ
  pub name : Name
  pub count : ℕ

-- A list of counters is kept in the order in which they were started.

abbrev pub key_of : TypedCount → ℕ × Name
key_of t = (t.level, t.name)

abbrev pub is_of : Name → TypedCount → Bool
is_of name t = same_local_name t.name name

abbrev pub level_of : TypedCount → ℕ × ℕ
level_of t = (t.level, t.count)

-- level and count of each counter of a name
abbrev pub levels_of : Name → List TypedCount → List (ℕ × ℕ)
levels_of name ts = map level_of (filter (is_of name) ts)

-- What the last counter of a name has counted, if it is at this level.
abbrev pub count_at : List TypedCount → ℕ → Name → Option ℕ
count_at ts level name = count_if_at level (levels_of name ts)

-- with one more counted by the last counter of a name
abbrev pub last_counted : List TypedCount → Name → List TypedCount
last_counted [] name = []
last_counted (t ∷ ts) name =
    if list_any (is_of name) ts then t ∷ last_counted ts name
    else (if same_local_name t.name name then record t { count = one_more t.count } else t) ∷ ts

-- A child of a name is counted at a level: by the last counter of that name, if it is at that level, and else by a new one.
abbrev pub counted_by_type : List TypedCount → ℕ → Name → List TypedCount
counted_by_type ts level name =
    if is_at_level level (levels_of name ts) then last_counted ts name else ts ++ record { level = level; name = name; count = 1 } ∷ []

abbrev pub all_above : ℕ → List TypedCount → Bool
all_above level ts = list_all (λ t. nat_lt level t.level) ts

-- Those at the end that are above a level are dropped.
abbrev pub cut_to : ℕ → List TypedCount → List TypedCount
cut_to level [] = []
cut_to level (t ∷ ts) = if all_above level (t ∷ ts) then [] else t ∷ cut_to level ts

-- the last counter went, since it is above the level, or none was
abbrev pub PopsAbove : ℕ → List TypedCount → Bool → List TypedCount → Type 0
PopsAbove level old popped new =
    MatchBool popped ((t : TypedCount) × (old ≡ new ++ t ∷ []) × (level < t.level)) ((new ≡ old) × (cut_to level old ≡ old))
