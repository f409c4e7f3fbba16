-- Lists as sets.
use Rattle.std.specs.Prelude.{◌↔◌, ◌⊎◌, List, Contains}

-- The members of the new list are those of the old one and the added.
abbrev pub Joins : {T : Type 0} → List T → List T → List T → Type 0
Joins {T} old new added = (x : T) → Contains new x ↔ (Contains old x ⊎ Contains added x)

-- The lists have the same members.
abbrev pub SameMembers : {T : Type 0} → List T → List T → Type 0
SameMembers {T} old new = (x : T) → Contains new x ↔ Contains old x

-- The new list has the members of the old one, and no others but some of the added.
pub record IsBetween {T : Type 0} (old new added : List T) : Type 0 where
  pub kept : (x : T) → Contains old x → Contains new x
  pub only : (x : T) → Contains new x → Contains old x ⊎ Contains added x
