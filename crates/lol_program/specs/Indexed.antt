-- That a node index has the key of each node but for the first few of each list.
use Rattle.std.specs.Coded.{×_prop, Unit-prop}
use Rattle.std.specs.Prelude.{ℕ, ◌+◌, ◌≤◌, ◌<◌, ◌≡◌, ◌≢◌, Option, Some, None, IsSome}
use Rattle.std.specs.declared.hash.DefaultHasher.{DefaultHasher}
use Rattle.std.specs.Ordering.{nat_cmp}
use Rattle.std.specs.BTreeMap.{get}
use mathlib.Core.Bool.{Bool-set}
use Rattle.lol_css.specs.declared.selector.Combinator.TheVariants.{Child, Descendant}
use Rattle.lol_instructions.specs.Compounds.{Compound}
use Rattle.lol_program.specs.Forest.{Forest, none, more}
use Rattle.lol_program.specs.NodeKeys.{root_list, node_key, list_under}
use Rattle.lol_program.specs.declared.node_index.NodeIndex.{NodeIndex}

-- What stands at a key.
abbrev pub at_key : NodeIndex → ℕ → Option ℕ
at_key node_index key = get nat_cmp node_index.indices key

-- Each key stays, with the index that stands at it.
abbrev pub KeepsKeys : NodeIndex → NodeIndex → Type 0
KeepsKeys old new = (key index : ℕ) → at_key old key ≡ Some index → at_key new key ≡ Some index

-- How many nodes of each list need no key.
abbrev pub few : ℕ
few = 32

-- How many salts there are: each node has so many keys.
abbrev pub salts : ℕ
salts = 16

-- This index stands at none of the keys for the salts below one.
abbrev pub StandsNotBelow : NodeIndex → DefaultHasher → ℕ → Compound → ℕ → Type 0
StandsNotBelow node_index list index compound salt = (s : ℕ) → s < salt → at_key node_index (node_key list s compound) ≢ Some index

-- From index `few` on, the node with these tests at an index of a list is found by the first of its keys at which it stands: the keys
-- before that are there, with other indices, and so are all if it stands at none.
abbrev pub IsListed : NodeIndex → DefaultHasher → ℕ → Compound → Type 0
IsListed node_index list index compound =
    few ≤ index → (salt : ℕ) → salt < salts → StandsNotBelow node_index list index compound salt → IsSome (at_key node_index (node_key list salt compound))

-- A key of a node that is free, where those for the salts before it aren't.
pub record IsFirstFree (node_index : NodeIndex) (list : DefaultHasher) (compound : Compound) (key : ℕ) : Type 0 where
  pub salt : ℕ
  pub within : salt < salts
  pub is : key ≡ node_key list salt compound
  pub free : at_key node_index key ≡ None
  pub taken : (s : ℕ) → s < salt → IsSome (at_key node_index (node_key list s compound))

-- Each of these trees' roots, which stand from an index of a list on, is listed, and so are the nodes under it.
abbrev pub IsIndexedFrom : NodeIndex → DefaultHasher → ℕ → Forest → Type 0
IsIndexedFrom node_index list index none = Unit {0}
IsIndexedFrom node_index list index (more compound ids children descendants rest) =
    IsListed node_index list index compound
    × (IsIndexedFrom node_index (list_under list index Child) 0 children
    × (IsIndexedFrom node_index (list_under list index Descendant) 0 descendants × IsIndexedFrom node_index list (index + 1) rest))

-- Each node of a list is listed, and so are those under it.
abbrev pub IsIndexed : NodeIndex → DefaultHasher → Forest → Type 0
IsIndexed node_index list f = IsIndexedFrom node_index list 0 f

IsListed-prop : (node_index : NodeIndex) (list : DefaultHasher) (index : ℕ) (compound : Compound) → IsProp (IsListed node_index list index compound)
IsListed-prop node_index list index compound f g = λ i many salt within others. Bool-set _ _ (f many salt within others) (g many salt within others) i

IsIndexedFrom-prop : (node_index : NodeIndex) (list : DefaultHasher) (index : ℕ) (f : Forest) → IsProp (IsIndexedFrom node_index list index f)
IsIndexedFrom-prop node_index list index none = Unit-prop
IsIndexedFrom-prop node_index list index (more compound ids children descendants rest) =
    ×_prop (IsListed-prop node_index list index compound)
    (×_prop (IsIndexedFrom-prop node_index (list_under list index Child) 0 children)
    (×_prop (IsIndexedFrom-prop node_index (list_under list index Descendant) 0 descendants) (IsIndexedFrom-prop node_index list (index + 1) rest)))

-- Each node of a tree is listed.
abbrev pub IsNodeIndexOf : NodeIndex → Forest → Type 0
IsNodeIndexOf node_index trees = IsIndexed node_index root_list trees

pub IsNodeIndexOf-prop : (node_index : NodeIndex) (trees : Forest) → IsProp (IsNodeIndexOf node_index trees)
IsNodeIndexOf-prop node_index trees = IsIndexedFrom-prop node_index root_list 0 trees
