-- Which nodes are tried where those that a key rules out are spared, and how many tries that are.
use Rattle.std.specs.Prelude.{ℕ, Bool, not, ◌&&◌, ◌||◌, List, count_by}
use Rattle.std.specs.List.{list_any}
use Rattle.lol_instructions.specs.Tests.{Element, is_html}
use Rattle.lol_instructions.specs.Compounds.{by_names, is_open}
use Rattle.lol_program.specs.Paths.{Path, last_compound}
use Rattle.lol_machine.specs.Matching.{left_matches}
use Rattle.lol_instructions.specs.Keys.{Keys, AreKeysOf, both_keys, is_ruled_out_by_name, is_ruled_out_by_attributes}

-- 1. Two steps. `keys` chooses the keys of each node.

-- Keys are chosen right for every node's last compound.
abbrev pub AreRight : (Path → Keys) → Type 0
AreRight keys = (node : Path) → AreKeysOf (keys node) (last_compound node)

-- the keys that a program with rows has: a name, and an id, a class or an attribute's name
abbrev pub node_keys : Path → Keys
node_keys node = both_keys (last_compound node)

-- First: what is left of the nodes where the left part matches, by the tag's name alone.
abbrev pub is_left_by_name : (Path → Keys) → Element → List Element → Path → Bool
is_left_by_name keys e outer node = left_matches node outer && not (is_ruled_out_by_name (keys node) e)

-- such a node of which it is known without a try that it needs attributes
abbrev pub is_left_open : (Path → Keys) → Element → List Element → Path → Bool
is_left_open keys e outer node = is_left_by_name keys e outer node && (keys node).opens

-- Whether attributes are asked for before anything is tried: outside HTML always, in HTML where there is such a node. Else nodes are tried
-- by names, and no node is ruled out by attributes, since one that was tried before them can't be spared.
abbrev pub asks_at_once : (Path → Keys) → List Path → Element → List Element → Bool
asks_at_once keys nodes e outer = not (is_html e.tag.namespace) || list_any (is_left_open keys e outer) nodes

-- Second: what is left with attributes, where they are known before anything is tried.
abbrev pub is_left : (Path → Keys) → Bool → Element → List Element → Path → Bool
is_left keys at_once e outer node = is_left_by_name keys e outer node && not (at_once && is_ruled_out_by_attributes (keys node) e)

-- Whether a node is tried for a tag.
abbrev pub is_tried_by_keys : (Path → Keys) → List Path → Element → List Element → Path → Bool
is_tried_by_keys keys nodes e outer node = is_left keys (asks_at_once keys nodes e outer) e outer node

-- 2. The two counts

abbrev pub name_tries_by_keys : (Path → Keys) → List Path → Element → List Element → ℕ
name_tries_by_keys keys nodes e outer = count_by (is_tried_by_keys keys nodes e outer) nodes

abbrev pub tries_attributes_by_keys : (Path → Keys) → List Path → Element → List Element → Path → Bool
tries_attributes_by_keys keys nodes e outer node = is_tried_by_keys keys nodes e outer node && is_open (by_names (last_compound node) e)

abbrev pub attribute_tries_by_keys : (Path → Keys) → List Path → Element → List Element → ℕ
attribute_tries_by_keys keys nodes e outer = count_by (tries_attributes_by_keys keys nodes e outer) nodes
