-- Start tags that take no memory.
use Rattle.std.specs.Prelude.{ℕ, ◌≡◌, ◌<◌, nat_lt, ◌&&◌, ◌||◌, not, Bool, true, false, List, None, is_none, IsNone, Contains}
use Rattle.std.specs.List.{list_all}
use Rattle.lol_base.specs.LocalNames.{local_name}
use Rattle.lol_base.specs.Names.{is_void}
use Rattle.lol_base.specs.StartTags.{StartTag}
use Rattle.lol_base.specs.declared.namespace.Namespace.TheVariants.{Html}
use Rattle.lol_instructions.specs.Compounds.{has_test_by_type}
use Rattle.lol_program.specs.Paths.{Path, First, Then, Selectors, all_beginnings, last_compound}
use Rattle.lol_program.specs.Programs.{above}
use Rattle.lol_machine.specs.Answers.{asks, document}
use Rattle.lol_machine.specs.Documents.{element_of}
use Rattle.lol_machine.specs.Events.{Event}

-- Selectors whose ids are below 32, and whose nodes have no tests by type.
pub record AreSmall (s : Selectors) : Type 0 where
  pub ids : (path : Path) (id : ℕ) → Contains s.pairs (path, id) → id < 32
  pub untyped : (node : Path) → Contains s.nodes node → has_test_by_type (last_compound node) ≡ false

-- A start tag takes no memory, nor does its finishing: of a void element of HTML, where the selectors are small.
abbrev pub TakesNoMemory : Selectors → StartTag → Type 0
TakesNoMemory s tag = AreSmall s × (tag.namespace ≡ Html) × (is_void tag.name ≡ true)

-- Small selectors of which no node stands under another: what they give needs no memory, with content or without.
pub record AreFlat (s : Selectors) : Type 0 where
  pub small : AreSmall s
  pub alone : (node : Path) → Contains s.nodes node → above node ≡ None

-- whether a compound of a path has a test by type
abbrev pub path_has_type : Path → Bool
path_has_type (First c) = has_test_by_type c
path_has_type (Then front step c) = path_has_type front || has_test_by_type c

abbrev pub is_small : Path × ℕ → Bool
is_small pair = nat_lt pair.1 32 && not (path_has_type pair.0)

abbrev pub is_flat : Path × ℕ → Bool
is_flat pair = is_small pair && is_none (above pair.0)

-- Each pair is one of these, and each node a beginning of one of their paths, as it is where nothing else was added.
pub record AreAmong (s : Selectors) (added : List (Path × ℕ)) : Type 0 where
  pub pairs : (path : Path) (id : ℕ) → Contains s.pairs (path, id) → Contains added (path, id)
  pub nodes : (node : Path) → Contains s.nodes node → Contains (all_beginnings added) node

-- Which selectors are small, and which are flat.
abbrev pub SmallPairs : Type 0
SmallPairs = (s : Selectors) (added : List (Path × ℕ)) → AreAmong s added → list_all is_small added ≡ true → AreSmall s

abbrev pub FlatPairs : Type 0
FlatPairs = (s : Selectors) (added : List (Path × ℕ)) → AreAmong s added → list_all is_flat added ≡ true → AreFlat s

-- A start tag is run without memory: the selectors are flat, and where its attributes are asked for its name is a hash, which a
-- request takes no memory to own.
pub record RunsWithoutMemory (s : Selectors) (esi : Bool) (events : List Event) (tag : StartTag) : Type 0 where
  pub flat : AreFlat s
  pub named : asks s (element_of (document s esi events) tag) (document s esi events).open_elements ≡ true → IsNone (local_name tag.name).spelling
