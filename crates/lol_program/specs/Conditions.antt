-- From a selector's tree to paths of compounds.
use Rattle.std.specs.Prelude.{ℕ, if◌then◌else◌, List, [], ◌∷◌, ◌++◌, map, Option, Some, None}
use Rattle.lol_css.specs.Trees as trees
use Rattle.lol_css.specs.Trees.{Simple, Part, Plain, Not, Is, Where, Nothing, With, Item, Items, NoItems, And}
use Rattle.lol_instructions.specs.Tests.{AnyName, NoName, HasName, IsNthChild, IsNthOfType, HasId, HasClass, HasAttribute, Compares}
use Rattle.lol_instructions.specs.Compounds.{Test, OfName, OfAttributes, NoneOf, SomeOf, Compound, NoTests, AndTest, Compounds, NoCompounds, with_test, compounds_with}
use Rattle.lol_program.specs.Paths.{Path, First, Then}

-- The test of a part without parts of its own (Selectors 4, sections 5, 6 and 13). Each element has a namespace, so no element has a
-- name in none.
abbrev pub test_of : Simple → Test
test_of (trees.LocalName name) = OfName (HasName name)
test_of trees.AnyName = OfName AnyName
test_of trees.NoNamespace = OfName NoName
test_of (trees.Id id) = OfAttributes (HasId id)
test_of (trees.Class name) = OfAttributes (HasClass name)
test_of (trees.Exists name) = OfAttributes (HasAttribute name)
test_of (trees.Compares name operator value case) = OfAttributes (Compares name operator value case)
test_of (trees.Nth of_type step offset) =
    OfName (if of_type then IsNthOfType (record { step = step; offset = offset }) else IsNthChild (record { step = step; offset = offset }))

-- the test of a part without parts of its own, which the others haven't
abbrev pub plain_test : Part → Option Test
plain_test (Plain simple) = Some (test_of simple)
plain_test _ = None

-- The test of a part. `:not` holds where none of the compounds of its list does (Selectors 4, section 4.3), `:is` and `:where` where some
-- does (sections 4.2 and 4.4); their compounds have their tests in written order. Of an item the last compound counts; an item that was
-- read there has no other.
abbrev mutual
  pub part_test : Part → Test
  part_test (Plain simple) = test_of simple
  part_test (Not items) = NoneOf (items_compounds items)
  part_test (Is items) = SomeOf (items_compounds items)
  part_test (Where items) = SomeOf (items_compounds items)

  pub items_compounds : Items → Compounds
  items_compounds NoItems = NoCompounds
  items_compounds (And items item) = compounds_with (items_compounds items) (item_compound item)

  pub item_compound : Item → Compound
  item_compound (trees.First compound) = written_tests compound
  item_compound (trees.Then front step compound) = written_tests compound

  pub written_tests : trees.WrittenCompound → Compound
  written_tests Nothing = NoTests
  written_tests (With front part) = with_test (written_tests front) (part_test part)

-- The tests of a compound: its parts are taken from right to left.
abbrev pub compound_tests : trees.WrittenCompound → Compound
compound_tests Nothing = NoTests
compound_tests (With front part) = AndTest (part_test part) (compound_tests front)

-- The path of an item, and the paths of a list's items in written order.
abbrev pub path_of : Item → Path
path_of (trees.First compound) = First (compound_tests compound)
path_of (trees.Then front step compound) = Then (path_of front) step (compound_tests compound)

abbrev pub paths_of : Items → List Path
paths_of NoItems = []
paths_of (And items item) = paths_of items ++ path_of item ∷ []

-- The pairs that a list gives under an id, one for each item.
abbrev pub pairs_under : ℕ → Items → List (Path × ℕ)
pairs_under id items = map (λ path. (path, id)) (paths_of items)
