-- Laws of nodes and tests, and worked rows.
use Rattle.std.specs.Prelude.{ℕ, ◌≡◌, ◌≢◌, Bool, false, List, [], ◌∷◌, AllPairs, codes}
use Rattle.lol_css.specs.Trees as trees
use Rattle.lol_css.specs.Trees.{Part, Plain, Not, Is, Where, Nothing, With, Items, NoItems, And}
use Rattle.lol_base.specs.StartTags.{Attribute}
use Rattle.lol_instructions.specs.Tests.{Element, NoName, HasName, HasId, HasClass, HasAttribute}
use Rattle.lol_instructions.specs.Compounds.{Test, OfName, OfAttributes, NoneOf, SomeOf, Compound, NoTests, AndTest, all_of, any_of, all_hold, by_names, with_rest, Decides}
use Rattle.lol_program.specs.Same.{same_compound}
use Rattle.lol_program.specs.Paths.{Path, Selectors, AreNodes, all_beginnings}
use Rattle.lol_program.specs.Programs.{AreClosed}
use Rattle.lol_program.specs.Asts.{pairs_of, nodes_of}
use Rattle.lol_program.specs.declared.ast.Ast.{Ast}
use Rattle.lol_program.specs.Conditions.{compound_tests}
use Rattle.lol_program.specs.Sets.{Joins}

-- Where the pairs take in others, and the nodes the beginnings of these, the nodes stay the beginnings of the pairs' paths.
abbrev pub NodesStayTheBeginnings : Type 0
NodesStayTheBeginnings =
    (pairs more_pairs added : List (Path × ℕ)) (nodes more_nodes : List Path) → AreNodes pairs nodes → Joins pairs more_pairs added → Joins nodes more_nodes (all_beginnings added)
    → AllPairs (λ a b. a ≢ b) more_nodes → AreNodes more_pairs more_nodes

-- The pairs and nodes of every tree of selectors are closed, also where an addition was refused.
abbrev pub TreesAreClosed : Type 0
TreesAreClosed = (by_keys : Bool) (ast : Ast) → AreClosed (record { pairs = pairs_of ast; nodes = nodes_of ast; by_keys = by_keys })

-- So are those of pairs alone, where nothing was refused.
abbrev pub BeginningsAreClosed : Type 0
BeginningsAreClosed = (s : Selectors) → AreNodes s.pairs s.nodes → AreClosed s

-- Where the value by names of a compound isn't open, it is the truth, whatever the attributes are.
abbrev pub ValuesDecide : Type 0
ValuesDecide =
    (c : Compound) (e : Element) (attributes : List Attribute) (self_closing finish : Bool) → Decides (by_names c e) (all_hold c (with_rest e attributes self_closing finish))

-- A value by names doesn't depend on the rest of the tag.
abbrev pub ValuesAreByNames : Type 0
ValuesAreByNames = (c : Compound) (e : Element) (attributes : List Attribute) (self_closing finish : Bool) → by_names c (with_rest e attributes self_closing finish) ≡ by_names c e

abbrev pub tag : List ℕ → Part
tag name = Plain (trees.LocalName name)

-- a list of one compound of one part, and of two
abbrev pub one_part : Part → Items
one_part a = And NoItems (trees.First (With Nothing a))

abbrev pub two : Part → Part → Items
two a b = And (And NoItems (trees.First (With Nothing a))) (trees.First (With Nothing b))

abbrev pub named : List ℕ → Test
named name = OfName (HasName name)

-- a compound of one test
abbrev pub one_test : Test → Compound
one_test test = AndTest test NoTests

-- Worked rows: the tests of compounds.
pub record AreRows : Type 0 where
  -- `|div`
  pub no_namespace : compound_tests (With (With Nothing (Plain trees.NoNamespace)) (tag (codes "div"))) ≡ AndTest (named (codes "div")) (one_test (OfName NoName))
  -- `:not(a, b)`
  pub neither : compound_tests (With Nothing (Not (two (tag (codes "a")) (tag (codes "b"))))) ≡ one_test (NoneOf (any_of (one_test (named (codes "a")) ∷ one_test (named (codes "b")) ∷ [])))
  -- `:not(:not(a, b))`
  pub not_neither :
      compound_tests (With Nothing (Not (one_part (Not (two (tag (codes "a")) (tag (codes "b")))))))
      ≡ one_test (NoneOf (any_of (one_test (NoneOf (any_of (one_test (named (codes "a")) ∷ one_test (named (codes "b")) ∷ []))) ∷ [])))
  -- `div.foo#bar:not([baz])`
  pub mixed :
      compound_tests (With (With (With (With Nothing (tag (codes "div"))) (Plain (trees.Class (codes "foo")))) (Plain (trees.Id (codes "bar")))) (Not (one_part (Plain (trees.Exists (codes "baz"))))))
      ≡ all_of (NoneOf (any_of (one_test (OfAttributes (HasAttribute (codes "baz"))) ∷ [])) ∷ OfAttributes (HasId (codes "bar")) ∷ OfAttributes (HasClass (codes "foo")) ∷ named (codes "div") ∷ [])
  -- `:is(a.x, p)`: the parts inside stand in written order
  pub either_of :
      compound_tests (With Nothing (Is (And (And NoItems (trees.First (With (With Nothing (tag (codes "a"))) (Plain (trees.Class (codes "x")))))) (trees.First (With Nothing (tag (codes "p")))))))
      ≡ one_test (SomeOf (any_of (all_of (named (codes "a") ∷ OfAttributes (HasClass (codes "x")) ∷ []) ∷ one_test (named (codes "p")) ∷ [])))
  -- `:is(a)` and `:where(a)` are one, `:is(a)` and `a` two, and so are `:not(a, b)` and `:not(b, a)`, `:not(:not(a))` and `a`
  pub is_and_where : compound_tests (With Nothing (Is (one_part (tag (codes "a"))))) ≡ compound_tests (With Nothing (Where (one_part (tag (codes "a")))))
  pub is_and_name : same_compound (compound_tests (With Nothing (Is (one_part (tag (codes "a")))))) (compound_tests (With Nothing (tag (codes "a")))) ≡ false
  pub order_counts : same_compound (compound_tests (With Nothing (Not (two (tag (codes "a")) (tag (codes "b")))))) (compound_tests (With Nothing (Not (two (tag (codes "b")) (tag (codes "a")))))) ≡ false
  pub not_not : same_compound (compound_tests (With Nothing (Not (one_part (Not (one_part (tag (codes "a")))))))) (compound_tests (With Nothing (tag (codes "a")))) ≡ false
