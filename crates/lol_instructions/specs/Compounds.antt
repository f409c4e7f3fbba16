-- Compound selectors as trees of tests: whether an element passes them, and what its name and its position alone say of that.
use Rattle.std.specs.Prelude.{◌≡◌, Bool, true, false, not, ◌&&◌, ◌||◌, List, [], ◌∷◌}
use Rattle.lol_base.specs.StartTags.{Attribute}
use Rattle.lol_instructions.specs.Tests.{Element, NameTest, IsNthOfType, AttributeTest, name_holds, attribute_holds}
use Rattle.lol_instructions.specs.declared.name_value.NameValue.{NameValue}
use Rattle.lol_instructions.specs.declared.name_value.NameValue.TheVariants.{True, False, Open}

mutual
  -- A test of one element (Selectors 4, sections 5, 6 and 13), that it passes none of some compounds (section 4.3), or that it passes
  -- some of them (sections 4.2 and 4.4).
  pub data Test : Type 0 where
    OfName : NameTest → Test
    OfAttributes : AttributeTest → Test
    NoneOf : Compounds → Test
    SomeOf : Compounds → Test

  -- A compound: tests, all of which one element has to pass (Selectors 4, section 3.1).
  pub data Compound : Type 0 where
    NoTests : Compound
    AndTest : Test → Compound → Compound

  -- Compounds in a list.
  pub data Compounds : Type 0 where
    NoCompounds : Compounds
    OrCompound : Compound → Compounds → Compounds

-- 1. Rows

-- the compound of some tests
abbrev pub all_of : List Test → Compound
all_of [] = NoTests
all_of (test ∷ tests) = AndTest test (all_of tests)

-- some compounds
abbrev pub any_of : List Compound → Compounds
any_of [] = NoCompounds
any_of (compound ∷ compounds) = OrCompound compound (any_of compounds)

-- one test more at the end
abbrev pub with_test : Compound → Test → Compound
with_test NoTests test = AndTest test NoTests
with_test (AndTest first others) test = AndTest first (with_test others test)

-- one compound more at the end
abbrev pub compounds_with : Compounds → Compound → Compounds
compounds_with NoCompounds compound = OrCompound compound NoCompounds
compounds_with (OrCompound first others) compound = OrCompound first (compounds_with others compound)

-- 2. Truth

abbrev mutual
  pub holds : Test → Element → Bool
  holds (OfName test) e = name_holds test e
  holds (OfAttributes test) e = attribute_holds test e
  holds (NoneOf compounds) e = not (some_hold compounds e)
  holds (SomeOf compounds) e = some_hold compounds e

  -- Whether an element passes all tests of a compound.
  pub all_hold : Compound → Element → Bool
  all_hold NoTests e = true
  all_hold (AndTest test tests) e = holds test e && all_hold tests e

  -- Whether it passes some compound of a list.
  pub some_hold : Compounds → Element → Bool
  some_hold NoCompounds e = false
  some_hold (OrCompound compound compounds) e = all_hold compound e || some_hold compounds e

-- 3. The value by names: what is known before the attributes are. A test of a name or a position is true or false, one of attributes is open.

abbrev pub value_of_bool : Bool → NameValue
value_of_bool true = True
value_of_bool false = False

-- all: false where a part is false, else open where one is open
abbrev pub both : NameValue → NameValue → NameValue
both False value = False
both True value = value
both Open True = Open
both Open False = False
both Open Open = Open

-- the opposite, which keeps what is open
abbrev pub opposite : NameValue → NameValue
opposite True = False
opposite False = True
opposite Open = Open

-- some: true where a part is true, else open where one is open
abbrev pub either : NameValue → NameValue → NameValue
either True value = True
either False value = value
either Open True = True
either Open False = Open
either Open Open = Open

abbrev mutual
  pub test_by_names : Test → Element → NameValue
  test_by_names (OfName test) e = value_of_bool (name_holds test e)
  test_by_names (OfAttributes test) e = Open
  test_by_names (NoneOf compounds) e = opposite (some_by_names compounds e)
  test_by_names (SomeOf compounds) e = some_by_names compounds e

  -- The value by names of a compound at an element.
  pub by_names : Compound → Element → NameValue
  by_names NoTests e = True
  by_names (AndTest test tests) e = both (test_by_names test e) (by_names tests e)

  pub some_by_names : Compounds → Element → NameValue
  some_by_names NoCompounds e = False
  some_by_names (OrCompound compound compounds) e = either (by_names compound e) (some_by_names compounds e)

abbrev pub is_open : NameValue → Bool
is_open True = false
is_open False = false
is_open Open = true

-- 4. Tests by type

abbrev pub is_by_type : NameTest → Bool
is_by_type (IsNthOfType nth) = true
is_by_type _ = false

abbrev mutual
  pub test_has_type : Test → Bool
  test_has_type (OfName test) = is_by_type test
  test_has_type (OfAttributes test) = false
  test_has_type (NoneOf compounds) = some_has_type compounds
  test_has_type (SomeOf compounds) = some_has_type compounds

  -- Whether a compound has a test by type, at any depth.
  pub has_test_by_type : Compound → Bool
  has_test_by_type NoTests = false
  has_test_by_type (AndTest test tests) = test_has_type test || has_test_by_type tests

  pub some_has_type : Compounds → Bool
  some_has_type NoCompounds = false
  some_has_type (OrCompound compound compounds) = has_test_by_type compound || some_has_type compounds

-- 5. What the value by names says

-- the same element, with another rest of its tag
abbrev pub with_rest : Element → List Attribute → Bool → Bool → Element
with_rest e attributes self_closing finish =
    record {
      number = e.number;
      tag = record { name = e.tag.name; namespace = e.tag.namespace; attributes = attributes; self_closing = self_closing; finish = finish };
      position = e.position;
      typed_position = e.typed_position;
    }

-- where a value by names isn't open, it is the truth
abbrev pub Decides : NameValue → Bool → Type 0
Decides True holds = holds ≡ true
Decides False holds = holds ≡ false
Decides Open holds = Unit {0}
