-- What the marks of a predicate say of an element.
use Rattle.std.specs.Prelude.{◌≡◌, ℕ, pos, Bool, true, false, ◌==◌, if◌then◌else◌, List, Option, Some, None}
use Rattle.std.specs.List.{list_all}
use Rattle.lol_base.specs.LocalNames.{name_code}
use Rattle.lol_base.specs.Progression.{has_index}
use Rattle.lol_instructions.specs.Attributes.{TagAttributes}
use Rattle.lol_instructions.specs.Compounds.{both}
use Rattle.lol_instructions.specs.Compiled.{Sight, is_at, test_value, test_holds, all_values}
use Rattle.lol_instructions.specs.Marks.{is_marked, NoneHolds}
use Rattle.lol_instructions.specs.declared.marks.Marks.{Marks}
use Rattle.lol_instructions.specs.declared.name_value.NameValue.{NameValue}
use Rattle.lol_instructions.specs.declared.name_value.NameValue.TheVariants.{False}
use Rattle.lol_instructions.specs.declared.predicate_marks.Shape.{Shape}
use Rattle.lol_instructions.specs.declared.predicate_marks.Shape.TheVariants.{Anywhere, At, Mixed}
use Rattle.lol_instructions.specs.declared.predicate_marks.PositionTest.{PositionTest}
use Rattle.lol_instructions.specs.declared.predicate_marks.PositionTest.TheVariants.{NthChild, NthOfType}
use Rattle.lol_instructions.specs.declared.predicate_marks.PredicateMarks.{PredicateMarks}
use Rattle.lol_instructions.specs.declared.compiled_predicate.CompiledTest.{CompiledTest}

-- a value where a position is the right one
abbrev pub value_if : Bool → NameValue → NameValue
value_if there value = if there then value else False

-- whether an element stands where a test of positions asks
abbrev pub is_there : PositionTest → ℕ → Option ℕ → Bool
is_there (NthChild nth) position typed_position = has_index nth (pos position)
is_there (NthOfType nth) position typed_position = is_at nth typed_position

-- what a shape says of an element that has the name and stands at these positions, where it says something
abbrev pub shape_value : Shape → ℕ → Option ℕ → Option NameValue
shape_value (Anywhere value) position typed_position = Some value
shape_value (At test value) position typed_position = Some (value_if (is_there test position typed_position) value)
shape_value Mixed position typed_position = None

-- the value of two parts that say something together
abbrev pub AreBoth : Option NameValue → Option NameValue → NameValue → Type 0
AreBoth one other value = (a : NameValue) × (b : NameValue) × (one ≡ Some a) × (other ≡ Some b) × (both a b ≡ value)

-- whether a code is this one
abbrev pub is_code : ℕ → Option ℕ → Bool
is_code code None = false
is_code code (Some other) = other == code

-- whether a name in lower case is the one that is needed
abbrev pub head_holds : Option ℕ → List ℕ → Bool
head_holds None name = true
head_holds (Some code) name = is_code code (name_code name)

-- what marks say of an element, where they say something
abbrev pub marks_value : PredicateMarks → Sight → Option NameValue
marks_value marks s = if head_holds marks.head s.name then shape_value marks.shape s.position s.typed_position else Some False

-- no element passes of which no test holds that has one of these bits
abbrev pub AreNeeded : Marks → (Sight → TagAttributes → Bool) → Type 0
AreNeeded needs holds = (bit : ℕ) → is_marked needs bit ≡ true → (s : Sight) (seen : TagAttributes) → NoneHolds bit seen → holds s seen ≡ false

-- What marks say of an element is what the tests do, and without what they need an element fails.
pub record AreMarksOf (marks : PredicateMarks) (tests : List CompiledTest) : Type 0 where
  pub value : (s : Sight) (v : NameValue) → marks_value marks s ≡ Some v → all_values (λ test. test_value test s) tests ≡ v
  pub needs : AreNeeded marks.needs (λ s seen. list_all (λ test. test_holds test s seen) tests)
