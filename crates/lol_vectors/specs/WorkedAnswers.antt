-- Worked rows: what some selectors answer to some tags, to compute the definitions on.
use Rattle.std.specs.Prelude.{ℕ, ◌≡◌, Bool, true, false, List, [], ◌∷◌, replicate, Option, Some, None, codes, pos, negsuc}
use Rattle.lol_base.specs.StartTags.{Attribute}
use Rattle.lol_base.specs.declared.namespace.Namespace.{Namespace}
use Rattle.lol_base.specs.declared.namespace.Namespace.TheVariants.{Html, Svg, MathML}
use Rattle.lol_base.specs.declared.comparison.AttrSelectorOperator.{AttrSelectorOperator}
use Rattle.lol_base.specs.declared.comparison.AttrSelectorOperator.TheVariants.{Equal, Includes, DashMatch, Prefix, Substring, Suffix}
use Rattle.lol_base.specs.declared.comparison.ParsedCaseSensitivity.TheVariants.{CaseSensitive, AsciiCaseInsensitiveIfInHtmlElementInHtmlDocument}
use Rattle.lol_css.specs.declared.selector.Combinator.TheVariants.{Child, Descendant}
use Rattle.lol_instructions.specs.Tests.{Element, AnyName, NoName, HasName, IsNthChild, IsNthOfType, HasId, HasClass, HasAttribute, Compares, attribute_holds}
use Rattle.lol_instructions.specs.Compounds.{Test, OfName, OfAttributes, NoneOf, SomeOf, Compound, all_of, any_of, by_names}
use Rattle.lol_program.specs.Paths.{Path, First, Then}
use Rattle.lol_instructions.specs.declared.name_value.NameValue.{NameValue}
use Rattle.lol_instructions.specs.declared.name_value.NameValue.TheVariants.{True, False, Open}
use Rattle.lol_program.specs.Nodes.{selectors_of}
use Rattle.lol_machine.specs.Events.{Event, Start, End}
use Rattle.lol_machine.specs.Answers.{Answer, Started, Dropped, Ended, Match, answers}
use Rattle.lol_machine.specs.Refusals.{Cause, refused}

-- Selectors under ids, tags, and what is answered to each of them.
pub record WorkedRun : Type 0 where
  pub pairs : List (Path × ℕ)
  pub esi : Bool
  pub events : List Event
  pub answers : List Answer

abbrev pub Holds : WorkedRun → Type 0
Holds row = answers (selectors_of row.pairs) row.esi row.events ≡ row.answers

-- a compound of one test
abbrev alone : Test → Compound
alone test = all_of (test ∷ [])

abbrev name : List ℕ → Test
name bytes = OfName (HasName bytes)

abbrev named : List ℕ → Compound
named bytes = alone (name bytes)

abbrev class : List ℕ → Test
class bytes = OfAttributes (HasClass bytes)

-- `:not` and `:is` of some compounds
abbrev none_of : List Compound → Test
none_of compounds = NoneOf (any_of compounds)

abbrev some_of : List Compound → Test
some_of compounds = SomeOf (any_of compounds)

abbrev start_in : Namespace → List ℕ → List Attribute → Bool → Bool → Event
start_in namespace name attributes self_closing finish =
    Start (record { name = name; namespace = namespace; attributes = attributes; self_closing = self_closing; finish = finish })

abbrev start : List ℕ → Event
start name = start_in Html name [] false true

abbrev start_with : List ℕ → List ℕ → List ℕ → Event
start_with name attribute value = start_in Html name (record { name = attribute; value = Some value } ∷ []) false true

abbrev full : ℕ → Match
full id = record { id = id; with_content = true }

abbrev void : ℕ → Match
void id = record { id = id; with_content = false }

-- without ESI and with it
abbrev row : List (Path × ℕ) → List Event → List Answer → WorkedRun
row pairs events answers = record { pairs = pairs; esi = false; events = events; answers = answers }

abbrev row_with_esi : List (Path × ℕ) → List Event → List Answer → WorkedRun
row_with_esi pairs events answers = record { pairs = pairs; esi = true; events = events; answers = answers }

-- one compound, under 0
abbrev one : Compound → List (Path × ℕ)
one c = (First c, 0) ∷ []

-- `div p` under 0 and `div > p` under 1
abbrev pub descendant_and_child : WorkedRun
descendant_and_child = row ((Then (First (named (codes "div"))) Descendant (named (codes "p")), 0) ∷ (Then (First (named (codes "div"))) Child (named (codes "p")), 1) ∷ [])
    (start (codes "div") ∷ start (codes "section") ∷ start (codes "p") ∷ End (codes "div") ∷ [])
    (Started [] false 1 0 ∷ Started [] false 3 0 ∷ Started (full 0 ∷ []) false 2 0 ∷ Ended (0 ∷ 1 ∷ 2 ∷ []) ∷ [])

-- `.a p` under 0 and `p` under 1
abbrev pub class_above : WorkedRun
class_above = row ((Then (First (alone (class (codes "a")))) Descendant (named (codes "p")), 0) ∷ (First (named (codes "p")), 1) ∷ [])
    (start_with (codes "div") (codes "class") (codes "a") ∷ start (codes "p") ∷ [])
    (Started [] true 2 1 ∷ Started (full 0 ∷ full 1 ∷ []) true 3 1 ∷ [])

-- `div div` under 0: as many tries at each depth
abbrev pub nested_divs : WorkedRun
nested_divs = row ((Then (First (named (codes "div"))) Descendant (named (codes "div")), 0) ∷ [])
    (start (codes "div") ∷ start (codes "div") ∷ start (codes "div") ∷ End (codes "div") ∷ start (codes "div") ∷ [])
    (Started [] false 1 0 ∷ Started (full 0 ∷ []) false 2 0 ∷ Started (full 0 ∷ []) false 2 0 ∷ Ended (2 ∷ []) ∷ Started (full 0 ∷ []) false 2 0 ∷ [])

-- `:not(div.foo)` under 0: attributes are asked for where the name fits
abbrev pub not_a_compound : WorkedRun
not_a_compound = row (one (alone (none_of (all_of (name (codes "div") ∷ class (codes "foo") ∷ []) ∷ []))))
    (start (codes "div") ∷ start (codes "p") ∷ start_with (codes "div") (codes "class") (codes "foo") ∷ [])
    (Started (full 0 ∷ []) true 1 1 ∷ Started (full 0 ∷ []) false 1 0 ∷ Started [] true 1 1 ∷ [])

-- `:not(:not(a, b))` under 0
abbrev pub not_neither : WorkedRun
not_neither = row (one (alone (none_of (alone (none_of (named (codes "a") ∷ named (codes "b") ∷ [])) ∷ []))))
    (start (codes "a") ∷ start (codes "b") ∷ start (codes "c") ∷ [])
    (Started (full 0 ∷ []) false 1 0 ∷ Started (full 0 ∷ []) false 1 0 ∷ Started [] false 1 0 ∷ [])

-- `:not(.a, p)` under 0
abbrev pub neither_class_nor_name : WorkedRun
neither_class_nor_name = row (one (alone (none_of (alone (class (codes "a")) ∷ named (codes "p") ∷ []))))
    (start (codes "p") ∷ start_with (codes "div") (codes "class") (codes "b") ∷ [])
    (Started [] false 1 0 ∷ Started (full 0 ∷ []) true 1 1 ∷ [])

-- `div:not([a*=""])` under 0
abbrev pub not_an_empty_substring : WorkedRun
not_an_empty_substring = row (one (all_of (none_of (alone (OfAttributes (Compares (codes "a") Substring [] CaseSensitive)) ∷ []) ∷ name (codes "div") ∷ [])))
    (start (codes "div") ∷ start (codes "p") ∷ [])
    (Started (full 0 ∷ []) true 1 1 ∷ Started [] false 1 0 ∷ [])

-- `:not(*)` under 0 and `:not(|a)` under 1
abbrev pub nothing_and_anything : WorkedRun
nothing_and_anything = row ((First (alone (none_of (alone (OfName AnyName) ∷ []))), 0) ∷ (First (alone (none_of (all_of (name (codes "a") ∷ OfName NoName ∷ []) ∷ []))), 1) ∷ [])
    (start (codes "a") ∷ [])
    (Started (full 1 ∷ []) false 2 0 ∷ [])

-- `:is(a.x, p)` under 0
abbrev pub some_compound : WorkedRun
some_compound = row (one (alone (some_of (all_of (name (codes "a") ∷ class (codes "x") ∷ []) ∷ named (codes "p") ∷ []))))
    (start (codes "p") ∷ start_with (codes "a") (codes "class") (codes "x") ∷ start (codes "div") ∷ [])
    (Started (full 0 ∷ []) false 1 0 ∷ Started (full 0 ∷ []) true 1 1 ∷ Started [] false 1 0 ∷ [])

-- `:not(:is(a, b))` under 0
abbrev pub none_of_some : WorkedRun
none_of_some = row (one (alone (none_of (alone (some_of (named (codes "a") ∷ named (codes "b") ∷ [])) ∷ []))))
    (start (codes "a") ∷ start (codes "c") ∷ [])
    (Started [] false 1 0 ∷ Started (full 0 ∷ []) false 1 0 ∷ [])

-- `:is(h1, h2) > a` under 0
abbrev pub child_of_some : WorkedRun
child_of_some = row ((Then (First (alone (some_of (named (codes "h1") ∷ named (codes "h2") ∷ [])))) Child (named (codes "a")), 0) ∷ [])
    (start (codes "h1") ∷ start (codes "a") ∷ End (codes "h1") ∷ start (codes "p") ∷ start (codes "a") ∷ [])
    (Started [] false 1 0 ∷ Started (full 0 ∷ []) false 2 0 ∷ Ended (0 ∷ 1 ∷ []) ∷ Started [] false 1 0 ∷ Started [] false 1 0 ∷ [])

-- `br:first-child` under 0 and `p:nth-child(2)` under 1: an element without content counts
abbrev pub second_child : WorkedRun
second_child = row ((First (all_of (OfName (IsNthChild (record { step = pos 0; offset = pos 1 })) ∷ name (codes "br") ∷ [])), 0) ∷ (First (all_of (OfName (IsNthChild (record { step = pos 0; offset = pos 2 })) ∷ name (codes "p") ∷ [])), 1) ∷ [])
    (start (codes "br") ∷ start (codes "p") ∷ [])
    (Started (void 0 ∷ []) false 2 0 ∷ Started (full 1 ∷ []) false 2 0 ∷ [])

-- `span:nth-of-type(2)` under 0, whatever the case of names
abbrev pub second_span : WorkedRun
second_span = row (one (all_of (OfName (IsNthOfType (record { step = pos 0; offset = pos 2 })) ∷ name (codes "span") ∷ [])))
    (start (codes "div") ∷ start (codes "span") ∷ End (codes "span") ∷ start (codes "SPAN") ∷ [])
    (Started [] false 1 0 ∷ Started [] false 1 0 ∷ Ended (1 ∷ []) ∷ Started (full 0 ∷ []) false 1 0 ∷ [])

-- `[type="TEXT"]` under 0, without case in HTML alone
abbrev pub caseless_in_html : WorkedRun
caseless_in_html = row (one (alone (OfAttributes (Compares (codes "type") Equal (codes "TEXT") AsciiCaseInsensitiveIfInHtmlElementInHtmlDocument))))
    (start_with (codes "input") (codes "type") (codes "text") ∷ start_in Svg (codes "input") (record { name = codes "type"; value = Some (codes "text") } ∷ []) false true ∷ [])
    (Started (void 0 ∷ []) true 1 1 ∷ Started [] true 1 1 ∷ [])

-- `[a*=""]` under 0, which is never true, and `:not([a*=""])` under 1
abbrev pub empty_operand : WorkedRun
empty_operand = row ((First (alone (OfAttributes (Compares (codes "a") Substring [] CaseSensitive))), 0) ∷ (First (alone (none_of (alone (OfAttributes (Compares (codes "a") Substring [] CaseSensitive)) ∷ []))), 1) ∷ [])
    (start_with (codes "p") (codes "a") (codes "x") ∷ [])
    (Started (full 1 ∷ []) true 2 2 ∷ [])

-- `*` under 0, with ESI: its names are void as they are spelled
abbrev pub esi_names : WorkedRun
esi_names = row_with_esi (one (alone (OfName AnyName)))
    (start (codes "esi:include") ∷ start (codes "ESI:INCLUDE") ∷ End (codes "esi:include") ∷ [])
    (Started (void 0 ∷ []) false 1 0 ∷ Started (full 0 ∷ []) false 1 0 ∷ Ended (1 ∷ []) ∷ [])

-- `:nth-child(2)` under 0: a dropped tag counts and isn't opened
abbrev pub dropped_tag : WorkedRun
dropped_tag = row (one (alone (OfName (IsNthChild (record { step = pos 0; offset = pos 2 })))))
    (start_in Svg (codes "g") [] false false ∷ start (codes "p") ∷ End (codes "g") ∷ [])
    (Dropped ∷ Started (full 0 ∷ []) false 1 0 ∷ Ended [] ∷ [])

-- `circle` under 0: in SVG too names compare without case; attributes are always asked for outside HTML, and a tag that closes itself isn't
-- opened
abbrev pub self_closing_tag : WorkedRun
self_closing_tag = row (one (named (codes "circle")))
    (start_in Svg (codes "CIRCLE") [] true true ∷ End (codes "circle") ∷ [])
    (Started (void 0 ∷ []) true 1 0 ∷ Ended [] ∷ [])

-- `a[href]` under 0: attributes are asked for where the name fits
abbrev pub links : WorkedRun
links = row (one (all_of (OfAttributes (HasAttribute (codes "href")) ∷ name (codes "a") ∷ [])))
    (start_with (codes "a") (codes "href") (codes "http://example.com") ∷ start (codes "a") ∷ start (codes "div") ∷ [])
    (Started (full 0 ∷ []) true 1 1 ∷ Started [] true 1 1 ∷ Started [] false 1 0 ∷ [])

-- `:nth-child(-2n+3)` under 0: the first and the third, and an `html` tag that closes itself is opened
abbrev pub negative_step : WorkedRun
negative_step = row (one (alone (OfName (IsNthChild (record { step = negsuc 1; offset = pos 3 })))))
    (start_in Html (codes "a") [] true true ∷ End (codes "a") ∷ start (codes "b") ∷ End (codes "b") ∷ start (codes "c") ∷ End (codes "c") ∷ start (codes "d") ∷ [])
    (Started (full 0 ∷ []) false 1 0 ∷ Ended (0 ∷ []) ∷ Started [] false 1 0 ∷ Ended (2 ∷ []) ∷ Started (full 0 ∷ []) false 1 0 ∷ Ended (4 ∷ []) ∷ Started [] false 1 0 ∷ [])

-- `mi` under 0 in MathML: asked for, and opened unless the tag closes itself
abbrev pub of_mathml : WorkedRun
of_mathml = row (one (named (codes "mi")))
    (start_in MathML (codes "mi") [] true true ∷ start_in MathML (codes "mi") [] false true ∷ End (codes "mi") ∷ start_in MathML (codes "mi") [] false false ∷ [])
    (Started (void 0 ∷ []) true 1 0 ∷ Started (full 0 ∷ []) true 1 0 ∷ Ended (1 ∷ []) ∷ Dropped ∷ [])

-- An HTML element with these attributes, at a third place that is the second of its name
abbrev pub element_with_attributes : List Attribute → Element
element_with_attributes attributes =
    record { number = 0; tag = record { name = codes "P"; namespace = Html; attributes = attributes; self_closing = false; finish = true }; position = 3; typed_position = 2 }

abbrev pub written : List ℕ → List ℕ → Attribute
written attribute value = record { name = attribute; value = Some value }

abbrev pub unwritten : List ℕ → Attribute
unwritten attribute = record { name = attribute; value = None }

-- whether a value stands to an operand, byte by byte
abbrev pub stands : AttrSelectorOperator → List ℕ → List ℕ → Bool
stands operator operand value = attribute_holds (Compares (codes "a") operator operand CaseSensitive) (element_with_attributes (written (codes "a") value ∷ []))

-- the same for each operator: Equal, Includes, DashMatch, Prefix, Substring, Suffix
abbrev pub all_stand : List ℕ → List ℕ → List Bool
all_stand operand value =
    stands Equal operand value ∷ stands Includes operand value ∷ stands DashMatch operand value ∷ stands Prefix operand value ∷ stands Substring operand value ∷ stands Suffix operand value ∷ []

-- whether an element has an id, and a class, of this name
abbrev pub has_id : List ℕ → List Attribute → Bool
has_id id attributes = attribute_holds (HasId id) (element_with_attributes attributes)

abbrev pub has_class : List ℕ → List ℕ → Bool
has_class class value = attribute_holds (HasClass class) (element_with_attributes (written (codes "class") value ∷ []))

-- the value by names of a test at the element
abbrev pub value_here : Test → NameValue
value_here test = by_names (alone test) (element_with_attributes [])

-- The value by names of each kind of test.
pub record AreValues : Type 0 where
  pub any : value_here (OfName AnyName) ≡ True
  pub none : value_here (OfName NoName) ≡ False
  pub same_name : value_here (name (codes "p")) ≡ True
  pub other_name : value_here (name (codes "q")) ≡ False
  pub third : value_here (OfName (IsNthChild (record { step = pos 0; offset = pos 3 }))) ≡ True
  pub second_of_type : value_here (OfName (IsNthOfType (record { step = pos 2; offset = pos 0 }))) ≡ True
  pub attribute : value_here (class (codes "a")) ≡ Open
  pub never : value_here (OfAttributes (Compares (codes "a") Prefix [] CaseSensitive)) ≡ Open
  pub none_of_open : value_here (none_of (alone (class (codes "a")) ∷ [])) ≡ Open
  pub none_of_true : value_here (none_of (alone (class (codes "a")) ∷ named (codes "p") ∷ [])) ≡ False
  pub none_of_false : value_here (none_of (named (codes "q") ∷ [])) ≡ True
  pub some_of_open : value_here (some_of (named (codes "q") ∷ alone (class (codes "a")) ∷ [])) ≡ Open
  pub some_of_true : value_here (some_of (alone (class (codes "a")) ∷ named (codes "p") ∷ [])) ≡ True
  pub some_of_none : value_here (some_of []) ≡ False
  pub false_and_open : value_here (some_of (all_of (class (codes "a") ∷ name (codes "q") ∷ []) ∷ [])) ≡ False

-- `*` under 0, over so many nested `d`, with items of 64 bytes and a fresh limiter of this maximum: what is refused
abbrev pub refused_at : ℕ → ℕ → Option (ℕ × Cause)
refused_at maximum depth =
    refused (selectors_of ((First (alone (OfName AnyName)), 0) ∷ [])) false (record { item_bytes = 64; maximum = maximum; usage = 0 })
    (replicate depth (start (codes "d")))
