-- Worked rows: keys of some compounds, and what is tried by them.
use Rattle.std.specs.Prelude.{ℕ, ◌≡◌, Bool, true, false, not, if◌then◌else◌, List, [], ◌∷◌, map, filter, sum_by, Option, Some, None, codes, pos}
use Rattle.lol_base.specs.StartTags.{Attribute}
use Rattle.lol_base.specs.declared.namespace.Namespace.TheVariants.{Html}
use Rattle.lol_base.specs.declared.comparison.AttrSelectorOperator.TheVariants.{Equal, Prefix, Substring}
use Rattle.lol_base.specs.declared.comparison.ParsedCaseSensitivity.TheVariants.{AsciiCaseInsensitive, CaseSensitive, ExplicitCaseSensitive}
use Rattle.lol_instructions.specs.Tests.{Element, AnyName, HasName, IsNthChild, HasId, HasClass, HasAttribute, Compares}
use Rattle.lol_instructions.specs.Compounds.{Test, OfName, OfAttributes, NoneOf, SomeOf, Compound, all_of, any_of, by_names, is_open}
use Rattle.lol_program.specs.Paths.{Path, Selectors, First, last_compound}
use Rattle.lol_machine.specs.Answers.{name_tries, attribute_tries, asks}
use Rattle.lol_instructions.specs.Keys.{Keys, AttributeKey, ById, ByClass, ByPart, ByAttribute, is_ruled_out_by_attributes, one_key}
use Rattle.lol_machine.specs.KeyTries.{asks_at_once, name_tries_by_keys, attribute_tries_by_keys}
use Rattle.lol_reasons.specs.Calls.{Call, Without, Completing, With, name_counted}

abbrev name : List ℕ → Test
name bytes = OfName (HasName bytes)

abbrev class : List ℕ → Test
class bytes = OfAttributes (HasClass bytes)

abbrev second_child : Test
second_child = OfName (IsNthChild (record { step = pos 0; offset = pos 2 }))

abbrev keys_are : Compound → Option (List ℕ) → Option AttributeKey → Bool → Type 0
keys_are c tag attribute opens = one_key c ≡ record { name = tag; attribute = attribute; opens = opens }

-- 1. Keys: `div.a`, `*.c#i`, `[HREF=x].c`, `[HREF=x]`, `[HREF*=abcde][title]`, `[href*=abcde i]`,
-- `[href*=abcde s]`, `.c[href*=abcde]`, `:nth-child(2).a`, `:not(.a)`, `:is(p)`, `*`, `[href^=""]`

pub record AreKeys : Type 0 where
  pub named : keys_are (all_of (class (codes "a") ∷ name (codes "div") ∷ [])) (Some (codes "div")) None true
  pub id_first : keys_are (all_of (OfName AnyName ∷ class (codes "c") ∷ OfAttributes (HasId (codes "i")) ∷ []))
      None (Some (ById (codes "i"))) true
  pub class_first : keys_are (all_of (OfAttributes (Compares (codes "HREF") Equal (codes "x") CaseSensitive) ∷ class (codes "c") ∷ []))
      None (Some (ByClass (codes "c"))) true
  pub attribute : keys_are (all_of (OfAttributes (Compares (codes "HREF") Equal (codes "x") CaseSensitive) ∷ []))
      None (Some (ByAttribute (codes "href"))) true
  pub part : keys_are (all_of (OfAttributes (HasAttribute (codes "title")) ∷ OfAttributes (Compares (codes "HREF") Substring (codes "abcde") CaseSensitive) ∷ []))
      None (Some (ByPart (codes "href") (codes "bcde"))) true
  pub caseless : keys_are (all_of (OfAttributes (Compares (codes "href") Substring (codes "abcde") AsciiCaseInsensitive) ∷ []))
      None (Some (ByAttribute (codes "href"))) true
  pub flagged : keys_are (all_of (OfAttributes (Compares (codes "href") Substring (codes "abcde") ExplicitCaseSensitive) ∷ []))
      None (Some (ByPart (codes "href") (codes "bcde"))) true
  pub class_before_part : keys_are (all_of (class (codes "c") ∷ OfAttributes (Compares (codes "href") Substring (codes "abcde") CaseSensitive) ∷ []))
      None (Some (ByClass (codes "c"))) true
  pub not_surely_open : keys_are (all_of (second_child ∷ class (codes "a") ∷ [])) None (Some (ByClass (codes "a"))) false
  pub negated : keys_are (all_of (NoneOf (any_of (all_of (class (codes "a") ∷ []) ∷ [])) ∷ [])) None None false
  pub chosen : keys_are (all_of (SomeOf (any_of (all_of (name (codes "p") ∷ []) ∷ [])) ∷ [])) None None false
  pub any : keys_are (all_of (OfName AnyName ∷ [])) None None false
  pub empty_operand : keys_are (all_of (OfAttributes (Compares (codes "href") Prefix [] CaseSensitive) ∷ [])) None None true

-- 2. Counts for `<p class=c>`, a first child

abbrev element : List Attribute → Element
element attributes = record {
  number = 0;
  tag = record { name = codes "p"; namespace = Html; attributes = attributes; self_closing = false; finish = true };
  position = 1;
  typed_position = 1;
}

abbrev of_class : List ℕ → Element
of_class value = element (record { name = codes "class"; value = Some value } ∷ [])

abbrev node : List Test → Path
node tests = First (all_of tests)

-- one key of the last compound
abbrev key_of : Path → Keys
key_of node = one_key (last_compound node)

-- selectors with these nodes, which are spared by keys or not
abbrev selectors_of_nodes : Bool → List Path → Selectors
selectors_of_nodes by_keys nodes = record { pairs = []; nodes = nodes; by_keys = by_keys }

abbrev asks_for : List Path → Element → Bool
asks_for nodes e = asks (selectors_of_nodes false nodes) e []

-- the tries without keys, by one key, and of selectors whose nodes are spared, by names and by attributes; whether attributes are asked for,
-- and at once
pub record AreCounts (nodes : List Path) (e : Element) (names attributes names_by_keys attributes_by_keys : ℕ) (asked at_once : Bool)
    : Type 0 where
  pub names_tried : name_tries (selectors_of_nodes false nodes) e [] ≡ names
  pub attributes_tried : attribute_tries (selectors_of_nodes false nodes) e [] ≡ attributes
  pub names_tried_by_keys : name_tries_by_keys key_of nodes e [] ≡ names_by_keys
  pub attributes_tried_by_keys : attribute_tries_by_keys key_of nodes e [] ≡ attributes_by_keys
  pub names_tried_of_spared : name_tries (selectors_of_nodes true nodes) e [] ≡ names_by_keys
  pub attributes_tried_of_spared : attribute_tries (selectors_of_nodes true nodes) e [] ≡ attributes_by_keys
  pub attributes_asked : asks_for nodes e ≡ asked
  pub asked_at_once : asks_at_once key_of nodes e [] ≡ at_once

-- `.a` alone: nothing is tried, and attributes are asked for all the same
abbrev lone_class : List Path
lone_class = node (class (codes "a") ∷ []) ∷ []

-- `div`, `p`, `a`: only `p` is tried, and nothing is asked for
abbrev names_only : List Path
names_only = node (name (codes "div") ∷ []) ∷ node (name (codes "p") ∷ []) ∷ node (name (codes "a") ∷ []) ∷ []

-- `div.c`, `p.c`, `.c`, `.a`, `:nth-child(2).a`: asked for at once by `p.c`; `p.c` and `.c` are tried
abbrev mixed : List Path
mixed =
    node (class (codes "c") ∷ name (codes "div") ∷ [])
    ∷ node (class (codes "c") ∷ name (codes "p") ∷ [])
    ∷ node (class (codes "c") ∷ [])
    ∷ node (class (codes "a") ∷ [])
    ∷ node (class (codes "a") ∷ second_child ∷ [])
    ∷ []

-- `:nth-child(2).a`, `:not(:nth-child(2).a)`, `div`: nothing is surely open, so what has a class that the tag lacks is tried by its names
abbrev by_names_first : List Path
by_names_first =
    node (class (codes "a") ∷ second_child ∷ [])
    ∷ node (NoneOf (any_of (all_of (second_child ∷ class (codes "a") ∷ []) ∷ [])) ∷ [])
    ∷ node (name (codes "div") ∷ [])
    ∷ []

pub record AreCounted : Type 0 where
  pub lone_class : AreCounts lone_class (of_class (codes "c")) 1 1 0 0 true true
  pub names_only : AreCounts names_only (of_class (codes "c")) 3 0 1 0 false false
  pub mixed : AreCounts mixed (of_class (codes "c")) 5 3 2 2 true true
  pub by_names_first : AreCounts by_names_first (of_class (codes "c")) 3 0 2 0 false false

-- 3. Why attributes rule nothing out after a stop: such a count would change with the order of the nodes

-- calls up to the first open node, and after it only of nodes that attributes leave
abbrev greedy_calls : Element → List Path → List Call
greedy_calls e [] = []
greedy_calls e (node ∷ nodes) =
    Without node ∷ (if is_open (by_names (last_compound node) e)
    then Completing node ∷ map With (filter (λ n. not (is_ruled_out_by_attributes (key_of n) e)) nodes)
    else greedy_calls e nodes)

-- `:nth-child(2).a`, and `:not(.c):nth-child(2n+1)`, which is open at a first child
abbrev shut : Path
shut = node (class (codes "a") ∷ second_child ∷ [])

abbrev opened : Path
opened = node (OfName (IsNthChild (record { step = pos 2; offset = pos 1 })) ∷ NoneOf (any_of (all_of (class (codes "c") ∷ []) ∷ [])) ∷ [])

pub record DependsOnOrder : Type 0 where
  pub shut_first : sum_by name_counted (greedy_calls (of_class (codes "c")) (shut ∷ opened ∷ [])) ≡ 2
  pub open_first : sum_by name_counted (greedy_calls (of_class (codes "c")) (opened ∷ shut ∷ [])) ≡ 1
