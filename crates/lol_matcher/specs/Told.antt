-- What a matcher was told of a document, and what a contract sees of it.
use Rattle.std.specs.Prelude.{ℕ, ◌-◌, ◌^◌, min, Bool, List, [], ◌∷◌, ◌++◌, map, reverse, Option, Some, None}
use Rattle.lol_base.specs.declared.namespace.Namespace.{Namespace}
use Rattle.lol_instructions.specs.declared.tries.Tries.{Tries}
use Rattle.lol_instructions.specs.Tests.{Element}
use Rattle.lol_memory.specs.declared.match_info.MatchInfo.{MatchInfo}
use Rattle.lol_program.specs.declared.ast.Ast.{Ast}
use Rattle.lol_machine.specs.Answers.{document}
use Rattle.lol_reasons.specs.AskedRuns.{bare_tag}
use Rattle.lol_machine.specs.Events.{Event, Start}
use Rattle.lol_machine.specs.Views.{selectors}
use Rattle.lol_matcher.specs.declared.open_element.OpenElement.{OpenElement}

-- The tree of the selectors, the ESI switch, the events that were answered, and the name and the namespace of the start tag that waits
-- for its attributes, which comes after those events.
pub record Told : Type 0 where
  pub ast : Ast
  pub esi : Bool
  pub events : List Event
  pub asked : Option (List ℕ × Namespace)

-- A matcher: what it was told, the most bytes that it may charge, the bytes that an element is charged for, and whether a tag was
-- refused. Of the last tag: what a start tag was reported under, how many nodes were tried for it, and whether an element was opened.
-- The open elements, the innermost first, and what is kept of them, the outermost first.
pub record Matching (T : Type 0) : Type 0 where
  pub told : Told
  pub max_memory : ℕ
  pub element_bytes : ℕ
  pub failed : Bool
  pub matched : List MatchInfo
  pub tries : Tries
  pub opened : Bool
  pub open_elements : List Element
  pub kept : List (OpenElement T)

-- events, and a start tag that waits for its attributes, as dropped
abbrev pub with_dropped : List Event → Option (List ℕ × Namespace) → List Event
with_dropped events None = events
with_dropped events (Some asked) = events ++ Start (bare_tag asked.0 asked.1) ∷ []

-- the events so far, where a start tag that waits is dropped
abbrev pub heard : Told → List Event
heard told = with_dropped told.events told.asked

-- the open elements of what was told, the innermost first
abbrev pub elements_of : Told → List Element
elements_of told = (document (selectors told.ast) told.esi (heard told)).open_elements

-- What was told, and which elements are open: those of what was told, until a tag is refused.
pub record History : Type 0 where
  pub told : Told
  pub open_elements : List Element

-- a count in a word, which stays at the greatest number
abbrev pub in_word : ℕ → ℕ
in_word n = min n (2 ^ 64 - 1)

-- the numbers of open elements, the outermost first: how many events came before each
abbrev pub numbers_open : List Element → List ℕ
numbers_open elements = reverse (map (λ e. in_word e.number) elements)
