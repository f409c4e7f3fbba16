-- Laws over the definitions, which later layers stand on.
use Rattle.lol_program.specs.Sets.{SameMembers}
use Rattle.std.specs.Prelude.{ℕ, ◌≡◌, ◌≢◌, ◌↔◌, true, Bool, List, [], map, None, Contains, AllPairs}
use Rattle.lol_base.specs.Ascending.{IsStrictlyAscending}
use Rattle.lol_instructions.specs.Tests.{Element}
use Rattle.lol_program.specs.Paths.{Path, Selectors}
use Rattle.lol_program.specs.Asts.{pairs_of, nodes_of}
use Rattle.lol_program.specs.declared.ast.Ast.{Ast}
use Rattle.lol_machine.specs.Events.{Event, End}
use Rattle.lol_machine.specs.Documents.{Document, index_of}
use Rattle.lol_machine.specs.Matching.{matches}
use Rattle.lol_machine.specs.Answers.{Match, Ended, report, answer, answers, after}
use Rattle.lol_machine.specs.Views.{selectors}
use Rattle.lol_machine.specs.Refusals.{Allowance, refused}

abbrev pub ids_of : List Match → List ℕ
ids_of matched = map (λ m. m.id) matched

-- an id stands in a report exactly if a path under it matches
abbrev pub HasMatchingIds : Selectors → Bool → Element → List Element → Type 0
HasMatchingIds s esi e outer =
    (id : ℕ) → Contains (ids_of (report s esi e outer)) id ↔ ((path : Path) × Contains s.pairs (path, id) × (matches path e outer ≡ true))

-- A report has each id of a matching path, once, in ascending order.
pub record IsReport (s : Selectors) (esi : Bool) (e : Element) (outer : List Element) : Type 0 where
  pub ascending : IsStrictlyAscending (ids_of (report s esi e outer))
  pub members : HasMatchingIds s esi e outer

-- the same pairs, in any order and number, and the same nodes, each once, in any order, spared by keys or not
pub record SameSelectors (s t : Selectors) : Type 0 where
  pub pairs : SameMembers t.pairs s.pairs
  pub nodes : SameMembers t.nodes s.nodes
  pub each_once : AllPairs (λ a b. a ≢ b) s.nodes
  pub each_once' : AllPairs (λ a b. a ≢ b) t.nodes
  pub mode : s.by_keys ≡ t.by_keys

-- The order in which pairs and nodes stand changes no answer and no refusal.
abbrev pub OrderChangesNothing : Type 0
OrderChangesNothing =
    (s t : Selectors) → SameSelectors s t → (esi : Bool) (events : List Event)
    → (answers s esi events ≡ answers t esi events) × ((a : Allowance) → refused s esi a events ≡ refused t esi a events)

-- An end tag whose name isn't open closes nothing, and leaves the open elements and all children as they are.
abbrev pub StrayEndChangesNothing : Type 0
StrayEndChangesNothing =
    (s : Selectors) (esi : Bool) (d : Document) (name : List ℕ) → index_of name d.open_elements ≡ None
    → (answer s esi d (End name) ≡ Ended [])
    × ((after s esi d (End name)).open_elements ≡ d.open_elements) × ((after s esi d (End name)).children ≡ d.children)

-- selectors whose nodes are spared by keys, or not
abbrev pub in_mode : Bool → Selectors → Selectors
in_mode by_keys s = record s { by_keys = by_keys }

-- Two trees of the same pairs, with the same nodes, answer alike in each mode: in whatever order their selectors were added.
abbrev pub TreesAnswerAlike : Type 0
TreesAnswerAlike =
    (a b : Ast) → SameMembers (pairs_of b) (pairs_of a) → SameMembers (nodes_of b) (nodes_of a)
    → (by_keys esi : Bool) (events : List Event)
    → answers (in_mode by_keys (selectors a)) esi events ≡ answers (in_mode by_keys (selectors b)) esi events
