-- A run that is told of the attributes of a start tag only where they are asked for.
use Rattle.std.specs.Prelude.{ℕ, ◌≡◌, ◌⊎◌, ◌&&◌, Bool, false, List, [], ◌∷◌, ◌++◌}
use Rattle.lol_base.specs.StartTags.{StartTag}
use Rattle.lol_base.specs.declared.namespace.Namespace.{Namespace}
use Rattle.lol_program.specs.Paths.{Selectors}
use Rattle.lol_program.specs.declared.ast.Ast.{Ast}
use Rattle.lol_machine.specs.Answers.{after, answer, answers, asks, document}
use Rattle.lol_machine.specs.Documents.{Document, element_of, empty}
use Rattle.lol_machine.specs.Events.{Event, Start, End}
use Rattle.lol_machine.specs.Refusals.{Allowance, longest, refusal, refused}
use Rattle.lol_machine.specs.Views.{selectors}

-- a start tag without attributes, which isn't finished
abbrev pub bare_tag : List ℕ → Namespace → StartTag
bare_tag name ns = record { name = name; namespace = ns; attributes = []; self_closing = false; finish = false }

-- The name and the namespace alone are told of a start tag: it isn't finished, or its attributes aren't asked for.
abbrev pub IsBared : Selectors → Document → Event → Event → Type 0
IsBared s d (Start tag) told =
    (told ≡ Start (bare_tag tag.name tag.namespace)) × ((asks s (element_of d tag) d.open_elements && tag.finish) ≡ false)
IsBared s d (End name) told = ⊥

-- what a run is told of an event
abbrev pub IsToldOf : Selectors → Document → Event → Event → Type 0
IsToldOf s d event told = (told ≡ event) ⊎ IsBared s d event told

-- What it is told of each event, from what has come before.
abbrev pub AreToldFrom : Selectors → Bool → Document → List Event → List Event → Type 0
AreToldFrom s esi d [] [] = Unit {0}
AreToldFrom s esi d [] (t ∷ told) = ⊥
AreToldFrom s esi d (event ∷ events) [] = ⊥
AreToldFrom s esi d (event ∷ events) (t ∷ told) = IsToldOf s d event t × AreToldFrom s esi (after s esi d t) events told

abbrev pub AreTold : Selectors → Bool → List Event → List Event → Type 0
AreTold s esi events told = AreToldFrom s esi empty events told

-- What it was told is answered as the events are, and the same is refused first; and so is what comes next.
pub record AnswersAsTold (s : Selectors) (esi : Bool) (events told : List Event) : Type 0 where
  pub answered : answers s esi told ≡ answers s esi events
  pub refused_alike : (a : Allowance) → refused s esi a told ≡ refused s esi a events
  pub answered_next : (event : Event) → answer s esi (document s esi told) event ≡ answer s esi (document s esi events) event
  pub refused_next : (a : Allowance) (event : Event)
      → refusal s esi a (document s esi told) (longest s esi told) event ≡ refusal s esi a (document s esi events) (longest s esi events) event

abbrev pub AskedRunsAnswerAlike : Type 0
AskedRunsAnswerAlike =
    (ast : Ast) (esi : Bool) (events told : List Event) → AreTold (selectors ast) esi events told → AnswersAsTold (selectors ast) esi events told

-- and one event more
abbrev pub ToldGoesOn : Type 0
ToldGoesOn =
    (s : Selectors) (esi : Bool) (events told : List Event) → AreTold s esi events told → (event t : Event)
    → IsToldOf s (document s esi told) event t → AreTold s esi (events ++ event ∷ []) (told ++ t ∷ [])
