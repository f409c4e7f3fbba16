-- What a matcher is told of a script's events.
use Rattle.std.proofs.Common.{◌≡◌, Bool, true, false, List, [], ◌∷◌, ◌++◌, map, inl, inr, refl, ap, ◌∙◌}
use Rattle.std.specs.Prelude.{◌&&◌, if◌then◌else◌}
use Rattle.std.proofs.lemmas.List.{map-append}
use Rattle.lol_base.specs.BoolLaws.{and-right_false}
use Rattle.lol_base.specs.StartTags.{StartTag}
use Rattle.lol_reasons.specs.AskedRuns.{AreToldFrom, IsToldOf, bare_tag}
use Rattle.lol_program.specs.Paths.{Selectors}
use Rattle.lol_machine.specs.Answers.{after, asks}
use Rattle.lol_machine.specs.Documents.{Document, element_of}
use Rattle.lol_machine.specs.Events.{Event, Start, End}
use Rattle.lol_script.specs.Answering.{told_event, told_tag}

-- it is told each as it is, or of one that isn't finished the name and the namespace
one_told : (s : Selectors) (d : Document) (event : Event) → IsToldOf s d event (told_event event)
one_told s d (Start tag) = by_finish tag.finish refl
  where
    by_finish : (finish : Bool) → tag.finish ≡ finish → IsToldOf s d (Start tag) (Start (told_tag tag))
    by_finish true is = inl (λ i. Start (if is i then tag else bare_tag tag.name tag.namespace))
    by_finish false is = inr ((λ i. Start (if is i then tag else bare_tag tag.name tag.namespace)), and-right_false (asks s (element_of d tag) d.open_elements) tag.finish is)
one_told s d (End name) = inl refl

pub all_told : (s : Selectors) (esi : Bool) (d : Document) (events : List Event) → AreToldFrom s esi d events (map told_event events)
all_told s esi d [] = tt
all_told s esi d (event ∷ events) = (one_told s d event, all_told s esi (after s esi d (told_event event)) events)

pub told_more : (events : List Event) (event : Event) → map told_event (events ++ event ∷ []) ≡ map told_event events ++ told_event event ∷ []
told_more events event = map-append told_event events (event ∷ [])

pub told_then : (events : List Event) (event : Event) (later : List Event) → map told_event ((events ++ event ∷ []) ++ later) ≡ map told_event events ++ told_event event ∷ map told_event later
told_then [] event later = refl
told_then (e ∷ events) event later = ap (λ told. told_event e ∷ told) (told_then events event later)
