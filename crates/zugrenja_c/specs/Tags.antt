-- What the calls of a handle do that tell of tags.
use Rattle.std.specs.Prelude.{Option, ◌-◌, ◌^◌, min, ℕ, take, drop, vec_capacity, unwrap_or, ◌≡◌, Bool, true, false, nat_eq, List, [], ◌∷◌, ◌++◌, map, length, All, Some, None, IsSomeAnd, if◌then◌else◌}
use Rattle.lol_base.specs.StartTags.{StartTag, attribute_of, OutlineIsInside}
use Rattle.lol_base.specs.declared.namespace.Namespace.{Namespace}
use Rattle.lol_base.specs.declared.start_tag.AttributeOutline.{AttributeOutline}
use Rattle.lol_machine.specs.Events.{Start}
use Rattle.lol_machine.specs.Vms.{open_after}
use Rattle.lol_matcher.specs.Answering.{AnswersStart, IsFinishedAs, OpensFor, OpensStart, refused_with, told_after, with_ended, with_told, with_value}
use Rattle.lol_matcher.specs.Refusing.{Fits, RefusesFinish, RefusesStart, refusal_of}
use Rattle.lol_matcher.specs.Told.{Told, Matching}
use Rattle.lol_matcher.specs.declared.error.MatcherError.{MatcherError}
use Rattle.lol_matcher.specs.declared.error.MatcherError.TheVariants as errors
use Rattle.lol_matcher.specs.declared.matcher.Started.{Started}
use Rattle.lol_matcher.specs.declared.matcher.Started.TheVariants as answers
use Rattle.lol_matcher.specs.declared.open_element.OpenElement.{OpenElement}
use Rattle.zugrenja_c.specs.Numbers.{numbered_namespace, overwritten}
use Rattle.zugrenja_c.specs.Runs.{Run, ids_matched}
use Rattle.zugrenja_c.specs.declared.attribute_places.AttributePlace.{AttributePlace}
use Rattle.zugrenja_c.specs.declared.closing.Closing.{Closing}

-- ---- start tags

-- A start tag of this name and namespace was answered so.
pub record StartIsAnswered (started : Started) (old : Matching ℕ) (name : List ℕ) (ns : Namespace) (new : Matching ℕ) : Type 0 where
  pub running : old.failed ≡ false
  pub answers : AnswersStart started old.told name ns new.matched new.tries
  pub opens : OpensStart started name ns old new
  pub told : new ≡ with_told (told_after started old.told name ns) old new
  pub fits : Fits started old name ns

-- A start tag of this name and namespace was refused for this.
pub record StartIsRefused (error : MatcherError) (old : Matching ℕ) (name : List ℕ) (ns : Namespace) (new : Matching ℕ) : Type 0 where
  pub running : old.failed ≡ false
  pub refused : RefusesStart error old name ns
  pub after : new ≡ refused_with old new

-- What a start tag does, by its status.
pub record Starts (status : ℕ) (name : List ℕ) (namespace matched : ℕ) (old new : Run) : Type 0 where
  pub reported :
      status ≡ 0
      → IsSomeAnd (numbered_namespace namespace) (λ ns. StartIsAnswered answers.Reported old.matcher name ns new.matcher)
      × (matched ≡ length (ids_matched new))
  pub asks : status ≡ 1 → IsSomeAnd (numbered_namespace namespace) (λ ns. StartIsAnswered answers.NeedsAttributes old.matcher name ns new.matcher)
  pub limit :
      status ≡ 12
      → IsSomeAnd (numbered_namespace namespace) (λ ns. StartIsRefused errors.MemoryLimitExceeded old.matcher name ns new.matcher)
  pub counter : status ≡ 13 → IsSomeAnd (numbered_namespace namespace) (λ ns. StartIsRefused errors.CounterFull old.matcher name ns new.matcher)
  pub memory : status ≡ 14 → IsSomeAnd (numbered_namespace namespace) (λ ns. StartIsRefused errors.Memory old.matcher name ns new.matcher)
  pub failed : status ≡ 15 → old.matcher.failed ≡ true

-- ---- attributes

-- the outline of an attribute that stands in these places
abbrev pub outline_of : AttributePlace → AttributeOutline
outline_of p =
    record {
      name = record { start = p.name_start; end = p.name_end };
      value = if nat_eq p.has_value 0 then None else Some (record { start = p.value_start; end = p.value_end });
      raw_range = record { start = p.name_start; end = p.name_end };
    }

-- each name and each value stands inside a text
abbrev pub AreInside : List ℕ → List AttributePlace → Type 0
AreInside text places = All (OutlineIsInside text) (map outline_of places)

-- the start tag that waits, with attributes in these places of a text
abbrev pub given_tag : List ℕ × Namespace → List ℕ → List AttributePlace → Bool → StartTag
given_tag asked text places closes =
    record { name = asked.0; namespace = asked.1; attributes = map (attribute_of text) (map outline_of places); self_closing = closes; finish = true }

-- what was told, after a start tag that waited, with its attributes
abbrev pub given_told : Told → StartTag → Told
given_told t tag = record { ast = t.ast; esi = t.esi; events = t.events ++ Start tag ∷ []; asked = None }

-- The start tag that waited was reported.
pub record FinishIsAnswered (old : Matching ℕ) (tag : StartTag) (new : Matching ℕ) : Type 0 where
  pub running : old.failed ≡ false
  pub reported : IsFinishedAs old.told tag new
  pub opens : OpensFor old.told.events tag old new
  pub told : new ≡ with_told (given_told old.told tag) old new
  pub fits : refusal_of old old.told.events tag ≡ None

-- The start tag that waited was refused for this.
pub record FinishIsRefused (error : MatcherError) (old : Matching ℕ) (tag : StartTag) (new : Matching ℕ) : Type 0 where
  pub running : old.failed ≡ false
  pub refused : RefusesFinish error old tag
  pub after : new ≡ refused_with old new

-- What the attributes of the start tag that waits do, by their status.
pub record Finishes (status : ℕ) (text : List ℕ) (places : List AttributePlace) (closes : Bool) (matched : ℕ) (old new : Run) : Type 0 where
  pub reported :
      status ≡ 0
      → IsSomeAnd old.matcher.told.asked (λ asked. FinishIsAnswered old.matcher (given_tag asked text places closes) new.matcher)
      × AreInside text places × (matched ≡ length (ids_matched new))
  pub limit :
      status ≡ 12
      → IsSomeAnd old.matcher.told.asked (λ asked. FinishIsRefused errors.MemoryLimitExceeded old.matcher (given_tag asked text places closes) new.matcher)
  pub counter :
      status ≡ 13
      → IsSomeAnd old.matcher.told.asked (λ asked. FinishIsRefused errors.CounterFull old.matcher (given_tag asked text places closes) new.matcher)
  pub memory :
      status ≡ 14
      → IsSomeAnd old.matcher.told.asked (λ asked. FinishIsRefused errors.Memory old.matcher (given_tag asked text places closes) new.matcher)
  pub failed : status ≡ 15 → old.matcher.failed ≡ true
  pub not_asked : status ≡ 16 → (old.matcher.failed ≡ false) × AreInside text places × (old.matcher.told.asked ≡ None)
  pub outside : status ≡ 17 → (old.matcher.failed ≡ false) × ¬ (AreInside text places)

-- ---- end tags

-- the value of an element, 0 where none was given
abbrev pub value_given : OpenElement ℕ → ℕ
value_given element = unwrap_or element.value 0

-- what was kept of the elements that an end tag closes, the outermost first
abbrev pub closed_elements : Matching ℕ → List ℕ → List (OpenElement ℕ)
closed_elements m name = drop (length (open_after name m.open_elements)) m.kept

-- their values
abbrev pub closed_values : Matching ℕ → List ℕ → List ℕ
closed_values m name = map value_given (closed_elements m name)

-- what is kept once these elements were closed: their values as far as there is room, and how many they are
pub record HasClosed (room : ℕ) (elements : List (OpenElement ℕ)) (closing : Closing) : Type 0 where
  pub closed : closing.closed ≡ min (length elements) (2 ^ 64 - 1)
  pub reserved : vec_capacity closing.values ≡ room
  pub values : closing.values.items ≡ take room (map value_given elements)

-- After an end tag the elements that it closes are closed, and their values are written as far as there is room.
pub record Ends (name : List ℕ) (old_values new_values : List ℕ) (closed : ℕ) (old new : Run) : Type 0 where
  pub ended : new.matcher ≡ with_ended old.matcher name
  pub values : new_values ≡ overwritten (closed_values old.matcher name) old_values
  pub counted : closed ≡ min (length (closed_values old.matcher name)) (2 ^ 64 - 1)

-- ---- values

-- The element that the last tag has opened has another value.
pub record GivesValue (value : ℕ) (old new : Run) : Type 0 where
  pub opened : old.matcher.opened ≡ true
  pub given : new.matcher ≡ record old.matcher { kept = with_value (Some value) old.matcher.kept }
