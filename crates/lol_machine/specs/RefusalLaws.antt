-- Which event is refused first, as events come.
use Rattle.std.proofs.Common.{◌≡◌, ℕ, ◌≤◌, ◌<◌, inl, inr, Bool, true, false, List, [], ◌∷◌, ◌++◌, length, Option, Some, None, refl, sym, ap, ◌∙◌, arith, max, if◌then◌else◌, ◌⊎◌}
use Rattle.lol_base.specs.PlaceLaws.{some_is}
use Rattle.lol_program.specs.Paths.{Selectors}
use Rattle.lol_machine.specs.AnswerLaws.{events_after, events-document}
use Rattle.lol_machine.specs.Answers.{after, document, document_from}
use Rattle.lol_machine.specs.Documents.{Document, empty}
use Rattle.lol_machine.specs.Events.{Event, Start, End}
use Rattle.lol_machine.specs.Refusals.{Allowance, Cause, Limit, Counter, exceeds, longest, longest_from, or_later, refusal, refused, refused_from}

abbrev number_or : ℕ → Option (ℕ × Cause) → ℕ
number_or n None = n
number_or n (Some refused) = refused.0

module _ (s : Selectors) (esi : Bool) (a : Allowance) where
  longest_least : (d : Document) (events : List Event) → length d.open_elements ≤ longest_from s esi d events
  longest_least d [] = omega arith
  longest_least d (event ∷ events) = omega arith

  -- it isn't before those that come
  not_earlier : (d : Document) (most : ℕ) (events : List Event) (n : ℕ) (cause : Cause) → refused_from s esi a d most events ≡ Some (n, cause) → d.events ≤ n
  not_earlier d most [] n cause is = cc
  not_earlier d most (event ∷ events) n cause is =
      let next = after s esi d event in
      by_refusal (refusal s esi a d most event) (λ is. not_earlier next (max most (length next.open_elements)) events n cause is) is
    where
      by_refusal : {later : Option (ℕ × Cause)} (r : Option Cause) → (later ≡ Some (n, cause) → (after s esi d event).events ≤ n) → or_later d.events r later ≡ Some (n, cause) → d.events ≤ n
      by_refusal (Some first) later is = omega (arith, ap (number_or 0) is)
      by_refusal None later is =
          let one = events_after s esi d event in
          let above = later is in
          omega (arith, above, one)

  -- where none of the first events is, it is the first of the others
  refused_more : (d : Document) (most : ℕ) (xs ys : List Event) → length d.open_elements ≤ most → refused_from s esi a d most xs ≡ None
      → refused_from s esi a d most (xs ++ ys) ≡ refused_from s esi a (document_from s esi d xs) (max most (longest_from s esi d xs)) ys
  refused_more d most [] ys within none =
      let same : most ≡ max most (length d.open_elements) = omega (arith, within) in
      ap (λ m. refused_from s esi a d m ys) same
  refused_more d most (event ∷ xs) ys within none =
      let next = after s esi d event in
      let least = longest_least next xs in
      let same : max (max most (length next.open_elements)) (longest_from s esi next xs) ≡ max most (max (length d.open_elements) (longest_from s esi next xs)) = omega (arith, least, within) in
      by_refusal (refusal s esi a d most event)
      (λ none. refused_more next (max most (length next.open_elements)) xs ys (omega arith) none ∙ ap (λ m. refused_from s esi a (document_from s esi next xs) m ys) same) none
    where
      by_refusal : {first all now : Option (ℕ × Cause)} (r : Option Cause) → (first ≡ None → all ≡ now) → or_later d.events r first ≡ None → or_later d.events r all ≡ now
      by_refusal (Some cause) more none = cc
      by_refusal None more none = more none

  module _ (before : List Event) (fits : refused s esi a before ≡ None) where
    pub refused_on : (later : List Event) → refused s esi a (before ++ later) ≡ refused_from s esi a (document s esi before) (longest s esi before) later
    refused_on later =
        let same : max 0 (longest s esi before) ≡ longest s esi before = omega arith in
        refused_more empty 0 before later (omega arith) fits ∙ ap (λ m. refused_from s esi a (document s esi before) m later) same

    number : (document s esi before).events ≡ length before
    number = events-document s esi empty before ∙ omega arith

    pub fits_on : (event : Event) → refusal s esi a (document s esi before) (longest s esi before) event ≡ None → refused s esi a (before ++ event ∷ []) ≡ None
    fits_on event none = refused_on (event ∷ []) ∙ ap (λ r. or_later (document s esi before).events r None) none

    pub stops_at : (event : Event) (later : List Event) (cause : Cause) → refusal s esi a (document s esi before) (longest s esi before) event ≡ Some cause
        → refused s esi a (before ++ event ∷ later) ≡ Some (length before, cause)
    stops_at event later cause some =
        let next = after s esi (document s esi before) event in
        let rest = refused_from s esi a next (max (longest s esi before) (length next.open_elements)) later in
        refused_on (event ∷ later) ∙ (ap (λ r. or_later (document s esi before).events r rest) some ∙ ap (λ n. Some (n, cause)) number)

    abbrev own : Event → Option Cause
    own event = refusal s esi a (document s esi before) (longest s esi before) event

    -- it is the next one, for its own cause, or a later one
    pub first_is : (event : Event) (later : List Event) (n : ℕ) (cause : Cause) → refused s esi a (before ++ event ∷ later) ≡ Some (n, cause)
        → ((own event ≡ Some cause) × (n ≡ length before)) ⊎ (length before < n)
    first_is event later n cause is =
        let next = after s esi (document s esi before) event in
        by_refusal (own event) refl (λ rest. not_earlier next (max (longest s esi before) (length next.open_elements)) later n cause rest) (sym (refused_on (event ∷ later)) ∙ is)
      where
        by_refusal : {rest : Option (ℕ × Cause)} (r : Option Cause) → own event ≡ r → (rest ≡ Some (n, cause) → (after s esi (document s esi before) event).events ≤ n)
            → or_later (document s esi before).events r rest ≡ Some (n, cause) → ((own event ≡ Some cause) × (n ≡ length before)) ⊎ (length before < n)
        by_refusal (Some c) at above is =
            let same = some_is is in
            inl (at ∙ ap (λ (x : ℕ × Cause). Some x.1) same, sym (ap (λ (x : ℕ × Cause). x.0) same) ∙ number)
        by_refusal None at above is =
            let least = above is in
            let one = events_after s esi (document s esi before) event in
            let counts = number in
            inr (omega (arith, least, one, counts))

-- the first event of all isn't refused for its counter
pub counter_comes_later : (s : Selectors) (esi : Bool) (a : Allowance) (events : List Event) (n : ℕ) → refused s esi a events ≡ Some (n, Counter) → 0 < n
counter_comes_later s esi a [] n is = cc
counter_comes_later s esi a (event ∷ later) n is = elim (first_is s esi a [] refl event later n Counter is) [
  | inl at ↦ absurd (never event at.0)
  | inr less ↦ less
]
  where
    either : (over : Bool) → (if over then Some Limit else None) ≡ Some Counter → ⊥
    either true is = cc
    either false is = cc

    never : (event : Event) → refusal s esi a empty 0 event ≡ Some Counter → ⊥
    never (Start tag) is = either (exceeds a (max 0 (length (after s esi empty (Start tag)).open_elements))) is
    never (End name) is = cc
