-- The last event, where it is known.
use Rattle.std.proofs.Common.{ℕ, ◌≡◌, Bool, true, false, List, [], ◌∷◌, ◌++◌, map, refl, sym, ap, ◌∙◌, subst}
use Rattle.std.specs.Prelude.{not, ◌&&◌, if◌then◌else◌}
use Rattle.lol_base.specs.StartTags.{StartTag}
use Rattle.lol_instructions.specs.Tries.{names_counted, attributes_counted}
use Rattle.lol_instructions.specs.declared.tries.Tries.{Tries}
use Rattle.lol_memory.specs.declared.match_info.MatchInfo.{MatchInfo}
use Rattle.lol_program.specs.Paths.{Selectors}
use Rattle.lol_machine.specs.Answers.{Answer, Match, Started, Dropped, Ended, after, answer, answers_from, asks, document, document_from, is_dropped, report}
use Rattle.lol_machine.specs.Documents.{Document, element_of, empty}
use Rattle.lol_machine.specs.Events.{Event, Start, End, has_content}
use Rattle.lol_machine.specs.Views.{match_of}
use Rattle.lol_machine.specs.Vms.{is_asked_for}
use Rattle.lol_matcher.specs.Last.{HasTries, IsLast, last_answer, last_opens, last_or, matches_in, opens_by, opens_from}
use Rattle.lol_matcher.specs.Told.{Told, heard}

-- 1. The last of a list

pub last_push : {A : Type 0} (given : A) (xs : List A) (x : A) → last_or given (xs ++ x ∷ []) ≡ x
last_push given [] x = refl
last_push given (y ∷ xs) x = last_push y xs x

module _ (s : Selectors) (esi : Bool) where
  answers_push : (d : Document) (before : List Event) (event : Event)
      → answers_from s esi d (before ++ event ∷ []) ≡ answers_from s esi d before ++ answer s esi (document_from s esi d before) event ∷ []
  answers_push d [] event = refl
  answers_push d (e ∷ before) event = ap (λ more. answer s esi d e ∷ more) (answers_push (after s esi d e) before event)

  opens_push : (d : Document) (before : List Event) (event : Event)
      → opens_from s esi d (before ++ event ∷ []) ≡ opens_from s esi d before ++ opens_by s esi (document_from s esi d before) event ∷ []
  opens_push d [] event = refl
  opens_push d (e ∷ before) event = ap (λ more. opens_by s esi d e ∷ more) (opens_push (after s esi d e) before event)

  pub last_is : (events before : List Event) (event : Event) → events ≡ before ++ event ∷ [] → last_or (Ended []) (answers_from s esi empty events) ≡ answer s esi (document s esi before) event
  last_is events before event is =
      ap (λ events. last_or (Ended []) (answers_from s esi empty events)) is
      ∙ (ap (last_or (Ended [])) (answers_push empty before event) ∙ last_push (Ended []) (answers_from s esi empty before) (answer s esi (document s esi before) event))

  pub last_opened : (events before : List Event) (event : Event) → events ≡ before ++ event ∷ [] → last_or false (opens_from s esi empty events) ≡ opens_by s esi (document s esi before) event
  last_opened events before event is =
      ap (λ events. last_or false (opens_from s esi empty events)) is
      ∙ (ap (last_or false) (opens_push empty before event) ∙ last_push false (opens_from s esi empty before) (opens_by s esi (document s esi before) event))

-- 2. Start tags that are answered

pub record WasAnswered (drop : Bool) (reported other : List Match) (asked whether : Bool) : Type 0 where
  pub kept : drop ≡ false
  pub report : other ≡ reported
  pub asks : asked ≡ whether

kept_if : (drop : Bool) (reported other : List Match) (asked whether : Bool) (m n k l : ℕ) → (if drop then Dropped else Started reported asked m n) ≡ Started other whether k l → WasAnswered drop reported other asked whether
kept_if true reported other asked whether m n k l is = cc
kept_if false reported other asked whether m n k l is = record { kept = refl; report = cc; asks = cc }

pub answered : (s : Selectors) (esi : Bool) (d : Document) (tag : StartTag) (matched : List Match) (asked : Bool) (m n : ℕ) → answer s esi d (Start tag) ≡ Started matched asked m n
    → WasAnswered (is_dropped s (element_of d tag) d.open_elements) (report s esi (element_of d tag) d.open_elements) matched (asks s (element_of d tag) d.open_elements) asked
answered s esi d tag matched asked m n is = kept_if (is_dropped s (element_of d tag) d.open_elements) _ _ _ _ _ _ _ _ is

pub dropped_answer : (drop : Bool) (a : Answer) → drop ≡ true → (if drop then Dropped else a) ≡ Dropped
dropped_answer true a is = refl
dropped_answer false a is = cc

pub kept_answer : (drop : Bool) (a : Answer) → drop ≡ false → (if drop then Dropped else a) ≡ a
kept_answer true a is = cc
kept_answer false a is = refl

pub opens_if : (content drop : Bool) → drop ≡ false → (content && not drop) ≡ content
opens_if true drop is = ap not is
opens_if false drop is = refl

pub opens_none : (content drop : Bool) → drop ≡ true → (content && not drop) ≡ false
opens_none true drop is = ap not is
opens_none false drop is = refl

-- 3. What was answered to the last event

module _ (s : Selectors) (told : Told) (matched : List MatchInfo) (tries : Tries) (opened : Bool) where
  abbrev esi : Bool
  esi = told.esi

  -- before the first
  pub last_first : heard told ≡ [] → matched ≡ [] → opened ≡ false → IsLast s told matched tries opened
  last_first none silent closed =
      let is : last_answer s told ≡ Ended [] = ap (λ events. last_or (Ended []) (answers_from s esi empty events)) none in
      record {
        reported = ap (map match_of) silent ∙ ap matches_in (sym is);
        tried = subst (λ a. HasTries a tries) (sym is) tt;
        opens = closed ∙ sym (ap (λ events. last_or false (opens_from s esi empty events)) none);
      }

  module _ (before : List Event) where
    last_by : (event : Event) → heard told ≡ before ++ event ∷ [] → (a : Answer) → answer s esi (document s esi before) event ≡ a → map match_of matched ≡ matches_in a → HasTries a tries
        → opened ≡ opens_by s esi (document s esi before) event → IsLast s told matched tries opened
    last_by event last a is reported tried opens =
        let same : last_answer s told ≡ a = last_is s esi (heard told) before event last ∙ is in
        record {
          reported = reported ∙ ap matches_in (sym same);
          tried = subst (λ a. HasTries a tries) (sym same) tried;
          opens = opens ∙ sym (last_opened s esi (heard told) before event last);
        }

    -- a start tag that is reported
    pub last_start : (tag : StartTag) (asked : Bool) → heard told ≡ before ++ Start tag ∷ []
        → answer s esi (document s esi before) (Start tag) ≡ Started (map match_of matched) asked (names_counted tries) (attributes_counted tries)
        → opened ≡ has_content esi tag → IsLast s told matched tries opened
    last_start tag asked last is opens =
        let d = document s esi before in
        last_by (Start tag) last (Started (map match_of matched) asked (names_counted tries) (attributes_counted tries)) is refl (refl, refl)
        (opens ∙ sym (opens_if (has_content esi tag) (is_dropped s (element_of d tag) d.open_elements) (answered s esi d tag (map match_of matched) asked (names_counted tries) (attributes_counted tries) is).kept))

    -- one that is dropped
    pub last_dropped : (tag : StartTag) → heard told ≡ before ++ Start tag ∷ [] → is_asked_for s esi before tag ≡ true → tag.finish ≡ false → matched ≡ [] → opened ≡ false → IsLast s told matched tries opened
    last_dropped tag last asks unfinished silent closed =
        let d = document s esi before in
        let drops : is_dropped s (element_of d tag) d.open_elements ≡ true = λ i. asks i && not (unfinished i) in
        last_by (Start tag) last Dropped (dropped_answer (is_dropped s (element_of d tag) d.open_elements) _ drops) (ap (map match_of) silent) tt
        (closed ∙ sym (opens_none (has_content esi tag) (is_dropped s (element_of d tag) d.open_elements) drops))

    -- an end tag
    pub last_end : (name : List ℕ) → heard told ≡ before ++ End name ∷ [] → matched ≡ [] → opened ≡ false → IsLast s told matched tries opened
    last_end name last silent closed = last_by (End name) last (answer s esi (document s esi before) (End name)) refl (ap (map match_of) silent) tt closed
