-- What a run is told answers what the tags as they are do.
use Rattle.std.proofs.Common.{◌≡◌, ℕ, Bool, true, false, List, [], ◌∷◌, ◌++◌, length, Option, Some, None, inl, inr, refl, sym, ap, ◌∙◌, subst, ◌&&◌, if◌then◌else◌, max, nat_lt}
use Rattle.lol_base.specs.StartTags.{StartTag}
use Rattle.lol_program.specs.Paths.{Selectors}
use Rattle.lol_program.specs.Programs.{AreClosed}
use Rattle.lol_machine.specs.Answers.{after, answer, answers_from, asks, document, document_from}
use Rattle.lol_machine.specs.Documents.{Document, element_of, empty}
use Rattle.lol_machine.specs.Events.{Event, Start, End}
use Rattle.lol_machine.specs.Refusals.{Allowance, Cause, Counter, Limit, exceeds, greatest_count, longest_from, or_later, refusal, refused_from}
use Rattle.lol_machine.specs.Views.{selectors}
use Rattle.lol_program.specs.ClosedLaws.{trees_are_closed}
use Rattle.lol_reasons.specs.AskedRuns.{AreToldFrom, AskedRunsAnswerAlike, IsToldOf, ToldGoesOn, bare_tag}
use Rattle.lol_reasons.proofs.ToldAlike.{AlikeDocuments, alike_after, documents_self, documents_trans, dropped_after, dropped_answered, same_answer, same_depth, same_position, unasked_after, unasked_answered}

module _ (s : Selectors) (closed : AreClosed s) (esi : Bool) where
  -- 1. One tag

  -- it is answered alike at one document, and leaves two that no selector tells apart
  record IsToldAlike (d : Document) (told event : Event) : Type 0 where
    answered : answer s esi d told ≡ answer s esi d event
    later : AlikeDocuments s closed esi (after s esi d told) (after s esi d event)

  same_told : (d : Document) (told event : Event) → told ≡ event → IsToldAlike d told event
  same_told d told event is = record {
    answered = ap (answer s esi d) is;
    later = subst (λ t. AlikeDocuments s closed esi (after s esi d t) (after s esi d event)) (sym is) (documents_self s closed esi (after s esi d event));
  }

  bared : (d : Document) (tag : StartTag) (asked finish : Bool) → asks s (element_of d tag) d.open_elements ≡ asked → tag.finish ≡ finish → (asked && finish) ≡ false
      → IsToldAlike d (Start (bare_tag tag.name tag.namespace)) (Start tag)
  bared d tag true true asked finish none = cc
  bared d tag true false asked finish none = record { answered = dropped_answered s closed esi d tag [] false false asked finish refl; later = dropped_after s closed esi d tag [] false false asked finish refl }
  bared d tag false finish asked is none = record { answered = unasked_answered s closed esi d tag [] false false asked; later = unasked_after s closed esi d tag [] false false asked }

  told_alike : (d : Document) (event told : Event) → IsToldOf s d event told → IsToldAlike d told event
  told_alike d event told (inl same) = same_told d told event same
  told_alike d (Start tag) told (inr bare) =
      subst (λ t. IsToldAlike d t (Start tag)) (sym bare.0) (bared d tag (asks s (element_of d tag) d.open_elements) tag.finish refl refl bare.1)
  told_alike d (End name) told (inr bare) = absurd bare

  -- and on from documents that no selector tells apart
  later_alike : (d g : Document) (event told : Event) → IsToldOf s d event told → AlikeDocuments s closed esi d g → AlikeDocuments s closed esi (after s esi d told) (after s esi g event)
  later_alike d g event told is h = documents_trans s closed esi _ _ _ (told_alike d event told is).later (alike_after s closed esi d g event h)

  -- 2. Runs

  told_documents : (d g : Document) (events told : List Event) → AreToldFrom s esi d events told → AlikeDocuments s closed esi d g → AlikeDocuments s closed esi (document_from s esi d told) (document_from s esi g events)
  told_documents d g [] [] are h = h
  told_documents d g [] (t ∷ told) are h = absurd are
  told_documents d g (event ∷ events) [] are h = absurd are
  told_documents d g (event ∷ events) (t ∷ told) are h = told_documents (after s esi d t) (after s esi g event) events told are.1 (later_alike d g event t are.0 h)

  told_answered : (d g : Document) (events told : List Event) → AreToldFrom s esi d events told → AlikeDocuments s closed esi d g → answers_from s esi d told ≡ answers_from s esi g events
  told_answered d g [] [] are h = refl
  told_answered d g [] (t ∷ told) are h = absurd are
  told_answered d g (event ∷ events) [] are h = absurd are
  told_answered d g (event ∷ events) (t ∷ told) are h =
      λ i. ((told_alike d event t are.0).answered ∙ same_answer s closed esi d g event h) i
      ∷ told_answered (after s esi d t) (after s esi g event) events told are.1 (later_alike d g event t are.0 h) i

  told_longest : (d g : Document) (events told : List Event) → AreToldFrom s esi d events told → AlikeDocuments s closed esi d g → longest_from s esi d told ≡ longest_from s esi g events
  told_longest d g [] [] are h = same_depth s closed esi d g h
  told_longest d g [] (t ∷ told) are h = absurd are
  told_longest d g (event ∷ events) [] are h = absurd are
  told_longest d g (event ∷ events) (t ∷ told) are h =
      λ i. max (same_depth s closed esi d g h i) (told_longest (after s esi d t) (after s esi g event) events told are.1 (later_alike d g event t are.0 h) i)

  -- 3. Refusals

  module _ (a : Allowance) where
    abbrev refusal_by : ℕ → ℕ → Option Cause
    refusal_by position most = if nat_lt greatest_count position then Some Counter else (if exceeds a most then Some Limit else None)

    same_refusal : (d g : Document) (most : ℕ) (tag other : StartTag) → AlikeDocuments s closed esi d g → AlikeDocuments s closed esi (after s esi d (Start tag)) (after s esi g (Start other))
        → refusal s esi a d most (Start tag) ≡ refusal s esi a g most (Start other)
    same_refusal d g most tag other h k =
        λ i. refusal_by (same_position s closed esi d g tag other h i) (max most (same_depth s closed esi (after s esi d (Start tag)) (after s esi g (Start other)) k i))

    refusal_alike : (d g : Document) (most : ℕ) (event told : Event) → IsToldOf s d event told → AlikeDocuments s closed esi d g → refusal s esi a d most told ≡ refusal s esi a g most event
    refusal_alike d g most event told is h = by_told event told is (later_alike d g event told is h)
      where
        alike_events : (event told : Event) → told ≡ event → AlikeDocuments s closed esi (after s esi d told) (after s esi g event) → refusal s esi a d most told ≡ refusal s esi a g most event
        alike_events (Start tag) told same k =
            ap (refusal s esi a d most) same
            ∙ same_refusal d g most tag tag h (subst (λ t. AlikeDocuments s closed esi (after s esi d t) (after s esi g (Start tag))) same k)
        alike_events (End name) told same k = ap (refusal s esi a d most) same

        by_told : (event told : Event) → IsToldOf s d event told → AlikeDocuments s closed esi (after s esi d told) (after s esi g event) → refusal s esi a d most told ≡ refusal s esi a g most event
        by_told event told (inl same) k = alike_events event told same k
        by_told (Start tag) told (inr bare) k =
            ap (refusal s esi a d most) bare.0
            ∙ same_refusal d g most (bare_tag tag.name tag.namespace) tag h (subst (λ t. AlikeDocuments s closed esi (after s esi d t) (after s esi g (Start tag))) bare.0 k)
        by_told (End name) told (inr bare) k = absurd bare

    told_refused : (d g : Document) (most : ℕ) (events told : List Event) → AreToldFrom s esi d events told → AlikeDocuments s closed esi d g → refused_from s esi a d most told ≡ refused_from s esi a g most events
    told_refused d g most [] [] are h = refl
    told_refused d g most [] (t ∷ told) are h = absurd are
    told_refused d g most (event ∷ events) [] are h = absurd are
    told_refused d g most (event ∷ events) (t ∷ told) are h =
        let next = after s esi d t in
        let next' = after s esi g event in
        let k = later_alike d g event t are.0 h in
        let depth = same_depth s closed esi next next' k in
        (λ i. or_later (h.events i) (refusal_alike d g most event t are.0 h i) (refused_from s esi a next (max most (depth i)) told))
        ∙ ap (or_later g.events (refusal s esi a g most event)) (told_refused next next' (max most (length next'.open_elements)) events told are.1 k)

told_push : (s : Selectors) (esi : Bool) (d : Document) (events told : List Event) → AreToldFrom s esi d events told → (event t : Event) → IsToldOf s (document_from s esi d told) event t
    → AreToldFrom s esi d (events ++ event ∷ []) (told ++ t ∷ [])
told_push s esi d [] [] are event t is = (is, tt)
told_push s esi d [] (u ∷ told) are event t is = absurd are
told_push s esi d (e ∷ events) [] are event t is = absurd are
told_push s esi d (e ∷ events) (u ∷ told) are event t is = (are.0, told_push s esi (after s esi d u) events told are.1 event t is)

pub told_goes_on : ToldGoesOn
told_goes_on s esi events told are event t is = told_push s esi empty events told are event t is

pub asked_runs_answer_alike : AskedRunsAnswerAlike
asked_runs_answer_alike ast esi events told are =
    let s = selectors ast in
    let closed = trees_are_closed s.by_keys ast in
    let same = documents_self s closed esi empty in
    let d = told_documents s closed esi empty empty events told are same in
    record {
      answered = told_answered s closed esi empty empty events told are same;
      refused_alike = λ a. told_refused s closed esi a empty empty 0 events told are same;
      answered_next = λ event. same_answer s closed esi (document s esi told) (document s esi events) event d;
      refused_next = λ a event.
          ap (λ most. refusal s esi a (document s esi told) most event) (told_longest s closed esi empty empty events told are same)
          ∙ refusal_alike s closed esi a (document s esi told) (document s esi events) _ event event (inl refl) d;
    }
