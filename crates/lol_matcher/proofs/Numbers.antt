-- The numbers of tags, and of open elements.
use Rattle.std.proofs.Common.{◌≡◌, ℕ, ◌+◌, ◌-◌, ◌^◌, Bool, true, false, List, [], ◌∷◌, ◌++◌, length, map, Option, Some, None, refl, sym, ap, ◌∙◌, subst, arith, length-append}
use Rattle.std.specs.Prelude.{reverse, take, drop, not, ◌&&◌, if◌then◌else◌}
use Rattle.std.specs.List.{drop-map}
use Rattle.std.proofs.lemmas.List.{length-map, length-reverse, map-append, reverse-append, take-append-drop, drop_at, take-map, take_at}
use Rattle.lol_base.specs.StartTags.{StartTag}
use Rattle.lol_base.specs.declared.namespace.Namespace.{Namespace}
use Rattle.lol_instructions.specs.Tests.{Element}
use Rattle.lol_instructions.specs.Tries.{names_counted, attributes_counted}
use Rattle.lol_instructions.specs.declared.tries.Tries.{Tries}
use Rattle.lol_memory.specs.declared.match_info.MatchInfo.{MatchInfo}
use Rattle.lol_program.specs.Paths.{Selectors}
use Rattle.lol_machine.specs.Answers.{after, document, document_from, is_dropped}
use Rattle.lol_machine.specs.AnswerLaws.{document_push, events-document}
use Rattle.lol_machine.specs.Documents.{Document, empty, element_of, outer_part, inner_part, index_of}
use Rattle.lol_machine.specs.Events.{Event, Start, End, has_content}
use Rattle.lol_machine.specs.Views.{match_of}
use Rattle.lol_machine.specs.Vms.{Vm, is_asked_for, open_after}
use Rattle.lol_machine.specs.declared.error.AuxStartTagInfoRequest.{AuxStartTagInfoRequest}
use Rattle.lol_matcher.specs.Answering.{IsReportedUnder, KeepsOne}
use Rattle.lol_matcher.specs.Keeping.{Waits, count_with}
use Rattle.lol_matcher.specs.LastLaws.{answered, opens_if, opens_none}
use Rattle.lol_matcher.specs.Told.{in_word, numbers_open, with_dropped}
use Rattle.lol_matcher.specs.declared.open_element.OpenElement.{OpenElement}

-- 1. Tags

pub count_push : (count : ℕ) (events : List Event) (event : Event) → count ≡ in_word (length events) → in_word (count + 1) ≡ in_word (length (events ++ event ∷ []))
count_push count events event is = let more = length-append events (event ∷ []) in omega (arith, is, more)

-- one that waits counts, where it is dropped
pub count_dropped : {T : Type 0} (s : Selectors) (esi : Bool) (events : List Event) (asked : Option (List ℕ × Namespace)) (vm : Vm (OpenElement T)) (request : Option (AuxStartTagInfoRequest (OpenElement T))) → Waits s esi events asked vm request
    → (count : ℕ) → count ≡ in_word (length events) → count_with request count ≡ in_word (length (with_dropped events asked))
count_dropped s esi events None vm None waits count is = is
count_dropped s esi events None vm (Some request) waits count is = absurd waits
count_dropped s esi events (Some asked) vm None waits count is = absurd waits
count_dropped s esi events (Some asked) vm (Some request) waits count is = count_push count events _ is

-- 2. Open elements

module _ (s : Selectors) (esi : Bool) where
  module _ (before : List Event) (tag : StartTag) where
    abbrev d : Document
    d = document s esi before

    pub open_after_start : (opens : Bool) → (has_content esi tag && not (is_dropped s (element_of d tag) d.open_elements)) ≡ opens
        → (document s esi (before ++ Start tag ∷ [])).open_elements ≡ (if opens then element_of d tag ∷ d.open_elements else d.open_elements)
    open_after_start opens is = ap (λ (d : Document). d.open_elements) (document_push s esi empty before (Start tag)) ∙ ap (λ (b : Bool). if b then element_of d tag ∷ d.open_elements else d.open_elements) is

    pub number_is : (element_of d tag).number ≡ length before
    number_is = omega (arith, events-document s esi empty before)

    -- one that is dropped opens nothing
    pub open_after_dropped : is_asked_for s esi before tag ≡ true → tag.finish ≡ false → (document s esi (before ++ Start tag ∷ [])).open_elements ≡ d.open_elements
    open_after_dropped asks unfinished =
        let drops : is_dropped s (element_of d tag) d.open_elements ≡ true = λ i. asks i && not (unfinished i) in
        open_after_start false (opens_none (has_content esi tag) (is_dropped s (element_of d tag) d.open_elements) drops)

    -- one that is answered is numbered, if it is opened
    pub numbered_after : {T : Type 0} (matched : List MatchInfo) (asked : Bool) (tries : Tries) → IsReportedUnder s esi before tag asked matched tries
        → (old new : List (OpenElement T)) → KeepsOne (has_content esi tag) (in_word (length before)) matched old new
        → map (λ (e : OpenElement T). e.number) old ≡ numbers_open d.open_elements → map (λ (e : OpenElement T). e.number) new ≡ numbers_open (document s esi (before ++ Start tag ∷ [])).open_elements
    numbered_after {T} matched asked tries is old new keeps were =
        let kept = (answered s esi d tag (map match_of matched) asked (names_counted tries) (attributes_counted tries) is).kept in
        by_content (has_content esi tag) keeps ∙ sym (ap numbers_open (open_after_start (has_content esi tag) (opens_if (has_content esi tag) _ kept)))
      where
        by_content : (content : Bool) → KeepsOne content (in_word (length before)) matched old new → map (λ (e : OpenElement T). e.number) new ≡ numbers_open (if content then element_of d tag ∷ d.open_elements else d.open_elements)
        by_content false keeps = ap (map (λ (e : OpenElement T). e.number)) keeps ∙ were
        by_content true keeps =
            ap (map (λ (e : OpenElement T). e.number)) keeps.1
            ∙ (map-append (λ (e : OpenElement T). e.number) old (keeps.0 ∷ [])
            ∙ ((λ i. were i ++ (keeps.2 ∙ ap in_word (sym number_is)) i ∷ [])
            ∙ sym (reverse-append (in_word (element_of d tag).number ∷ []) (map (λ (e : Element). in_word e.number) d.open_elements))))

parts_are : (index : Option ℕ) (elements : List Element) → inner_part index elements ++ outer_part index elements ≡ elements
parts_are None elements = refl
parts_are (Some index) elements = take-append-drop (index + 1) elements

numbers_split : (front rest : List Element) → take (length rest) (numbers_open (front ++ rest)) ≡ numbers_open rest
numbers_split front rest =
    let f = λ (e : Element). in_word e.number in
    ap (take (length rest)) (ap reverse (map-append f front rest) ∙ reverse-append (map f front) (map f rest))
    ∙ take_at (reverse (map f rest)) (reverse (map f front)) (length rest) (length-reverse (map f rest) ∙ length-map rest f)

-- those that an end tag leaves open
pub numbered_left : {T : Type 0} (name : List ℕ) (elements : List Element) (old new : List (OpenElement T)) → new ≡ take (length (open_after name elements)) old
    → map (λ (e : OpenElement T). e.number) old ≡ numbers_open elements → map (λ (e : OpenElement T). e.number) new ≡ numbers_open (open_after name elements)
numbered_left {T} name elements old new left were =
    let index = index_of name elements in
    let rest = open_after name elements in
    ap (map (λ (e : OpenElement T). e.number)) left
    ∙ (sym (take-map (λ (e : OpenElement T). e.number) (length rest) old)
    ∙ (ap (take (length rest)) (were ∙ ap numbers_open (sym (parts_are index elements))) ∙ numbers_split (inner_part index elements) rest))

-- and those that it closes
numbers_of_front : (front rest : List Element) → drop (length rest) (numbers_open (front ++ rest)) ≡ numbers_open front
numbers_of_front front rest =
    let f = λ (e : Element). in_word e.number in
    ap (drop (length rest)) (ap reverse (map-append f front rest) ∙ reverse-append (map f front) (map f rest))
    ∙ drop_at (reverse (map f rest)) (reverse (map f front)) (length rest) (length-reverse (map f rest) ∙ length-map rest f)

pub numbered_closed : {T : Type 0} (name : List ℕ) (elements : List Element) (kept : List (OpenElement T)) → map (λ (e : OpenElement T). e.number) kept ≡ numbers_open elements
    → map (λ (e : OpenElement T). e.number) (drop (length (open_after name elements)) kept) ≡ numbers_open (inner_part (index_of name elements) elements)
numbered_closed {T} name elements kept were =
    let index = index_of name elements in
    let rest = open_after name elements in
    sym (drop-map (λ (e : OpenElement T). e.number) (length rest) kept)
    ∙ (ap (drop (length rest)) (were ∙ ap numbers_open (sym (parts_are index elements))) ∙ numbers_of_front (inner_part index elements) rest)
