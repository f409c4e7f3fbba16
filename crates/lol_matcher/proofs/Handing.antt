-- A start tag whose attributes are at hand.
use Rattle.std.proofs.Common.{◌≡◌, ℕ, ◌≤◌, Bool, List, length, sym, subst, map, ap, ◌∙◌}
use Rattle.std.proofs.lemmas.List.{length-map}
use Rattle.lol_base.specs.StartTags.{StartTag}
use Rattle.lol_instructions.specs.Tries.{names_counted, attributes_counted}
use Rattle.lol_instructions.specs.declared.tries.Tries.{Tries}
use Rattle.lol_memory.specs.Limiter.{Limiter}
use Rattle.lol_memory.specs.declared.match_info.MatchInfo.{MatchInfo}
use Rattle.lol_program.specs.Paths.{Selectors}
use Rattle.lol_machine.specs.Answers.{Match, Started, answer, document}
use Rattle.lol_machine.specs.Documents.{element_of}
use Rattle.lol_machine.specs.Events.{Event, Start}
use Rattle.lol_machine.specs.Refusals.{Allowance}
use Rattle.lol_machine.specs.ReportRoom.{HoldsEachReport}
use Rattle.lol_machine.specs.Views.{match_of}
use Rattle.lol_machine.specs.Vms.{Vm, info_of, is_asked_for, tries_in}
use Rattle.lol_matcher.specs.Answering.{IsReportedUnder, reported_after, with_told}
use Rattle.lol_matcher.specs.Keeping.{IsToldAs}
use Rattle.lol_matcher.specs.LastLaws.{WasAnswered, answered}
use Rattle.lol_matcher.specs.Noted.{handed_told, with_elements}
use Rattle.lol_matcher.specs.Told.{History, Matching}
use Rattle.lol_matcher.specs.declared.open_element.OpenElement.{OpenElement}

-- 1. What is reported

-- it fits where each report does
pub fits_in : (s : Selectors) (esi : Bool) (events : List Event) (tag : StartTag) (matched : List Match) (asked : Bool) (m n : ℕ) → answer s esi (document s esi events) (Start tag) ≡ Started matched asked m n
    → (room : ℕ) → HoldsEachReport s room → length (map info_of matched) ≤ room
fits_in s esi events tag matched asked m n is room holds =
    let d = document s esi events in
    subst (λ k. k ≤ room) (sym (length-map matched info_of ∙ ap length (answered s esi d tag matched asked m n is).report)) (holds esi (element_of d tag) d.open_elements)

pub answered_report : (s : Selectors) (esi : Bool) (events : List Event) (tag : StartTag) (items : List MatchInfo) (tries : Tries) (asked : Bool) → IsReportedUnder s esi events tag asked items tries
    → map match_of items ≡ reported_after s esi events tag
answered_report s esi events tag items tries asked is = (answered s esi (document s esi events) tag (map match_of items) asked (names_counted tries) (attributes_counted tries) is).report

-- its attributes were needed exactly where they are asked for
pub told_as : {T : Type 0} (s : Selectors) (esi : Bool) (events : List Event) (tag : StartTag) (asked : Bool) (number : ℕ) (opened : Bool) (items : List MatchInfo) (a : Allowance) (old vm : Vm (OpenElement T)) (limiter : Limiter)
    → IsToldAs s esi events tag asked number opened items a old vm limiter → IsToldAs s esi events tag (is_asked_for s esi events tag) number opened items a old vm limiter
told_as s esi events tag asked number opened items a old vm limiter is =
    let tries = tries_in vm in
    let asks = (answered s esi (document s esi events) tag (map match_of items) asked (names_counted tries) (attributes_counted tries) is.reported).asks in
    subst (λ b. IsToldAs s esi events tag b number opened items a old vm limiter) (sym asks) is

-- 2. What a matcher shows that was told one

pub told_handed : {T : Type 0} (tag : StartTag) (shown old new : Matching T) (h : History) → shown ≡ old → h ≡ with_elements (handed_told shown.told tag) → new.told ≡ h.told
    → new.open_elements ≡ h.open_elements → new.max_memory ≡ shown.max_memory → new.element_bytes ≡ shown.element_bytes → new.failed ≡ shown.failed → new ≡ with_told (handed_told old.told tag) old new
told_handed tag shown old new h is history same elements maximum bytes failed =
    subst (λ m. new ≡ with_told (handed_told m.told tag) m new) is
    (λ i. record new {
      told = (same ∙ ap (λ (h : History). h.told) history) i;
      max_memory = maximum i;
      element_bytes = bytes i;
      failed = failed i;
      open_elements = (elements ∙ ap (λ (h : History). h.open_elements) history) i;
    })
