-- What the texts' selectors answer, where a tree has their items under numbers.
use Rattle.std.proofs.Common.{◌≡◌, ℕ, Bool, true, false, List, [], ◌∷◌, map, refl, sym, ap, ◌∙◌, subst}
use Rattle.std.specs.Prelude.{not, ◌&&◌, if◌then◌else◌}
use Rattle.lol_base.specs.StartTags.{StartTag}
use Rattle.lol_instructions.specs.Tests.{Element}
use Rattle.lol_program.specs.Asts.{is_with_rows}
use Rattle.lol_program.specs.PairNodeLaws.{nodes_of-AreNodes}
use Rattle.lol_program.specs.Paths.{Path, Selectors, all_beginnings}
use Rattle.lol_program.specs.Sets.{SameMembers}
use Rattle.lol_machine.specs.Answers.{Answer, Dropped, Match, after, answer, asks, document, is_dropped, matching_ids, report}
use Rattle.lol_machine.specs.Documents.{Document, element_of, empty}
use Rattle.lol_machine.specs.Events.{Event, Start, End, has_content}
use Rattle.lol_machine.specs.Refusals.{Allowance, longest, refusal}
use Rattle.lol_machine.specs.Views.{selectors}
use Rattle.lol_machine.specs.Vms.{is_asked_for}
use Rattle.lol_matcher.specs.ExplainingLaws.{ids_are_those}
use Rattle.lol_matcher.specs.Plain.{ItemsAnswerAsTexts, matches_for, plain_selectors}
use Rattle.lol_matcher.specs.Refusing.{refusal_after}
use Rattle.lol_reasons.specs.Explanations.{Added, Reason, Text, added_by, explanations_from, pairs_added, reasons, reasons_at}
use Rattle.lol_reasons.specs.Numbered.{HoldsItems}
use Rattle.lol_reasons.specs.NumberingLaws.{GoesAlike, NodesDecideTheRest, NumbersChangeNoNode, RunsAlike, SameNodes, reporting}
use Rattle.lol_reasons.specs.ReasonLaws.{PairsAreAdded, ReasonsGiveReport}
use Rattle.lol_reasons.specs.declared.texts.Numbering.{Numbering}

-- where a tag is dropped, it is reported under nothing
while_dropped : (drop content : Bool) (rs : List Reason) (started : Answer)
    → reporting (matches_for content rs) (if drop then Dropped else started) ≡ reporting (matches_for content (if drop then [] else rs)) (if drop then Dropped else started)
while_dropped true content rs started = refl
while_dropped false content rs started = refl

module _ (nodes_decide : NodesDecideTheRest) (no_other_node : NumbersChangeNoNode) (pairs_are : PairsAreAdded) (give_report : ReasonsGiveReport) where
  module _ (texts : List Text) (numbering : Numbering) (holds : HoldsItems (added_by texts) numbering) (esi : Bool) where
    abbrev p : Selectors
    p = record (plain_selectors texts) { by_keys = is_with_rows numbering.ast }

    abbrev n : Selectors
    n = selectors numbering.ast

    abbrev added : List Added
    added = added_by texts

    -- 1. The same nodes

    same : SameNodes p n
    same =
        let are = nodes_of-AreNodes p.pairs in
        no_other_node texts numbering holds p
        (subst (λ (ps : List (Path × ℕ)). SameMembers p.nodes (all_beginnings ps)) (sym (pairs_are texts)) (λ x. ((are.members x).1, (are.members x).0))) are.each_once refl

    alike : GoesAlike p n esi
    alike = (nodes_decide p n same esi).0

    runs : (events : List Event) → RunsAlike p n esi events
    runs events = (nodes_decide p n same esi).1 events

    same_asked : (events : List Event) (tag : StartTag) → is_asked_for p esi events tag ≡ is_asked_for n esi events tag
    same_asked events tag =
        ap (λ (d : Document). asks p (element_of d tag) d.open_elements) (runs events).documents
        ∙ alike.asked (element_of (document n esi events) tag) (document n esi events).open_elements

    same_refusal : (events : List Event) (a : Allowance) (tag : StartTag) → refusal_after p esi a events tag ≡ refusal_after n esi a events tag
    same_refusal events a tag =
        (λ i. refusal p esi a ((runs events).documents i) ((runs events).longest_is i) (Start tag))
        ∙ alike.refusals a (document n esi events) (longest n esi events) (Start tag)

    -- 2. Reasons

    reasons_alike : (d : Document) (event : Event) → reasons_at p added d event ≡ reasons_at n added d event
    reasons_alike d (Start tag) =
        ap (λ (b : Bool). if b && not tag.finish then [] else reasons added (element_of d tag) d.open_elements) (alike.asked (element_of d tag) d.open_elements)
    reasons_alike d (End name) = refl

    explained_alike : (d : Document) (events : List Event) → explanations_from p esi added d events ≡ explanations_from n esi added d events
    explained_alike d [] = refl
    explained_alike d (event ∷ events) =
        (λ i. reasons_alike d event i ∷ explanations_from p esi added (alike.done d event i) events)
        ∙ ap (λ more. reasons_at n added d event ∷ more) (explained_alike (after n esi d event) events)

    -- 3. Reports

    reported : (e : Element) (outer : List Element) → report p esi e outer ≡ matches_for (has_content esi e.tag) (reasons added e outer)
    reported e outer =
        ap (map (λ (id : ℕ). record { id = id; with_content = has_content esi e.tag }))
        (sym (give_report p added same_pairs esi e outer ∙ ids_are_those (has_content esi e.tag) (matching_ids p.pairs e outer)))
      where
        same_pairs : SameMembers p.pairs (pairs_added added)
        same_pairs = subst (SameMembers p.pairs) (sym (pairs_are texts)) (λ x. (λ h. h, λ h. h))

    answered : (d : Document) (tag : StartTag) → answer p esi d (Start tag) ≡ reporting (matches_for (has_content esi tag) (reasons_at n added d (Start tag))) (answer n esi d (Start tag))
    answered d tag =
        let e = element_of d tag in
        alike.started d tag
        ∙ (ap (λ (matched : List Match). reporting matched (answer n esi d (Start tag))) (reported e d.open_elements)
        ∙ while_dropped (is_dropped n e d.open_elements) (has_content esi tag) (reasons added e d.open_elements) _)

  pub items_answer : ItemsAnswerAsTexts
  items_answer texts numbering holds esi events = record {
    documents = (runs texts numbering holds esi events).documents;
    explained = explained_alike texts numbering holds esi empty events;
    asked = same_asked texts numbering holds esi events;
    refused = same_refusal texts numbering holds esi events;
    answered = λ tag.
        ap (λ (d : Document). answer (p texts numbering holds esi) esi d (Start tag)) (runs texts numbering holds esi events).documents
        ∙ answered texts numbering holds esi (document (selectors numbering.ast) esi events) tag;
  }
