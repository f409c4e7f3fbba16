-- Start tags that the machine counted, and what it answers to them.
use Rattle.lol_machine.proofs.Common.{map-id, ◌≡◌, ℕ, suc, Result, Err, ◌-◌, Bool, true, false, not, List, [], ◌∷◌, ◌++◌, length, map, max, Option, Some, None, refl, sym, ap, ◌∙◌, subst, arith, ◌&&◌, and-true, if◌then◌else◌, slice_get, map-append, Name, map-map, StartTag, Ids, ascending, LimitedVec, Selectors, Path, Element, names_counted, attributes_counted, Tries, Match, Started, Dropped, asks, document, longest, matching_ids, name_tries, attribute_tries, report, Document, after_start, element_of, empty, Event, Start, has_content, Context, items_in, counted_in, counted_item, counted_if, with_typed, element_data_of, IsOrdered, StandsOn, IsRequested, Vm, IsAnswered, IsReported, IsTriedAtMost, IsPending, IsEntered, AreOpened, content_of, info_of, data_in, ExecutionCtx, StackItemOf, StackOf, StackNames, AreClosed}
use Rattle.lol_memory.specs.declared.match_info.MatchInfo.{MatchInfo}
use Rattle.lol_stack.specs.Calls.{IsCalledAtEach, reports}
use Rattle.lol_machine.specs.declared.error.AuxStartTagInfoRequest.{AuxStartTagInfoRequest}
use Rattle.lol_machine.specs.declared.error.VmError.{VmError}
use Rattle.lol_machine.specs.declared.error.VmError.TheVariants.{InfoRequest}
use Rattle.lol_machine.specs.declared.tag_runs.RecoveryPoint.{RecoveryPoint}
use Rattle.lol_program.specs.ProgramViews.{program_shown}
use Rattle.lol_stack.specs.SoundLaws.{set_keeps}
use Rattle.lol_machine.specs.AnswerLaws.{document_push}
use Rattle.lol_machine.proofs.Children.{documents_are_ordered}
use Rattle.lol_machine.proofs.Gathered.{GivesReport}
use Rattle.lol_machine.specs.SparedRuns.{IsSparing}
use Rattle.lol_machine.specs.declared.spared_runs.RowSpace.{RowSpace}
use Rattle.lol_machine.proofs.Kept.{IsItemOf, for_on, opened_stands}

-- 1. Data

module _ {E : Type 0} where
  data_if : (s : StackOf Name StackNames E) (o : Option (StackItemOf Name E)) → o ≡ slice_get (items_in s) (length (items_in s) - 1) → element_data_of (items_in (counted_if s o)) ≡ element_data_of (items_in s)
  data_if s None at = refl
  data_if s (Some item) at = set_keeps (λ (i : StackItemOf Name E). i.element_data) (items_in s) (length (items_in s) - 1) item (counted_item item) (sym at) refl

-- counting a child changes no data
pub counted_data : {E : Type 0} (s : StackOf Name StackNames E) (name : Name) → element_data_of (items_in (counted_in s name)) ≡ element_data_of (items_in s)
counted_data s name = data_if (with_typed s _) (slice_get (items_in s) (length (items_in s) - 1)) refl

-- 2. Opening

-- a context that was left as it was
module _ {E : Type 0} {ctx next : ExecutionCtx E} (same : next ≡ ctx) where
  pub content_there : {b : Bool} → ctx.with_content ≡ b → next.with_content ≡ b
  content_there is = ap (λ (c : ExecutionCtx E). c.with_content) same ∙ is

  pub content_here : {b : Bool} → next.with_content ≡ b → ctx.with_content ≡ b
  content_here is = sym (ap (λ (c : ExecutionCtx E). c.with_content) same) ∙ is

  pub entered_here : (old new : Vm E) → IsEntered next.with_content next.stack_item old new → IsEntered ctx.with_content ctx.stack_item old new
  entered_here old new = subst (λ (c : ExecutionCtx E). IsEntered c.with_content c.stack_item old new) same

-- data to which those of an element with content were added
abbrev pub data_with : {E : Type 0} → Bool → StackItemOf Name E → List E → List E
data_with true item old = old ++ item.element_data ∷ []
data_with false item old = old

-- what an element's tag that was counted comes to, once it is opened if it has content
pub record Enters {E : Type 0} (s : Selectors) (paths : List Path) (vm : Vm E) (own : RowSpace) (after : Tries) (before : List E) (d : Document) (most : ℕ) (item : StackItemOf Name E) (next : Vm E) (content : Bool) : Type 0 where
  pub standing : StandsOn s paths (program_shown next.program) next.stack d most
  pub tries : next.tries ≡ after
  pub switch : next.enable_esi_tags ≡ vm.enable_esi_tags
  pub failed : next.failed ≡ vm.failed
  pub program : next.program ≡ vm.program
  pub space : next.space ≡ own
  pub has : data_in next ≡ data_with content item before

entered_stands : {E : Type 0} (s : Selectors) (paths : List Path) (vm : Vm E) (stack : StackOf Name StackNames E) (space : RowSpace) (after : Tries) (d : Document) (most : ℕ) → IsOrdered d most → (tag : StartTag) (x : Context) (item : StackItemOf Name E) (next : Vm E) (content : Bool)
    → StandsOn s paths (program_shown vm.program) stack (after_start d tag false) (max most (length d.open_elements)) → GivesReport s paths (program_shown vm.program) x (element_of d tag) d.open_elements
    → IsItemOf item tag.name (content_of content x) → IsEntered content item (record vm { stack = stack; tries = after; space = space }) next
    → Enters s paths vm space after (element_data_of (items_in stack)) (after_start d tag content) (max most (length (after_start d tag content).open_elements)) item next content
entered_stands s paths vm stack space after d most ordered tag x item next true here given is entered =
    let opened = opened_stands s paths (program_shown vm.program) d most ordered tag stack next.stack item x here entered.0 is given.jumps given.hereditary_jumps in
    record {
      standing = subst (λ (v : Vm _). StandsOn s paths (program_shown v.program) v.stack (after_start d tag true) (max most (suc (length d.open_elements)))) (sym entered.1) opened;
      tries = ap (λ (v : Vm _). v.tries) entered.1;
      switch = ap (λ (v : Vm _). v.enable_esi_tags) entered.1;
      failed = ap (λ (v : Vm _). v.failed) entered.1;
      program = ap (λ (v : Vm _). v.program) entered.1;
      space = ap (λ (v : Vm _). v.space) entered.1;
      has = ap (λ (v : LimitedVec (StackItemOf Name _)). element_data_of v.items) entered.0.items ∙ map-append (λ (i : StackItemOf Name _). i.element_data) (items_in stack) (item ∷ []);
    }
entered_stands s paths vm stack space after d most ordered tag x item next false here given is entered = record {
  standing = subst (λ (v : Vm _). StandsOn s paths (program_shown v.program) v.stack (after_start d tag false) (max most (length d.open_elements))) (sym entered) here;
  tries = ap (λ (v : Vm _). v.tries) entered;
  switch = ap (λ (v : Vm _). v.enable_esi_tags) entered;
  failed = ap (λ (v : Vm _). v.failed) entered;
  program = ap (λ (v : Vm _). v.program) entered;
  space = ap (λ (v : Vm _). v.space) entered;
  has = ap data_in entered;
}

pub opened_as : {E : Type 0} (ids : E → Ids) (content : Bool) (matched : List Match) (item : StackItemOf Name E) → ascending (ids item.element_data) ≡ map (λ m. m.id) matched
    → (old next between : List E) → between ≡ old → next ≡ data_with content item between → AreOpened ids content matched old next
opened_as ids true matched item is old next between same with_it = (item.element_data, with_it ∙ ap (λ ds. ds ++ item.element_data ∷ []) same, is)
opened_as ids false matched item is old next between same with_it = with_it ∙ same

-- 3. A report

-- All is gathered for a start tag, whose attributes are asked for or not, and as many nodes were tried as the definition tries.
pub record IsComplete {E : Type 0} (ids : E → Ids) (s : Selectors) (esi : Bool) (events : List Event) (tag : StartTag) (asked : Bool) (ctx : ExecutionCtx E) (x : Context) (tries : Tries) : Type 0 where
  pub asks : asks s (element_of (document s esi events) tag) (document s esi events).open_elements ≡ asked
  pub kept : (asked && not tag.finish) ≡ false
  pub content : ctx.with_content ≡ has_content esi tag
  pub matched : ascending (ids ctx.stack_item.element_data) ≡ matching_ids s.pairs (element_of (document s esi events) tag) (document s esi events).open_elements
  pub item : IsItemOf ctx.stack_item tag.name (content_of (has_content esi tag) x)
  pub names : names_counted tries ≡ name_tries s (element_of (document s esi events) tag) (document s esi events).open_elements
  pub attributes : attributes_counted tries ≡ attribute_tries s (element_of (document s esi events) tag) (document s esi events).open_elements

module _ {E : Type 0} {ids : E → Ids} {s : Selectors} {esi : Bool} {events : List Event} {tag : StartTag} {asked : Bool} {ctx : ExecutionCtx E} {x : Context} {tries : Tries} (all : IsComplete ids s esi events tag asked ctx x tries) where
  abbrev d : Document
  d = document s esi events

  abbrev e : Element
  e = element_of d tag

  abbrev as_match : ℕ → Match
  as_match id = record { id = id; with_content = has_content esi tag }

  module _ {F : Type 0} {step : F → MatchInfo → Unit {0} → F → Type 0} {f g : F} (called : IsCalledAtEach step f (reports ctx.with_content (ascending (ids ctx.stack_item.element_data))) g) where
    pub reported : (last : Tries) → last ≡ tries → IsReported step s esi events tag asked last f g
    reported last same = record {
      asks = all.asks;
      called = subst (λ infos. IsCalledAtEach step f infos g) ((λ i. reports (all.content i) (all.matched i)) ∙ sym (map-map info_of as_match (matching_ids s.pairs e d.open_elements))) called;
      names = ap names_counted same ∙ all.names;
      attributes = ap attributes_counted same ∙ all.attributes;
    }

    -- the machine stands for the events with this one
    pub answered : (vm : Vm E) (stack : StackOf Name StackNames E) (space : RowSpace) (paths : List Path) → AreClosed s → StandsOn s paths (program_shown vm.program) stack (after_start d tag false) (max (longest s esi events) (length d.open_elements))
        → GivesReport s paths (program_shown vm.program) x e d.open_elements → element_data_of (items_in stack) ≡ data_in vm → vm.enable_esi_tags ≡ esi → vm.failed ≡ false → IsSparing s vm.program space
        → (next : Vm E) → IsEntered ctx.with_content ctx.stack_item (record vm { stack = stack; tries = tries; space = space }) next → IsAnswered ids step s esi events tag asked vm next f g
    answered vm stack space paths closed here given same_data switch unfailed sparing next entered =
        let entering = entered_stands s paths vm stack space tries d (longest s esi events) (documents_are_ordered s esi events) tag x ctx.stack_item next (has_content esi tag) here given all.item
        (subst (λ b. IsEntered b ctx.stack_item (record vm { stack = stack; tries = tries; space = space }) next) all.content entered) in
        let now : document s esi (events ++ Start tag ∷ []) ≡ after_start d tag (has_content esi tag) =
        document_push s esi empty events (Start tag)
        ∙ ap (after_start d tag) ((λ i. has_content esi tag && not (all.asks i && not tag.finish)) ∙ ((λ i. has_content esi tag && not (all.kept i)) ∙ and-true (has_content esi tag))) in
        let told_all = reported next.tries entering.tries in
        record {
          matched = report s esi e d.open_elements;
          answered =
              ap (λ b. if (b && not tag.finish) then Dropped else Started (report s esi e d.open_elements) b (name_tries s e d.open_elements) (attribute_tries s e d.open_elements)) all.asks
              ∙ (ap (λ b. if b then Dropped else Started (report s esi e d.open_elements) asked (name_tries s e d.open_elements) (attribute_tries s e d.open_elements)) all.kept
              ∙ (λ i. Started (report s esi e d.open_elements) asked (sym told_all.names i) (sym told_all.attributes i)));
          reported = told_all.called;
          stands = record {
            paths = paths;
            closed = closed;
            standing = for_on s esi events (Start tag) (after_start d tag (has_content esi tag)) now paths (program_shown next.program) next.stack entering.standing;
            switch = entering.switch ∙ switch;
            unfailed = entering.failed ∙ unfailed;
            sparing = subst (λ prog. IsSparing s prog next.space) (sym entering.program) (subst (IsSparing s vm.program) (sym entering.space) sparing);
          };
          opened = opened_as ids (has_content esi tag) (report s esi e d.open_elements) ctx.stack_item
              (all.matched ∙ sym (map-map (λ (r : Match). r.id) as_match (matching_ids s.pairs e d.open_elements) ∙ map-id (matching_ids s.pairs e d.open_elements)))
              (data_in vm) (data_in next) (element_data_of (items_in stack)) same_data entering.has;
        }

-- 4. Requests

-- where nothing was tried
pub none_tried : (s : Selectors) (esi : Bool) (events : List Event) (tag : StartTag) (tries next : Tries) → next ≡ tries → names_counted tries ≡ 0 → attributes_counted tries ≡ 0 → IsTriedAtMost s esi events tag next
none_tried s esi events tag tries next same no_names no_attributes = record { names = omega (arith, ap names_counted same, no_names); attributes = omega (arith, ap attributes_counted same, no_attributes) }

-- what is so of the request that was made is so of the one that is answered
pub requested_is : {E : Type 0} (ids : E → Ids) (s : Selectors) (esi : Bool) (events : List Event) (tag : StartTag) (ctx : ExecutionCtx E) (point : RecoveryPoint) (vm next : Vm E) (request : AuxStartTagInfoRequest E) (result : Result (Unit {0}) (VmError E))
    → result ≡ Err (InfoRequest request) → IsRequested ctx point vm next result → IsPending ids s esi events tag vm (record { ctx = ctx; point = point }) → IsPending ids s esi events tag next request
requested_is ids s esi events tag ctx point vm next request result is requested pending =
    let made = subst (IsRequested ctx point vm next) is requested in
    subst (λ v. IsPending ids s esi events tag v request) (sym made.1) (subst (IsPending ids s esi events tag vm) (sym made.0) pending)

-- An answer, whose data and handler began as before the request.
module _ (s : Selectors) (esi : Bool) (events : List Event) (tag : StartTag) {E F : Type 0} (ids_of : E → Ids) (step : F → MatchInfo → Unit {0} → F → Type 0) (old mid new : Vm E) where
  pub answered_since : (f g h : F) → data_in mid ≡ data_in old → g ≡ f → IsAnswered ids_of step s esi events tag true mid new g h → IsAnswered ids_of step s esi events tag true old new f h
  answered_since f g h kept silent a = record {
    matched = a.matched;
    answered = a.answered;
    reported = subst (λ x. IsCalledAtEach step x (map info_of a.matched) h) silent a.reported;
    stands = a.stands;
    opened = subst (λ xs. AreOpened ids_of (has_content esi tag) a.matched xs (data_in new)) kept a.opened;
  }
