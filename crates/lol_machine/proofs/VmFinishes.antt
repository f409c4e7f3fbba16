-- Requests that are finished, and what the machine answers to them.
use Rattle.lol_machine.proofs.Common.{◌≡◌, ℕ, ◌+◌, ◌≤◌, Bool, true, false, not, List, [], ◌∷◌, length, drop, get_or, All, refl, sym, ap, ◌∙◌, subst, arith, count_by, Range, contains_from_among, StartTag, Namespace, Html, Svg, MathML, Ids, ascending, tag_attributes, Selectors, all_addresses, Element, is_html, Tries, document, ascending_once, attribute_tries, Document, element_of, Event, Start, has_content, has_content_in, Gathers, Context, no_context, context_of, is_open_at, run, gathered_with_attributes, AreRunnable, IsInsideOf, all_at, open_among, starts_open, AreExecuted, AreWithin, IsPointIn, ranges_left, ranges_to_run_in, sight_in, tried_at, Vm, IsAnswered, IsTriedAtMost, IsEntered, IsPending, GoesOnAt, content_in, content_of, ExecutionCtx, StandsOn, after_start, max, longest, unfinished, lowercased, cond, IsRequest, IsStopIn, ranges_from, names_counted, TagAttributes}
use Rattle.std.proofs.lemmas.List.Elements.{All-cons, All-drop}
use Rattle.lol_memory.specs.declared.match_info.MatchInfo.{MatchInfo}
use Rattle.lol_instructions.specs.declared.instruction.Instruction.{Instruction}
use Rattle.lol_stack.specs.Calls.{IsCalledAtEach, reports}
use Rattle.lol_stack.specs.WithRange.{no_range}
use Rattle.lol_machine.specs.VmLaws.{RequestsTryAtMost}
use Rattle.lol_machine.specs.declared.error.AuxStartTagInfoRequest.{AuxStartTagInfoRequest}
use Rattle.lol_machine.specs.declared.tag_runs.RecoveryPoint.{RecoveryPoint}
use Rattle.lol_machine.specs.declared.tag_runs.RecoveryPoint.TheVariants.{AtOnce, At}
use Rattle.lol_machine.proofs.Answered.{in_order}
use Rattle.lol_machine.proofs.Counted.{addresses_count_tries, TriesAreExact}
use Rattle.lol_program.specs.Programs.{Program}
use Rattle.lol_program.specs.ProgramViews.{has_rows, program_shown}
use Rattle.lol_machine.proofs.Gathered.{GivesReport, runs_give_reports}
use Rattle.lol_machine.proofs.GatheringLemmas.{gathered_ids_ascend}
use Rattle.lol_machine.specs.RunLaws.{offset_inside}
use Rattle.lol_machine.proofs.InstructionAddresses.{attributes_gather, same_count, same_opens}
use Rattle.lol_machine.proofs.Kept.{after_unfinished, on_for}
use Rattle.lol_machine.proofs.Starts.{IsChosen, Running, few_addresses, StaysThe, chosen_by_keys, chosen_by_name, within_bounds, attributes_stay, run_content, content_ids}
use Rattle.lol_machine.specs.KeyTries.{asks_at_once, node_keys}
use Rattle.lol_machine.specs.SparedRuns.{HasRowRoom, HasRoomFor, IsSparing, all_passing, left_at_point, singles, ranges_after, ranges_before, ranges_by_name}
use Rattle.lol_machine.specs.Vms.{is_at_once}
use Rattle.lol_machine.specs.declared.spared_runs.RowSpace.{RowSpace}
use Rattle.lol_machine.proofs.Stops.{left_counted, requests_finish, runs_gather}
use Rattle.lol_machine.proofs.VmStarts.{IsComplete, answered}

-- 1. Content

foreign_content : (tag : StartTag) (esi : Bool) → is_html tag.namespace ≡ false → not tag.self_closing ≡ has_content esi tag
foreign_content tag esi foreign = by_namespace tag.namespace foreign
  where
    by_namespace : (ns : Namespace) → is_html ns ≡ false → not tag.self_closing ≡ has_content_in ns esi tag
    by_namespace Html h = cc
    by_namespace Svg h = refl
    by_namespace MathML h = refl

-- 2. What is left

module _ (instructions : List Instruction) (ranges : List (Range ℕ)) (inside : All (IsInsideOf instructions) ranges) where
  left_inside : (point : RecoveryPoint) → IsPointIn instructions ranges point → All (IsInsideOf instructions) (ranges_left ranges point)
  left_inside AtOnce is = inside
  left_inside (At stop) is = All-cons (IsInsideOf instructions) _ (drop (stop.range + 1) ranges) first (All-drop (IsInsideOf instructions) (stop.range + 1) ranges inside)
    where
      first : IsInsideOf instructions (record { start = (get_or ranges stop.range no_range).start + stop.offset; end = (get_or ranges stop.range no_range).end })
      first = (offset_inside instructions ranges stop is, (inside stop.range no_range is.0).1)

-- 3. A request

module _ {E : Type 0} (ids : E → Ids) (vm : Vm E) (s : Selectors) (esi : Bool) (events : List Event) (tag : StartTag) (request : AuxStartTagInfoRequest E)
    (pending : IsPending ids s esi events tag vm request) where
  abbrev p : Program
  p = program_shown vm.program

  abbrev d : Document
  d = document s esi events

  abbrev e : Element
  e = element_of d tag

  abbrev all : List Instruction
  all = vm.program.instructions.items

  abbrev own : List ℕ
  own = request.ctx.stack_item.local_name.lowercased

  own_is : own ≡ lowercased tag.name
  own_is = ap (λ n. n.lowercased) pending.named.0

  abbrev ranges : List (Range ℕ)
  ranges = ranges_to_run_in vm.program vm.stack

  -- what it goes on in, once the rest is known
  abbrev pub rs : RecoveryPoint → List (Range ℕ)
  rs point = ranges_after vm.program (lowercased tag.name) (tag_attributes tag) ranges point

  abbrev left_code : List (Range ℕ)
  left_code = ranges_left (rs request.point) request.point

  standing : StandsOn s pending.stands.paths p vm.stack (after_start d tag false) (max (longest s esi events) (length d.open_elements))
  standing = on_for s esi events (Start (unfinished tag)) (after_start d tag false) (after_unfinished s esi events tag pending.asks) pending.stands.paths p vm.stack pending.stands.standing

  abbrev running : Running E
  running = record { s = s; paths = pending.stands.paths; closed = pending.stands.closed; prog = vm.program; stack = vm.stack; d = after_start d tag false; most = max (longest s esi events) (length d.open_elements); standing = standing }

  abbrev sparing : IsSparing s vm.program vm.space
  sparing = pending.stands.sparing

  -- what is left at a point of what is run, and what that gives
  record GoesOn (point : RecoveryPoint) : Type 0 where
    pub chosen : IsChosen running e (rs point)
    pub stopped : IsPointIn all (rs point) point
    pub finishes : run p true e pending.context (all_addresses (ranges_left (rs point) point)) ≡ context_of p true e (all_addresses (rs point))
    pub names : names_counted vm.tries + length (all_addresses (ranges_left (rs point) point)) ≡ length (all_addresses (rs point)) + tried_at point
    pub opens : count_by (is_open_at p e) (all_addresses (ranges_left (rs point) point)) ≡ count_by (is_open_at p e) (all_addresses (rs point))
    pub one : tried_at point ≤ length (all_addresses (ranges_left (rs point) point))

  goes : GoesOn request.point
  goes = by_point request.point pending.at_once pending.is_request pending.goes_on pending.stopped pending.addresses_left pending.names
    where
      some_left : (left : List ℕ) → starts_open p e left ≡ true → 1 ≤ length left
      some_left [] h = cc
      some_left (address ∷ left) h = omega arith

      by_point : (point : RecoveryPoint) → (s.by_keys ≡ true → asks_at_once node_keys s.nodes e d.open_elements ≡ is_at_once point)
          → IsRequest p (is_at_once point) true e (ranges_before vm.program own ranges point) pending.context pending.left
          → GoesOnAt (is_html tag.namespace) (has_content esi tag) pending.context point request.ctx.with_content
          → IsPointIn all (ranges_before vm.program own ranges point) point
          → pending.left ≡ all_addresses (ranges_left (ranges_before vm.program own ranges point) point)
          → names_counted vm.tries + length pending.left ≡ length (all_addresses (ranges_before vm.program own ranges point)) + tried_at point → GoesOn point
      by_point AtOnce at_once is_request goes_on stopped left names = record {
        chosen = chosen_by_keys running e vm.space sparing sparing.size at_once;
        stopped = tt;
        finishes = ap (λ c. run p true e c (all_addresses (rs AtOnce))) goes_on.0 ∙ runs_gather p true e no_context (all_addresses (rs AtOnce));
        names = omega (arith, names, ap length left);
        opens = refl;
        one = omega arith;
      }
      by_point (At stop) at_once is_request goes_on stopped left names =
          let asked = subst (λ n. IsRequest p false true e (ranges_by_name vm.program n ranges) pending.context pending.left) own_is is_request in
          let addresses = subst (λ n. pending.left ≡ all_addresses (ranges_from (ranges_by_name vm.program n ranges) stop)) own_is left in
          let count = subst (λ n. names_counted vm.tries + length pending.left ≡ length (all_addresses (ranges_by_name vm.program n ranges)) + 1) own_is names in
          record {
            chosen = chosen_by_name running e vm.space sparing sparing.size at_once;
            stopped = subst (λ n. IsStopIn all (ranges_by_name vm.program n ranges) stop) own_is stopped;
            finishes =
                ap (run p true e pending.context) (sym addresses)
                ∙ requests_finish p false true e (rs (At stop)) pending.context pending.left asked tag.attributes tag.self_closing tag.finish;
            names = omega (arith, count, ap length addresses);
            opens =
                ap (count_by (is_open_at p e)) (sym addresses)
                ∙ (left_counted (is_open_at p e) asked.before pending.left (λ address a. asked.closed address (contains_from_among asked.before address a))
                ∙ ap (count_by (is_open_at p e)) (sym asked.parts));
            one = omega (arith, some_left pending.left asked.asks, ap length addresses);
          }

  -- whatever the rest is, where nodes aren't spared
  pub same_after : (seen : TagAttributes) → (s.by_keys ≡ true → seen ≡ tag_attributes tag) → ranges_after vm.program own seen ranges request.point ≡ rs request.point
  same_after seen same = by_rows (has_rows vm.program) refl
    where
      by_rows : (b : Bool) → has_rows vm.program ≡ b
          → cond b (singles (all_passing (left_at_point own seen request.point) all ranges)) ranges ≡ cond b (singles (all_passing (left_at_point (lowercased tag.name) (tag_attributes tag) request.point) all ranges)) ranges
      by_rows true is =
          let seen_is = same (sym sparing.mode ∙ is) in
          λ i. singles (all_passing (left_at_point (own_is i) (seen_is i) request.point) all ranges)
      by_rows false is = refl

  -- there is room for what is found
  pub has_room : has_rows vm.program ≡ true → HasRoomFor vm.space (length (all_addresses ranges))
  has_room rows = omega (arith, sparing.room rows, few_addresses running)

  abbrev pub x : Context
  x = context_of p true e (all_addresses (rs request.point))

  given : GivesReport s pending.stands.paths p x e d.open_elements
  given = runs_give_reports s pending.stands.paths p (rs request.point) e d.open_elements pending.stands.closed pending.stands.standing.program goes.chosen.held

  are_left : All (IsInsideOf all) left_code
  are_left = left_inside all (rs request.point) goes.chosen.inside request.point goes.stopped

  tries_all : TriesAreExact s p (rs request.point) e d.open_elements
  tries_all = addresses_count_tries s pending.stands.paths p (rs request.point) e d.open_elements pending.stands.closed pending.stands.standing.program goes.chosen.held

  left_count : length (all_at all left_code) ≡ length (all_addresses left_code)
  left_count = same_count vm.program e left_code are_left

  -- where it goes on, the point is there, and what is left can be run
  pub stopped_there : IsPointIn all (rs request.point) request.point
  stopped_there = goes.stopped

  pub can_finish : AreRunnable all left_code vm.tries
  can_finish =
      let bounds = within_bounds running e in
      let names = goes.names in
      let few = at_most_one request.point in
      let size = sparing.size in
      record {
        inside = are_left;
        room = (omega (arith, names, few, left_count, tries_all.names, bounds, size), omega (arith, pending.attributes, names, few, left_count, tries_all.names, bounds, size));
      }
    where
      at_most_one : (point : RecoveryPoint) → tried_at point ≤ 1
      at_most_one AtOnce = omega arith
      at_most_one (At stop) = omega arith

  -- as many are open among those that are left as the definition tries by attributes
  opens_left : open_among (sight_in vm.stack request.ctx.stack_item.local_name) (all_at all left_code) ≡ attribute_tries s e d.open_elements
  opens_left =
      ap (λ z. open_among z (all_at all left_code)) pending.sight
      ∙ (same_opens vm.program e left_code are_left ∙ (goes.opens ∙ tries_all.attributes))

  -- while the request is open, and once it is finished or refused, no more nodes are tried than the definition tries
  pub open_tried : IsTriedAtMost s esi events tag vm.tries
  open_tried =
      let names = goes.names in
      record { names = omega (arith, names, tries_all.names, goes.one); attributes = omega (arith, pending.attributes) }

  pub tried_at_most : (after : Tries) → AreWithin (sight_in vm.stack request.ctx.stack_item.local_name) all left_code vm.tries after (tried_at request.point) → IsTriedAtMost s esi events tag after
  tried_at_most after within = record { names = omega (arith, within.names, goes.names, left_count, tries_all.names); attributes = omega (arith, within.attributes, pending.attributes, opens_left) }

  -- whether it has content, once it is known whether its tag closes itself
  content_now : (self_closing : Bool) → self_closing ≡ tag.self_closing → content_in request.ctx.ns request.ctx.with_content self_closing ≡ has_content esi tag
  content_now self_closing is =
      let same : content_in request.ctx.ns request.ctx.with_content self_closing ≡ content_in tag.namespace request.ctx.with_content self_closing = ap (λ ns. content_in ns request.ctx.with_content self_closing) (sym pending.named.1) in
      let known : content_in tag.namespace request.ctx.with_content self_closing ≡ has_content esi tag = by_namespace (is_html tag.namespace) refl (by_point request.point pending.goes_on) in
      same ∙ known
    where
      by_point : (point : RecoveryPoint) → GoesOnAt (is_html tag.namespace) (has_content esi tag) pending.context point request.ctx.with_content
          → request.ctx.with_content ≡ cond (is_html tag.namespace) (has_content esi tag) true
      by_point AtOnce h = h.1
      by_point (At stop) h = h.1 ∙ sym (ap (λ b. cond b (has_content esi tag) true) h.0)

      by_namespace : (b : Bool) → is_html tag.namespace ≡ b → request.ctx.with_content ≡ cond b (has_content esi tag) true → cond b request.ctx.with_content (not self_closing) ≡ has_content esi tag
      by_namespace true html known = known
      by_namespace false foreign known = ap not is ∙ foreign_content tag esi foreign

  -- what was gathered before, by what is known of its content then and now
  gathered_before : (content : Bool) → content ≡ has_content esi tag → Gathers ids request.ctx.stack_item (content_of content pending.context)
  gathered_before content is = by_point request.point pending.goes_on
    where
      nothing : (a b : Bool) → content_of a no_context ≡ content_of b no_context
      nothing true true = refl
      nothing true false = refl
      nothing false true = refl
      nothing false false = refl

      by_point : (point : RecoveryPoint) → GoesOnAt (is_html tag.namespace) (has_content esi tag) pending.context point request.ctx.with_content → Gathers ids request.ctx.stack_item (content_of content pending.context)
      by_point AtOnce h =
          subst (Gathers ids request.ctx.stack_item) (ap (content_of request.ctx.with_content) h.0 ∙ (nothing request.ctx.with_content content ∙ sym (ap (content_of content) h.0))) pending.gathered
      by_point (At stop) h = subst (λ c. Gathers ids request.ctx.stack_item (content_of c pending.context)) (h.1 ∙ sym is) pending.gathered

  module _ (with_ids : E → Ids → E) (lends : (w : E) (more : Ids) → ids (with_ids w more) ≡ more) (self_closing : Bool) (is_closing : self_closing ≡ tag.self_closing) (finish : tag.finish ≡ true) (new_ctx : ExecutionCtx E) (after : Tries) where
    abbrev ctx : ExecutionCtx E
    ctx = record request.ctx { with_content = content_in request.ctx.ns request.ctx.with_content self_closing }

    abbrev Executed : Type 0
    Executed = AreExecuted ids with_ids (sight_in vm.stack request.ctx.stack_item.local_name) all left_code ctx new_ctx vm.tries after (tag_attributes tag) (tried_at request.point)

    module _ (executed : Executed) where
      all_gathered : Gathers ids new_ctx.stack_item (content_of (has_content esi tag) x)
      all_gathered =
          let gathers = attributes_gather vm.program e left_code are_left ids with_ids lends ctx.with_content ctx (content_of ctx.with_content pending.context) (gathered_before ctx.with_content (content_now self_closing is_closing), refl) in
          let new_is = executed.gathered ∙ ap (λ z. gathered_with_attributes ids with_ids z (tag_attributes tag) ctx (all_at all left_code)) pending.sight in
          let ran : run p ctx.with_content e (content_of ctx.with_content pending.context) (all_addresses left_code) ≡ content_of (has_content esi tag) x =
          run_content p ctx.with_content e pending.context (all_addresses left_code) ∙ (λ i. content_of (content_now self_closing is_closing i) (goes.finishes i)) in
          subst (λ (c : ExecutionCtx E). Gathers ids c.stack_item (content_of (has_content esi tag) x)) (sym new_is) (subst (Gathers ids _) ran gathers)

      pub complete : IsComplete ids s esi events tag true new_ctx x after
      complete =
          let same : StaysThe ctx new_ctx = subst (StaysThe ctx) (sym executed.gathered) (attributes_stay ids with_ids ctx (sight_in vm.stack request.ctx.stack_item.local_name) (tag_attributes tag) (all_at all left_code)) in
          record {
            asks = pending.asks;
            kept = ap not finish;
            content = same.content ∙ content_now self_closing is_closing;
            matched = gathered_ids_ascend ids new_ctx.stack_item (content_of (has_content esi tag) x) all_gathered ∙ (ap ascending_once (content_ids (has_content esi tag) x) ∙ in_order x.ids s e d.open_elements given.ids);
            item = record { named = same.name ∙ pending.named.0; jumps = all_gathered.jumps; hereditary_jumps = all_gathered.hereditary_jumps; children = same.children ∙ pending.childless };
            names = omega (arith, executed.names, goes.names, left_count, tries_all.names);
            attributes = omega (arith, executed.attributes, pending.attributes, opens_left);
          }

      pub answered_now : {F : Type 0} (step : F → MatchInfo → Unit {0} → F → Type 0) (f g : F) (space : RowSpace) → (HasRowRoom vm.program vm.space → HasRowRoom vm.program space) → (next : Vm E)
          → IsCalledAtEach step f (reports new_ctx.with_content (ascending (ids new_ctx.stack_item.element_data))) g
          → IsEntered new_ctx.with_content new_ctx.stack_item (record vm { tries = after; space = space }) next
          → IsAnswered ids step s esi events tag true vm next f g
      answered_now step f g space kept next called entered =
          answered complete called vm vm.stack space pending.stands.paths pending.stands.closed standing given refl pending.stands.switch pending.stands.unfailed
          (record { mode = sparing.mode; rows = sparing.rows; room = kept sparing.room; size = sparing.size }) next entered

pub requests_try_at_most : {E : Type 0} → RequestsTryAtMost E
requests_try_at_most ids s esi events tag vm request pending = open_tried ids vm s esi events tag request pending
