-- What trying a counted start tag by its name comes to.
use Rattle.lol_machine.proofs.Common.{◌≡◌, Result, Ok, ◌<◌, Bool, true, false, List, Option, Some, None, refl, sym, ap, ◌∙◌, subst, inl, inr, ◌+◌, not, [], ◌∷◌, ◌++◌, length, arith, ◌↔◌, ◌⊎◌, ◌||◌, Name, local_name, StartTag, Namespace, Ids, ascending, full_count, is_html, Element, names_counted, attributes_counted, Tries, Selectors, counted_in, last_count, list_in, items_in, typed_count, element_data_of, ExecutionCtx, StackNames, StackOf, IsLimited, Limiter, Event, has_content, Start, NeedNoMemory, AreRunnable, AreTried, ranges_to_run_in, sight_in, Vm, Stands, IsTagOf, IsAnswered, IsReported, IsTriedAtMost, IsPending, IsEntered, is_asked_for, content_of, list_any, sight_of, all_addresses, needs_attributes, asks, document, ascending_once, Document, element_of, Gathers, Context, no_context, context_of, unfinished, StackItemOf, StandsOn, Range, ℕ, after_start, max, longest, cond, if◌then◌else◌, lowercased, all_at, name_tries, IsRequest, IsStopIn, ranges_from}
use Rattle.std.specs.Result.{IfOk, IsOk}
use Rattle.lol_memory.specs.declared.match_info.MatchInfo.{MatchInfo}
use Rattle.lol_stack.specs.Calls.{IsCalledAtEach, reports}
use Rattle.lol_stack.specs.Contexts.{IsNewItem}
use Rattle.lol_machine.specs.Due.{IsDue}
use Rattle.lol_machine.specs.TriedStarts.{OfStop, IsBegun, IsNewContext, IsTried, IsTriedAs, IsTriedByName, left_at}
use Rattle.lol_machine.specs.declared.tag_runs.RecoveryPoint.{RecoveryPoint}
use Rattle.lol_machine.specs.declared.tag_runs.RecoveryPoint.TheVariants.{AtOnce, At}
use Rattle.lol_machine.specs.declared.tag_runs.Stop.{Stop}
use Rattle.lol_machine.proofs.VmRefusals.{limited_counted}
use Rattle.lol_machine.proofs.Answered.{starts_answer, AnswersStart}
use Rattle.lol_machine.proofs.GatheringLemmas.{new_elements_gather, gathered_ids_ascend}
use Rattle.lol_program.specs.Programs.{Program}
use Rattle.lol_program.specs.ProgramViews.{program_shown}
use Rattle.lol_machine.proofs.Children.{documents_are_ordered}
use Rattle.lol_machine.proofs.Gathered.{runs_give_reports}
use Rattle.lol_machine.proofs.Kept.{after_unfinished, counted_stands, for_on}
use Rattle.lol_machine.proofs.StackCounting.{counters_are_positions}
use Rattle.lol_machine.proofs.Starts.{IsChosen, Running, at_once, chosen_by_name, content_ids, counted as run_count, few_addresses, gathered, gathered_all, left_addresses, names_all, names_left, needs, no_attributes, no_need, not_at_once, nothing_content, runnable, stays}
use Rattle.lol_rows.specs.Rows.{is_left_by_name}
use Rattle.lol_machine.specs.KeyTries.{asks_at_once, is_left_open, node_keys}
use Rattle.lol_machine.specs.SparedRuns.{HasRowRoom, IsSparing, opens_at_once, ranges_by_name}
use Rattle.lol_machine.specs.declared.spared_runs.RowSpace.{RowSpace}
use Rattle.lol_machine.specs.TriedLaws.{at_once_asks}
use Rattle.lol_machine.proofs.Stops.{asked_at_once, left_by_names, started_by_names, stops_are_requests}
use Rattle.lol_machine.proofs.VmStarts.{IsComplete, answered, counted_data, none_tried}
use Rattle.std.specs.declared.alloc.AllocError.{AllocError}

-- 1. How it is tried

module _ {E R : Type 0} (ids : E → Ids) (with_ids : E → Ids → E) (old new : Vm E) (ctx next : ExecutionCtx E) where
  pub tried_by_name : (result found : Result (Option RecoveryPoint) R) (tag : StartTag) (content : Bool) → is_html tag.namespace ≡ true → content ≡ has_content old.enable_esi_tags tag → result ≡ found
      → IsTriedByName ids with_ids old new ctx next result content → IsTried ids with_ids old new ctx next found tag
  tried_by_name result found tag content html is at h =
      subst (λ r. IsTried ids with_ids old new ctx next r tag) at
      (subst (λ b. IsTriedAs ids with_ids old new ctx next result b (has_content old.enable_esi_tags tag)) (sym html) (subst (IsTriedByName ids with_ids old new ctx next result) is h))

same_point : {R : Type 0} (result : Result (Option RecoveryPoint) R) (point : RecoveryPoint) → result ≡ Ok (Some AtOnce) → result ≡ Ok (Some point) → AtOnce ≡ point
same_point result point at_once at = cc

not_at_end : {R : Type 0} (result : Result (Option RecoveryPoint) R) → result ≡ Ok None → result ≡ Ok (Some AtOnce) → ⊥
not_at_end result at at_once = cc

-- 2. What comes of it

-- A start tag of this name and namespace was counted, and tried by its name.
pub record Trial {E R : Type 0} (ids : E → Ids) (with_ids : E → Ids → E) (vm new : Vm E) (name : Name) (ns : Namespace) (next : ExecutionCtx E) (result : Result (Option RecoveryPoint) R) : Type 0 where
  pub lends : (w : E) (more : Ids) → ids (with_ids w more) ≡ more
  pub ctx : ExecutionCtx E
  pub item : IsNewItem ids name ctx.stack_item
  pub namespace : ctx.ns ≡ ns
  pub content : ctx.with_content ≡ true
  pub room : last_count vm.stack < full_count
  pub stack : StackOf Name StackNames E
  pub counted_is : stack ≡ counted_in vm.stack name
  pub before : Tries
  pub no_names : names_counted before ≡ 0
  pub no_attributes : attributes_counted before ≡ 0
  pub room_kept : HasRowRoom vm.program vm.space → HasRowRoom vm.program new.space
  pub tried : (tag : StartTag) → IsTagOf ctx.stack_item.local_name ctx.ns tag → IsTried ids with_ids (record vm { stack = stack; tries = before }) new ctx next result tag

pub named_so : {E : Type 0} {ids : E → Ids} {name : Name} {own ns : Namespace} {item : StackItemOf Name E} → IsNewItem ids name item → own ≡ ns → (tag : StartTag) → IsTagOf name ns tag → IsTagOf item.local_name own tag
named_so item namespace tag named = (item.name ∙ named.0, named.1 ∙ sym namespace)

abbrev pub trial_of : {E R : Type 0} {ids : E → Ids} {with_ids : E → Ids → E} {vm new : Vm E} {name : Name} {ns : Namespace} {next : ExecutionCtx E} {result : Result (Option RecoveryPoint) R} → ((w : E) (more : Ids) → ids (with_ids w more) ≡ more)
    → (ctx : ExecutionCtx E) → IsNewItem ids name ctx.stack_item → ctx.ns ≡ ns → ctx.with_content ≡ true → last_count vm.stack < full_count
    → (stack : StackOf Name StackNames E) → stack ≡ counted_in vm.stack name → (before : Tries) → names_counted before ≡ 0 → attributes_counted before ≡ 0
    → (HasRowRoom vm.program vm.space → HasRowRoom vm.program new.space) → ((tag : StartTag) → IsTagOf ctx.stack_item.local_name ctx.ns tag → IsTried ids with_ids (record vm { stack = stack; tries = before }) new ctx next result tag) → Trial ids with_ids vm new name ns next result
trial_of lends ctx item namespace content room stack is before names attributes kept tried = record {
  lends = lends;
  ctx = ctx;
  item = item;
  namespace = namespace;
  content = content;
  room = room;
  stack = stack;
  counted_is = is;
  before = before;
  no_names = names;
  no_attributes = attributes;
  room_kept = kept;
  tried = tried;
}

module _ {E R : Type 0} {ids : E → Ids} {with_ids : E → Ids → E} {vm new : Vm E} {name : Name} {ns : Namespace} {next : ExecutionCtx E} {result : Result (Option RecoveryPoint) R} (t : Trial ids with_ids vm new name ns next result)
    (s : Selectors) (esi : Bool) (events : List Event) (tag : StartTag) (st : Stands s esi vm events) (named : IsTagOf name ns tag) where
  open t use {lends, ctx, item, stack, before}

  abbrev d : Document
  d = document s esi events

  abbrev e : Element
  e = element_of d tag

  abbrev p : Program
  p = program_shown vm.program

  abbrev the_name : Name
  the_name = local_name tag.name

  abbrev ranges : List (Range ℕ)
  ranges = ranges_to_run_in vm.program stack

  -- what of them is tried
  abbrev rs : List (Range ℕ)
  rs = ranges_by_name vm.program (lowercased tag.name) ranges

  abbrev x : Context
  x = context_of p true e (all_addresses rs)

  abbrev start : Vm E
  start = record vm { stack = stack; tries = before }

  abbrev ended : Vm E
  ended = record vm { stack = stack; tries = new.tries; space = new.space }

  abbrev opens : Bool
  opens = has_content vm.enable_esi_tags tag

  stack_is : stack ≡ counted_in vm.stack the_name
  stack_is = t.counted_is ∙ ap (counted_in vm.stack) named.0

  -- once it was counted
  standing : StandsOn s st.paths p stack (after_start d tag false) (max (longest s esi events) (length d.open_elements))
  standing =
      subst (λ (x : StackOf Name StackNames E). StandsOn s st.paths p x (after_start d tag false) (max (longest s esi events) (length d.open_elements))) (sym stack_is)
      (counted_stands s st.paths p vm.stack d (longest s esi events) (documents_are_ordered s esi events) st.standing tag t.room)

  seen : sight_in stack the_name ≡ sight_of vm.program.enable_nth_of_type e
  seen =
      let positions = counters_are_positions vm.stack vm.program.enable_nth_of_type d tag st.standing.counted in
      let position = ap last_count stack_is ∙ positions.0 in
      let typed = ap (λ (x : StackOf Name StackNames E). typed_count x the_name) stack_is ∙ positions.1 t.room in
      λ i. record { name = lowercased tag.name; position = position i; typed_position = typed i }

  own_is : ctx.stack_item.local_name ≡ the_name
  own_is = item.name ∙ named.0

  abbrev running : Running E
  running = record { s = s; paths = st.paths; closed = st.closed; prog = vm.program; stack = stack; d = after_start d tag false; most = max (longest s esi events) (length d.open_elements); standing = standing }

  new_sparing : IsSparing s vm.program new.space
  new_sparing = record { mode = st.sparing.mode; rows = st.sparing.rows; room = t.room_kept st.sparing.room; size = st.sparing.size }

  -- once it asks for the rest, it stands for the events with this one dropped
  abbrev request_stands : (after : Tries) (space : RowSpace) → IsSparing s vm.program space → asks s e d.open_elements ≡ true → Stands s esi (record vm { stack = stack; tries = after; space = space }) (events ++ Start (unfinished tag) ∷ [])
  request_stands after space sparing asked = record {
    paths = st.paths;
    closed = st.closed;
    standing = for_on s esi events (Start (unfinished tag)) (after_start d tag false) (after_unfinished s esi events tag asked) st.paths p stack standing;
    switch = st.switch;
    unfailed = st.unfailed;
    sparing = sparing;
  }

  is_tried_so : IsTried ids with_ids start new ctx next result tag
  is_tried_so = t.tried tag (named_so item t.namespace tag named)

  opens_is_so : opens ≡ has_content esi tag
  opens_is_so = ap (λ b. has_content b tag) st.switch

  -- it is asked for before anything is tried
  module _ (asked : asks s e d.open_elements ≡ true) (now : s.by_keys ≡ true → asks_at_once node_keys s.nodes e d.open_elements ≡ true) (space : RowSpace) (sparing : IsSparing s vm.program space) (content : Bool)
      (knows : content ≡ (if is_html tag.namespace then has_content esi tag else true)) where
    pending_at_once : IsPending ids s esi events tag (record vm { stack = stack; tries = before; space = space }) (left_at (record ctx { with_content = content }) AtOnce)
    pending_at_once = record {
      stands = request_stands before space sparing asked;
      asks = asked;
      at_once = now;
      context = no_context;
      left = all_addresses ranges;
      is_request = asked_at_once p true e ranges;
      named = named_so item t.namespace tag named;
      sight = ap (sight_in stack) own_is ∙ seen;
      childless = item.children;
      gathered = subst (Gathers ids ctx.stack_item) (nothing_content content) (new_elements_gather ids name ctx.stack_item item);
      goes_on = (refl, knows);
      stopped = tt;
      addresses_left = refl;
      names = ap (λ n. n + length (all_addresses ranges)) t.no_names ∙ omega arith;
      attributes = t.no_attributes;
    }

  -- outside HTML it always is
  pending_foreign : is_html tag.namespace ≡ false → IsPending ids s esi events tag start (left_at ctx AtOnce)
  pending_foreign foreign =
      subst (λ (c : ExecutionCtx E). IsPending ids s esi events tag start (left_at c AtOnce)) (λ i. record ctx { with_content = sym t.content i })
      (pending_at_once (ap (λ b. not b || list_any (needs_attributes e d.open_elements) s.nodes) foreign) (λ by_keys. ap (λ b. not b || list_any (is_left_open node_keys e d.open_elements) s.nodes) foreign)
      vm.space st.sparing true (sym (ap (λ b. cond b (has_content esi tag) true) foreign)))

  -- one of HTML was tried by its name
  module _ (html : is_html tag.namespace ≡ true) where
    by_name : IsTriedByName ids with_ids start new ctx next result opens
    by_name = subst (λ b. IsTriedAs ids with_ids start new ctx next result b opens) html is_tried_so

    can_run : (n : Name) → AreRunnable vm.program.instructions.items (ranges_by_name vm.program n.lowercased ranges) before
    can_run n = runnable running e vm.space st.sparing by_name.size (is_left_by_name n.lowercased) before t.no_names t.no_attributes

    abbrev shut : Type 0
    shut = opens_at_once vm.program (lowercased tag.name) ranges ≡ false

    abbrev Tried : Name → Option Stop → Type 0
    Tried own stop =
        (opens_at_once vm.program own.lowercased ranges ≡ false)
        × AreTried ids with_ids (sight_in stack own) vm.program.instructions.items (ranges_by_name vm.program own.lowercased ranges) (record ctx { with_content = opens }) next before new.tries stop

    abbrev Asked : Name → Type 0
    Asked own = (opens_at_once vm.program own.lowercased ranges ≡ true) × (next ≡ record ctx { with_content = opens }) × (new.tries ≡ before)

    was_tried : (found : Option RecoveryPoint) → result ≡ Ok found → OfStop (Tried the_name) (Asked the_name) found
    was_tried found at =
        subst (λ own. OfStop (Tried own) (Asked own) found) own_is
        (subst (λ r. IfOk r (OfStop (Tried ctx.stack_item.local_name) (Asked ctx.stack_item.local_name))) at (by_name.tried st.sparing.rows (can_run ctx.stack_item.local_name)))

    -- where it isn't asked for at once, what is tried is what the definition tries
    chosen : shut → IsChosen running e rs
    chosen closed = chosen_by_name running e vm.space st.sparing by_name.size (not_at_once running e vm.space st.sparing by_name.size html closed)

    has_gathered : {stop : Option Stop} (tried : Tried the_name stop) → Gathers ids next.stack_item (content_of next.with_content (started_by_names p true e rs))
    has_gathered tried = gathered running ids with_ids lends e the_name seen rs (chosen tried.0) tried.1 (new_elements_gather ids name ctx.stack_item item)

    answers : shut → AnswersStart s p rs e d.open_elements
    answers closed = starts_answer s st.paths p rs e d.open_elements st.closed st.standing.program (chosen closed).held

    -- it was asked for at once
    pending_asked : Asked the_name → IsPending ids s esi events tag ended (left_at next AtOnce)
    pending_asked h =
        let now = at_once running e vm.space st.sparing by_name.size h.0 in
        subst (λ (c : ExecutionCtx E). IsPending ids s esi events tag ended (left_at c AtOnce)) (sym h.1)
        (subst (λ tries. IsPending ids s esi events tag (record vm { stack = stack; tries = tries; space = new.space }) (left_at (record ctx { with_content = opens }) AtOnce)) (sym h.2)
        (pending_at_once (at_once_asks s e d.open_elements now.1) (λ by_keys. now.1) new.space new_sparing opens (opens_is_so ∙ sym (ap (λ b. cond b (has_content esi tag) true) html))))

    pending_stop : (stop : Stop) → Tried the_name (Some stop) → IsPending ids s esi events tag ended (left_at next (At stop))
    pending_stop stop tried =
        let ok = chosen tried.0 in
        let later = not_at_once running e vm.space st.sparing by_name.size html tried.0 in
        let open_there = needs running ids with_ids lends e the_name seen rs ok tried.1 in
        let asked : asks s e d.open_elements ≡ true = sym ((answers tried.0).asked html later) ∙ open_there in
        let same = stays running ids with_ids lends e the_name seen rs ok tried.1 in
        let next_name : lowercased tag.name ≡ next.stack_item.local_name.lowercased = sym (ap (λ n. n.lowercased) (same.name ∙ own_is)) in
        let left = left_by_names p e rs in
        record {
          stands = request_stands new.tries new.space new_sparing asked;
          asks = asked;
          at_once = later;
          context = started_by_names p true e rs;
          left = left;
          is_request = subst (λ n. IsRequest p false true e (ranges_by_name vm.program n ranges) (started_by_names p true e rs) left) next_name (stops_are_requests s st.paths p true e rs st.standing.program open_there);
          named = (same.name ∙ own_is, named.1 ∙ sym (same.namespace ∙ t.namespace));
          sight = ap (sight_in stack) (same.name ∙ own_is) ∙ seen;
          childless = same.children ∙ item.children;
          gathered = has_gathered tried;
          goes_on = (html, same.content ∙ opens_is_so);
          stopped = subst (λ n. IsStopIn vm.program.instructions.items (ranges_by_name vm.program n ranges) stop) next_name tried.1.within;
          addresses_left = subst (λ n. left ≡ all_addresses (ranges_from (ranges_by_name vm.program n ranges) stop)) next_name (left_addresses running ids with_ids lends e the_name seen rs ok tried.1);
          names = subst (λ n. names_counted new.tries + length left ≡ length (all_addresses (ranges_by_name vm.program n ranges)) + 1) next_name (names_left running ids with_ids lends e the_name seen rs ok tried.1 t.no_names);
          attributes = by_name.attributes ∙ t.no_attributes;
        }

    -- it was run to its end
    complete_now : Tried the_name None → IsComplete ids s esi events tag false next x new.tries
    complete_now tried =
        let ok = chosen tried.0 in
        let later = not_at_once running e vm.space st.sparing by_name.size html tried.0 in
        let same = stays running ids with_ids lends e the_name seen rs ok tried.1 in
        let content = same.content ∙ opens_is_so in
        let all : Gathers ids next.stack_item (content_of (has_content esi tag) x) =
        subst (Gathers ids next.stack_item) (λ i. content_of (content i) (gathered_all running ids with_ids lends e the_name seen rs ok tried.1 i)) (has_gathered tried) in
        record {
          asks = sym ((answers tried.0).asked html later) ∙ no_need running ids with_ids lends e the_name seen rs ok tried.1;
          kept = refl;
          content = content;
          matched = gathered_ids_ascend ids next.stack_item (content_of (has_content esi tag) x) all ∙ (ap ascending_once (content_ids (has_content esi tag) x) ∙ (answers tried.0).matched);
          item = record { named = same.name ∙ own_is; jumps = all.jumps; hereditary_jumps = all.hereditary_jumps; children = same.children ∙ item.children };
          names = names_all running ids with_ids lends e the_name seen rs ok tried.1 t.no_names;
          attributes = (by_name.attributes ∙ t.no_attributes) ∙ no_attributes running ids with_ids lends e the_name seen rs ok tried.1;
        }

  -- no more nodes were tried than the definition tries, refused or not
  pub most_tried : IsTriedAtMost s esi events tag new.tries
  most_tried = by_namespace (is_html tag.namespace) refl is_tried_so
    where
      by_open : (html : is_html tag.namespace ≡ true) (b : Bool) → opens_at_once vm.program ctx.stack_item.local_name.lowercased ranges ≡ b → IsTriedAtMost s esi events tag new.tries
      by_open html true now = none_tried s esi events tag before new.tries ((by_name html).untried st.sparing.rows now) t.no_names t.no_attributes
      by_open html false closed =
          let most = (by_name html).within st.sparing.rows closed (can_run html ctx.stack_item.local_name) in
          let count = subst (λ n. length (all_at vm.program.instructions.items (ranges_by_name vm.program n ranges)) ≡ name_tries s e d.open_elements) (sym (ap (λ n. n.lowercased) own_is))
          (run_count running e rs (chosen html (ap (λ n. opens_at_once vm.program n.lowercased ranges) (sym own_is) ∙ closed))) in
          record { names = omega (arith, most.names, t.no_names, count); attributes = omega (arith, (by_name html).attributes, t.no_attributes) }

      by_namespace : (b : Bool) → is_html tag.namespace ≡ b → IsTriedAs ids with_ids start new ctx next result b opens → IsTriedAtMost s esi events tag new.tries
      by_namespace true html h = by_open html (opens_at_once vm.program ctx.stack_item.local_name.lowercased ranges) refl
      by_namespace false html h = none_tried s esi events tag before new.tries (ap (λ (v : Vm E). v.tries) h.2) t.no_names t.no_attributes

  -- where it needs no memory it isn't refused
  pub never_refused : NeedNoMemory (has_content esi tag) vm.program.instructions.items → IsOk result
  never_refused free = by_namespace (is_html tag.namespace) is_tried_so
    where
      by_namespace : (b : Bool) → IsTriedAs ids with_ids start new ctx next result b opens → IsOk result
      by_namespace true h = h.no_memory st.sparing.rows (λ rows. omega (arith, st.sparing.room rows, few_addresses running)) (subst (λ b. NeedNoMemory b vm.program.instructions.items) (sym opens_is_so) free)
      by_namespace false h = subst (λ r. IsOk r) (sym h.0) refl

  module _ (new_is : new ≡ ended) where
    -- it stopped
    pub pending : (point : RecoveryPoint) → result ≡ Ok (Some point) → IsPending ids s esi events tag new (left_at next point)
    pending point at = subst (λ (v : Vm E). IsPending ids s esi events tag v (left_at next point)) (sym new_is) (by_namespace (is_html tag.namespace) refl is_tried_so)
      where
        by_point : (html : is_html tag.namespace ≡ true) (point : RecoveryPoint) → OfStop (Tried html the_name) (Asked html the_name) (Some point) → IsPending ids s esi events tag ended (left_at next point)
        by_point html AtOnce asked = pending_asked html asked
        by_point html (At stop) tried = pending_stop html stop tried

        by_namespace : (b : Bool) → is_html tag.namespace ≡ b → IsTriedAs ids with_ids start new ctx next result b opens → IsPending ids s esi events tag ended (left_at next point)
        by_namespace true html h = by_point html point (was_tried html (Some point) at)
        by_namespace false html h =
            subst (λ p. IsPending ids s esi events tag ended (left_at next p)) (same_point result point h.0 at)
            (subst (λ (c : ExecutionCtx E). IsPending ids s esi events tag ended (left_at c AtOnce)) (sym h.1)
            (subst (λ (v : Vm E). IsPending ids s esi events tag (record vm { stack = stack; tries = v.tries; space = v.space }) (left_at ctx AtOnce)) (sym h.2) (pending_foreign html)))

    -- it was run to its end
    module _ (at : result ≡ Ok None) where
      -- and so it is of HTML
      end_html : (is_html tag.namespace ≡ true) × (opens_at_once vm.program (lowercased tag.name) ranges ≡ false)
      end_html = by_namespace (is_html tag.namespace) refl is_tried_so
        where
          by_namespace : (b : Bool) → is_html tag.namespace ≡ b → IsTriedAs ids with_ids start new ctx next result b opens → (is_html tag.namespace ≡ true) × (opens_at_once vm.program (lowercased tag.name) ranges ≡ false)
          by_namespace true html h = (html, (was_tried html None at).0)
          by_namespace false html h = absurd (not_at_end result at h.0)

      pub complete : IsComplete ids s esi events tag false next x new.tries
      complete = complete_now end_html.0 (was_tried end_html.0 None at)

      pub answered_now : {F : Type 0} (step : F → MatchInfo → Unit {0} → F → Type 0) (f g : F) (last : Vm E)
          → IsCalledAtEach step f (reports next.with_content (ascending (ids next.stack_item.element_data))) g
          → IsEntered next.with_content next.stack_item new last → IsAnswered ids step s esi events tag false vm last f g
      answered_now step f g last called entered =
          answered complete called vm stack new.space st.paths st.closed standing
          (runs_give_reports s st.paths p rs e d.open_elements st.closed st.standing.program (chosen end_html.0 end_html.1).held)
          (ap (λ (x : StackOf Name StackNames E). element_data_of (items_in x)) t.counted_is ∙ counted_data vm.stack name) st.switch st.unfailed new_sparing last
          (subst (λ (v : Vm E). IsEntered next.with_content next.stack_item v last) new_is entered)

-- 3. What comes of a start tag that was begun

pub new_context : {E : Type 0} (ids : E → Ids) (name : Name) (ctx : ExecutionCtx E) → IsNewItem ids name ctx.stack_item → ctx.with_content ≡ true → IsNewContext ids ctx
new_context ids name ctx item content =
    (record { name = refl; ids = item.ids; jumps = item.jumps; hereditary_jumps = item.hereditary_jumps; children = item.children; directive = item.directive }, content)

pub record Began {E : Type 0} (ids : E → Ids) (with_ids : E → Ids → E) (vm new : Vm E) (name : Name) (ns : Namespace) (next : ExecutionCtx E) (stopped : Option RecoveryPoint) : Type 0 where
  pub trial : Trial {R = AllocError} ids with_ids vm new name ns next (Ok stopped)
  pub kept : new ≡ record vm { stack = trial.stack; tries = new.tries; space = new.space }

pub began : {E : Type 0} {ids : E → Ids} {with_ids : E → Ids → E} {vm new : Vm E} {name : Name} {ns : Namespace} {ctx next : ExecutionCtx E} {stopped : Option RecoveryPoint} → ((w : E) (more : Ids) → ids (with_ids w more) ≡ more)
    → IsNewItem ids name ctx.stack_item → ctx.ns ≡ ns → ctx.with_content ≡ true → IsBegun ids with_ids vm new ctx next stopped → Began ids with_ids vm new name ns next stopped
began {vm = vm} {ctx = ctx} lends item namespace content b = record {
  trial = trial_of lends ctx item namespace content b.room b.stack (b.counted ∙ ap (counted_in vm.stack) item.name) b.before b.names b.attributes b.spared b.tried;
  kept = b.kept;
}

module _ {E : Type 0} {ids : E → Ids} {with_ids : E → Ids → E} {vm new : Vm E} {name : Name} {ns : Namespace} {next : ExecutionCtx E} {stopped : Option RecoveryPoint} (b : Began ids with_ids vm new name ns next stopped) where
  -- counting a child changes nothing of what can be charged
  stack_now : new.stack ≡ counted_in vm.stack name
  stack_now = ap (λ (v : Vm E). v.stack) b.kept ∙ b.trial.counted_is

  pub begun_due : (l : Limiter) → IsDue vm l ↔ IsDue new l
  begun_due l = subst (λ (x : StackOf Name StackNames E). IsDue vm l ↔ IsLimited (list_in x) l) (sym stack_now) (limited_counted vm.stack name l)

  module _ (s : Selectors) (esi : Bool) (events : List Event) (tag : StartTag) (st : Stands s esi vm events) (named : IsTagOf name ns tag) where
    -- a machine that was refused answers no more
    pub begun_unfailed : new.failed ≡ false
    begun_unfailed = ap (λ (v : Vm E). v.failed) b.kept ∙ st.unfailed

    pub begun_pending : (point : RecoveryPoint) → stopped ≡ Some point → IsPending ids s esi events tag new (left_at next point)
    begun_pending point at = pending b.trial s esi events tag st named b.kept point (ap Ok at)

    pub begun_complete : stopped ≡ None → IsComplete ids s esi events tag false next (context_of (program_shown vm.program) true (element_of (document s esi events) tag) (all_addresses (ranges_by_name vm.program (lowercased tag.name) (ranges_to_run_in vm.program b.trial.stack)))) new.tries
    begun_complete at = complete b.trial s esi events tag st named b.kept (ap Ok at)

    pub begun_answered : stopped ≡ None → {F : Type 0} (step : F → MatchInfo → Unit {0} → F → Type 0) (f g : F) (last : Vm E)
        → IsCalledAtEach step f (reports next.with_content (ascending (ids next.stack_item.element_data))) g
        → IsEntered next.with_content next.stack_item new last → IsAnswered ids step s esi events tag false vm last f g
    begun_answered at = answered_now b.trial s esi events tag st named b.kept (ap Ok at)

-- a report of a start tag whose attributes are asked for, or not
pub reported_if : {F : Type 0} {step : F → MatchInfo → Unit {0} → F → Type 0} {s : Selectors} {esi : Bool} {events : List Event} {tag : StartTag} {asked : Bool} {tries : Tries} {f g : F}
    → IsReported step s esi events tag asked tries f g → IsReported step s esi events tag (is_asked_for s esi events tag) tries f g
reported_if {step = step} {s} {esi} {events} {tag} {tries = tries} {f} {g} h = subst (λ a. IsReported step s esi events tag a tries f g) (sym h.asks) h

pub whole_since : {P Q R : Type 0} → P ⊎ Q → (Q → R) → P ⊎ R
whole_since (inl p) f = inl p
whole_since (inr q) f = inr (f q)
