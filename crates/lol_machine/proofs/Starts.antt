-- What the machine runs for a start tag, and what that gives.
use Rattle.lol_machine.proofs.Common.{◌≡◌, ℕ, suc, zero, reverse, ◌+◌, ◌-◌, ◌<◌, ◌≤◌, ◌^◌, Bool, true, false, List, [], ◌∷◌, ◌++◌, length, map, drop, take, get_or, All, Option, Some, None, refl, sym, ap, ◌∙◌, subst, arith, Contains, drop-cons, slice_get, count_by, length-map, length-drop, length-reverse, map-append, reverse-append, reverse-reverse, take-append-drop, option_map, range_with_len, Range, Name, Among, among_from_contains, Ids, TagAttributes, Sight, sight_of, Path, Selectors, AreClosed, addresses, all_addresses, Element, names_counted, attributes_counted, Tries, name_tries, attribute_tries, Gathers, Context, no_context, context_of, branch, is_open_at, run, AreRunnable, IsInsideOf, all_at, value_seen, holds_seen, first_open_from, gathered_by_names, gathered_with_attributes, starts_open, HoldOnce, LeftMatches, active_of, last_jumps, ranges_of_active, ranges_to_run, item_shown, items_shown, items_in, active_in, AreTried, number_of, ranges_from, jumps_of_item, ranges_to_run_in, sight_in, content_of, ExecutionCtx, StackItemOf, StackOf, StackNames, StandsOn, Document, at_addresses, give_if_there, give_branch, instruction_holds, instruction_value, position_from, is_tried, lowercased, tag_attributes, list_any, or_of, inr, is_html, not, ◌||◌}
use Rattle.std.proofs.lemmas.List.Sums.{count_by-le-length}
use Rattle.std.proofs.lemmas.List.FromFn.{length-range_with_len}
use Rattle.std.proofs.lemmas.List.Quantifiers.{position-Some}
use Rattle.std.proofs.lemmas.Iterator.Adapters.{position_from-zero}
use Rattle.std.proofs.lemmas.List.Elements.{All-contains_itself, All-weaker, All-take}
use Rattle.lol_program.specs.Programs as programs
use Rattle.lol_program.specs.ProgramViews.{instruction_shown, program_shown}
use Rattle.lol_instructions.specs.declared.instruction.Instruction.{Instruction}
use Rattle.lol_program.specs.declared.program.Program.{Program}
use Rattle.lol_stack.specs.WithRange.{no_range}
use Rattle.lol_base.specs.ListLaws.{reverse-map}
use Rattle.lol_stack.specs.Active.{activated, active_ranges_of}
use Rattle.lol_stack.specs.SoundRangeLaws.{active_after-append}
use Rattle.lol_stack.specs.SoundStacks.{IsSound, hereditary_jumps_in}
use Rattle.lol_machine.specs.Matching as matching
use Rattle.lol_machine.specs.declared.tag_runs.Stop.{Stop}
use Rattle.lol_machine.proofs.Counted.{Tried, addresses_are_nodes, addresses_count_tries}
use Rattle.lol_machine.proofs.KeysLoseNothing.{NotAtOnce}
use Rattle.lol_machine.proofs.Spared.{kept_held, named_held, opens_asked, spared_few, spared_inside}
use Rattle.lol_rows.specs.Rows.{is_left_by_keys, is_left_by_name}
use Rattle.lol_machine.specs.KeyTries.{asks_at_once, is_left_open, node_keys}
use Rattle.lol_machine.specs.SparedRuns.{IsSparing, opens_at_once, opens_by_rows, ranges_by_name, spared}
use Rattle.lol_rows.specs.declared.rows.Rows.{Rows}
use Rattle.std.specs.Prelude.{is_some}
use Rattle.lol_machine.specs.declared.spared_runs.RowSpace.{RowSpace}
use Rattle.lol_machine.proofs.Held.{ranges_are_inside, ranges_hold_left_matches, programs_have_each_node}
use Rattle.lol_machine.specs.RunLaws.{offset_inside}
use Rattle.lol_machine.proofs.InstructionAddresses.{names_gather, same_count, same_stop}
use Rattle.lol_machine.specs.OutcomeLaws.{attributes_keep, names_keep}
use Rattle.lol_machine.proofs.StackCounting.{ends, last_at, shown_push}
use Rattle.lol_machine.proofs.Stops.{WholeStart, context_by_names, from_number, left_by_names, numbers_are_offsets, started_by_names, stopped_starts_are_whole, stops_leave}

-- 1. Lists

-- a list around one of its elements
around : {A : Type 0} (xs : List A) (k : ℕ) (d : A) → k < length xs → xs ≡ take k xs ++ get_or xs k d ∷ drop (k + 1) xs
around xs k d within =
    let next : suc k ≡ k + 1 = omega arith in
    sym (take-append-drop k xs) ∙ ap (λ ys. take k xs ++ ys) (drop-cons xs k d within ∙ (λ i. get_or xs k d ∷ drop (next i) xs))

-- 2. What a stack shows

last_shown : {E : Type 0} (items : List (StackItemOf Name E)) → last_jumps (items_shown items) ≡ jumps_of_item (slice_get items (length items - 1))
last_shown [] = refl
last_shown (x ∷ xs) =
    let end = ends x xs in
    ap (λ ys. last_jumps (items_shown ys)) end.whole
    ∙ (ap last_jumps (shown_push item_shown end.front end.last)
    ∙ sym (ap (λ ys. jumps_of_item (slice_get ys (length ys - 1))) end.whole
    ∙ ap jumps_of_item (last_at end.front end.last)))

-- active ranges from the innermost item on
active_turned : {E : Type 0} (items : List (StackItemOf Name E)) → active_of (map item_shown items) ≡ active_ranges_of (hereditary_jumps_in (reverse items))
active_turned [] = refl
active_turned (item ∷ items) =
    let more : hereditary_jumps_in (reverse (item ∷ items)) ≡ hereditary_jumps_in (reverse items) ++ item.hereditary_jumps ∷ [] =
    ap hereditary_jumps_in (reverse-append (item ∷ []) items) ∙ map-append (λ (x : StackItemOf Name _). x.hereditary_jumps) (reverse items) (item ∷ []) in
    let count : length (map item_shown items) ≡ 0 + length (hereditary_jumps_in (reverse items)) =
    omega (arith, length-map items item_shown, length-map (reverse items) (λ (x : StackItemOf Name _). x.hereditary_jumps), length-reverse items) in
    (λ i. activated (active_turned items i) (count i) item.hereditary_jumps)
    ∙ (sym (active_after-append [] 0 (hereditary_jumps_in (reverse items)) (item.hereditary_jumps ∷ [])) ∙ sym (ap active_ranges_of more))

-- the ranges that the code runs are those of the open items, where the stack's lists are those of its elements
ranges_shown : {E : Type 0} (stack : StackOf Name StackNames E) (prog : Program) → IsSound stack → ranges_to_run_in prog stack ≡ ranges_to_run (program_shown prog) (items_shown (items_in stack))
ranges_shown stack prog sound =
    let active : active_in stack ≡ active_of (items_shown (items_in stack)) =
    sound.active
    ∙ (ap (λ xs. active_ranges_of (hereditary_jumps_in xs)) (sym (reverse-reverse (items_in stack)))
    ∙ (sym (active_turned (reverse (items_in stack))) ∙ ap active_of (sym (reverse-map item_shown (items_in stack))))) in
    λ i. prog.entry_points ∷ (sym (last_shown (items_in stack)) i ++ ranges_of_active (active i))

-- 3. What is run

-- A program and a stack that stand on a document are run.
pub record Running (E : Type 0) : Type 0 where
  pub s : Selectors
  pub paths : List Path
  pub closed : AreClosed s
  pub prog : Program
  pub stack : StackOf Name StackNames E
  pub d : Document
  pub most : ℕ
  pub standing : StandsOn s paths (program_shown prog) stack d most

module _ {E : Type 0} (r : Running E) where
  open r use {s, paths, closed, prog, stack, standing}

  abbrev model : programs.Program
  model = program_shown prog

  abbrev outer : List Element
  outer = r.d.open_elements

  abbrev ranges : List (Range ℕ)
  ranges = ranges_to_run_in prog stack

  abbrev instructions : List Instruction
  instructions = prog.instructions.items

  shown : ranges ≡ ranges_to_run model (items_shown (items_in stack))
  shown = ranges_shown stack prog standing.sound

  pub held : HoldOnce paths ranges (LeftMatches outer)
  held = subst (λ rs. HoldOnce paths rs (LeftMatches outer)) (sym shown) (ranges_hold_left_matches s paths model (items_shown (items_in stack)) outer closed standing.program standing.items)

  as_many : length model.instructions ≡ length instructions
  as_many = length-map instructions (instruction_shown model.by_type)

  pub inside : All (IsInsideOf instructions) ranges
  inside = All-weaker (Contains ranges) (IsInsideOf instructions) (λ q c.
      let among : Among (ranges_to_run model (items_shown (items_in stack))) q = subst (λ rs. Among rs q) shown (among_from_contains ranges q c) in
      let within = ranges_are_inside s paths model (items_shown (items_in stack)) outer closed standing.program standing.items q among in
      (within.0, omega (arith, within.1, as_many))) ranges (All-contains_itself ranges)

  -- as many addresses as there are nodes whose left part matches, of which there are no more than instructions
  pub few_addresses : length (all_addresses ranges) ≤ length instructions
  few_addresses =
      let count = addresses_are_nodes s paths model closed standing.program ranges (λ path. matching.left_matches path outer) held in
      let nodes = (programs_have_each_node s paths model closed standing.program).count in
      omega (arith, count, nodes, as_many, count_by-le-length (λ path. matching.left_matches path outer) s.nodes)

  pub within_bounds : (e : Element) → name_tries s e outer ≤ length instructions
  within_bounds e =
      let nodes = (programs_have_each_node s paths model closed standing.program).count in
      omega (arith, nodes, as_many, count_by-le-length (is_tried s e outer) s.nodes)

-- Ranges that hold the address of each node that is tried for an element, once.
pub record IsChosen {E : Type 0} (r : Running E) (e : Element) (rs : List (Range ℕ)) : Type 0 where
  pub held : HoldOnce r.paths rs (Tried r.s e (outer r))
  pub inside : All (IsInsideOf (instructions r)) rs

module _ {E : Type 0} (r : Running E) (e : Element) (rs : List (Range ℕ)) (chosen : IsChosen r e rs) where
  open r use {s, paths, closed, prog, standing}

  pub whole : (content : Bool) → WholeStart s (model r) rs e (outer r) content
  whole content = stopped_starts_are_whole s paths (model r) rs e (outer r) content closed standing.program chosen.held

  -- so many instructions are run
  pub counted : length (all_at (instructions r) rs) ≡ name_tries s e (outer r)
  counted = same_count prog e rs chosen.inside ∙ (addresses_count_tries s paths (model r) rs e (outer r) closed standing.program chosen.held).names

-- What is tried by name, where nothing is asked for at once, and what is run with attributes, where these are.
module _ {E : Type 0} (r : Running E) (e : Element) (space : RowSpace) (sparing : IsSparing r.s r.prog space) (size : length (instructions r) < 2 ^ 63) where
  -- it can be run
  pub runnable : (left : Instruction → Bool) (tries : Tries) → names_counted tries ≡ 0 → attributes_counted tries ≡ 0 → AreRunnable (instructions r) (spared r.prog left (ranges r)) tries
  runnable left tries names attributes =
      let inside = spared_inside r.s r.paths r.prog r.standing.program (ranges r) (outer r) (held r) e left size (inside r) in
      let count = same_count r.prog e (spared r.prog left (ranges r)) inside in
      let few = spared_few r.prog left (ranges r) in
      record {
        inside = inside;
        room = (omega (arith, names, size, count, few, few_addresses r), omega (arith, attributes, size, count, few, few_addresses r));
      }

  -- whether rows tell that it is asked for at once
  pub opens_is : r.s.by_keys ≡ true → opens_at_once r.prog (lowercased e.tag.name) (ranges r) ≡ list_any (is_left_open node_keys e (outer r)) r.s.nodes
  opens_is by_keys = by_rows r.prog.rows (sparing.mode ∙ by_keys)
    where
      by_rows : (rows : Option Rows) → is_some rows ≡ true → opens_by_rows rows (lowercased e.tag.name) (instructions r) (ranges r) ≡ list_any (is_left_open node_keys e (outer r)) r.s.nodes
      by_rows None none = cc
      by_rows (Some rows) some = opens_asked r.s r.paths r.prog r.standing.program (ranges r) (outer r) (held r) e

  pub not_at_once : is_html e.tag.namespace ≡ true → opens_at_once r.prog (lowercased e.tag.name) (ranges r) ≡ false → NotAtOnce r.s e (outer r)
  not_at_once html shut by_keys = (λ i. not (html i) || sym (opens_is by_keys) i) ∙ shut

  pub at_once : opens_at_once r.prog (lowercased e.tag.name) (ranges r) ≡ true → (r.s.by_keys ≡ true) × (asks_at_once node_keys r.s.nodes e (outer r) ≡ true)
  at_once opens =
      let by_keys = sym sparing.mode ∙ by_rows r.prog.rows opens in
      (by_keys, or_of (not (is_html e.tag.namespace)) _ (inr (sym (opens_is by_keys) ∙ opens)))
    where
      by_rows : (rows : Option Rows) → opens_by_rows rows (lowercased e.tag.name) (instructions r) (ranges r) ≡ true → is_some rows ≡ true
      by_rows None none = cc
      by_rows (Some rows) some = refl

  pub chosen_by_name : NotAtOnce r.s e (outer r) → IsChosen r e (ranges_by_name r.prog (lowercased e.tag.name) (ranges r))
  chosen_by_name later = record {
    held = named_held r.s r.paths r.prog r.standing.program (ranges r) (outer r) (held r) e sparing.mode size later;
    inside = spared_inside r.s r.paths r.prog r.standing.program (ranges r) (outer r) (held r) e (is_left_by_name (lowercased e.tag.name)) size (inside r);
  }

  pub chosen_by_keys : (r.s.by_keys ≡ true → asks_at_once node_keys r.s.nodes e (outer r) ≡ true) → IsChosen r e (spared r.prog (is_left_by_keys (lowercased e.tag.name) (tag_attributes e.tag)) (ranges r))
  chosen_by_keys at_once = record {
    held = kept_held r.s r.paths r.prog r.standing.program (ranges r) (outer r) (held r) e sparing.mode size at_once;
    inside = spared_inside r.s r.paths r.prog r.standing.program (ranges r) (outer r) (held r) e (is_left_by_keys (lowercased e.tag.name) (tag_attributes e.tag)) size (inside r);
  }

-- 4. Content

-- a run for an element without content gathers the same ids
module _ (p : programs.Program) (content : Bool) (e : Element) (x : Context) (ps : List ℕ) where
  abbrev Same : Context → Context → Type 0
  Same a b = a ≡ content_of content b

  keeps_content : (o : Option programs.Instruction) (a b : Context) → Same a b → Same (give_if_there content o a) (give_if_there true o b)
  keeps_content None a b same = same
  keeps_content (Some i) a b same = ap (λ c. branch content c i) same ∙ by_content content
    where
      by_content : (content : Bool) → branch content (content_of content b) i ≡ content_of content (branch true b i)
      by_content true = refl
      by_content false = refl

  pub run_content : run p content e (content_of content x) ps ≡ content_of content (run p true e x ps)
  run_content = attributes_keep (give_if_there content) (give_if_there true) Same keeps_content (instruction_holds e) (content_of content x) x (at_addresses p ps) refl

  pub by_names_content : context_by_names p content e (content_of content x) ps ≡ content_of content (context_by_names p true e x ps)
  by_names_content = names_keep (give_if_there content) (give_if_there true) Same keeps_content (instruction_value e) (content_of content x) x (at_addresses p ps) refl

pub nothing_content : (content : Bool) → no_context ≡ content_of content no_context
nothing_content true = refl
nothing_content false = refl

pub content_ids : (content : Bool) (x : Context) → (content_of content x).ids ≡ x.ids
content_ids true x = refl
content_ids false x = refl

-- 5. What stays of a context while it gathers

pub record StaysThe {E : Type 0} (old new : ExecutionCtx E) : Type 0 where
  pub name : new.stack_item.local_name ≡ old.stack_item.local_name
  pub children : new.stack_item.child_counter ≡ old.stack_item.child_counter
  pub content : new.with_content ≡ old.with_content
  pub namespace : new.ns ≡ old.ns

module _ {E : Type 0} (ids : E → Ids) (with_ids : E → Ids → E) (ctx : ExecutionCtx E) where
  abbrev Stay : ExecutionCtx E → ExecutionCtx E → Type 0
  Stay new same = StaysThe ctx new

  stay : StaysThe ctx ctx
  stay = record { name = refl; children = refl; content = refl; namespace = refl }

  branch_stays : (i : Instruction) (new same : ExecutionCtx E) → StaysThe ctx new → StaysThe ctx (give_branch ids with_ids i new)
  branch_stays i new same h = by_content new.with_content h.content
    where
      by_content : (c : Bool) → c ≡ ctx.with_content → StaysThe ctx (give_branch ids with_ids i (record new { with_content = c }))
      by_content true is = record { name = h.name; children = h.children; content = is; namespace = h.namespace }
      by_content false is = record { name = h.name; children = h.children; content = is; namespace = h.namespace }

  pub names_stay : (s : Sight) (is : List Instruction) → StaysThe ctx (gathered_by_names ids with_ids s ctx is)
  names_stay s is = names_keep (give_branch ids with_ids) (λ i c. c) Stay branch_stays (value_seen s) ctx ctx is stay

  pub attributes_stay : (s : Sight) (a : TagAttributes) (is : List Instruction) → StaysThe ctx (gathered_with_attributes ids with_ids s a ctx is)
  attributes_stay s a is = attributes_keep (give_branch ids with_ids) (λ i c. c) Stay branch_stays (holds_seen s a) ctx ctx is stay

-- 6. Tries by names, and what is left of them

-- what is left of a range from an offset on
range_after : (start end offset : ℕ) → start + offset ≤ end → drop offset (addresses (record { start = start; end = end })) ≡ addresses (record { start = start + offset; end = end })
range_after start end offset inside =
    let sizes : offset + (end - (start + offset)) ≡ end - start = omega (arith, inside) in
    ap (λ n. drop offset (range_with_len start n)) (sym sizes) ∙ dropped_range start offset (end - (start + offset))
  where
    dropped_range : (start offset n : ℕ) → drop offset (range_with_len start (offset + n)) ≡ range_with_len (start + offset) n
    dropped_range start zero n =
        let same : zero + n ≡ n = omega arith in
        let at : start ≡ start + zero = omega arith in
        λ i. range_with_len (at i) (same i)
    dropped_range start (suc offset) n =
        let more : suc offset + n ≡ suc (offset + n) = omega arith in
        let at : (start + 1) + offset ≡ start + suc offset = omega arith in
        ap (λ k. drop (suc offset) (range_with_len start k)) more ∙ (dropped_range (start + 1) offset n ∙ ap (λ k. range_with_len k n) at)

-- the first open address is within, and open
first_is : (p : programs.Program) (e : Element) (ps : List ℕ) (n : ℕ) → position_from (is_open_at p e) 0 ps ≡ Some n → (n < length ps) × (starts_open p e (drop n ps) ≡ true)
first_is p e ps n found =
    let at = position-Some (is_open_at p e) ps n 0 (position_from-zero (is_open_at p e) ps ∙ found) in
    (at.0, ap (starts_open p e) (drop-cons ps n 0 at.0) ∙ at.1)

module _ {E : Type 0} (r : Running E) (ids : E → Ids) (with_ids : E → Ids → E) (lends : (w : E) (more : Ids) → ids (with_ids w more) ≡ more) (e : Element) (name : Name) (seen : sight_in r.stack name ≡ sight_of r.prog.enable_nth_of_type e) (rs : List (Range ℕ)) (chosen : IsChosen r e rs) where
  open r use {s, stack}

  abbrev p : programs.Program
  p = model r

  abbrev all : List Instruction
  all = instructions r

  module _ {old new : ExecutionCtx E} {before after : Tries} {stop : Option Stop} (tried : AreTried ids with_ids (sight_in stack name) all rs old new before after stop) where
    pub stays : StaysThe old new
    stays = subst (StaysThe old) (sym tried.gathered) (names_stay ids with_ids old (sight_in stack name) (all_at all rs))

    pub stop_shown : option_map (number_of all rs) stop ≡ position_from (is_open_at p e) 0 (all_addresses rs)
    stop_shown =
        tried.stops
        ∙ (ap (λ z. first_open_from z 0 (all_at all rs)) seen
        ∙ same_stop (r.prog) e rs chosen.inside)

    -- what was gathered is what the run by names gathers
    pub gathered : Gathers ids old.stack_item no_context → Gathers ids new.stack_item (content_of new.with_content (started_by_names p true e rs))
    gathered none =
        let by_names = names_gather r.prog e rs chosen.inside ids with_ids lends old.with_content old no_context (none, refl) in
        let is_new : gathered_by_names ids with_ids (sight_of p.by_type e) old (all_at all rs) ≡ new = sym (tried.gathered ∙ ap (λ z. gathered_by_names ids with_ids z old (all_at all rs)) seen) in
        let context : context_by_names p old.with_content e no_context (all_addresses rs) ≡ content_of old.with_content (started_by_names p true e rs) =
        ap (λ x. context_by_names p old.with_content e x (all_addresses rs)) (nothing_content old.with_content) ∙ by_names_content p old.with_content e no_context (all_addresses rs) in
        subst (λ c. Gathers ids new.stack_item (content_of c (started_by_names p true e rs))) (sym stays.content)
        (subst (Gathers ids new.stack_item) context (subst (λ (x : ExecutionCtx E). Gathers ids x.stack_item (context_by_names p old.with_content e no_context (all_addresses rs))) is_new by_names))

  -- where no instruction needs attributes
  module _ {old new : ExecutionCtx E} {before after : Tries} (tried : AreTried ids with_ids (sight_in stack name) all rs old new before after None) where
    pub none_left : left_by_names p e rs ≡ []
    none_left = stops_leave (is_open_at p e) (all_addresses rs) ∙ ap (λ o. from_number o (all_addresses rs)) (sym (stop_shown tried))

    pub gathered_all : started_by_names p true e rs ≡ context_of p true e (all_addresses rs)
    gathered_all =
        ap (λ ps. run p true e (started_by_names p true e rs) ps) (sym none_left) ∙ (whole r e rs chosen true).whole

    pub names_all : names_counted before ≡ 0 → names_counted after ≡ name_tries s e (outer r)
    names_all none = omega (arith, none, tried.names, counted r e rs chosen)

    pub no_attributes : 0 ≡ attribute_tries s e (outer r)
    no_attributes = ap (count_by (is_open_at p e)) (sym none_left) ∙ (whole r e rs chosen true).attributes

    pub no_need : starts_open p e (left_by_names p e rs) ≡ false
    no_need = ap (starts_open p e) none_left

  -- where one does
  module _ {old new : ExecutionCtx E} {before after : Tries} {stop : Stop} (tried : AreTried ids with_ids (sight_in stack name) all rs old new before after (Some stop)) where
    abbrev number : ℕ
    number = number_of all rs stop

    abbrev stopped : Range ℕ
    stopped = get_or rs stop.range no_range

    found : position_from (is_open_at p e) 0 (all_addresses rs) ≡ Some number
    found = sym (stop_shown tried)

    pub needs : starts_open p e (left_by_names p e rs) ≡ true
    needs = ap (starts_open p e) (stops_leave (is_open_at p e) (all_addresses rs) ∙ ap (λ o. from_number o (all_addresses rs)) found) ∙ (first_is p e (all_addresses rs) number found).1

    -- what is left are the addresses of the ranges from the stop on
    pub left_addresses : left_by_names p e rs ≡ all_addresses (ranges_from rs stop)
    left_addresses =
        let within = tried.within in
        let front = take stop.range rs in
        let back = drop (stop.range + 1) rs in
        let parts = around rs stop.range no_range within.0 in
        let count = same_count r.prog e front (All-take (IsInsideOf all) stop.range rs chosen.inside) in
        let fits = offset_inside all rs stop within in
        let sizes = length-range_with_len stopped.start (stopped.end - stopped.start) in
        stops_leave (is_open_at p e) (all_addresses rs)
        ∙ (ap (λ o. from_number o (all_addresses rs)) found
        ∙ (ap (λ qs. drop number (all_addresses qs)) parts
        ∙ (ap (λ n. drop (n + stop.offset) (all_addresses (front ++ stopped ∷ back))) count
        ∙ (numbers_are_offsets front stopped back stop.offset (omega (arith, fits, sizes))
        ∙ ap (λ ps. ps ++ all_addresses back) (range_after stopped.start stopped.end stop.offset fits)))))

    pub names_left : names_counted before ≡ 0 → names_counted after + length (left_by_names p e rs) ≡ length (all_addresses rs) + 1
    names_left none =
        let left = ap length (stops_leave (is_open_at p e) (all_addresses rs) ∙ ap (λ o. from_number o (all_addresses rs)) found) ∙ length-drop number (all_addresses rs) in
        omega (arith, none, tried.names, left, (first_is p e (all_addresses rs) number found).0)
