-- What survives a refusal, and what end tags do.
use Rattle.lol_machine.proofs.Common.{◌≡◌, ◌-◌, Result, Ok, Err, ℕ, ◌<◌, ◌≤◌, Bool, true, false, List, [], ◌∷◌, ◌++◌, length, take, drop, Option, Some, None, refl, sym, ap, ◌∙◌, subst, arith, ◌↔◌, slice_get, max, nat_lt, if◌then◌else◌, nat_tests, length-set, length-map, length-take, take_all, drop_all, Name, local_name, StartTag, Html, LimitedVec, IsLimited, Limiter, full_count, IsProgramOf, Selectors, Element, document, Document, after_start, after_end, Event, End, items_in, list_in, slots_in, depths_in, last_count, counted_in, counted_if, counted_item, with_typed, closed_from, element_data_of, depth_to_close, last_below, IsSame, IsEnded, IsEndedAt, IsOrdered, selectors, Vm, Stands, HasOpen, IsRefusal, IsRequested, IsSilent, has_failed, open_after, data_in, OpensNothing, StaysFailed, ExecutionCtx, StackItemOf, StackOf, StackNames, StandsOn, StandsFor, longest, empty}
use Rattle.std.specs.Result.{OnOk, OnErr}
use Rattle.std.specs.declared.alloc.AllocError.{AllocError}
use Rattle.std.specs.List.{take-map, drop-map}
use Rattle.lol_program.specs.Asts.{nodes_of}
use Rattle.lol_program.specs.ClosedLaws.{trees_are_closed}
use Rattle.lol_program.specs.declared.ast.Ast.{Ast}
use Rattle.lol_program.specs.declared.program.Program.{Program}
use Rattle.lol_program.specs.ProgramViews.{program_shown}
use Rattle.lol_memory.specs.declared.limited_vec.PushError.{PushError}
use Rattle.lol_memory.specs.declared.limited_vec.PushError.TheVariants as pushes
use Rattle.lol_machine.specs.VmErrors.{IsAskedOrFull, child_error, push_error}
use Rattle.lol_stack.specs.declared.stack.AddChildError.{AddChildError}
use Rattle.lol_stack.specs.declared.stack.AddChildError.TheVariants as children
use Rattle.lol_machine.specs.declared.error.AuxStartTagInfoRequest.{AuxStartTagInfoRequest}
use Rattle.lol_machine.specs.declared.error.VmError.{VmError}
use Rattle.lol_machine.specs.declared.error.VmError.TheVariants.{InfoRequest, MemoryLimitExceeded, Memory, CounterFull, Failed}
use Rattle.lol_machine.specs.declared.tag_runs.RecoveryPoint.{RecoveryPoint}
use Rattle.lol_program.specs.Programs as programs
use Rattle.lol_stack.specs.SoundLaws.{new_is_sound}
use Rattle.lol_machine.specs.AnswerLaws.{document_push}
use Rattle.lol_machine.proofs.Children.{documents_are_ordered, ordered_end, ordered_start}
use Rattle.lol_machine.proofs.Kept.{IsNew, counted_stands, ended_stands, for_on, new_stands, same_stands}
use Rattle.lol_machine.proofs.StackCounting.{many_are}
use Rattle.lol_machine.proofs.VmStarts.{counted_data}
use Rattle.lol_machine.specs.SparedRuns.{IsSparing}

-- 1. Machines that stand

pub stands_has_open : {E : Type 0} (s : Selectors) (esi : Bool) (vm : Vm E) (events : List Event) → Stands s esi vm events → HasOpen vm (document s esi events).open_elements
stands_has_open s esi vm events h = record {
  selectors = s;
  paths = h.paths;
  document = document s esi events;
  most = _;
  standing = h.standing;
  ordered = documents_are_ordered s esi events;
  same = refl;
}

wider : (d : Document) (a b : ℕ) → a ≤ b → IsOrdered d a → IsOrdered d b
wider d a b le h = let enough = h.enough in record { numbers = h.numbers; fresh = h.fresh; enough = omega (arith, le, enough) }

module _ {E : Type 0} (vm new : Vm E) (elements : List Element) (same_program : new.program ≡ vm.program) (h : HasOpen vm elements) where
  open h use {paths, most, standing, ordered}

  abbrev p : programs.Program
  p = program_shown vm.program

  -- with another stack, and the same program
  open_as : (d : Document) (n : ℕ) → StandsOn h.selectors paths p new.stack d n → IsOrdered d n → (now : List Element) → d.open_elements ≡ now → HasOpen new now
  open_as d n stands orders now is = record {
    selectors = h.selectors;
    paths = paths;
    document = d;
    most = n;
    standing = subst (λ prog. StandsOn h.selectors paths (program_shown prog) new.stack d n) (sym same_program) stands;
    ordered = orders;
    same = is;
  }

  pub has_open_same : IsSame vm.stack new.stack → HasOpen new elements
  has_open_same same = open_as h.document most (same_stands h.selectors paths p vm.stack new.stack h.document most same standing) ordered elements h.same

  -- a refused tag may be counted
  pub has_open_counted : (bytes : List ℕ) → new.stack ≡ counted_in vm.stack (local_name bytes) → last_count vm.stack < full_count → HasOpen new elements
  has_open_counted bytes is room =
      let tag : StartTag = record { name = bytes; namespace = Html; attributes = []; self_closing = false; finish = false } in
      let d = after_start h.document tag false in
      let n = max most (length h.document.open_elements) in
      let counted = counted_stands h.selectors paths p vm.stack h.document most ordered standing tag room in
      open_as d n (subst (λ (x : StackOf Name StackNames E). StandsOn h.selectors paths p x d n) (sym is) counted)
      (wider d (length h.document.open_elements) n (omega arith) (ordered_start h.document most tag false ordered)) elements h.same

  pub has_open_ended : (name : List ℕ) → IsEnded vm.stack (local_name name) new.stack → HasOpen new (open_after name elements)
  has_open_ended name is =
      let d = after_end h.document name in
      let n = max most (length d.open_elements) in
      open_as d n (ended_stands h.selectors paths p vm.stack h.document most ordered standing new.stack name is)
      (wider d (length d.open_elements) n (omega arith) (ordered_end h.document most name ordered)) (open_after name elements) (ap (open_after name) h.same)

-- 2. End tags

below : (n : ℕ) (ps : List ℕ) (k : ℕ) → last_below n ps ≡ Some k → k < n
below n [] k is = cc
below n (p ∷ []) k is = by_test (nat_lt p n) refl is
  where
    by_test : (b : Bool) → nat_lt p n ≡ b → (if b then Some p else None) ≡ Some k → k < n
    by_test true less h = let same : p ≡ k = cc in grind (arith, nat_tests, less, same)
    by_test false less h = cc
below n (p ∷ q ∷ ps) k is = below n (q ∷ ps) k is

module _ {E : Type 0} where
  pub stands_ended : (s : Selectors) (esi : Bool) (vm new : Vm E) (events : List Event) (name : List ℕ) → IsEnded vm.stack (local_name name) new.stack → new.program ≡ vm.program → new.enable_esi_tags ≡ vm.enable_esi_tags → new.failed ≡ vm.failed → new.space ≡ vm.space
      → Stands s esi vm events → Stands s esi new (events ++ End name ∷ [])
  stands_ended s esi vm new events name is same_program same_switch same_failed same_space h =
      let d = document s esi events in
      let ended = ended_stands s h.paths (program_shown vm.program) vm.stack d (longest s esi events) (documents_are_ordered s esi events) h.standing new.stack name is in
      record {
        paths = h.paths;
        closed = h.closed;
        standing = subst (λ prog. StandsFor s esi h.paths (program_shown prog) new.stack (events ++ End name ∷ [])) (sym same_program)
            (for_on s esi events (End name) (after_end d name) (document_push s esi empty events (End name)) h.paths (program_shown vm.program) new.stack ended);
        switch = same_switch ∙ h.switch;
        unfailed = same_failed ∙ h.unfailed;
        sparing = subst (λ prog. IsSparing s prog new.space) (sym same_program) (subst (IsSparing s vm.program) (sym same_space) h.sparing);
      }

  -- what stays, and what is handed out, where so many elements stay and an end tag closes those from a depth on
  pub record EndsAt (vm new : Vm E) (n : ℕ) (o : Option ℕ) : Type 0 where
    pub kept : data_in new ≡ take n (data_in vm)
    pub handed : element_data_of (closed_from o (items_in vm.stack)) ≡ drop n (data_in vm)

  pub ends_data : (vm new : Vm E) (elements : List Element) (name : List ℕ) → IsEnded vm.stack (local_name name) new.stack → new.program ≡ vm.program → HasOpen vm elements
      → EndsAt vm new (length (open_after name elements)) (depth_to_close vm.stack (local_name name))
  ends_data vm new elements name is same_program h =
      let after = has_open_ended vm new elements same_program h name is in
      let many : length (open_after name elements) ≡ length (items_in new.stack) = sym (ap length after.same) ∙ sym (many_are new.stack new.program.enable_nth_of_type after.document after.standing.counted) in
      by_depth (depth_to_close vm.stack (local_name name)) (λ k at. below (length (items_in vm.stack)) (depths_in vm.stack (local_name name)) k at) is (length (open_after name elements)) many
    where
      by_depth : (o : Option ℕ) → ((k : ℕ) → o ≡ Some k → k < length (items_in vm.stack)) → IsEndedAt o vm.stack new.stack → (n : ℕ) → n ≡ length (items_in new.stack)
          → EndsAt vm new n o
      by_depth None within ended n many =
          let items : items_in new.stack ≡ items_in vm.stack = ap (λ (v : LimitedVec (StackItemOf Name E)). v.items) ended.items in
          let size = length-map (items_in vm.stack) (λ (i : StackItemOf Name E). i.element_data) in
          let enough : length (data_in vm) ≤ n = omega (arith, many, size, ap length items) in
          record { kept = ap element_data_of items ∙ sym (take_all n (data_in vm) enough); handed = sym (drop_all n (data_in vm) enough) }
      by_depth (Some depth) within ended n many =
          let items : items_in new.stack ≡ take depth (items_in vm.stack) = ap (λ (v : LimitedVec (StackItemOf Name E)). v.items) ended.items in
          let less = within depth refl in
          let at : depth ≡ n = omega (arith, many, less, ap length items ∙ length-take depth (items_in vm.stack)) in
          record {
            kept = ap element_data_of items ∙ (sym (take-map (λ (i : StackItemOf Name E). i.element_data) depth (items_in vm.stack)) ∙ ap (λ k. take k (data_in vm)) at);
            handed = sym (drop-map (λ (i : StackItemOf Name E). i.element_data) depth (items_in vm.stack)) ∙ ap (λ k. drop k (data_in vm)) at;
          }

-- 3. Stacks that don't change

pub same_stack : {E : Type 0} (stack : StackOf Name StackNames E) → IsSame stack stack
same_stack stack = record { root = refl; items = refl; active = refl; typed = refl; depths = λ q. refl }

-- 4. New machines

pub new_vm_stands : {E : Type 0} (ast : Ast) (prog : Program) (stack : StackOf Name StackNames E) (vm : Vm E) (esi : Bool) (item_bytes : ℕ)
    → IsProgramOf (selectors ast) (nodes_of ast) (program_shown prog) → IsNew stack (program_shown prog).by_type item_bytes → ((q : Name) → depths_in stack q ≡ [])
    → vm.program ≡ prog → vm.stack ≡ stack → vm.enable_esi_tags ≡ esi → vm.failed ≡ false → IsSparing (selectors ast) prog vm.space → Stands (selectors ast) esi vm []
new_vm_stands ast prog stack vm esi item_bytes is new depths program has switch failed sparing = record {
  paths = nodes_of ast;
  closed = trees_are_closed (selectors ast).by_keys ast;
  standing = subst (λ prog. StandsFor (selectors ast) esi (nodes_of ast) (program_shown prog) vm.stack []) (sym program)
      (subst (λ (x : StackOf Name StackNames _). StandsFor (selectors ast) esi (nodes_of ast) (program_shown prog) x []) (sym has)
      (new_stands (selectors ast) (nodes_of ast) (program_shown prog) stack item_bytes is new (new_is_sound stack (ap (λ (v : LimitedVec (StackItemOf Name _)). v.items) new.items) new.active depths)));
  switch = switch;
  unfailed = failed;
  sparing = subst (λ prog. IsSparing (selectors ast) prog vm.space) (sym program) sparing;
}

-- 5. Refused start tags

pub on_err : {T X P : Type 0} (r : Result T X) → P → OnErr r P
on_err (Ok v) p = tt
on_err (Err e) p = p

-- a request, and one that memory was refused for, leave the rest as it is
pub record KeepsRest {E : Type 0} (old new : Vm E) : Type 0 where
  pub stack : new.stack ≡ old.stack
  pub program : new.program ≡ old.program

pub requested_keeps : {E : Type 0} (ctx : ExecutionCtx E) (point : RecoveryPoint) (old new : Vm E) (result : Result (Unit {0}) (VmError E)) → IsRequested ctx point old new result → KeepsRest old new
requested_keeps ctx point old new (Ok done) h = absurd h
requested_keeps ctx point old new (Err (InfoRequest request)) h = record { stack = ap (λ (v : Vm _). v.stack) h.1; program = ap (λ (v : Vm _). v.program) h.1 }
requested_keeps ctx point old new (Err (MemoryLimitExceeded error)) h = absurd h
requested_keeps ctx point old new (Err (Memory error)) h = record { stack = ap (λ (v : Vm _). v.stack) h; program = ap (λ (v : Vm _). v.program) h }
requested_keeps ctx point old new (Err CounterFull) h = absurd h
requested_keeps ctx point old new (Err Failed) h = absurd h

-- what a request answers
module _ {E : Type 0} (ctx : ExecutionCtx E) (point : RecoveryPoint) (old new : Vm E) where
  pub requested_ok : (P : Type 0) (result : Result (Unit {0}) (VmError E)) → IsRequested ctx point old new result → OnOk result P
  requested_ok P (Ok done) h = absurd h
  requested_ok P (Err error) h = tt

  pub requested_as : (result : Result (Unit {0}) (VmError E)) (error : VmError E) → IsRequested ctx point old new result → result ≡ Err error → IsRequested ctx point old new (Err error)
  requested_as result error h is = subst (IsRequested ctx point old new) is h

  failed_after : (error : VmError E) → IsRequested ctx point old new (Err error) → IsRefusal error → has_failed new ≡ true
  failed_after (InfoRequest request) h refusal = absurd refusal
  failed_after (MemoryLimitExceeded error) h refusal = absurd h
  failed_after (Memory error) h refusal = ap (λ (v : Vm _). v.failed) h
  failed_after CounterFull h refusal = absurd h
  failed_after Failed h refusal = absurd h

  pub requested_refused : (result : Result (Unit {0}) (VmError E)) → IsRequested ctx point old new result → (error : VmError E) → result ≡ Err error → IsRefusal error → has_failed new ≡ true
  requested_refused result h error is refusal = failed_after error (requested_as result error h is) refusal

-- 6. Errors

pub never_both : {T X : Type 0} {v : T} {e : X} (r : Result T X) → r ≡ Ok v → r ≡ Err e → ⊥
never_both r ok err = cc

pub error_is : {T X : Type 0} {a b : X} → ◌≡◌ {A = Result T X} (Err a) (Err b) → a ≡ b
error_is is = cc

module _ {E : Type 0} where
  -- where an element wasn't opened, neither a request nor what is answered before a report
  pub push_isnt_silent : (p : PushError) (error other : VmError E) → error ≡ push_error p → error ≡ other → IsSilent other → ⊥
  push_isnt_silent p error other is at silent = by_push p (subst IsSilent (sym at ∙ is) silent)
    where
      by_push : (p : PushError) → IsSilent {E = E} (push_error p) → ⊥
      by_push (pushes.Limit e) silent = silent
      by_push (pushes.Memory e) silent = silent

  pub push_is_limit : (p : PushError) (error : VmError E) → error ≡ push_error p → error ≡ MemoryLimitExceeded (record {}) → p ≡ pushes.Limit (record {})
  push_is_limit (pushes.Limit e) error is at = refl
  push_is_limit (pushes.Memory e) error is at = cc

  pub push_is_memory : (p : PushError) (error : VmError E) (e : AllocError) → error ≡ push_error p → error ≡ Memory e → p ≡ pushes.Memory e
  push_is_memory (pushes.Limit e) error memory is at = cc
  push_is_memory (pushes.Memory e) error memory is at = cc

  -- what a child that wasn't counted answers
  pub child_full : (child : AddChildError) (error : VmError E) → error ≡ child_error child → error ≡ CounterFull → child ≡ children.CounterFull
  child_full children.CounterFull error is at = refl
  child_full (children.Memory e) error is at = cc

  pub child_isnt : (child : AddChildError) (error : VmError E) → error ≡ child_error child
      → (error ≡ Failed → ⊥) × (error ≡ MemoryLimitExceeded (record {}) → ⊥) × ((request : AuxStartTagInfoRequest E) → error ≡ InfoRequest request → ⊥)
  child_isnt children.CounterFull error is = (λ failed. cc, λ limit. cc, λ request asked. cc)
  child_isnt (children.Memory e) error is = (λ failed. cc, λ limit. cc, λ request asked. cc)

  -- a call answers as the one before it
  pub answered_alike : {A B P : Type 0} (result : Result A (VmError E)) (error other : VmError E) → result ≡ Err error → (result ≡ Err other) ↔ P → (◌≡◌ {A = Result B (VmError E)} (Err error) (Err other)) ↔ P
  answered_alike result error other made exact = (λ at. exact.0 (made ∙ ap Err (error_is at)), λ p. let found = exact.1 p in let same : error ≡ other = cc in ap Err same)

  -- one by the parent's counter is answered as such
  pub full_is_full : (error : VmError E) → error ≡ CounterFull → IsAskedOrFull error
  full_is_full error full = subst IsAskedOrFull (sym full) tt

-- 7. Calls that open no element

module _ {E : Type 0} where
  -- the stack is alike, as where an element couldn't be opened
  pub alike_opens_nothing : {name : Option Name} (vm new : Vm E) {before now : Limiter} → IsSame vm.stack new.stack → new.program ≡ vm.program → now ≡ before → OpensNothing name vm new before now
  alike_opens_nothing vm new alike program uncharged = record {
    uncharged = uncharged;
    slots = ap (λ (v : LimitedVec (StackItemOf Name E)). v.slots) alike.items;
    unchanged = ap (λ (v : LimitedVec (StackItemOf Name E)). element_data_of v.items) alike.items;
    still_open = λ told elements h. has_open_same vm new elements program h alike;
  }

  -- it is the same
  pub same_opens_nothing : {name : Option Name} (vm new : Vm E) (limiter : Limiter) → new.stack ≡ vm.stack → new.program ≡ vm.program → OpensNothing name vm new limiter limiter
  same_opens_nothing vm new limiter stack program = alike_opens_nothing vm new (subst (IsSame vm.stack) (sym stack) (same_stack vm.stack)) program refl

  -- a start tag was counted
  pub counted_opens_nothing : (vm : Vm E) (name : Name) (stack : StackOf Name StackNames E) → stack ≡ counted_in vm.stack name → last_count vm.stack < full_count → slots_in stack ≡ slots_in vm.stack
      → (new : Vm E) → new.stack ≡ stack → new.program ≡ vm.program → (limiter : Limiter) → OpensNothing (Some name) vm new limiter limiter
  counted_opens_nothing vm name stack ok room slots new is program limiter = record {
    uncharged = refl;
    slots = ap slots_in is ∙ slots;
    unchanged = ap (λ (s : StackOf Name StackNames E). element_data_of (items_in s)) (is ∙ ok) ∙ counted_data vm.stack name;
    still_open = λ told elements h. has_open_counted vm new elements program h told.0 (is ∙ (ok ∙ ap (counted_in vm.stack) told.1)) room;
  }

  -- two steps, one after the other
  pub opens_nothing_both : {name : Option Name} {old mid new : Vm E} {before between now : Limiter} → OpensNothing name old mid before between → OpensNothing None mid new between now → OpensNothing name old new before now
  opens_nothing_both first second = record {
    uncharged = second.uncharged ∙ first.uncharged;
    slots = second.slots ∙ first.slots;
    unchanged = second.unchanged ∙ first.unchanged;
    still_open = λ told elements h. second.still_open tt elements (first.still_open told elements h);
  }

  -- the name is that of the tag
  pub opens_nothing_of : {name told : Name} {old new : Vm E} {before now : Limiter} → name ≡ told → OpensNothing (Some name) old new before now → OpensNothing (Some told) old new before now
  opens_nothing_of {old = old} {new} {before} {now} same left = subst (λ n. OpensNothing (Some n) old new before now) same left

  -- no tag was refused before, and the call doesn't fail so
  pub stays_unfailed : {fails : Type 0} {old new : Vm E} → (fails → ⊥) → (has_failed old ≡ true → ⊥) → StaysFailed fails old new
  stays_unfailed never unfailed = record { exactly = (λ fails. absurd (never fails), λ failed. absurd (unfailed failed)); stuck = λ failed. absurd (unfailed failed) }

  -- none was before a call that didn't fail so
  pub unfailed_before : {fails : Type 0} {old new : Vm E} → StaysFailed fails old new → (fails → ⊥) → has_failed old ≡ true → ⊥
  unfailed_before stays never failed = never (stays.exactly.1 failed)

pub on_ok_both : {T X P Q R : Type 0} (r : Result T X) → (P → Q → R) → OnOk r P → OnOk r Q → OnOk r R
on_ok_both (Ok v) f p q = f p q
on_ok_both (Err e) f p q = tt

pub on_err_both : {T X P Q R : Type 0} (r : Result T X) → (P → Q → R) → OnErr r P → OnErr r Q → OnErr r R
on_err_both (Ok v) f p q = tt
on_err_both (Err e) f p q = f p q

-- 8. Limits

limited_if : {E : Type 0} (s : StackOf Name StackNames E) (o : Option (StackItemOf Name E)) (l : Limiter) → IsLimited (list_in s) l ↔ IsLimited (list_in (counted_if s o)) l
limited_if s None l = (λ h. h, λ h. h)
limited_if s (Some item) l =
    let many = length-set (items_in s) (length (items_in s) - 1) (counted_item item) in
    (λ h. (subst (λ n. slots_in s ≤ n) (sym many) h.0, h.1), λ h. (subst (λ n. slots_in s ≤ n) many h.0, h.1))

-- counting a child changes nothing of what can be charged
pub limited_counted : {E : Type 0} (s : StackOf Name StackNames E) (name : Name) (l : Limiter) → IsLimited (list_in s) l ↔ IsLimited (list_in (counted_in s name)) l
limited_counted s name l = limited_if (with_typed s _) (slice_get (items_in s) (length (items_in s) - 1)) l

pub not_false : (b : Bool) → (b ≡ false → ⊥) → b ≡ true
not_false true h = refl
not_false false h = absurd (h refl)
