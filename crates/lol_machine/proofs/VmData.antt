-- Machines with other data of their last element.
use Rattle.lol_machine.proofs.Common.{◌≡◌, ℕ, suc, zero, ◌-◌, List, [], ◌∷◌, ◌++◌, length, map, Option, Some, None, refl, sym, ap, subst, ◌∙◌, reverse, slice_get, slice_set, option_map, length-map, Name, ranges_of_active, longest, item_shown, items_in, active_in, count_or, typed_in, count_by_type, all_addresses, Start, unfinished, jumps_of_item, sight_in, tag_ranges, ranges_left, IsPointIn, Vm, instructions_in, data_in, StackItemOf, StackOf, StackNames, some_is, ◌+◌, true, StandsOn, AreItems, Selectors, Path, Document, document, element_of, ranges_to_run_in, IsRequest, names_counted, tried_at}
use Rattle.lol_program.specs.Programs.{Program}
use Rattle.lol_program.specs.ProgramViews.{program_shown}
use Rattle.lol_program.specs.declared.program.Program as code
use Rattle.lol_stack.specs.Lending.{with_data}
use Rattle.lol_stack.specs.SoundLaws.{set_keeps, data_keep_sound}
use Rattle.lol_stack.specs.StackLending.{with_current, with_data_at, with_data_if}
use Rattle.lol_machine.specs.SparedRuns.{ranges_before}
use Rattle.lol_machine.specs.VmLending.{with_current_in}
use Rattle.lol_machine.specs.Vms.{is_at_once, ranges_tried}
use Rattle.lol_machine.specs.VmLaws.{DataChangeNothing, DataKeepOpen, DataKeepRequests, LastDataAreLent, LastDataChange, PendingStands, SlotsAreOfDepth}
use Rattle.lol_machine.proofs.StackCounting.{last_at, last_set}

module _ {E : Type 0} (w : E) where
  module _ (s : StackOf Name StackNames E) where
    abbrev changed : Option (StackItemOf Name E) → List (StackItemOf Name E)
    changed o = with_data_if (items_in s) (length (items_in s) - 1) w o

    abbrev At : Option (StackItemOf Name E) → Type 0
    At o = slice_get (items_in s) (length (items_in s) - 1) ≡ o

    -- what doesn't look at the data stays
    same_map : {B : Type 0} (f : StackItemOf Name E → B) → ((item : StackItemOf Name E) → f (with_data item w) ≡ f item) → (o : Option (StackItemOf Name E)) → At o → map f (changed o) ≡ map f (items_in s)
    same_map f same None at = refl
    same_map f same (Some item) at = set_keeps f (items_in s) (length (items_in s) - 1) item (with_data item w) at (same item)

    abbrev last : Option (StackItemOf Name E)
    last = slice_get (items_in s) (length (items_in s) - 1)

    data_stand : (t : Selectors) (paths : List Path) (p : Program) (d : Document) (most : ℕ) → StandsOn t paths p s d most → StandsOn t paths p (with_current s w) d most
    data_stand t paths p d most h = record {
      program = h.program;
      sound = data_keep_sound s w h.sound;
      items = subst (λ shown. AreItems paths p shown d.open_elements) (sym (ap reverse (same_map item_shown (λ item. refl) last refl))) h.items;
      counted = record {
        root = h.counted.root;
        children = ap reverse (same_map (λ (x : StackItemOf Name E). x.child_counter) (λ item. refl) last refl) ∙ h.counted.children;
        typed = h.counted.typed;
      };
      charged = h.charged;
    }

  -- what looks at one element, and not at its data
  get_set : {B : Type 0} (f : Option (StackItemOf Name E) → B) → ((item : StackItemOf Name E) → f (Some (with_data item w)) ≡ f (Some item))
      → (xs : List (StackItemOf Name E)) (k j : ℕ) (item : StackItemOf Name E) → slice_get xs k ≡ Some item → f (slice_get (slice_set xs k (with_data item w)) j) ≡ f (slice_get xs j)
  get_set f same [] k j item at = refl
  get_set f same (x ∷ xs) zero zero item at = same item ∙ ap (λ y. f (Some y)) (sym (some_is at))
  get_set f same (x ∷ xs) zero (suc j) item at = refl
  get_set f same (x ∷ xs) (suc k) zero item at = refl
  get_set f same (x ∷ xs) (suc k) (suc j) item at = get_set f same xs k j item at

  module _ (s : StackOf Name StackNames E) where
    same_get : {B : Type 0} (f : Option (StackItemOf Name E) → B) → ((item : StackItemOf Name E) → f (Some (with_data item w)) ≡ f (Some item)) → (j : ℕ) (o : Option (StackItemOf Name E)) → At s o
        → f (slice_get (changed s o) j) ≡ f (slice_get (items_in s) j)
    same_get f same j None at = refl
    same_get f same j (Some item) at = get_set f same (items_in s) (length (items_in s) - 1) j item at

    same_length : length (changed s (last s)) ≡ length (items_in s)
    same_length =
        sym (length-map (changed s (last s)) (λ (x : StackItemOf Name E). x.child_counter))
        ∙ (ap length (same_map s (λ (x : StackItemOf Name E). x.child_counter) (λ item. refl) (last s) refl) ∙ length-map (items_in s) (λ (x : StackItemOf Name E). x.child_counter))

    same_last : {B : Type 0} (f : Option (StackItemOf Name E) → B) → ((item : StackItemOf Name E) → f (Some (with_data item w)) ≡ f (Some item))
        → f (slice_get (changed s (last s)) (length (changed s (last s)) - 1)) ≡ f (slice_get (items_in s) (length (items_in s) - 1))
    same_last f same = ap (λ n. f (slice_get (changed s (last s)) (n - 1))) same_length ∙ same_get f same (length (items_in s) - 1) (last s) refl

    same_ranges : (prog : code.Program) → ranges_to_run_in prog (with_current s w) ≡ ranges_to_run_in prog s
    same_ranges prog = ap (λ js. tag_ranges prog.entry_points js (ranges_of_active (active_in s))) (same_last jumps_of_item (λ item. refl))

    same_sight : (name : Name) → sight_in (with_current s w) name ≡ sight_in s name
    same_sight name i = record {
      name = name.lowercased;
      position = same_last (count_or s.root_child_counter) (λ item. refl) i;
      typed_position = count_by_type (typed_in s) (same_length i) name;
    }

pub data_change_nothing : {E : Type 0} → DataChangeNothing E
data_change_nothing s esi vm events w h = record { paths = h.paths; closed = h.closed; standing = data_stand w vm.stack s h.paths (program_shown vm.program) (document s esi events) (longest s esi events) h.standing; switch = h.switch; unfailed = h.unfailed; sparing = h.sparing }

pub data_keep_open : {E : Type 0} → DataKeepOpen E
data_keep_open vm elements w h = record {
  selectors = h.selectors;
  paths = h.paths;
  document = h.document;
  most = h.most;
  standing = data_stand w vm.stack h.selectors h.paths (program_shown vm.program) h.document h.most h.standing;
  ordered = h.ordered;
  same = h.same;
}

pub data_keep_requests : {E : Type 0} → DataKeepRequests E
unfolding data_change_nothing
data_keep_requests ids_of s esi events tag vm request w h = record {
  stands = data_change_nothing s esi vm (events ++ Start (unfinished tag) ∷ []) w h.stands;
  asks = h.asks;
  at_once = h.at_once;
  context = h.context;
  left = h.left;
  is_request = subst (λ rs. IsRequest (program_shown vm.program) (is_at_once request.point) true (element_of (document s esi events) tag) rs h.context h.left) back h.is_request;
  named = h.named;
  sight = same_sight w vm.stack request.ctx.stack_item.local_name ∙ h.sight;
  childless = h.childless;
  gathered = h.gathered;
  goes_on = h.goes_on;
  stopped = subst (λ rs. IsPointIn (instructions_in vm) rs request.point) back h.stopped;
  addresses_left = subst (λ rs. h.left ≡ all_addresses (ranges_left rs request.point)) back h.addresses_left;
  names = subst (λ rs. names_counted vm.tries + length h.left ≡ length (all_addresses rs) + tried_at request.point) back h.names;
  attributes = h.attributes;
}
  where
    back : ranges_tried vm request.ctx.stack_item.local_name request.point ≡ ranges_tried (with_current_in vm w) request.ctx.stack_item.local_name request.point
    back = ap (λ ranges. ranges_before vm.program request.ctx.stack_item.local_name.lowercased ranges request.point) (sym (same_ranges w vm.stack vm.program))

pub pending_stands : {E : Type 0} → PendingStands E
pending_stands ids_of s esi events tag vm request h = h.stands

pub slots_are_of_depth : {E : Type 0} → SlotsAreOfDepth E
slots_are_of_depth s esi vm events h = h.standing.charged

-- the data, where those of the last element change
module _ {E : Type 0} where
  abbrev data_of : List (StackItemOf Name E) → List E
  data_of items = map (λ item. item.element_data) items

  set_at : (x : StackItemOf Name E) (items : List (StackItemOf Name E)) (k : ℕ) (w : E) (o : Option (StackItemOf Name E)) → with_data_if (x ∷ items) (suc k) w o ≡ x ∷ with_data_if items k w o
  set_at x items k w None = refl
  set_at x items k w (Some item) = refl

  data_at : (items : List (StackItemOf Name E)) (k : ℕ) → option_map (λ (item : StackItemOf Name E). item.element_data) (slice_get items k) ≡ slice_get (data_of items) k
  data_at [] k = refl
  data_at (x ∷ items) zero = refl
  data_at (x ∷ items) (suc k) = data_at items k

  data_set : (items : List (StackItemOf Name E)) (k : ℕ) (w : E) → data_of (with_data_at items k w) ≡ slice_set (data_of items) k w
  data_set [] k w = refl
  data_set (x ∷ items) zero w = refl
  data_set (x ∷ items) (suc k) w = ap data_of (set_at x items k w (slice_get items k)) ∙ ap (λ ds. x.element_data ∷ ds) (data_set items k w)

  as_many : (items : List (StackItemOf Name E)) → length items ≡ length (data_of items)
  as_many items = sym (length-map items (λ (item : StackItemOf Name E). item.element_data))

  pub last_data_are_lent : LastDataAreLent E
  last_data_are_lent vm = data_at (items_in vm.stack) _ ∙ ap (λ n. slice_get (data_in vm) (n - 1)) (as_many (items_in vm.stack))

  pub last_data_change : LastDataChange E
  last_data_change vm w = data_set (items_in vm.stack) _ w ∙ ap (λ n. slice_set (data_in vm) (n - 1) w) (as_many (items_in vm.stack))

  pub data_with : (vm : Vm E) (outer : List E) (last w : E) → data_in vm ≡ outer ++ last ∷ [] → data_in (with_current_in vm w) ≡ outer ++ w ∷ []
  data_with vm outer last w is =
      last_data_change vm w ∙ (ap (λ ds. slice_set ds (length ds - 1) w) is ∙ last_set outer last w)

  pub last_data : (vm : Vm E) (outer : List E) (last : E) → data_in vm ≡ outer ++ last ∷ [] → option_map (λ (item : StackItemOf Name E). item.element_data) (slice_get (items_in vm.stack) (length (items_in vm.stack) - 1)) ≡ Some last
  last_data vm outer last is =
      last_data_are_lent vm ∙ (ap (λ ds. slice_get ds (length ds - 1)) is ∙ last_at outer last)
