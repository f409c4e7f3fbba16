-- Runs that stop and go on.
use Rattle.lol_machine.proofs.Common.{HoldOnce, ◌≡◌, ℕ, suc, ◌+◌, Bool, true, false, cond, not, List, [], ◌∷◌, ◌++◌, length, drop, Option, Some, None, inl, inr, refl, sym, ap, ◌∙◌, subst, arith, Contains, slice_get, count_by, option_to_list, ◌&&◌, ◌||◌, ◌≤◌, if◌then◌else◌, Range, list_any, append-nil, append_cancel_right, drop-append-le, option_map, Attribute, Element, is_html, Path, Selectors, last_compound, count_by-cons, Among, among_from_contains, contains_from_among, left_matches, needs_attributes, asks, attribute_tries, is_open, Decides, by_names, with_rest, IsAt, IsProgramOf, addresses, all_addresses, AreClosed, Context, no_context, given_by, gathered_from_addresses, context_of, run, instruction_value, value_at, is_open_at, ids_list, jumps_list, hereditary_jumps_list, starts_open, IsRequest, at_addresses, given_with_attributes, map-append, give_if, give_if_there, given_by_names, instruction_holds, is_true, position_from, is_tried_open}
use Rattle.std.proofs.Common.{append_assoc}
use Rattle.std.proofs.Math.Seq.{drop-append-add}
use Rattle.std.proofs.lemmas.Grind.{flat_map-append}
use Rattle.lol_program.specs.Programs.{Instruction, Program}
use Rattle.lol_instructions.specs.declared.name_value.NameValue.{NameValue}
use Rattle.lol_instructions.specs.declared.name_value.NameValue.TheVariants.{True, False, Open}
use Rattle.lol_program.specs.ValueLaws.{values_decide, values_are_by_names}
use Rattle.lol_machine.proofs.Held.{path_at}
use Rattle.lol_machine.proofs.Counted.{Tried, addresses_count_tries}
use Rattle.lol_machine.specs.OutcomeLaws.{attributes-append, from_first, names-map}

-- 1. Runs gather

-- what one context gathered, and then the other
abbrev with_context : Context → Context → Context
with_context a b = record { ids = a.ids ++ b.ids; jumps = a.jumps ++ b.jumps; hereditary_jumps = a.hereditary_jumps ++ b.hereditary_jumps }

if_more : {A : Type 0} (b : Bool) (xs ys zs : List A) → cond b (xs ++ ys) xs ++ cond b zs [] ≡ xs ++ cond b (ys ++ zs) []
if_more true xs ys zs = append_assoc xs ys zs
if_more false xs ys zs = refl

-- one address more in front
gather_one : (content : Bool) (e : Element) (context : Context) (o : Option Instruction) (ids : List ℕ) (jumps hereditary : List (Range ℕ)) →
    with_context (give_if (give_if_there content) (instruction_holds e o) o context) (record { ids = ids; jumps = cond content jumps []; hereditary_jumps = cond content hereditary [] })
    ≡ with_context context (record { ids = given_by ids_list e o ++ ids; jumps = cond content (given_by jumps_list e o ++ jumps) []; hereditary_jumps = cond content (given_by hereditary_jumps_list e o ++ hereditary) [] })
gather_one content e context None ids jumps hereditary = refl
gather_one content e context (Some i) ids jumps hereditary = by_test (i.holds e)
  where
    by_test : (b : Bool) → with_context (give_if (give_if_there content) b (Some i) context) (record { ids = ids; jumps = cond content jumps []; hereditary_jumps = cond content hereditary [] })
        ≡ with_context context (record { ids = cond b i.ids [] ++ ids; jumps = cond content (cond b (option_to_list i.jumps) [] ++ jumps) []; hereditary_jumps = cond content (cond b (option_to_list i.hereditary_jumps) [] ++ hereditary) [] })
    by_test true = λ k. record {
      ids = append_assoc context.ids i.ids ids k;
      jumps = if_more content context.jumps (option_to_list i.jumps) jumps k;
      hereditary_jumps = if_more content context.hereditary_jumps (option_to_list i.hereditary_jumps) hereditary k;
    }
    by_test false = refl

none_if : {A : Type 0} (b : Bool) (xs : List A) → xs ≡ xs ++ cond b [] []
none_if true xs = sym (append-nil xs)
none_if false xs = sym (append-nil xs)

-- A run address by address gathers what its addresses give, in their order.
pub runs_gather : (p : Program) (content : Bool) (e : Element) (context : Context) (ps : List ℕ)
    → run p content e context ps ≡ with_context context (context_of p content e ps)
runs_gather p content e context [] = λ k. record {
  ids = sym (append-nil context.ids) k;
  jumps = none_if content context.jumps k;
  hereditary_jumps = none_if content context.hereditary_jumps k;
}
runs_gather p content e context (address ∷ ps) =
    let o = slice_get p.instructions address in
    runs_gather p content e (give_if (give_if_there content) (instruction_holds e o) o context) ps
    ∙ gather_one content e context o (gathered_from_addresses ids_list p e ps) (gathered_from_addresses jumps_list p e ps) (gathered_from_addresses hereditary_jumps_list p e ps)

-- 2. Stops

-- what addresses give without attributes, up to the first whose value by names is open
abbrev pub context_by_names : Program → Bool → Element → Context → List ℕ → Context
context_by_names p content e context ps = given_by_names (give_if_there content) (instruction_value e) context (at_addresses p ps)

-- what is left of addresses from the first that passes a test on
abbrev pub left_from : (ℕ → Bool) → List ℕ → List ℕ
left_from test [] = []
left_from test (address ∷ ps) = if test address then address ∷ ps else left_from test ps

-- the run by names of a start tag over these ranges, and the addresses that it leaves
abbrev pub started_by_names : Program → Bool → Element → List (Range ℕ) → Context
started_by_names p content e ranges = context_by_names p content e no_context (all_addresses ranges)

abbrev pub left_by_names : Program → Element → List (Range ℕ) → List ℕ
left_by_names p e ranges = left_from (is_open_at p e) (all_addresses ranges)

-- every address is that of an instruction whose value by names decides, at this element
abbrev ValuesDecideAt : Program → Element → List ℕ → Type 0
ValuesDecideAt p e ps = (address : ℕ) (i : Instruction) → Contains ps address → IsAt p.instructions address i → Decides (i.value e) (i.holds e)

-- Where a run by names stops: no address before the stop is open, and the context is what those addresses give with the attributes, whichever
-- they are; no address is left, or the first that is left is open. Going on from there gives what a whole run gives.
pub record IsStop (p : Program) (content : Bool) (e : Element) (context : Context) (ps : List ℕ) (stopped : Context) (left : List ℕ) : Type 0 where
  pub before : List ℕ
  pub parts : ps ≡ before ++ left
  pub closed : (address : ℕ) → Contains before address → is_open_at p e address ≡ false
  pub ran : stopped ≡ run p content e context before
  pub stops : list_any (is_open_at p e) ps ≡ starts_open p e left
  pub goes_on : run p content e stopped left ≡ run p content e context ps

-- the addresses without so many at the front; none at all where there is no number
abbrev pub from_number : Option ℕ → List ℕ → List ℕ
from_number None ps = []
from_number (Some n) ps = drop n ps

-- a value that isn't open is the truth
decided : (v : NameValue) (b : Bool) → is_open v ≡ false → Decides v b → is_true v ≡ b
decided True b shut d = sym d
decided False b shut d = sym d
decided Open b shut d = cc

decided_at : (e : Element) (o : Option Instruction) → is_open (instruction_value e o) ≡ false → ((i : Instruction) → o ≡ Some i → Decides (i.value e) (i.holds e)) → is_true (instruction_value e o) ≡ instruction_holds e o
decided_at e None shut decides = refl
decided_at e (Some i) shut decides = decided (i.value e) (i.holds e) shut (decides i refl)

module _ (p : Program) (content : Bool) (e : Element) (context : Context) (address : ℕ) (ps : List ℕ) where
  abbrev next : Context
  next = give_if (give_if_there content) (is_true (value_at p e address)) (slice_get p.instructions address) context

  abbrev Here : Bool → Type 0
  Here b = IsStop p content e context (address ∷ ps) (cond b context (context_by_names p content e next ps)) (cond b (address ∷ ps) (left_from (is_open_at p e) ps))

  at_place : (b : Bool) → is_open_at p e address ≡ b → ValuesDecideAt p e (address ∷ ps) → IsStop p content e next ps (context_by_names p content e next ps) (left_from (is_open_at p e) ps) → Here b
  at_place true is decides later = record {
    before = [];
    parts = refl;
    closed = λ k h. absurd (among_from_contains [] k h);
    ran = refl;
    stops = (λ i. is i || list_any (is_open_at p e) ps) ∙ sym is;
    goes_on = refl;
  }
  at_place false is decides later =
      let same : next ≡ give_if (give_if_there content) (instruction_holds e (slice_get p.instructions address)) (slice_get p.instructions address) context =
      ap (λ b. give_if (give_if_there content) b (slice_get p.instructions address) context)
      (decided_at e (slice_get p.instructions address) is (λ i at. decides address i (contains_from_among (address ∷ ps) address (inl refl)) at)) in
      record {
        before = address ∷ later.before;
        parts = ap (λ qs. address ∷ qs) later.parts;
        closed = λ k h. shut k (among_from_contains (address ∷ later.before) k h);
        ran = later.ran ∙ ap (λ c. run p content e c later.before) same;
        stops = (λ i. is i || list_any (is_open_at p e) ps) ∙ later.stops;
        goes_on = later.goes_on ∙ ap (λ c. run p content e c ps) same;
      }
    where
      shut : (k : ℕ) → Among (address ∷ later.before) k → is_open_at p e k ≡ false
      shut k (inl at) = subst (λ n. is_open_at p e n ≡ false) at is
      shut k (inr a) = later.closed k (contains_from_among later.before k a)

pub runs_stop_where_asked : (p : Program) (content : Bool) (e : Element) (context : Context) (ps : List ℕ) → ValuesDecideAt p e ps
    → IsStop p content e context ps (context_by_names p content e context ps) (left_from (is_open_at p e) ps)
runs_stop_where_asked p content e context [] decides = record {
  before = [];
  parts = refl;
  closed = λ address h. absurd (among_from_contains [] address h);
  ran = refl;
  stops = refl;
  goes_on = refl;
}
runs_stop_where_asked p content e context (address ∷ ps) decides =
    at_place p content e context address ps (is_open_at p e address) refl decides
    (runs_stop_where_asked p content e (next p content e context address ps) ps (λ k i h at. decides k i (contains_from_among (address ∷ ps) k (inr (among_from_contains ps k h))) at))

-- 3. Stops as offsets

pub stops_leave : (test : ℕ → Bool) (ps : List ℕ) → left_from test ps ≡ from_number (position_from test 0 ps) ps
stops_leave test [] = refl
stops_leave test (address ∷ ps) = ap (λ o. cond (test address) (address ∷ ps) o) (stops_leave test ps) ∙ by_test (test address) (position_from test 0 ps) (position_from test 1 ps) (from_first test 1 ps)
  where
    by_test : (b : Bool) (o next : Option ℕ) → next ≡ option_map (λ n. 1 + n) o → cond b (address ∷ ps) (from_number o ps) ≡ from_number (cond b (Some 0) next) (address ∷ ps)
    by_test true o next is = refl
    by_test false None next is = sym (ap (λ n. from_number n (address ∷ ps)) is)
    by_test false (Some n) next is = let more : 1 + n ≡ suc n = omega arith in sym (ap (λ n. from_number n (address ∷ ps)) is ∙ ap (λ k. drop k (address ∷ ps)) more)

-- The addresses of ranges without those before an offset in one of them are those from that offset on.
pub numbers_are_offsets : (front : List (Range ℕ)) (r : Range ℕ) (back : List (Range ℕ)) (offset : ℕ) → offset ≤ length (addresses r)
    → drop (length (all_addresses front) + offset) (all_addresses (front ++ r ∷ back)) ≡ drop offset (addresses r) ++ all_addresses back
numbers_are_offsets front r back offset within =
    ap (drop (length (all_addresses front) + offset)) (flat_map-append addresses front (r ∷ back))
    ∙ (drop-append-add (all_addresses front) (all_addresses (r ∷ back)) offset ∙ drop-append-le offset (addresses r) (all_addresses back) within)

-- 4. Programs of selectors

module _ (s : Selectors) (paths : List Path) (p : Program) (program : IsProgramOf s paths p) where
  decides_at : (e : Element) (address : ℕ) (i : Instruction) → IsAt p.instructions address i → Decides (i.value e) (i.holds e)
  decides_at e address i at =
      let path = path_at s paths p program address i at in
      let means = (program.each address path.0 i path.1 at).means e in
      subst (λ v. Decides v (i.holds e)) (sym means.0) (subst (λ b. Decides (by_names (last_compound path.0) e) b) (sym means.1) (values_decide (last_compound path.0) e e.tag.attributes e.tag.self_closing e.tag.finish))

  module _ (e : Element) (attributes : List Attribute) (self_closing finish : Bool) where
    abbrev other : Element
    other = with_rest e attributes self_closing finish

    same_value : (address : ℕ) (o : Option Instruction) → slice_get p.instructions address ≡ o → instruction_value other o ≡ instruction_value e o
    same_value address None at = refl
    same_value address (Some i) at =
        let path = path_at s paths p program address i at in
        let each = program.each address path.0 i path.1 at in
        (each.means other).0 ∙ (values_are_by_names (last_compound path.0) e attributes self_closing finish ∙ sym (each.means e).0)

    same_values : value_at p other ≡ value_at p e
    same_values = λ i address. same_value address (slice_get p.instructions address) refl i

    same_context : (content : Bool) (context : Context) (ps : List ℕ) → context_by_names p content other context ps ≡ context_by_names p content e context ps
    same_context content context ps =
        names-map (give_if_there content) (slice_get p.instructions) (instruction_value other) context ps
        ∙ (ap (λ v. given_by_names (λ address. give_if_there content (slice_get p.instructions address)) v context ps) same_values
        ∙ sym (names-map (give_if_there content) (slice_get p.instructions) (instruction_value e) context ps))

pub left_counted : (test : ℕ → Bool) (before left : List ℕ) → ((address : ℕ) → Among before address → test address ≡ false) → count_by test left ≡ count_by test (before ++ left)
left_counted test [] left h = refl
left_counted test (address ∷ before) left h =
    left_counted test before left (λ k a. h k (inr a))
    ∙ sym (count_by-cons test address (before ++ left) ∙ (ap (λ b. cond b 1 0 + count_by test (before ++ left)) (h address (inl refl)) ∙ omega arith))

-- A start tag that stops and goes on: it stops exactly if some node needs attributes, gives what a run with attributes gives, and the
-- tries by attributes are the open addresses that are left.
pub record WholeStart (s : Selectors) (p : Program) (ranges : List (Range ℕ)) (e : Element) (outer : List Element) (content : Bool) : Type 0 where
  pub asks : starts_open p e (left_by_names p e ranges) ≡ list_any (is_tried_open s e outer) s.nodes
  pub whole : run p content e (started_by_names p content e ranges) (left_by_names p e ranges) ≡ context_of p content e (all_addresses ranges)
  pub attributes : count_by (is_open_at p e) (left_by_names p e ranges) ≡ attribute_tries s e outer

pub stopped_starts_are_whole : (s : Selectors) (paths : List Path) (p : Program) (ranges : List (Range ℕ)) (e : Element) (outer : List Element)
    (content : Bool) → AreClosed s → IsProgramOf s paths p → HoldOnce paths ranges (Tried s e outer)
    → WholeStart s p ranges e outer content
stopped_starts_are_whole s paths p ranges e outer content closed program held =
    let stop = runs_stop_where_asked p content e no_context (all_addresses ranges) (λ address i h at. decides_at s paths p program e address i at) in
    let tries = addresses_count_tries s paths p ranges e outer closed program held in
    record {
      asks = sym stop.stops ∙ tries.asks;
      whole = stop.goes_on ∙ runs_gather p content e no_context (all_addresses ranges);
      attributes =
          left_counted (is_open_at p e) stop.before (left_by_names p e ranges) (λ address a. stop.closed address (contains_from_among stop.before address a))
          ∙ (ap (count_by (is_open_at p e)) (sym stop.parts) ∙ tries.attributes);
    }

-- A run by names that stops gives a request.
pub stops_are_requests : (s : Selectors) (paths : List Path) (p : Program) (content : Bool) (e : Element) (ranges : List (Range ℕ))
    → IsProgramOf s paths p → starts_open p e (left_by_names p e ranges) ≡ true
    → IsRequest p false content e ranges (started_by_names p content e ranges) (left_by_names p e ranges)
stops_are_requests s paths p content e ranges program asks =
    let stop = λ (x : Element). runs_stop_where_asked p content x no_context (all_addresses ranges) (λ address i h at. decides_at s paths p program x address i at) in
    let here = stop e in
    record {
      before = here.before;
      parts = here.parts;
      closed = here.closed;
      asks = asks;
      gathered = λ attributes self_closing finish.
          let x = with_rest e attributes self_closing finish in
          let same = same_values s paths p program e attributes self_closing finish in
          let fronts : (stop x).before ≡ here.before = append_cancel_right (stop x).before here.before _ (sym (stop x).parts ∙ (here.parts ∙ ap (λ left. here.before ++ left) (sym (ap (λ (v : ℕ → NameValue). left_from (λ address. is_open (v address)) (all_addresses ranges)) same)))) in
          sym (same_context s paths p program e attributes self_closing finish content no_context (all_addresses ranges)) ∙ ((stop x).ran ∙ (runs_gather p content x no_context (stop x).before ∙ ap (context_of p content x) fronts));
    }

-- A request that is made before any address is run.
pub asked_at_once : (p : Program) (content : Bool) (e : Element) (ranges : List (Range ℕ)) → IsRequest p true content e ranges no_context (all_addresses ranges)
asked_at_once p content e ranges = record {
  before = [];
  parts = refl;
  closed = λ address h. absurd (among_from_contains [] address h);
  asks = refl;
  gathered = λ attributes self_closing finish. nothing content;
}
  where
    nothing : (b : Bool) → no_context ≡ record { ids = []; jumps = cond b [] []; hereditary_jumps = cond b [] [] }
    nothing true = refl
    nothing false = refl

-- A request that is finished, with whatever rest of the tag, gives what a whole run gives.
pub requests_finish : (p : Program) (at_once content : Bool) (e : Element) (ranges : List (Range ℕ)) (context : Context) (left : List ℕ)
    → IsRequest p at_once content e ranges context left → (attributes : List Attribute) (self_closing finish : Bool)
    → run p content (with_rest e attributes self_closing finish) context left
    ≡ context_of p content (with_rest e attributes self_closing finish) (all_addresses ranges)
requests_finish p at_once content e ranges context left request attributes self_closing finish =
    let x = with_rest e attributes self_closing finish in
    let before : context ≡ run p content x no_context request.before = request.gathered attributes self_closing finish ∙ sym (runs_gather p content x no_context request.before) in
    ap (λ c. run p content x c left) before
    ∙ (sym (attributes-append (give_if_there content) (instruction_holds x) no_context (at_addresses p request.before) (at_addresses p left))
    ∙ (ap (given_with_attributes (give_if_there content) (instruction_holds x) no_context) (sym (map-append (slice_get p.instructions) request.before left))
    ∙ (ap (run p content x no_context) (sym request.parts) ∙ runs_gather p content x no_context (all_addresses ranges))))

-- 5. What is asked for depends on names and addresses alone

module _ (e : Element) (attributes : List Attribute) (self_closing finish : Bool) (outer : List Element) where
  any_needs : (nodes : List Path) → list_any (needs_attributes (with_rest e attributes self_closing finish) outer) nodes ≡ list_any (needs_attributes e outer) nodes
  any_needs [] = refl
  any_needs (node ∷ nodes) =
      λ i. (left_matches node outer && is_open (values_are_by_names (last_compound node) e attributes self_closing finish i)) || any_needs nodes i

  pub asks_by_names : (s : Selectors) → asks s (with_rest e attributes self_closing finish) outer ≡ asks s e outer
  asks_by_names s = ap (λ b. not (is_html e.tag.namespace) || b) (any_needs s.nodes)
