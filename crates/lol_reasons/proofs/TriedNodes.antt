-- What is tried by keys.
use Rattle.std.proofs.Common.{◌≡◌, ℕ, ◌+◌, Bool, true, false, cond, not, ◌&&◌, ◌||◌, List, [], ◌∷◌, map, filter, length, refl, sym, ap, subst, ◌∙◌, arith}
use Rattle.lol_base.specs.Ascending.{ascending_once}
use Rattle.std.specs.Prelude.{count_by, max, sum_by}
use Rattle.std.specs.List.{list_any}
use Rattle.std.proofs.lemmas.List.Sums.{sum_by-cons, length-filter}
use Rattle.lol_base.specs.BoolLaws.{and_parts, and_of, same_bool}
use Rattle.lol_base.specs.MemberLaws.{Among, among_from_contains, contains_from_among, distinct_from_pairs, same_count, count_by-cons}
use Rattle.lol_instructions.specs.Tests.{Element, is_html}
use Rattle.lol_instructions.specs.Compounds.{all_hold, by_names, is_open, Decides}
use Rattle.lol_instructions.specs.declared.name_value.NameValue.{NameValue}
use Rattle.lol_instructions.specs.declared.name_value.NameValue.TheVariants.{True, False, Open}
use Rattle.lol_program.specs.Paths.{Path, Selectors, last_compound}
use Rattle.lol_program.specs.ValueLaws.{values_decide}
use Rattle.lol_machine.specs.Matching.{matches, left_matches}
use Rattle.lol_machine.specs.Events.{Event, Start, End}
use Rattle.lol_machine.specs.Documents.{Document, element_of, empty}
use Rattle.lol_machine.specs.KeyTries.{AreRight, node_keys, is_left_by_name, is_left_open, asks_at_once, is_left, is_tried_by_keys, name_tries_by_keys, tries_attributes_by_keys, attribute_tries_by_keys}
use Rattle.lol_machine.specs.Answers.{Started, Dropped, report, is_dropped, answer, after, answers_from, document_from, needs_attributes, asks}
use Rattle.lol_machine.specs.Refusals.{Allowance, refusal, or_later, refused_from}
use Rattle.lol_machine.specs.Laws.{in_mode}
use Rattle.lol_instructions.specs.Keys.{Keys, is_ruled_out_by_name, is_ruled_out_by_attributes, no_keys}
use Rattle.lol_reasons.specs.Calls.{all_name_tries, all_attribute_tries, Without, Completing, With, one_if, name_counted, attribute_counted, calls_by_names, calls_in, needs_them, answer_by_keys, answers_by_keys_from}
use Rattle.lol_reasons.specs.KeyLaws.{MatchingNodesAreTried, TriedPairsGiveIds, NamesKeepAsks, AsksByTries, FirstStepSeesNoRest, TriesAreAtMost, TriesAndSparedAreAll, CallsAreCounted, CallsAskWhereAsked, OrderChangesNoTries, NoKeysAreExact, Spares, AllSpare, AnswersAreSparing, ModesCountTries, ModesAnswerByKeys, ModesAnswerAlike}
use Rattle.lol_reasons.proofs.Counting.{filter_within, any_within, any_both, any_weaker, any_same, count_sum, count_both}

-- 1. What is ruled out neither matches nor is open

not_false : (b : Bool) → (b ≡ true → ⊥) → not b ≡ true
not_false true h = absurd (h refl)
not_false false h = refl

module _ (keys : Path → Keys) (right : AreRight keys) (e : Element) (outer : List Element) where
  -- a node whose compound holds isn't ruled out
  named_where_holds : (node : Path) → all_hold (last_compound node) e ≡ true → not (is_ruled_out_by_name (keys node) e) ≡ true
  named_where_holds node all =
      let c = last_compound node in
      not_false (is_ruled_out_by_name (keys node) e)
      (λ out. fails (by_names c e) ((right node).by_name e out) (values_decide c e e.tag.attributes e.tag.self_closing e.tag.finish))
    where
      fails : (v : NameValue) → v ≡ False → Decides v (all_hold (last_compound node) e) → ⊥
      fails True h d = cc
      fails False h d = cc
      fails Open h d = cc

  has_where_holds : (node : Path) (b : Bool) → all_hold (last_compound node) e ≡ true → not (b && is_ruled_out_by_attributes (keys node) e) ≡ true
  has_where_holds node false all = refl
  has_where_holds node true all = not_false (is_ruled_out_by_attributes (keys node) e) (λ out. let fails = (right node).by_attributes e out in cc)

  -- one whose value by names is open isn't ruled out by its name
  named_where_open : (node : Path) → is_open (by_names (last_compound node) e) ≡ true → not (is_ruled_out_by_name (keys node) e) ≡ true
  named_where_open node h = not_false (is_ruled_out_by_name (keys node) e)
      (λ out. let shut : is_open (by_names (last_compound node) e) ≡ false = ap is_open ((right node).by_name e out) in cc)

  tried_where_matches : (b : Bool) (path : Path) → matches path e outer ≡ true → is_left keys b e outer path ≡ true
  tried_where_matches b path h =
      let parts = and_parts (all_hold (last_compound path) e) (left_matches path outer) h in
      and_of (is_left_by_name keys e outer path) (not (b && is_ruled_out_by_attributes (keys path) e))
      (and_of (left_matches path outer) (not (is_ruled_out_by_name (keys path) e)) parts.1 (named_where_holds path parts.0))
      (has_where_holds path b parts.0)

  left_where_needs : (path : Path) → needs_attributes e outer path ≡ true → is_left_by_name keys e outer path ≡ true
  left_where_needs path h =
      let parts = and_parts (left_matches path outer) (is_open (by_names (last_compound path) e)) h in
      and_of (left_matches path outer) (not (is_ruled_out_by_name (keys path) e)) parts.0 (named_where_open path parts.1)

  -- one that is known to be open needs attributes
  needs_where_left_open : (path : Path) → is_left_open keys e outer path ≡ true → needs_attributes e outer path ≡ true
  needs_where_left_open path h =
      let parts = and_parts (is_left_by_name keys e outer path) (keys path).opens h in
      let left = and_parts (left_matches path outer) (not (is_ruled_out_by_name (keys path) e)) parts.0 in
      let is = (right path).opens e parts.1 (named (is_ruled_out_by_name (keys path) e) left.1) in
      and_of (left_matches path outer) (is_open (by_names (last_compound path) e)) left.0 (ap is_open is)
    where
      named : (b : Bool) → not b ≡ true → b ≡ false
      named true h = sym h
      named false h = refl

pub matching_nodes_are_tried : MatchingNodesAreTried
matching_nodes_are_tried keys right nodes e outer path h = tried_where_matches keys right e outer (asks_at_once keys nodes e outer) path h

pub tried_pairs_give_ids : TriedPairsGiveIds
tried_pairs_give_ids keys right nodes pairs e outer =
    ap (λ kept. ascending_once (map (λ (p : Path × ℕ). p.1) kept))
    (filter_within (λ (p : Path × ℕ). matches p.0 e outer) (λ (p : Path × ℕ). is_tried_by_keys keys nodes e outer p.0) (λ p h. matching_nodes_are_tried keys right nodes e outer p.0 h) pairs)

-- 2. Attributes are asked for as before

pub names_keep_asks : NamesKeepAsks
names_keep_asks keys right s e outer =
    ap (λ b. not (is_html e.tag.namespace) || b) (any_within (needs_attributes e outer) (is_left_by_name keys e outer) (left_where_needs keys right e outer) s.nodes)

module _ (keys : Path → Keys) (right : AreRight keys) (e : Element) (outer : List Element) (nodes : List Path) where
  needs_where_tries : (b : Bool) (path : Path) → (is_left keys b e outer path && is_open (by_names (last_compound path) e)) ≡ true → needs_attributes e outer path ≡ true
  needs_where_tries b path h =
      let parts = and_parts (is_left keys b e outer path) (is_open (by_names (last_compound path) e)) h in
      let left = and_parts (is_left_by_name keys e outer path) (not (b && is_ruled_out_by_attributes (keys path) e)) parts.0 in
      let more = and_parts (left_matches path outer) (not (is_ruled_out_by_name (keys path) e)) left.0 in
      and_of (left_matches path outer) (is_open (by_names (last_compound path) e)) more.0 parts.1

  -- where nothing is asked for at once, what needs attributes is tried
  tries_where_needs : (path : Path) → needs_attributes e outer path ≡ true → (is_left keys false e outer path && is_open (by_names (last_compound path) e)) ≡ true
  tries_where_needs path h =
      and_of (is_left keys false e outer path) (is_open (by_names (last_compound path) e))
      (and_of (is_left_by_name keys e outer path) true (left_where_needs keys right e outer path h) refl)
      (and_parts (left_matches path outer) (is_open (by_names (last_compound path) e)) h).1

  asked : (foreign : Bool) → ((foreign || list_any (is_left_open keys e outer) nodes) || list_any (λ node. is_left keys (foreign || list_any (is_left_open keys e outer) nodes) e outer node && is_open (by_names (last_compound node) e)) nodes)
      ≡ (foreign || list_any (needs_attributes e outer) nodes)
  asked true = refl
  asked false = by_open (list_any (is_left_open keys e outer) nodes) refl
    where
      by_open : (b : Bool) → list_any (is_left_open keys e outer) nodes ≡ b
          → (b || list_any (λ node. is_left keys b e outer node && is_open (by_names (last_compound node) e)) nodes) ≡ list_any (needs_attributes e outer) nodes
      by_open true is = sym (any_weaker (is_left_open keys e outer) (needs_attributes e outer) (needs_where_left_open keys right e outer) nodes is)
      by_open false is = same_bool _ _
          (any_weaker (λ node. is_left keys false e outer node && is_open (by_names (last_compound node) e)) (needs_attributes e outer) (needs_where_tries false) nodes)
          (any_weaker (needs_attributes e outer) (λ node. is_left keys false e outer node && is_open (by_names (last_compound node) e)) tries_where_needs nodes)

pub asks_by_tries : AsksByTries
asks_by_tries keys right s e outer = asked keys right e outer s.nodes (not (is_html e.tag.namespace))

pub first_step_sees_no_rest : FirstStepSeesNoRest
first_step_sees_no_rest keys nodes e outer attributes self_closing finish = (refl, λ node. refl)

-- 3. Counts

spared_name : (l n x : Bool) → cond ((l && n) && x) 1 0 + cond (l && not ((l && n) && x)) 1 0 ≡ cond l 1 0
spared_name true true true = refl
spared_name true true false = refl
spared_name true false x = refl
spared_name false n x = refl

spared_attributes : (l n x o : Bool) → cond (((l && n) && x) && o) 1 0 + cond ((l && o) && not ((l && n) && x)) 1 0 ≡ cond (l && o) 1 0
spared_attributes true true true true = refl
spared_attributes true true true false = refl
spared_attributes true true false true = refl
spared_attributes true true false false = refl
spared_attributes true false x true = refl
spared_attributes true false x false = refl
spared_attributes false n x o = refl

pub tries_and_spared_are_all : TriesAndSparedAreAll
tries_and_spared_are_all keys nodes e outer =
    let at_once = asks_at_once keys nodes e outer in (
      count_sum (is_tried_by_keys keys nodes e outer) (λ node. left_matches node outer && not (is_tried_by_keys keys nodes e outer node)) (λ node. left_matches node outer)
          (λ node. spared_name (left_matches node outer) (not (is_ruled_out_by_name (keys node) e)) (not (at_once && is_ruled_out_by_attributes (keys node) e))) nodes,
      count_sum (tries_attributes_by_keys keys nodes e outer) (λ node. needs_attributes e outer node && not (is_tried_by_keys keys nodes e outer node)) (needs_attributes e outer)
          (λ node. spared_attributes (left_matches node outer) (not (is_ruled_out_by_name (keys node) e)) (not (at_once && is_ruled_out_by_attributes (keys node) e)) (is_open (by_names (last_compound node) e))) nodes,
    )

pub tries_are_at_most : TriesAreAtMost
tries_are_at_most keys nodes e outer =
    let all = tries_and_spared_are_all keys nodes e outer in
    (omega (arith, all.0), omega (arith, all.1))

-- 4. Calls

abbrev opens_at : Element → Path → Bool
opens_at e node = is_open (by_names (last_compound node) e)

one_is : (b : Bool) → one_if b ≡ cond b 1 0
one_is true = refl
one_is false = refl

names_with : (nodes : List Path) → sum_by name_counted (map With nodes) ≡ length nodes
names_with [] = refl
names_with (node ∷ nodes) = let more = names_with nodes in sum_by-cons name_counted (With node) (map With nodes) ∙ omega (arith, more)

module _ (e : Element) where
  attributes_with : (nodes : List Path) → sum_by (attribute_counted e) (map With nodes) ≡ count_by (opens_at e) nodes
  attributes_with [] = refl
  attributes_with (node ∷ nodes) =
      sum_by-cons (attribute_counted e) (With node) (map With nodes)
      ∙ (λ i. one_is (opens_at e node) i + attributes_with nodes i)
      ∙ sym (count_by-cons (opens_at e) node nodes)

  names_by_names : (nodes : List Path) → sum_by name_counted (calls_by_names e nodes) ≡ length nodes
  names_by_names [] = refl
  names_by_names (node ∷ nodes) = sum_by-cons name_counted (Without node) (cond (opens_at e node) (Completing node ∷ map With nodes) (calls_by_names e nodes)) ∙ by_test (opens_at e node) (names_by_names nodes)
    where
      by_test : (b : Bool) → sum_by name_counted (calls_by_names e nodes) ≡ length nodes
          → 1 + sum_by name_counted (cond b (Completing node ∷ map With nodes) (calls_by_names e nodes)) ≡ length (node ∷ nodes)
      by_test true more = let rest = names_with nodes in let here = sum_by-cons name_counted (Completing node) (map With nodes) in omega (arith, rest, here)
      by_test false more = omega (arith, more)

  attributes_by_names : (nodes : List Path) → sum_by (attribute_counted e) (calls_by_names e nodes) ≡ count_by (opens_at e) nodes
  attributes_by_names [] = refl
  attributes_by_names (node ∷ nodes) =
      sum_by-cons (attribute_counted e) (Without node) (cond (opens_at e node) (Completing node ∷ map With nodes) (calls_by_names e nodes)) ∙ by_test (opens_at e node) refl (attributes_by_names nodes) ∙ sym (count_by-cons (opens_at e) node nodes)
    where
      by_test : (b : Bool) → opens_at e node ≡ b → sum_by (attribute_counted e) (calls_by_names e nodes) ≡ count_by (opens_at e) nodes
          → 0 + sum_by (attribute_counted e) (cond b (Completing node ∷ map With nodes) (calls_by_names e nodes)) ≡ cond b 1 0 + count_by (opens_at e) nodes
      by_test true is more =
          let here = sum_by-cons (attribute_counted e) (Completing node) (map With nodes) in
          let one : one_if (opens_at e node) ≡ 1 = ap one_if is in
          let rest = attributes_with nodes in
          omega (arith, here, one, rest)
      by_test false is more = omega (arith, more)

  names_in : (b : Bool) (nodes : List Path) → sum_by name_counted (calls_in b e nodes) ≡ length nodes
  names_in true nodes = names_with nodes
  names_in false nodes = names_by_names nodes

  attributes_in : (b : Bool) (nodes : List Path) → sum_by (attribute_counted e) (calls_in b e nodes) ≡ count_by (opens_at e) nodes
  attributes_in true nodes = attributes_with nodes
  attributes_in false nodes = attributes_by_names nodes

  needed_by_names : (nodes : List Path) → list_any needs_them (calls_by_names e nodes) ≡ list_any (opens_at e) nodes
  needed_by_names [] = refl
  needed_by_names (node ∷ nodes) = by_test (opens_at e node) (needed_by_names nodes)
    where
      by_test : (b : Bool) → list_any needs_them (calls_by_names e nodes) ≡ list_any (opens_at e) nodes
          → list_any needs_them (cond b (Completing node ∷ map With nodes) (calls_by_names e nodes)) ≡ (b || list_any (opens_at e) nodes)
      by_test true more = refl
      by_test false more = more

  needed_in : (b : Bool) (nodes : List Path) → (b || list_any needs_them (calls_in b e nodes)) ≡ (b || list_any (opens_at e) nodes)
  needed_in true nodes = refl
  needed_in false nodes = needed_by_names nodes

pub calls_are_counted : CallsAreCounted
calls_are_counted keys nodes e outer =
    let at_once = asks_at_once keys nodes e outer in (
      names_in e at_once (filter (is_tried_by_keys keys nodes e outer) nodes) ∙ length-filter (is_tried_by_keys keys nodes e outer) nodes,
      attributes_in e at_once (filter (is_tried_by_keys keys nodes e outer) nodes) ∙ count_both (opens_at e) (is_tried_by_keys keys nodes e outer) nodes,
    )

pub calls_ask_where_asked : CallsAskWhereAsked
calls_ask_where_asked keys right s e outer =
    needed_in e (asks_at_once keys s.nodes e outer) (filter (is_tried_by_keys keys s.nodes e outer) s.nodes)
    ∙ ap (λ b. asks_at_once keys s.nodes e outer || b) (any_both (opens_at e) (is_tried_by_keys keys s.nodes e outer) s.nodes)
    ∙ asks_by_tries keys right s e outer

-- 5. The order

pub order_changes_no_tries : OrderChangesNoTries
order_changes_no_tries keys xs ys same once once' e outer =
    let to : (p : Path) → Among xs p → Among ys p = λ p h. among_from_contains ys p ((same p).0 (contains_from_among xs p h)) in
    let from : (p : Path) → Among ys p → Among xs p = λ p h. among_from_contains xs p ((same p).1 (contains_from_among ys p h)) in
    let first : asks_at_once keys xs e outer ≡ asks_at_once keys ys e outer = ap (λ b. not (is_html e.tag.namespace) || b) (any_same (is_left_open keys e outer) xs ys to from) in
    let counts : (p : Path → Bool) → count_by p xs ≡ count_by p ys = λ p. same_count p xs ys (distinct_from_pairs xs once) (distinct_from_pairs ys once') to from in (
      (λ i. count_by (λ node. is_left keys (first i) e outer node) xs) ∙ counts (is_tried_by_keys keys ys e outer),
      (λ i. count_by (λ node. is_left keys (first i) e outer node && is_open (by_names (last_compound node) e)) xs) ∙ counts (tries_attributes_by_keys keys ys e outer),
    )

-- 6. Without keys, and whole runs

nothing_ruled_out : (l b : Bool) → ((l && true) && not (b && false)) ≡ l
nothing_ruled_out true true = refl
nothing_ruled_out true false = refl
nothing_ruled_out false b = refl

pub no_keys_are_exact : NoKeysAreExact
no_keys_are_exact nodes e outer =
    let at_once = asks_at_once (λ node. no_keys) nodes e outer in (
      λ i. count_by (λ node. nothing_ruled_out (left_matches node outer) at_once i) nodes,
      λ i. count_by (λ node. nothing_ruled_out (left_matches node outer) at_once i && is_open (by_names (last_compound node) e)) nodes,
    )

module _ (keys : Path → Keys) (s : Selectors) (esi : Bool) where
  answer_spares : (d : Document) (event : Event) → Spares (answer_by_keys keys s esi d event) (answer (in_mode false s) esi d event)
  answer_spares d (End name) = refl
  answer_spares d (Start tag) = by_dropped (is_dropped s (element_of d tag) d.open_elements)
    where
      by_dropped : (b : Bool) → Spares
          (cond b Dropped (Started (report s esi (element_of d tag) d.open_elements) (asks s (element_of d tag) d.open_elements) (name_tries_by_keys keys s.nodes (element_of d tag) d.open_elements) (attribute_tries_by_keys keys s.nodes (element_of d tag) d.open_elements)))
          (cond b Dropped (Started (report s esi (element_of d tag) d.open_elements) (asks s (element_of d tag) d.open_elements) (all_name_tries s.nodes d.open_elements) (all_attribute_tries s.nodes (element_of d tag) d.open_elements)))
      by_dropped true = tt
      by_dropped false = let most = tries_are_at_most keys s.nodes (element_of d tag) d.open_elements in (refl, refl, most.0, most.1)

  spare_from : (d : Document) (events : List Event) → AllSpare (answers_by_keys_from keys s esi d events) (answers_from (in_mode false s) esi d events)
  spare_from d [] = tt
  spare_from d (Start tag ∷ events) = (answer_spares d (Start tag), spare_from (after s esi d (Start tag)) events)
  spare_from d (End name ∷ events) = (refl, spare_from (after s esi d (End name)) events)

pub answers_are_sparing : AnswersAreSparing
answers_are_sparing keys s esi d events = spare_from keys s esi d events

-- 7. The two modes

pub modes_count_tries : ModesCountTries
modes_count_tries s e outer = (refl, refl, refl, refl)

module _ (s : Selectors) (esi : Bool) where
  spared_by_keys : (d : Document) (events : List Event) → answers_from (in_mode true s) esi d events ≡ answers_by_keys_from node_keys s esi d events
  spared_by_keys d [] = refl
  spared_by_keys d (Start tag ∷ events) = ap (λ more. answer_by_keys node_keys s esi d (Start tag) ∷ more) (spared_by_keys (after s esi d (Start tag)) events)
  spared_by_keys d (End name ∷ events) = ap (λ more. answer_by_keys node_keys s esi d (End name) ∷ more) (spared_by_keys (after s esi d (End name)) events)

  all_by_no_keys : (d : Document) (events : List Event) → answers_from (in_mode false s) esi d events ≡ answers_by_keys_from (λ node. no_keys) s esi d events
  all_by_no_keys d [] = refl
  all_by_no_keys d (Start tag ∷ events) =
      let e = element_of d tag in
      let outer = d.open_elements in
      let exact = no_keys_are_exact s.nodes e outer in
      (λ i. cond (is_dropped s e outer) Dropped (Started (report s esi e outer) (asks s e outer) (sym exact.0 i) (sym exact.1 i)) ∷ all_by_no_keys (after s esi d (Start tag)) events i)
  all_by_no_keys d (End name ∷ events) = ap (λ more. answer_by_keys (λ node. no_keys) s esi d (End name) ∷ more) (all_by_no_keys (after s esi d (End name)) events)

  modes_spare : (d : Document) (events : List Event) → AllSpare (answers_from (in_mode true s) esi d events) (answers_from (in_mode false s) esi d events)
  modes_spare d events = subst (λ told. AllSpare told (answers_from (in_mode false s) esi d events)) (sym (spared_by_keys d events)) (spare_from node_keys s esi d events)

  same_document : (d : Document) (events : List Event) → document_from (in_mode true s) esi d events ≡ document_from (in_mode false s) esi d events
  same_document d [] = refl
  same_document d (Start tag ∷ events) = same_document (after s esi d (Start tag)) events
  same_document d (End name ∷ events) = same_document (after s esi d (End name)) events

  same_refused : (a : Allowance) (d : Document) (most : ℕ) (events : List Event) → refused_from (in_mode true s) esi a d most events ≡ refused_from (in_mode false s) esi a d most events
  same_refused a d most [] = refl
  same_refused a d most (Start tag ∷ events) =
      let next = after s esi d (Start tag) in
      ap (or_later d.events (refusal s esi a d most (Start tag))) (same_refused a next (max most (length next.open_elements)) events)
  same_refused a d most (End name ∷ events) =
      let next = after s esi d (End name) in
      same_refused a next (max most (length next.open_elements)) events

pub modes_answer_by_keys : ModesAnswerByKeys
modes_answer_by_keys s esi d events = (spared_by_keys s esi d events, all_by_no_keys s esi d events)

pub modes_answer_alike : ModesAnswerAlike
modes_answer_alike s esi events = (modes_spare s esi empty events, same_document s esi empty events, λ a. same_refused s esi a empty 0 events)
