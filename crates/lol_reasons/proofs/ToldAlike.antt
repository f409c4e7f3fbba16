-- Documents that no selector tells apart, and start tags whose attributes aren't asked for.
use Rattle.std.proofs.Common.{◌≡◌, ℕ, zero, suc, ◌+◌, Bool, true, false, cond, not, List, [], ◌∷◌, length, map, filter, drop, take, reverse, position, Option, Some, None, inl, inr, refl, sym, ap, ◌∙◌, subst, Contains, true≢false, ◌&&◌, ◌||◌, unwrap_or, slice_get}
use Rattle.std.specs.List.{list_any, drop-map}
use Rattle.std.proofs.lemmas.List.{length-map, take-map}
use Rattle.lol_base.specs.BoolLaws.{not_true, or_of, and-false}
use Rattle.lol_base.specs.MemberLaws.{Among, among_from_contains, contains_from_among, any_among}
use Rattle.lol_base.specs.Names.{same_name}
use Rattle.lol_base.specs.StartTags.{StartTag, Attribute}
use Rattle.lol_base.specs.declared.namespace.Namespace.{Namespace}
use Rattle.lol_base.specs.declared.namespace.Namespace.TheVariants.{Html, Svg, MathML}
use Rattle.lol_instructions.specs.Compounds.{by_names, all_hold, is_open, Decides}
use Rattle.lol_instructions.specs.Tests.{Element, is_html}
use Rattle.lol_program.specs.Paths.{Path, First, Then, Selectors, last_compound}
use Rattle.lol_program.specs.Programs.{AreClosed}
use Rattle.lol_machine.specs.AnswerLaws.{started_if}
use Rattle.lol_machine.specs.Answers.{Answer, Started, Dropped, Ended, matching_ids, report, name_tries, attribute_tries, needs_attributes, asks, is_dropped, is_tried, is_tried_open, answer, after}
use Rattle.lol_machine.specs.KeyTries.{asks_at_once, is_left, is_left_open, node_keys}
use Rattle.lol_machine.specs.TriedLaws.{at_once_asks, tried_needs}
use Rattle.lol_instructions.specs.Keys.{is_ruled_out_by_attributes, is_ruled_out_by_name}
use Rattle.lol_base.specs.Ascending.{ascending_once}
use Rattle.lol_machine.specs.Documents.{Document, element_of, parent_of, children_of, typed_children_of, index_of, inner_part, outer_part}
use Rattle.lol_machine.specs.Events.{Event, Start, End, has_content, has_content_in}
use Rattle.lol_machine.specs.Matching.{matches, left_matches, parent_passes, some_ancestor_passes}
use Rattle.lol_base.specs.CountLaws.{count_same}
use Rattle.lol_css.specs.declared.selector.Combinator.TheVariants.{Child, Descendant}
use Rattle.lol_instructions.specs.declared.name_value.NameValue.{NameValue}
use Rattle.lol_instructions.specs.declared.name_value.NameValue.TheVariants.{True, False, Open}
use Rattle.lol_program.specs.ValueLaws.{values_decide, values_are_by_names}
use Rattle.lol_base.specs.ListLaws.{position-map}

-- 1. Tests that agree on a list

module _ {A : Type 0} (p r : A → Bool) where
  any_same : (xs : List A) → ((x : A) → Among xs x → p x ≡ r x) → list_any p xs ≡ list_any r xs
  any_same [] h = refl
  any_same (x ∷ xs) h = λ i. h x (inl refl) i || any_same xs (λ y a. h y (inr a)) i

  filter_same : (xs : List A) → ((x : A) → Among xs x → p x ≡ r x) → filter p xs ≡ filter r xs
  filter_same [] h = refl
  filter_same (x ∷ xs) h = λ i. cond (h x (inl refl) i) (x ∷ filter_same xs (λ y a. h y (inr a)) i) (filter_same xs (λ y a. h y (inr a)) i)

pub none_passes : {A : Type 0} (p : A → Bool) (xs : List A) (x : A) → list_any p xs ≡ false → Among xs x → p x ≡ false
none_passes p xs x none a = not_true (p x) (λ fits. let some = any_among p xs x a fits in cc)

-- a test that isn't open is decided alike, whatever the attributes are
pub decided : (v : NameValue) (a b left : Bool) → Decides v a → Decides v b → (left && is_open v) ≡ false → (a && left) ≡ (b && left)
decided True a b left h h' none = ap (λ c. c && left) (h ∙ sym h')
decided False a b left h h' none = ap (λ c. c && left) (h ∙ sym h')
decided Open a b true h h' none = cc
decided Open true true false h h' none = refl
decided Open true false false h h' none = refl
decided Open false true false h h' none = refl
decided Open false false false h h' none = refl

-- 2. Open elements that no node tells apart

module _ (s : Selectors) (closed : AreClosed s) where
  abbrev pub IsNode : Path → Type 0
  IsNode path = Contains s.nodes path

  -- which of some open elements a node matches
  abbrev seen : Path → List Element → List Bool
  seen node [] = []
  seen node (x ∷ outer) = matches node x outer ∷ seen node outer

  pub record Alike (xs ys : List Element) : Type 0 where
    pub numbers : map (λ (e : Element). e.number) xs ≡ map (λ (e : Element). e.number) ys
    pub names : map (λ (e : Element). e.tag.name) xs ≡ map (λ (e : Element). e.tag.name) ys
    pub seen_by : (node : Path) → IsNode node → seen node xs ≡ seen node ys

  pub alike_self : (xs : List Element) → Alike xs xs
  alike_self xs = record { numbers = refl; names = refl; seen_by = λ node is. refl }

  seen_drop : (node : Path) (n : ℕ) (xs : List Element) → drop n (seen node xs) ≡ seen node (drop n xs)
  seen_drop node zero xs = refl
  seen_drop node (suc n) [] = refl
  seen_drop node (suc n) (x ∷ xs) = seen_drop node n xs

  alike_drop : (n : ℕ) {xs ys : List Element} → Alike xs ys → Alike (drop n xs) (drop n ys)
  alike_drop n {xs} {ys} h = record {
    numbers = sym (drop-map (λ (e : Element). e.number) n xs) ∙ (ap (drop n) h.numbers ∙ drop-map (λ (e : Element). e.number) n ys);
    names = sym (drop-map (λ (e : Element). e.tag.name) n xs) ∙ (ap (drop n) h.names ∙ drop-map (λ (e : Element). e.tag.name) n ys);
    seen_by = λ node is. sym (seen_drop node n xs) ∙ (ap (drop n) (h.seen_by node is) ∙ seen_drop node n ys);
  }

  parent_is : (xs : List Element) → parent_of xs ≡ slice_get (map (λ (e : Element). e.number) xs) 0
  parent_is [] = refl
  parent_is (x ∷ xs) = refl

  same_parents : {xs ys : List Element} → Alike xs ys → parent_of xs ≡ parent_of ys
  same_parents {xs} {ys} h = parent_is xs ∙ (ap (λ ns. slice_get ns 0) h.numbers ∙ sym (parent_is ys))

  same_index : (name : List ℕ) {xs ys : List Element} → Alike xs ys → index_of name xs ≡ index_of name ys
  same_index name {xs} {ys} h =
      sym (position-map (λ (n : List ℕ). same_name n name) (λ (e : Element). e.tag.name) xs)
      ∙ (ap (position (λ (n : List ℕ). same_name n name)) h.names
      ∙ position-map (λ (n : List ℕ). same_name n name) (λ (e : Element). e.tag.name) ys)

  same_closed : (o : Option ℕ) {xs ys : List Element} → Alike xs ys → map (λ (e : Element). e.number) (inner_part o xs) ≡ map (λ (e : Element). e.number) (inner_part o ys)
  same_closed None h = refl
  same_closed (Some k) {xs} {ys} h = sym (take-map (λ (e : Element). e.number) (k + 1) xs) ∙ (ap (take (k + 1)) h.numbers ∙ take-map (λ (e : Element). e.number) (k + 1) ys)

  -- 3. What nodes say of them

  parent_seen : (node : Path) (xs : List Element) → parent_passes (matches node) xs ≡ unwrap_or (slice_get (seen node xs) 0) false
  parent_seen node [] = refl
  parent_seen node (x ∷ xs) = refl

  ancestor_seen : (node : Path) (xs : List Element) → some_ancestor_passes (matches node) xs ≡ list_any (λ b. b) (seen node xs)
  ancestor_seen node [] = refl
  ancestor_seen node (x ∷ xs) = ap (λ b. matches node x xs || b) (ancestor_seen node xs)

  same_left : {xs ys : List Element} → Alike xs ys → (node : Path) → IsNode node → left_matches node xs ≡ left_matches node ys
  same_left h (First c) is = refl
  same_left {xs} {ys} h (Then front Child c) is = parent_seen front xs ∙ (ap (λ bs. unwrap_or (slice_get bs 0) false) (h.seen_by front (closed.fronts front Child c is)) ∙ sym (parent_seen front ys))
  same_left {xs} {ys} h (Then front Descendant c) is = ancestor_seen front xs ∙ (ap (list_any (λ b. b)) (h.seen_by front (closed.fronts front Descendant c is)) ∙ sym (ancestor_seen front ys))

  pub same_matches : (e : Element) {xs ys : List Element} → Alike xs ys → (node : Path) → IsNode node → matches node e xs ≡ matches node e ys
  same_matches e h node is = ap (λ b. all_hold (last_compound node) e && b) (same_left h node is)

  module _ (esi : Bool) where
    -- the answer to a start tag of an element
    abbrev pub started : Element → List Element → Answer
    started e outer = started_if s esi e outer (is_dropped s e outer)

    -- elements of which the nodes say the same are answered alike
    module _ (x y : Element) (xs ys : List Element)
        (content : has_content esi x.tag ≡ has_content esi y.tag) (html : is_html x.tag.namespace ≡ is_html y.tag.namespace) (dropped : asks s x xs ≡ asks s y ys → is_dropped s x xs ≡ is_dropped s y ys)
        (left : (node : Path) → IsNode node → left_matches node xs ≡ left_matches node ys)
        (needs : (node : Path) → IsNode node → needs_attributes x xs node ≡ needs_attributes y ys node)
        (matching : (node : Path) → IsNode node → matches node x xs ≡ matches node y ys) where
      same_asks : asks s x xs ≡ asks s y ys
      same_asks = λ i. not (html i) || any_same (needs_attributes x xs) (needs_attributes y ys) s.nodes (λ node a. needs node (contains_from_among s.nodes node a)) i

      pub same_dropped : is_dropped s x xs ≡ is_dropped s y ys
      same_dropped = dropped same_asks

      same_ids : matching_ids s.pairs x xs ≡ matching_ids s.pairs y ys
      same_ids =
          ap (λ (pairs : List (Path × ℕ)). ascending_once (map (λ (p : Path × ℕ). p.1) pairs))
          (filter_same (λ (p : Path × ℕ). matches p.0 x xs) (λ (p : Path × ℕ). matches p.0 y ys) s.pairs (λ p a. matching p.0 (closed.paths p.0 p.1 (contains_from_among s.pairs p a))))

      same_report : report s esi x xs ≡ report s esi y ys
      same_report = λ i. map (λ id. record { id = id; with_content = content i }) (same_ids i)

      -- and where they try the same nodes
      module _ (tried : (node : Path) → IsNode node → is_tried s x xs node ≡ is_tried s y ys node) where
        same_name_tries : name_tries s x xs ≡ name_tries s y ys
        same_name_tries = count_same (is_tried s x xs) (is_tried s y ys) s.nodes (λ node a. tried node (contains_from_among s.nodes node a))

        same_attribute_tries : attribute_tries s x xs ≡ attribute_tries s y ys
        same_attribute_tries =
            count_same (is_tried_open s x xs) (is_tried_open s y ys) s.nodes
            (λ node a. let is = contains_from_among s.nodes node a in
            tried_needs s x xs node ∙ ((λ i. tried node is i && needs node is i) ∙ sym (tried_needs s y ys node)))

        pub same_started : started x xs ≡ started y ys
        same_started = λ i. cond (same_dropped i) Dropped (Started (same_report i) (same_asks i) (same_name_tries i) (same_attribute_tries i))

    -- 4. Documents that no node tells apart

    pub record AlikeDocuments (d g : Document) : Type 0 where
      pub events : d.events ≡ g.events
      pub children : d.children ≡ g.children
      pub open_elements : Alike d.open_elements g.open_elements

    pub same_element : (d g : Document) (tag : StartTag) → AlikeDocuments d g → element_of d tag ≡ element_of g tag
    same_element d g tag h =
        let parents = same_parents h.open_elements in
        λ i. record {
          number = h.events i;
          tag = tag;
          position = children_of (parents i) (h.children i) + 1;
          typed_position = typed_children_of (parents i) tag.name (h.children i) + 1;
        }

    pub same_needs : (e : Element) {xs ys : List Element} → Alike xs ys → (node : Path) → IsNode node → needs_attributes e xs node ≡ needs_attributes e ys node
    same_needs e h node is = ap (λ b. b && is_open (by_names (last_compound node) e)) (same_left h node is)

    same_at_once : (e : Element) {xs ys : List Element} → Alike xs ys → asks_at_once node_keys s.nodes e xs ≡ asks_at_once node_keys s.nodes e ys
    same_at_once e {xs} {ys} h =
        λ i. not (is_html e.tag.namespace)
        || any_same (is_left_open node_keys e xs) (is_left_open node_keys e ys) s.nodes
        (λ node a. ap (λ b. (b && not (is_ruled_out_by_name (node_keys node) e)) && (node_keys node).opens) (same_left h node (contains_from_among s.nodes node a))) i

    same_tried : (e : Element) {xs ys : List Element} → Alike xs ys → (node : Path) → IsNode node → is_tried s e xs node ≡ is_tried s e ys node
    same_tried e {xs} {ys} h node is =
        λ i. cond s.by_keys
        ((same_left h node is i && not (is_ruled_out_by_name (node_keys node) e)) && not (same_at_once e h i && is_ruled_out_by_attributes (node_keys node) e))
        (same_left h node is i)

    pub same_answer : (d g : Document) (event : Event) → AlikeDocuments d g → answer s esi d event ≡ answer s esi g event
    same_answer d g (Start tag) h =
        let e = element_of g tag in
        ap (λ x. started x d.open_elements) (same_element d g tag h)
        ∙ same_started e e d.open_elements g.open_elements refl refl (λ is i. is i && not tag.finish) (same_left h.open_elements) (same_needs e h.open_elements)
        (same_matches e h.open_elements) (same_tried e h.open_elements)
    same_answer d g (End name) h =
        ap (λ (ns : List ℕ). Ended (reverse ns))
        (ap (λ o. map (λ (e : Element). e.number) (inner_part o d.open_elements)) (same_index name h.open_elements)
        ∙ same_closed (index_of name g.open_elements) h.open_elements)

    pub alike_opened : (x y : Element) (xs ys : List Element) → x.number ≡ y.number → x.tag.name ≡ y.tag.name → ((node : Path) → IsNode node → matches node x xs ≡ matches node y ys) → Alike xs ys
        → (a b : Bool) → a ≡ b → Alike (cond a (x ∷ xs) xs) (cond b (y ∷ ys) ys)
    alike_opened x y xs ys number name matching h true true is = record { numbers = λ i. number i ∷ h.numbers i; names = λ i. name i ∷ h.names i; seen_by = λ node is i. matching node is i ∷ h.seen_by node is i }
    alike_opened x y xs ys number name matching h false false is = h
    alike_opened x y xs ys number name matching h true false is = cc
    alike_opened x y xs ys number name matching h false true is = cc

    pub alike_after : (d g : Document) (event : Event) → AlikeDocuments d g → AlikeDocuments (after s esi d event) (after s esi g event)
    alike_after d g (Start tag) h =
        let e = element_of g tag in
        let here = same_element d g tag h in
        let parents = same_parents h.open_elements in
        let left = same_left h.open_elements in
        let dropped : is_dropped s (element_of d tag) d.open_elements ≡ is_dropped s e g.open_elements =
        ap (λ x. is_dropped s x d.open_elements) here
        ∙ same_dropped e e d.open_elements g.open_elements refl refl (λ is i. is i && not tag.finish) left (same_needs e h.open_elements) (same_matches e h.open_elements) in
        record {
          events = ap (λ n. n + 1) h.events;
          children = λ i. record { parent = parents i; name = tag.name } ∷ h.children i;
          open_elements = alike_opened (element_of d tag) e d.open_elements g.open_elements h.events refl
              (λ node is. ap (λ x. matches node x d.open_elements) here ∙ same_matches e h.open_elements node is) h.open_elements
              _ _ (ap (λ b. has_content esi tag && not b) dropped);
        }
    alike_after d g (End name) h =
        let index = index_of name g.open_elements in
        record {
          events = ap (λ n. n + 1) h.events;
          children = h.children;
          open_elements = subst (λ o. Alike (outer_part o d.open_elements) (outer_part index g.open_elements)) (sym (same_index name h.open_elements)) (alike_outer index h.open_elements);
        }
      where
        alike_outer : (o : Option ℕ) {xs ys : List Element} → Alike xs ys → Alike (outer_part o xs) (outer_part o ys)
        alike_outer None h = h
        alike_outer (Some k) h = alike_drop (k + 1) h

    pub documents_trans : (d f g : Document) → AlikeDocuments d f → AlikeDocuments f g → AlikeDocuments d g
    documents_trans d f g h k =
        let a = h.open_elements in
        let b = k.open_elements in
        record {
          events = h.events ∙ k.events;
          children = h.children ∙ k.children;
          open_elements = record { numbers = a.numbers ∙ b.numbers; names = a.names ∙ b.names; seen_by = λ node is. a.seen_by node is ∙ b.seen_by node is };
        }

    pub documents_self : (d : Document) → AlikeDocuments d d
    documents_self d = record { events = refl; children = refl; open_elements = alike_self d.open_elements }

    pub same_depth : (d g : Document) → AlikeDocuments d g → length d.open_elements ≡ length g.open_elements
    same_depth d g h = sym (length-map d.open_elements (λ (e : Element). e.number)) ∙ (ap length h.open_elements.numbers ∙ length-map g.open_elements (λ (e : Element). e.number))

    pub same_position : (d g : Document) (tag other : StartTag) → AlikeDocuments d g → (element_of d tag).position ≡ (element_of g other).position
    same_position d g tag other h = λ i. children_of (same_parents h.open_elements i) (h.children i) + 1

    -- 5. A start tag whose attributes aren't asked for, or that is dropped, and one of its name with another rest

    module _ (d : Document) (tag : StartTag) (attributes : List Attribute) (self_closing finish : Bool) where
      abbrev e : Element
      e = element_of d tag

      abbrev changed : StartTag
      changed = record { name = tag.name; namespace = tag.namespace; attributes = attributes; self_closing = self_closing; finish = finish }

      abbrev other : Element
      other = element_of d changed

      needs_alike : (node : Path) → IsNode node → needs_attributes e d.open_elements node ≡ needs_attributes other d.open_elements node
      needs_alike node is = ap (λ v. left_matches node d.open_elements && is_open v) (sym (values_are_by_names (last_compound node) e attributes self_closing finish))

      asks_alike : asks s e d.open_elements ≡ asks s other d.open_elements
      asks_alike = λ i. not (is_html tag.namespace) || any_same (needs_attributes e d.open_elements) (needs_attributes other d.open_elements) s.nodes (λ node a. needs_alike node (contains_from_among s.nodes node a)) i

      module _ (unasked : asks s e d.open_elements ≡ false) where
        none_needs : list_any (needs_attributes e d.open_elements) s.nodes ≡ false
        none_needs = not_true (list_any (needs_attributes e d.open_elements) s.nodes) (λ some. let asked = or_of (not (is_html tag.namespace)) _ (inr some) in cc)

        pub matched_alike : (node : Path) → IsNode node → matches node e d.open_elements ≡ matches node other d.open_elements
        matched_alike node is =
            decided (by_names (last_compound node) e) (all_hold (last_compound node) e) (all_hold (last_compound node) other) (left_matches node d.open_elements)
            (values_decide (last_compound node) e tag.attributes tag.self_closing tag.finish)
            (values_decide (last_compound node) e attributes self_closing finish)
            (none_passes (needs_attributes e d.open_elements) s.nodes node none_needs (among_from_contains s.nodes node is))

        -- it is of HTML, where the end of a tag tells nothing
        content_alike : has_content esi tag ≡ has_content esi changed
        content_alike = by_namespace tag.namespace (λ foreign. let asked = or_of (not (is_html tag.namespace)) _ (inl (ap not foreign)) in true≢false (sym asked ∙ unasked))
          where
            by_namespace : (namespace : Namespace) → (is_html namespace ≡ false → ⊥) → has_content_in namespace esi tag ≡ has_content_in namespace esi changed
            by_namespace Html html = refl
            by_namespace Svg html = absurd (html refl)
            by_namespace MathML html = absurd (html refl)

        dropped_alike : asks s e d.open_elements ≡ asks s other d.open_elements → is_dropped s e d.open_elements ≡ is_dropped s other d.open_elements
        dropped_alike same = (λ i. unasked i && not tag.finish) ∙ sym (λ i. (sym same ∙ unasked) i && not finish)

        later : asks_at_once node_keys s.nodes e d.open_elements ≡ false
        later = not_true (asks_at_once node_keys s.nodes e d.open_elements) (λ now. true≢false (sym (at_once_asks s e d.open_elements now) ∙ unasked))

        tried_alike : (node : Path) → IsNode node → is_tried s e d.open_elements node ≡ is_tried s other d.open_elements node
        tried_alike node is =
            (λ i. cond s.by_keys (is_left node_keys (later i) e d.open_elements node) (left_matches node d.open_elements))
            ∙ sym (λ i. cond s.by_keys (is_left node_keys (later i) other d.open_elements node) (left_matches node d.open_elements))

        pub unasked_answered : answer s esi d (Start changed) ≡ answer s esi d (Start tag)
        unasked_answered = sym (same_started e other d.open_elements d.open_elements content_alike refl dropped_alike (λ node is. refl) needs_alike matched_alike tried_alike)

        pub unasked_after : AlikeDocuments (after s esi d (Start changed)) (after s esi d (Start tag))
        unasked_after = record {
          events = refl;
          children = refl;
          open_elements = alike_opened other e d.open_elements d.open_elements refl refl (λ node is. sym (matched_alike node is)) (alike_self d.open_elements) _ _
              (sym (λ i. content_alike i && not (dropped_alike asks_alike i)));
        }

      module _ (asked : asks s e d.open_elements ≡ true) (unfinished : tag.finish ≡ false) (still : finish ≡ false) where
        drops : is_dropped s e d.open_elements ≡ true
        drops = λ i. asked i && not (unfinished i)

        other_drops : is_dropped s other d.open_elements ≡ true
        other_drops = λ i. (sym asks_alike ∙ asked) i && not (still i)

        pub dropped_answered : answer s esi d (Start changed) ≡ answer s esi d (Start tag)
        dropped_answered = ap (started_if s esi other d.open_elements) other_drops ∙ sym (ap (started_if s esi e d.open_elements) drops)

        opened_alike : (a b : Bool) → a ≡ false → b ≡ false → Alike (cond a (other ∷ d.open_elements) d.open_elements) (cond b (e ∷ d.open_elements) d.open_elements)
        opened_alike false false h h' = alike_self d.open_elements
        opened_alike true b h h' = cc
        opened_alike false true h h' = cc

        pub dropped_after : AlikeDocuments (after s esi d (Start changed)) (after s esi d (Start tag))
        dropped_after = record {
          events = refl;
          children = refl;
          open_elements = opened_alike _ _ ((λ i. has_content esi changed && not (other_drops i)) ∙ and-false (has_content esi changed)) ((λ i. has_content esi tag && not (drops i)) ∙ and-false (has_content esi tag));
        }
