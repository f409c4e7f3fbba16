-- What a run is told is explained as the tags are.
use Rattle.std.proofs.Common.{◌≡◌, ℕ, zero, suc, ◌+◌, Bool, true, false, cond, not, List, [], ◌∷◌, ◌++◌, map, drop, position, Option, Some, None, inl, inr, refl, sym, ap, ◌∙◌, subst, Contains, true≢false, ◌&&◌, ◌||◌, ◌⊎◌, arith}
use Rattle.std.specs.List.{cons_option, list_any}
use Rattle.std.specs.Prelude.{filter_map, is_some, if◌then◌else◌}
use Rattle.std.specs.Option.{option_map}
use Rattle.lol_base.specs.BoolLaws.{not_true, or_of}
use Rattle.lol_base.specs.ListLaws.{position-map}
use Rattle.lol_base.specs.MemberLaws.{Among, among_from_contains, any_among, contains_from_among}
use Rattle.lol_base.specs.Names.{same_name}
use Rattle.lol_base.specs.StartTags.{StartTag}
use Rattle.lol_base.specs.declared.namespace.Namespace.{Namespace}
use Rattle.lol_base.specs.declared.namespace.Namespace.TheVariants.{Html, Svg, MathML}
use Rattle.lol_css.specs.declared.selector.Combinator.TheVariants.{Child, Descendant}
use Rattle.lol_instructions.specs.Compounds.{Decides, all_hold, by_names, is_open}
use Rattle.lol_instructions.specs.Tests.{Element, is_html}
use Rattle.lol_instructions.specs.declared.name_value.NameValue.{NameValue}
use Rattle.lol_instructions.specs.declared.name_value.NameValue.TheVariants.{True, False, Open}
use Rattle.lol_reasons.specs.AskedRuns.{AreTold, AreToldFrom, AskedRunsAnswerAlike, IsToldOf, ToldGoesOn, bare_tag}
use Rattle.lol_program.specs.Paths.{Path, First, Then, Selectors, last_compound}
use Rattle.lol_program.specs.Programs.{AreClosed}
use Rattle.lol_program.specs.ValueLaws.{values_are_by_names, values_decide}
use Rattle.lol_reasons.specs.Explanations.{Added, Reason, explanations_from, reason_by, reason_of, reasons, reasons_at}
use Rattle.lol_reasons.specs.Numbered.{numbered_from}
use Rattle.lol_reasons.specs.WitnessLaws.{InnermostIsKnown, InnermostWhereMatches}
use Rattle.lol_reasons.specs.Witnesses.{given_at_nearest, given_at_parent, innermost_witness, known_witness, step_gives}
use Rattle.lol_machine.specs.AnswerLaws.{document_push}
use Rattle.lol_machine.specs.Answers.{Answer, Match, Started, Dropped, after, answer, asks, document, is_dropped, needs_attributes}
use Rattle.lol_machine.specs.Documents.{Document, children_of, element_of, empty, index_of, outer_part, parent_of, typed_children_of}
use Rattle.lol_machine.specs.Events.{Event, Start, End, has_content, has_content_in}
use Rattle.lol_machine.specs.Matching.{left_matches, matches, parent_passes, some_ancestor_passes}

-- an answer that isn't another kind
same_kind : (b c : Bool) (m n : List Match) (x y : Bool) (i j k l : ℕ) → (if b then Dropped else Started m x i j) ≡ (if c then Dropped else Started n y k l) → b ≡ c
same_kind true true m n x y i j k l is = refl
same_kind false false m n x y i j k l is = refl
same_kind true false m n x y i j k l is = cc
same_kind false true m n x y i j k l is = cc

-- a test that isn't open is decided alike
decided : (v : NameValue) (a b left : Bool) → Decides v a → Decides v b → (left && is_open v) ≡ false → (a && left) ≡ (b && left)
decided True a b left h h' none = ap (λ c. c && left) (h ∙ sym h')
decided False a b left h h' none = ap (λ c. c && left) (h ∙ sym h')
decided Open a b true h h' none = cc
decided Open true true false h h' none = refl
decided Open true false false h h' none = refl
decided Open false true false h h' none = refl
decided Open false false false h h' none = refl

module _ (s : Selectors) (closed : AreClosed s) where
  abbrev IsNode : Path → Type 0
  IsNode path = Contains s.nodes path

  -- 1. Open elements that no node tells apart

  abbrev Alike : List Element → List Element → Type 0
  Alike [] [] = Unit {0}
  Alike [] (y ∷ ys) = ⊥
  Alike (x ∷ xs) [] = ⊥
  Alike (x ∷ xs) (y ∷ ys) = (x.number ≡ y.number) × (x.tag.name ≡ y.tag.name) × ((node : Path) → IsNode node → matches node x xs ≡ matches node y ys) × Alike xs ys

  same_parents : (xs ys : List Element) → Alike xs ys → parent_of xs ≡ parent_of ys
  same_parents [] [] h = refl
  same_parents [] (y ∷ ys) h = absurd h
  same_parents (x ∷ xs) [] h = absurd h
  same_parents (x ∷ xs) (y ∷ ys) h = ap Some h.0

  same_names : (xs ys : List Element) → Alike xs ys → map (λ (e : Element). e.tag.name) xs ≡ map (λ (e : Element). e.tag.name) ys
  same_names [] [] h = refl
  same_names [] (y ∷ ys) h = absurd h
  same_names (x ∷ xs) [] h = absurd h
  same_names (x ∷ xs) (y ∷ ys) h = λ i. h.1 i ∷ same_names xs ys h.3 i

  same_index : (name : List ℕ) (xs ys : List Element) → Alike xs ys → index_of name xs ≡ index_of name ys
  same_index name xs ys h =
      sym (position-map (λ (n : List ℕ). same_name n name) (λ (e : Element). e.tag.name) xs)
      ∙ (ap (position (λ (n : List ℕ). same_name n name)) (same_names xs ys h) ∙ position-map (λ (n : List ℕ). same_name n name) (λ (e : Element). e.tag.name) ys)

  alike_drop : (n : ℕ) (xs ys : List Element) → Alike xs ys → Alike (drop n xs) (drop n ys)
  alike_drop zero xs ys h = h
  alike_drop (suc n) [] [] h = h
  alike_drop (suc n) [] (y ∷ ys) h = absurd h
  alike_drop (suc n) (x ∷ xs) [] h = absurd h
  alike_drop (suc n) (x ∷ xs) (y ∷ ys) h = alike_drop n xs ys h.3

  alike_outer : (o : Option ℕ) (xs ys : List Element) → Alike xs ys → Alike (outer_part o xs) (outer_part o ys)
  alike_outer None xs ys h = h
  alike_outer (Some k) xs ys h = alike_drop (k + 1) xs ys h

  same_parent : (front : Path) → IsNode front → (xs ys : List Element) → Alike xs ys → parent_passes (matches front) xs ≡ parent_passes (matches front) ys
  same_parent front is [] [] h = refl
  same_parent front is [] (y ∷ ys) h = absurd h
  same_parent front is (x ∷ xs) [] h = absurd h
  same_parent front is (x ∷ xs) (y ∷ ys) h = h.2 front is

  same_ancestor : (front : Path) → IsNode front → (xs ys : List Element) → Alike xs ys → some_ancestor_passes (matches front) xs ≡ some_ancestor_passes (matches front) ys
  same_ancestor front is [] [] h = refl
  same_ancestor front is [] (y ∷ ys) h = absurd h
  same_ancestor front is (x ∷ xs) [] h = absurd h
  same_ancestor front is (x ∷ xs) (y ∷ ys) h = λ i. h.2 front is i || same_ancestor front is xs ys h.3 i

  same_left : (xs ys : List Element) → Alike xs ys → (node : Path) → IsNode node → left_matches node xs ≡ left_matches node ys
  same_left xs ys h (First c) is = refl
  same_left xs ys h (Then front Child c) is = same_parent front (closed.fronts front Child c is) xs ys h
  same_left xs ys h (Then front Descendant c) is = same_ancestor front (closed.fronts front Descendant c is) xs ys h

  -- 2. Witnesses

  -- the path before a step has the same witness at elements that no node tells apart
  abbrev KnownAlike : Path → Type 0
  KnownAlike path = (x y : Element) (xs ys : List Element) → x.number ≡ y.number → Alike xs ys → known_witness matches path x xs ≡ known_witness matches path y ys

  known_parent : (front : Path) → KnownAlike front → (xs ys : List Element) → Alike xs ys
      → given_at_parent (λ a around. known_witness matches front a around) xs ≡ given_at_parent (λ a around. known_witness matches front a around) ys
  known_parent front own [] [] h = refl
  known_parent front own [] (y ∷ ys) h = absurd h
  known_parent front own (x ∷ xs) [] h = absurd h
  known_parent front own (x ∷ xs) (y ∷ ys) h = own x y xs ys h.0 h.3

  known_nearest : (front : Path) → IsNode front → KnownAlike front → (xs ys : List Element) → Alike xs ys
      → given_at_nearest (λ a around. matches front a around) (λ a around. known_witness matches front a around) xs
      ≡ given_at_nearest (λ a around. matches front a around) (λ a around. known_witness matches front a around) ys
  known_nearest front is own [] [] h = refl
  known_nearest front is own [] (y ∷ ys) h = absurd h
  known_nearest front is own (x ∷ xs) [] h = absurd h
  known_nearest front is own (x ∷ xs) (y ∷ ys) h = λ i. if h.2 front is i then own x y xs ys h.0 h.3 i else known_nearest front is own xs ys h.3 i

  known_alike : (path : Path) → IsNode path → KnownAlike path
  known_alike (First c) is x y xs ys number h = ap (λ n. n ∷ []) number
  known_alike (Then front Child c) is x y xs ys number h = λ i. number i ∷ known_parent front (known_alike front (closed.fronts front Child c is)) xs ys h i
  known_alike (Then front Descendant c) is x y xs ys number h =
      λ i. number i ∷ known_nearest front (closed.fronts front Descendant c is) (known_alike front (closed.fronts front Descendant c is)) xs ys h i

  module _ (known : InnermostIsKnown) (found : InnermostWhereMatches) where
    none_found : (o : Option (List ℕ)) → is_some o ≡ false → o ≡ None
    none_found None is = refl
    none_found (Some w) is = cc

    witness_alike : (path : Path) → IsNode path → (x y : Element) (xs ys : List Element) → x.number ≡ y.number → matches path x xs ≡ matches path y ys → Alike xs ys
        → innermost_witness path x xs ≡ innermost_witness path y ys
    witness_alike path is x y xs ys number same h = by_match (matches path x xs) refl
      where
        by_match : (b : Bool) → matches path x xs ≡ b → innermost_witness path x xs ≡ innermost_witness path y ys
        by_match true fits = known path x xs fits ∙ (ap Some (known_alike path is x y xs ys number h) ∙ sym (known path y ys (sym same ∙ fits)))
        by_match false fits = none_found _ (found path x xs ∙ fits) ∙ sym (none_found _ (found path y ys ∙ (sym same ∙ fits)))

    -- each of what was added is a node's
    abbrev AreNodesOf : List Added → Type 0
    AreNodesOf [] = Unit {0}
    AreNodesOf (a ∷ added) = IsNode a.path × AreNodesOf added

    reasons_alike : (added : List Added) → AreNodesOf added → (x y : Element) (xs ys : List Element) → x.number ≡ y.number → ((node : Path) → IsNode node → matches node x xs ≡ matches node y ys) → Alike xs ys
        → reasons added x xs ≡ reasons added y ys
    reasons_alike [] are x y xs ys number same h = refl
    reasons_alike (a ∷ added) are x y xs ys number same h =
        λ i. cons_option (option_map (reason_by a) (witness_alike a.path are.0 x y xs ys number (same a.path are.0) h i)) (reasons_alike added are.1 x y xs ys number same h i)

    -- 3. Documents that no node tells apart

    record AlikeDocuments (d g : Document) : Type 0 where
      pub events : d.events ≡ g.events
      pub children : d.children ≡ g.children
      pub open_elements : Alike d.open_elements g.open_elements

    same_element : (d g : Document) (tag : StartTag) → AlikeDocuments d g → element_of d tag ≡ element_of g tag
    same_element d g tag h =
        let parents = same_parents d.open_elements g.open_elements h.open_elements in
        λ i. record {
          number = h.events i;
          tag = tag;
          position = children_of (parents i) (h.children i) + 1;
          typed_position = typed_children_of (parents i) tag.name (h.children i) + 1;
        }

    matched_alike : (d g : Document) (tag : StartTag) → AlikeDocuments d g → (node : Path) → IsNode node → matches node (element_of d tag) d.open_elements ≡ matches node (element_of g tag) g.open_elements
    matched_alike d g tag h node is =
        λ i. all_hold (last_compound node) (same_element d g tag h i) && same_left d.open_elements g.open_elements h.open_elements node is i

    opened_alike : (x y : Element) (xs ys : List Element) → x.number ≡ y.number → x.tag.name ≡ y.tag.name → ((node : Path) → IsNode node → matches node x xs ≡ matches node y ys) → Alike xs ys
        → (a b : Bool) → a ≡ b → Alike (cond a (x ∷ xs) xs) (cond b (y ∷ ys) ys)
    opened_alike x y xs ys number name same h true true is = (number, name, same, h)
    opened_alike x y xs ys number name same h false false is = h
    opened_alike x y xs ys number name same h true false is = cc
    opened_alike x y xs ys number name same h false true is = cc

    module _ (esi : Bool) (d g : Document) (h : AlikeDocuments d g) (answered : (event : Event) → answer s esi d event ≡ answer s esi g event) where
      same_drop : (tag : StartTag) → is_dropped s (element_of d tag) d.open_elements ≡ is_dropped s (element_of g tag) g.open_elements
      same_drop tag = same_kind _ _ _ _ _ _ _ _ _ _ (answered (Start tag))

      -- a tag that is told as it is
      told_same : (event : Event) → AlikeDocuments (after s esi d event) (after s esi g event)
      told_same (Start tag) = record {
        events = ap (λ n. n + 1) h.events;
        children = λ i. record { parent = same_parents d.open_elements g.open_elements h.open_elements i; name = tag.name } ∷ h.children i;
        open_elements = opened_alike (element_of d tag) (element_of g tag) d.open_elements g.open_elements h.events refl (matched_alike d g tag h) h.open_elements _ _ (ap (λ b. has_content esi tag && not b) (same_drop tag));
      }
      told_same (End name) = record {
        events = ap (λ n. n + 1) h.events;
        children = h.children;
        open_elements = subst (λ o. Alike (outer_part o d.open_elements) (outer_part (index_of name g.open_elements) g.open_elements)) (sym (same_index name d.open_elements g.open_elements h.open_elements))
            (alike_outer (index_of name g.open_elements) d.open_elements g.open_elements h.open_elements);
      }

      explained_same : (added : List Added) → AreNodesOf added → (event : Event) → reasons_at s added d event ≡ reasons_at s added g event
      explained_same added are (Start tag) =
          λ i. if same_drop tag i then [] else reasons_alike added are (element_of d tag) (element_of g tag) d.open_elements g.open_elements h.events (matched_alike d g tag h) h.open_elements i
      explained_same added are (End name) = refl

      -- one that is told by its name and its namespace
      module _ (tag : StartTag) (bared : (asks s (element_of d tag) d.open_elements && tag.finish) ≡ false) where
        abbrev bare : StartTag
        bare = bare_tag tag.name tag.namespace

        abbrev x : Element
        x = element_of d bare

        abbrev own : Element
        own = element_of d tag

        needs_alike : (node : Path) → needs_attributes x d.open_elements node ≡ needs_attributes own d.open_elements node
        needs_alike node = ap (λ v. left_matches node d.open_elements && is_open v) (values_are_by_names (last_compound node) own [] false false)

        asks_alike : asks s x d.open_elements ≡ asks s own d.open_elements
        asks_alike = λ i. not (is_html tag.namespace) || list_any (λ node. needs_alike node i) s.nodes

        module _ (unasked : asks s own d.open_elements ≡ false) where
          none_needs : (node : Path) → IsNode node → needs_attributes own d.open_elements node ≡ false
          none_needs node is =
              not_true _ (λ needs. true≢false (sym (or_of (not (is_html tag.namespace)) _ (inr (any_among (needs_attributes own d.open_elements) s.nodes node (among_from_contains s.nodes node is) needs))) ∙ unasked))

          bare_matches : (node : Path) → IsNode node → matches node x d.open_elements ≡ matches node own d.open_elements
          bare_matches node is =
              decided (by_names (last_compound node) own) (all_hold (last_compound node) x) (all_hold (last_compound node) own) (left_matches node d.open_elements)
              (values_decide (last_compound node) own [] false false) (values_decide (last_compound node) own tag.attributes tag.self_closing tag.finish) (none_needs node is)

          same_content : has_content esi bare ≡ has_content esi tag
          same_content = by_namespace tag.namespace (λ foreign. true≢false (sym (or_of (not (is_html tag.namespace)) _ (inl (ap not foreign))) ∙ unasked))
            where
              by_namespace : (namespace : Namespace) → (is_html namespace ≡ false → ⊥) → has_content_in namespace esi bare ≡ has_content_in namespace esi tag
              by_namespace Html html = refl
              by_namespace Svg html = absurd (html refl)
              by_namespace MathML html = absurd (html refl)

        -- dropped alike
        drops_alike : is_dropped s x d.open_elements ≡ is_dropped s (element_of g tag) g.open_elements
        drops_alike = by_ask (asks s own d.open_elements) refl ∙ same_drop tag
          where
            by_ask : (asked : Bool) → asks s own d.open_elements ≡ asked → is_dropped s x d.open_elements ≡ is_dropped s own d.open_elements
            by_ask true asked =
                let unfinished : tag.finish ≡ false = sym (ap (λ b. b && tag.finish) asked) ∙ bared in
                (λ i. asks_alike i && true) ∙ ap (λ b. asks s own d.open_elements && not b) (sym unfinished)
            by_ask false asked = (λ i. (asks_alike ∙ asked) i && true) ∙ sym (λ i. asked i && not tag.finish)

        -- an element that is opened is seen alike
        seen_alike : is_dropped s x d.open_elements ≡ false → (node : Path) → IsNode node → matches node x d.open_elements ≡ matches node (element_of g tag) g.open_elements
        seen_alike kept node is =
            let unasked : asks s own d.open_elements ≡ false = not_true _ (λ asked. true≢false (sym (λ i. (asks_alike ∙ asked) i && true) ∙ kept)) in
            bare_matches unasked node is ∙ matched_alike d g tag h node is

        opens_alike : (drop other : Bool) → is_dropped s x d.open_elements ≡ drop → drop ≡ other
            → Alike (cond (has_content esi bare && not drop) (x ∷ d.open_elements) d.open_elements) (cond (has_content esi tag && not other) (element_of g tag ∷ g.open_elements) g.open_elements)
        opens_alike true true is same = opened_none (has_content esi bare) (has_content esi tag)
          where
            opened_none : (a b : Bool) → Alike (cond (a && false) (x ∷ d.open_elements) d.open_elements) (cond (b && false) (element_of g tag ∷ g.open_elements) g.open_elements)
            opened_none true true = h.open_elements
            opened_none true false = h.open_elements
            opened_none false true = h.open_elements
            opened_none false false = h.open_elements
        opens_alike false false is same =
            let unasked : asks s own d.open_elements ≡ false = not_true _ (λ asked. true≢false (sym (λ i. (asks_alike ∙ asked) i && true) ∙ is)) in
            opened_alike x (element_of g tag) d.open_elements g.open_elements h.events refl (seen_alike is) h.open_elements _ _ (ap (λ b. b && true) (same_content unasked))
        opens_alike true false is same = cc
        opens_alike false true is same = cc

        told_bare : AlikeDocuments (after s esi d (Start bare)) (after s esi g (Start tag))
        told_bare = record {
          events = ap (λ n. n + 1) h.events;
          children = λ i. record { parent = same_parents d.open_elements g.open_elements h.open_elements i; name = tag.name } ∷ h.children i;
          open_elements = opens_alike (is_dropped s x d.open_elements) (is_dropped s (element_of g tag) g.open_elements) refl drops_alike;
        }

        explained_bare : (added : List Added) → AreNodesOf added → reasons_at s added d (Start bare) ≡ reasons_at s added g (Start tag)
        explained_bare added are = by_drop (is_dropped s x d.open_elements) (is_dropped s (element_of g tag) g.open_elements) refl drops_alike
          where
            by_drop : (drop other : Bool) → is_dropped s x d.open_elements ≡ drop → drop ≡ other
                → (if drop then [] else reasons added x d.open_elements) ≡ (if other then [] else reasons added (element_of g tag) g.open_elements)
            by_drop true true is same = refl
            by_drop false false is same = reasons_alike added are x (element_of g tag) d.open_elements g.open_elements h.events (seen_alike is) h.open_elements
            by_drop true false is same = cc
            by_drop false true is same = cc

      -- what is told of an event
      after_told : (event t : Event) → IsToldOf s d event t → AlikeDocuments (after s esi d t) (after s esi g event)
      after_told event t (inl is) = subst (λ e. AlikeDocuments (after s esi d e) (after s esi g event)) (sym is) (told_same event)
      after_told (Start tag) t (inr bared) = subst (λ e. AlikeDocuments (after s esi d e) (after s esi g (Start tag))) (sym bared.0) (told_bare tag bared.1)
      after_told (End name) t (inr bared) = absurd bared

      explained_told : (added : List Added) → AreNodesOf added → (event t : Event) → IsToldOf s d event t → reasons_at s added d t ≡ reasons_at s added g event
      explained_told added are event t (inl is) = ap (reasons_at s added d) is ∙ explained_same added are event
      explained_told added are (Start tag) t (inr bared) = ap (reasons_at s added d) bared.0 ∙ explained_bare tag bared.1 added are
      explained_told added are (End name) t (inr bared) = absurd bared

    -- 4. Runs

    module _ (esi : Bool) (added : List Added) (are : AreNodesOf added) (goes_on : ToldGoesOn) (alike : (events told : List Event) → AreTold s esi events told → (event : Event) → answer s esi (document s esi told) event ≡ answer s esi (document s esi events) event) where
      explained_from : (before came : List Event) → AreTold s esi before came → AlikeDocuments (document s esi came) (document s esi before)
          → (events told : List Event) → AreToldFrom s esi (document s esi came) events told → explanations_from s esi added (document s esi came) told ≡ explanations_from s esi added (document s esi before) events
      explained_from before came are_told h [] [] rest = refl
      explained_from before came are_told h [] (t ∷ told) rest = absurd rest
      explained_from before came are_told h (event ∷ events) [] rest = absurd rest
      explained_from before came are_told h (event ∷ events) (t ∷ told) rest =
          let d = document s esi came in
          let g = document s esi before in
          let answers = alike before came are_told in
          let next : document s esi (came ++ t ∷ []) ≡ after s esi d t = document_push s esi empty came t in
          let next' : document s esi (before ++ event ∷ []) ≡ after s esi g event = document_push s esi empty before event in
          let later = explained_from (before ++ event ∷ []) (came ++ t ∷ []) (goes_on s esi before came are_told event t rest.0)
          (subst (λ (e : Document). AlikeDocuments e (document s esi (before ++ event ∷ []))) (sym next) (subst (AlikeDocuments (after s esi d t)) (sym next') (after_told esi d g h answers event t rest.0)))
          events told (subst (λ (e : Document). AreToldFrom s esi e events told) (sym next) rest.1) in
          λ i. explained_told esi d g h answers added are event t rest.0 i
          ∷ ((λ j. explanations_from s esi added (sym next j) told) ∙ (later ∙ (λ j. explanations_from s esi added (next' j) events))) i

      pub explained_alike : (events told : List Event) → AreTold s esi events told → explanations_from s esi added empty told ≡ explanations_from s esi added empty events
      explained_alike events told are_told = explained_from [] [] tt (record { events = refl; children = refl; open_elements = tt }) events told are_told

    -- what stands under numbers is a node's
    pub numbered_nodes : (n : ℕ) (added : List Added) → ((path : Path) (id : ℕ) → Contains (numbered_from n added) (path, id) → IsNode path) → AreNodesOf added
    numbered_nodes n [] nodes = tt
    numbered_nodes n (a ∷ added) nodes = (
      nodes a.path n (contains_from_among (numbered_from n (a ∷ added)) (a.path, n) (inl refl)),
      numbered_nodes (n + 1) added (λ path id h. nodes path id (contains_from_among (numbered_from n (a ∷ added)) (path, id) (inr (among_from_contains (numbered_from (n + 1) added) (path, id) h)))),
    )
