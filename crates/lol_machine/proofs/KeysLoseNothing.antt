-- Keys lose nothing: what matches is tried, and what is tried asks for what is needed.
use Rattle.lol_machine.proofs.Common.{◌≡◌, Bool, true, false, cond, not, ◌&&◌, ◌||◌, List, refl, sym, ap, ◌∙◌, list_any, and_parts, and_of, same_bool, Element, is_html, Path, Selectors, last_compound, asks, is_tried, all_hold, left_matches, matches}
use Rattle.lol_instructions.specs.Compounds.{Decides, by_names, is_open}
use Rattle.lol_instructions.specs.Keys.{is_ruled_out_by_attributes, is_ruled_out_by_name}
use Rattle.lol_instructions.specs.declared.name_value.NameValue.{NameValue}
use Rattle.lol_instructions.specs.declared.name_value.NameValue.TheVariants.{True, False, Open}
use Rattle.lol_program.specs.ValueLaws.{values_decide}
use Rattle.lol_rows.specs.KeyLaws.{both_keys_are_right}
use Rattle.lol_machine.specs.Answers.{is_tried_open, needs_attributes}
use Rattle.lol_machine.specs.KeyTries.{asks_at_once, is_left, is_left_by_name, is_tried_by_keys, node_keys}
use Rattle.lol_machine.specs.TriedLaws.{any_weaker, tried_left}

-- 1. What is ruled out neither matches nor is open

not_false : (b : Bool) → (b ≡ true → ⊥) → not b ≡ true
not_false true h = absurd (h refl)
not_false false h = refl

module _ (e : Element) (outer : List Element) where
  -- a node whose compound holds isn't ruled out
  named_where_holds : (node : Path) → all_hold (last_compound node) e ≡ true → not (is_ruled_out_by_name (node_keys node) e) ≡ true
  named_where_holds node all =
      let c = last_compound node in
      not_false (is_ruled_out_by_name (node_keys node) e)
      (λ out. fails (by_names c e) ((both_keys_are_right c).by_name e out) (values_decide c e e.tag.attributes e.tag.self_closing e.tag.finish))
    where
      fails : (v : NameValue) → v ≡ False → Decides v (all_hold (last_compound node) e) → ⊥
      fails True h d = cc
      fails False h d = cc
      fails Open h d = cc

  has_where_holds : (node : Path) (b : Bool) → all_hold (last_compound node) e ≡ true → not (b && is_ruled_out_by_attributes (node_keys node) e) ≡ true
  has_where_holds node false all = refl
  has_where_holds node true all = not_false (is_ruled_out_by_attributes (node_keys node) e) (λ out. let fails = (both_keys_are_right (last_compound node)).by_attributes e out in cc)

  -- one whose value by names is open isn't ruled out by its name
  named_where_open : (node : Path) → is_open (by_names (last_compound node) e) ≡ true → not (is_ruled_out_by_name (node_keys node) e) ≡ true
  named_where_open node h = not_false (is_ruled_out_by_name (node_keys node) e)
      (λ out. let shut : is_open (by_names (last_compound node) e) ≡ false = ap is_open ((both_keys_are_right (last_compound node)).by_name e out) in cc)

  left_where_matches : (b : Bool) (path : Path) → matches path e outer ≡ true → is_left node_keys b e outer path ≡ true
  left_where_matches b path h =
      let parts = and_parts (all_hold (last_compound path) e) (left_matches path outer) h in
      and_of (is_left_by_name node_keys e outer path) (not (b && is_ruled_out_by_attributes (node_keys path) e))
      (and_of (left_matches path outer) (not (is_ruled_out_by_name (node_keys path) e)) parts.1 (named_where_holds path parts.0))
      (has_where_holds path b parts.0)

  -- where nothing is asked for at once, what needs attributes is left
  left_where_needs : (path : Path) → needs_attributes e outer path ≡ true → is_left node_keys false e outer path ≡ true
  left_where_needs path h =
      let parts = and_parts (left_matches path outer) (is_open (by_names (last_compound path) e)) h in
      and_of (is_left_by_name node_keys e outer path) true
      (and_of (left_matches path outer) (not (is_ruled_out_by_name (node_keys path) e)) parts.0 (named_where_open path parts.1)) refl

-- 2. What is tried

-- attributes aren't asked for before nodes are tried
abbrev pub NotAtOnce : Selectors → Element → List Element → Type 0
NotAtOnce s e outer = s.by_keys ≡ true → asks_at_once node_keys s.nodes e outer ≡ false

module _ (s : Selectors) (e : Element) (outer : List Element) where
  pub matching_tried : (path : Path) → matches path e outer ≡ true → is_tried s e outer path ≡ true
  matching_tried path h = by_keys s.by_keys
    where
      by_keys : (b : Bool) → cond b (is_tried_by_keys node_keys s.nodes e outer path) (left_matches path outer) ≡ true
      by_keys true = left_where_matches e outer (asks_at_once node_keys s.nodes e outer) path h
      by_keys false = (and_parts (all_hold (last_compound path) e) (left_matches path outer) h).1

  -- where nothing is asked for at once, what is tried asks for what is needed
  pub asks_tried : is_html e.tag.namespace ≡ true → NotAtOnce s e outer → list_any (is_tried_open s e outer) s.nodes ≡ asks s e outer
  asks_tried html later =
      same_bool _ _
      (any_weaker (is_tried_open s e outer) (needs_attributes e outer) (λ path h. let parts = and_parts (is_tried s e outer path) _ h in and_of (left_matches path outer) _ (tried_left s e outer path parts.0) parts.1) s.nodes)
      (any_weaker (needs_attributes e outer) (is_tried_open s e outer) tried s.nodes)
      ∙ (λ i. not (sym html i) || list_any (needs_attributes e outer) s.nodes)
    where
      tried : (path : Path) → needs_attributes e outer path ≡ true → is_tried_open s e outer path ≡ true
      tried path h = by_keys s.by_keys later
        where
          parts : (left_matches path outer ≡ true) × (is_open (by_names (last_compound path) e) ≡ true)
          parts = and_parts (left_matches path outer) (is_open (by_names (last_compound path) e)) h

          by_keys : (b : Bool) → (b ≡ true → asks_at_once node_keys s.nodes e outer ≡ false)
              → (cond b (is_tried_by_keys node_keys s.nodes e outer path) (left_matches path outer) && is_open (by_names (last_compound path) e)) ≡ true
          by_keys true later = and_of _ _ (ap (λ b. is_left node_keys b e outer path) (later refl) ∙ left_where_needs e outer path h) parts.1
          by_keys false later = h
