-- What is tried by keys, and what is asked for: what needs attributes, and no more.
use Rattle.std.proofs.Common.{◌≡◌, Bool, true, false, cond, not, ◌&&◌, ◌||◌, List, refl, sym, ap}
use Rattle.std.specs.List.{list_any}
use Rattle.lol_base.specs.BoolLaws.{and_parts, and_of}
use Rattle.lol_base.specs.MemberLaws.{among_any, any_among}
use Rattle.lol_instructions.specs.Tests.{Element, is_html}
use Rattle.lol_instructions.specs.Compounds.{by_names, is_open}
use Rattle.lol_instructions.specs.Keys.{is_ruled_out_by_name}
use Rattle.lol_program.specs.Paths.{Path, Selectors, last_compound}
use Rattle.lol_rows.specs.KeyLaws.{both_keys_are_right}
use Rattle.lol_machine.specs.Answers.{asks, is_tried, is_tried_open, needs_attributes}
use Rattle.lol_machine.specs.KeyTries.{asks_at_once, is_left_by_name, is_left_open, is_tried_by_keys, node_keys}
use Rattle.lol_machine.specs.Matching.{left_matches}

module _ (e : Element) (outer : List Element) where
  -- one that is known to be open needs attributes
  pub needs_where_open : (path : Path) → is_left_open node_keys e outer path ≡ true → needs_attributes e outer path ≡ true
  needs_where_open path h =
      let parts = and_parts (is_left_by_name node_keys e outer path) (node_keys path).opens h in
      let left = and_parts (left_matches path outer) (not (is_ruled_out_by_name (node_keys path) e)) parts.0 in
      let is = (both_keys_are_right (last_compound path)).opens e parts.1 (named (is_ruled_out_by_name (node_keys path) e) left.1) in
      and_of (left_matches path outer) (is_open (by_names (last_compound path) e)) left.0 (ap is_open is)
    where
      named : (b : Bool) → not b ≡ true → b ≡ false
      named true h = sym h
      named false h = refl

pub any_weaker : (p q : Path → Bool) → ((x : Path) → p x ≡ true → q x ≡ true) → (xs : List Path) → list_any p xs ≡ true → list_any q xs ≡ true
any_weaker p q weaker xs h = let found = among_any p xs h in any_among q xs found.0 found.1 (weaker found.0 found.2)

module _ (s : Selectors) (e : Element) (outer : List Element) where
  pub tried_left : (path : Path) → is_tried s e outer path ≡ true → left_matches path outer ≡ true
  tried_left path h = by_keys s.by_keys h
    where
      by_keys : (b : Bool) → cond b (is_tried_by_keys node_keys s.nodes e outer path) (left_matches path outer) ≡ true → left_matches path outer ≡ true
      by_keys true h = (and_parts (left_matches path outer) _ (and_parts (is_left_by_name node_keys e outer path) _ h).0).0
      by_keys false h = h

  -- what is asked for at once is asked for
  pub at_once_asks : asks_at_once node_keys s.nodes e outer ≡ true → asks s e outer ≡ true
  at_once_asks h = by_namespace (not (is_html e.tag.namespace)) h
    where
      by_namespace : (foreign : Bool) → (foreign || list_any (is_left_open node_keys e outer) s.nodes) ≡ true → (foreign || list_any (needs_attributes e outer) s.nodes) ≡ true
      by_namespace true h = refl
      by_namespace false h = any_weaker (is_left_open node_keys e outer) (needs_attributes e outer) (needs_where_open e outer) s.nodes h

  -- what is tried and open needs attributes, and only that
  pub tried_needs : (path : Path) → is_tried_open s e outer path ≡ (is_tried s e outer path && needs_attributes e outer path)
  tried_needs path = by_tried (is_tried s e outer path) (tried_left path)
    where
      by_tried : (b : Bool) → (b ≡ true → left_matches path outer ≡ true) → (b && is_open (by_names (last_compound path) e)) ≡ (b && (left_matches path outer && is_open (by_names (last_compound path) e)))
      by_tried true left = ap (λ l. l && is_open (by_names (last_compound path) e)) (sym (left refl))
      by_tried false left = refl
