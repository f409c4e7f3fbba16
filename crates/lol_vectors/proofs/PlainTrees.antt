-- The listed nodes answer as the tree's nodes.
use Rattle.std.proofs.Common.{◌≡◌, ℕ, ◌+◌, ◌<◌, Bool, true, false, ◌&&◌, ◌||◌, not, cond, List, [], ◌∷◌, ◌++◌, map, refl, sym, ap, ◌∙◌, arith}
use Rattle.std.specs.Prelude.{nat_lt}
use Rattle.std.specs.List.{count_by, list_any, flat_map}
use Rattle.std.proofs.lemmas.Bool.Decides.{Decides-ltb}
use Rattle.std.proofs.lemmas.List.{map-append}
use Rattle.std.proofs.lemmas.List.Sums.{sum_by-append}
use Rattle.std.proofs.lemmas.List.Concat.{flat_map-cons}
use Rattle.std.proofs.lemmas.Grind.{flat_map-append}
use Rattle.lol_base.specs.MemberLaws.{count_by-cons}
use Rattle.lol_css.specs.declared.selector.Combinator.TheVariants.{Child, Descendant}
use Rattle.lol_instructions.specs.Tests.{Element, is_html}
use Rattle.lol_instructions.specs.Compounds.{Compound}
use Rattle.lol_program.specs.Paths.{Path, First, Then, Selectors}
use Rattle.lol_program.specs.Forest.{Forest, none, more, tops, below, nodes_in, pairs_in}
use Rattle.lol_machine.specs.Events.{Event}
use Rattle.lol_machine.specs.Documents.{empty}
use Rattle.lol_machine.specs.AnswerLaws.{same_answers}
use Rattle.lol_machine.specs.Answers.{matching_ids, needs_attributes, asks, answers, is_tried}
use Rattle.lol_machine.specs.KeyTries.{is_left, is_left_open, node_keys}
use Rattle.lol_machine.specs.Matching.{left_matches}
use Rattle.lol_vectors.specs.PlainNodes.{nodes_listed, pairs_at, selectors_listed}

-- 1. Counts

pub any_counted : {A : Type 0} (p : A → Bool) (xs : List A) → list_any p xs ≡ nat_lt 0 (count_by p xs)
any_counted p [] = refl
any_counted p (x ∷ xs) = by_test (p x) (any_counted p xs) ∙ ap (nat_lt 0) (sym (count_by-cons p x xs))
  where
    by_test : (b : Bool) → list_any p xs ≡ nat_lt 0 (count_by p xs) → (b || list_any p xs) ≡ nat_lt 0 (cond b 1 0 + count_by p xs)
    by_test true h = let some : 0 < 1 + count_by p xs = omega arith in sym ((Decides-ltb 0 (1 + count_by p xs)).1 some)
    by_test false h = let none : count_by p xs ≡ 0 + count_by p xs = omega arith in h ∙ ap (nat_lt 0) none

count_append : {A : Type 0} (p : A → Bool) (xs ys : List A) → count_by p (xs ++ ys) ≡ count_by p xs + count_by p ys
count_append p xs ys = sum_by-append (λ x. cond (p x) 1 0) xs ys

-- 2. Nodes and pairs

abbrev paths : List (Path × List ℕ) → List Path
paths nodes = map (λ node. node.0) nodes

pairs_listed : (make : Compound → Path) (f : Forest) → flat_map pairs_at (nodes_listed make f) ≡ pairs_in make f
pairs_listed make none = refl
pairs_listed make (more c ids children descendants rest) =
    let a = nodes_listed (Then (make c) Child) children in
    let b = nodes_listed (Then (make c) Descendant) descendants in
    let r = nodes_listed make rest in
    flat_map-cons pairs_at (make c, ids) (a ++ (b ++ r))
    ∙ ap (λ l. pairs_at (make c, ids) ++ l) (flat_map-append pairs_at a (b ++ r)
    ∙ (λ i. pairs_listed (Then (make c) Child) children i
    ++ (flat_map-append pairs_at b r ∙ (λ j. pairs_listed (Then (make c) Descendant) descendants j ++ pairs_listed make rest j)) i))

module _ (p : Path → Bool) where
  listed_counted : (make : Compound → Path) (f : Forest) → count_by p (paths (nodes_listed make f)) ≡ count_by p (tops make f) + count_by p (below make f)
  listed_counted make none = refl
  listed_counted make (more c ids children descendants rest) =
      let mc = Then (make c) Child in
      let md = Then (make c) Descendant in
      let a = nodes_listed mc children in
      let b = nodes_listed md descendants in
      let r = nodes_listed make rest in
      let all : count_by p (make c ∷ paths (a ++ (b ++ r))) ≡ cond (p (make c)) 1 0 + (count_by p (paths a) + (count_by p (paths b) + count_by p (paths r))) =
      count_by-cons p (make c) (paths (a ++ (b ++ r)))
      ∙ ap (λ n. cond (p (make c)) 1 0 + n) (ap (count_by p) (map-append (λ (node : Path × List ℕ). node.0) a (b ++ r)) ∙ count_append p (paths a) (paths (b ++ r))
      ∙ ap (λ n. count_by p (paths a) + n) (ap (count_by p) (map-append (λ (node : Path × List ℕ). node.0) b r) ∙ count_append p (paths b) (paths r))) in
      let top = count_by-cons p (make c) (tops make rest) in
      let under = count_append p (tops mc children ++ below mc children) ((tops md descendants ++ below md descendants) ++ below make rest) in
      let under' = count_append p (tops md descendants ++ below md descendants) (below make rest) in
      let ca = count_append p (tops mc children) (below mc children) in
      let cb = count_append p (tops md descendants) (below md descendants) in
      let ha = listed_counted mc children in
      let hb = listed_counted md descendants in
      let hr = listed_counted make rest in
      all ∙ omega arith

  nodes_counted : (f : Forest) → count_by p (paths (nodes_listed First f)) ≡ count_by p (nodes_in First f)
  nodes_counted f = listed_counted First f ∙ sym (count_append p (tops First f) (below First f))

-- 3. Answers

module _ (s t : Selectors) (counts : (p : Path → Bool) → count_by p s.nodes ≡ count_by p t.nodes) where
  same_any : (p : Path → Bool) → list_any p s.nodes ≡ list_any p t.nodes
  same_any p = any_counted p s.nodes ∙ ap (nat_lt 0) (counts p) ∙ sym (any_counted p t.nodes)

  same_asks : (e : Element) (outer : List Element) → asks s e outer ≡ asks t e outer
  same_asks e outer =
      ap (λ b. not (is_html e.tag.namespace) || b)
      (same_any (needs_attributes e outer))

  same_tried : s.by_keys ≡ t.by_keys → (e : Element) (outer : List Element) → is_tried s e outer ≡ is_tried t e outer
  same_tried mode e outer =
      λ i node. cond (mode i) (is_left node_keys (not (is_html e.tag.namespace) || same_any (is_left_open node_keys e outer) i) e outer node) (left_matches node outer)

abbrev grown : Bool → Forest → Selectors
grown by_keys f = record { pairs = pairs_in First f; nodes = nodes_in First f; by_keys = by_keys }

pub listed_answers : (f : Forest) (by_keys esi : Bool) (events : List Event) → answers (selectors_listed by_keys (nodes_listed First f)) esi events ≡ answers (grown by_keys f) esi events
listed_answers f by_keys esi events =
    let listed = selectors_listed by_keys (nodes_listed First f) in
    let trees = grown by_keys f in
    let counts : (p : Path → Bool) → count_by p listed.nodes ≡ count_by p trees.nodes = λ p. nodes_counted p f in
    same_answers listed trees esi (λ e outer. ap (λ pairs. matching_ids pairs e outer) (pairs_listed First f)) (same_asks listed trees counts)
    (same_tried listed trees counts refl) counts empty events
