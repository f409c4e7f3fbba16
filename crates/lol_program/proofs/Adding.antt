-- What an added path brings, in the lists of nodes and pairs.
use Rattle.lol_css.specs.declared.selector.SimpleSelector.TheViews.{out-ComplexSelector}
use Rattle.std.proofs.Common.{ℕ, inl, inr, ⊎_elim, List, [], ◌∷◌, Option, Result, Ok, Err, OnOk, OnErr}
use Rattle.std.specs.Prelude.{Contains}
use Rattle.lol_css.specs.declared.selector.Combinator.{Combinator}
use Rattle.lol_instructions.specs.Compounds.{Compound}
use Rattle.lol_program.specs.Paths.{First, extended, beginnings}
use Rattle.lol_program.specs.Forest.{Forest, nodes_in, pairs_in}
use Rattle.lol_program.specs.Growth.{Adds, AddsFirst}
use Rattle.lol_program.specs.IdsForNodes.{pairs_with}
use Rattle.lol_program.specs.Sets.{Joins, SameMembers, IsBetween}
use Rattle.lol_program.specs.AstPaths.{AllIn}
use Rattle.lol_program.specs.Views.{steps_of, tests_of_compound}
use Rattle.lol_css.specs.declared.selector.ComplexSelector.{ComplexSelector}
use Rattle.lol_program.specs.NodeMemberLaws.{HasNode, HasPair, BringsNode, BringsPair, BringsFirst}
use Rattle.lol_program.proofs.Grown.{has_added, has_added_first}
use Rattle.lol_program.specs.NodeListLaws.{nodes_listed, pairs_listed, brings_beginnings, first_brings, brings_given}
use Rattle.lol_program.proofs.Standing.{Keeps, KeepsWith, Leaves, adds_keeps, first_keeps}

module _ (c : Compound) (rest : List (Combinator × Compound)) (old new : Forest) where
  pub added_pairs : (id : Option ℕ) → Adds id c rest old new → Joins (pairs_in First old) (pairs_in First new) (pairs_with id (extended (First c) rest))
  added_pairs id h pair =
      let law = (has_added id First c rest old new h).pairs pair.0 pair.1 in
      let before = pairs_listed First old pair in
      let after = pairs_listed First new pair in
      let brings = brings_given id c rest pair in (
        λ x. ⊎_elim (λ (a : HasPair First old pair.0 pair.1). inl (before.1 a)) (λ (b : BringsPair id First c rest pair.0 pair.1). inr (brings.0 b)) (law.0 (after.0 x)),
        λ x. after.1 (law.1 (⊎_elim (λ (a : Contains (pairs_in First old) pair). inl (before.0 a)) (λ (b : Contains (pairs_with id (extended (First c) rest)) pair). inr (brings.1 b)) x)),
      )

  pub added_nodes : (id : Option ℕ) → Adds id c rest old new → Joins (nodes_in First old) (nodes_in First new) (beginnings (extended (First c) rest))
  added_nodes id h path =
      let law = (has_added id First c rest old new h).nodes path in
      let before = nodes_listed First old path in
      let after = nodes_listed First new path in
      let brings = brings_beginnings c rest path in (
        λ x. ⊎_elim (λ (a : HasNode First old path). inl (before.1 a)) (λ (b : BringsNode First c rest path). inr (brings.0 b)) (law.0 (after.0 x)),
        λ x. after.1 (law.1 (⊎_elim (λ (a : Contains (nodes_in First old) path). inl (before.0 a)) (λ (b : Contains (beginnings (extended (First c) rest)) path). inr (brings.1 b)) x)),
      )

  pub first_pairs : (k : ℕ) → AddsFirst k c rest old new → SameMembers (pairs_in First old) (pairs_in First new)
  first_pairs k h pair =
      let law = (has_added_first k First c rest old new h).pairs pair.0 pair.1 in
      let before = pairs_listed First old pair in
      let after = pairs_listed First new pair in
      (λ x. before.1 (law.0 (after.0 x)), λ x. after.1 (law.1 (before.0 x)))

  pub first_nodes : (k : ℕ) → AddsFirst k c rest old new → IsBetween (nodes_in First old) (nodes_in First new) (beginnings (extended (First c) rest))
  first_nodes k h =
      let law = (has_added_first k First c rest old new h).nodes in record {
        kept = λ path x. (nodes_listed First new path).1 ((law path).1 (inl ((nodes_listed First old path).0 x)));
        only = λ path x. ⊎_elim (λ (a : HasNode First old path). inl ((nodes_listed First old path).1 a)) (λ (b : BringsFirst k First c rest path). inr ((brings_beginnings c rest path).0 (first_brings k First c rest path b))) ((law path).0 ((nodes_listed First new path).0 x));
      }

  pub keeps_either : (P : List ℕ → Type 0) (id : Option ℕ) → Leaves id P → {T E : Type 0} (r : Result T E) → OnOk r (Adds id c rest old new) → OnErr r ((k : ℕ) × AddsFirst k c rest old new) → KeepsWith P old new
  keeps_either P id leaves (Ok x) a b = adds_keeps P id leaves c rest old new a
  keeps_either P id leaves (Err x) a b = first_keeps P b.0 c rest old new b.1

pub keeps_all : (old new : Forest) → Keeps old new → (items : List ComplexSelector) → AllIn old items → AllIn new items
keeps_all old new k [] h = tt
keeps_all old new k (item ∷ items) h = (k (tests_of_compound (out-ComplexSelector item).first) (steps_of (out-ComplexSelector item).rest.items) h.0, keeps_all old new k items h.1)
