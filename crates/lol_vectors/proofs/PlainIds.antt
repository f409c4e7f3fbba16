-- The ids of the nodes that match.
use Rattle.std.proofs.Common.{◌≡◌, ℕ, true, false, ◌||◌, List, [], ◌∷◌, ◌++◌, map, inl, inr, ⊎_elim, sym, ap, ◌∙◌, subst, true≢false}
use Rattle.lol_base.specs.AscendingLaws.{ascending_is_determined}
use Rattle.std.specs.Prelude.{Contains}
use Rattle.std.proofs.lemmas.List.Kept.{AllPairs-from_increasing}
use Rattle.lol_base.specs.BoolLaws.{or_parts, or_of}
use Rattle.lol_base.specs.MemberLaws.{Among, among_front, among_back, among_either, among_from_contains, contains_from_among}
use Rattle.lol_memory.specs.Ids.{Ids, has, union, ascending}
use Rattle.lol_memory.specs.SetLaws.{has-union}
use Rattle.lol_memory.specs.AscendingLaws.{ascending_rises}
use Rattle.lol_program.specs.IdSetLaws.{listed_if_held, held}
use Rattle.lol_instructions.specs.Tests.{Element}
use Rattle.lol_program.specs.Paths.{Path}
use Rattle.lol_machine.specs.Matching.{matches}
use Rattle.lol_machine.specs.Answers.{matching_ids}
use Rattle.lol_machine.specs.ReportLaws.{among_matching_ids, matching_ids_among, matching_ids_ascend}

among_one : (path : Path) (ids : List ℕ) (id : ℕ) → Among ids id → Among {T = Path × ℕ} (map (λ (n : ℕ). (path, n)) ids) (path, id)
among_one path [] id h = absurd h
among_one path (n ∷ ids) id (inl is) = inl (ap (λ (m : ℕ). (path, m)) is)
among_one path (n ∷ ids) id (inr h) = inr (among_one path ids id h)

one_among : (path : Path) (ids : List ℕ) (found : Path) (id : ℕ) → Among {T = Path × ℕ} (map (λ (n : ℕ). (path, n)) ids) (found, id) → (path ≡ found) × Among ids id
one_among path [] found id h = absurd h
one_among path (n ∷ ids) found id (inl is) = (ap (λ (p : Path × ℕ). p.0) is, inl (ap (λ (p : Path × ℕ). p.1) is))
one_among path (n ∷ ids) found id (inr h) = let rest = one_among path ids found id h in (rest.0, inr rest.1)

module _ (e : Element) (outer : List Element) (pairs : List (Path × ℕ)) (path : Path) (old own : Ids) (before : ascending old ≡ matching_ids pairs e outer) where
  abbrev mine : List (Path × ℕ)
  mine = map (λ (n : ℕ). (path, n)) (ascending own)

  stays : (id : ℕ) → has old id ≡ true → Contains (matching_ids (pairs ++ mine) e outer) id
  stays id h =
      let m = among_matching_ids e outer pairs id (among_from_contains _ id (subst (λ ids. Contains ids id) before (listed_if_held old id h))) in
      contains_from_among _ id (matching_ids_among e outer (pairs ++ mine) m.0 id (among_front pairs mine (m.0, id) m.1) m.2)

  was : (id : ℕ) (found : Path) → Among pairs (found, id) → matches found e outer ≡ true → has old id ≡ true
  was id found among fits = held old id (subst (λ ids. Contains ids id) (sym before) (contains_from_among _ id (matching_ids_among e outer pairs found id among fits)))

  -- one node more that matches
  pub ids_matched : (new : Ids) → matches path e outer ≡ true → new ≡ union old own → ascending new ≡ matching_ids (pairs ++ mine) e outer
  ids_matched new fits is =
      ascending_is_determined (ascending new) (matching_ids (pairs ++ mine) e outer)
      (AllPairs-from_increasing (ascending new) (ascending_rises new)) (matching_ids_ascend e outer (pairs ++ mine))
      (λ id. (to id, from id))
    where
      same : (id : ℕ) → has new id ≡ (has old id || has own id)
      same id = ap (λ (s : Ids). has s id) is ∙ has-union old own id

      to : (id : ℕ) → Contains (ascending new) id → Contains (matching_ids (pairs ++ mine) e outer) id
      to id h = ⊎_elim
          (λ (a : has old id ≡ true). stays id a)
          (λ (b : has own id ≡ true). contains_from_among _ id (matching_ids_among e outer (pairs ++ mine) path id
          (among_back pairs mine (path, id) (among_one path (ascending own) id (among_from_contains _ id (listed_if_held own id b)))) fits))
          (or_parts _ _ (sym (same id) ∙ held new id h))

      from : (id : ℕ) → Contains (matching_ids (pairs ++ mine) e outer) id → Contains (ascending new) id
      from id h =
          let m = among_matching_ids e outer (pairs ++ mine) id (among_from_contains _ id h) in
          listed_if_held new id (same id ∙ or_of _ _ (⊎_elim
          (λ (a : Among pairs (m.0, id)). inl (was id m.0 a m.2))
          (λ (b : Among mine (m.0, id)). inr (held own id (contains_from_among _ id (one_among path (ascending own) m.0 id b).1)))
          (among_either pairs mine (m.0, id) m.1)))

  -- one that doesn't
  pub ids_not_matched : (new : Ids) → matches path e outer ≡ false → new ≡ old → ascending new ≡ matching_ids (pairs ++ mine) e outer
  ids_not_matched new fails is =
      ap ascending is ∙ ascending_is_determined (ascending old) (matching_ids (pairs ++ mine) e outer)
      (AllPairs-from_increasing (ascending old) (ascending_rises old)) (matching_ids_ascend e outer (pairs ++ mine))
      (λ id. (λ h. stays id (held old id h), from id))
    where
      from : (id : ℕ) → Contains (matching_ids (pairs ++ mine) e outer) id → Contains (ascending old) id
      from id h =
          let m = among_matching_ids e outer (pairs ++ mine) id (among_from_contains _ id h) in
          listed_if_held old id (⊎_elim
          (λ (a : Among pairs (m.0, id)). was id m.0 a m.2)
          (λ (b : Among mine (m.0, id)). absurd (true≢false (sym m.2 ∙ ap (λ (p : Path). matches p e outer) (sym (one_among path (ascending own) m.0 id b).0) ∙ fails)))
          (among_either pairs mine (m.0, id) m.1))
