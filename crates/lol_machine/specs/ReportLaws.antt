-- What a report holds.
use Rattle.std.proofs.Common.{◌≡◌, ℕ, Bool, true, List, [], ◌∷◌, map, filter, Contains, refl, sym, ap, subst}
use Rattle.lol_base.specs.Ascending.{IsStrictlyAscending}
use Rattle.lol_base.specs.AscendingLaws.{among_ascending, ascending_among, ascending_ascends, determined, pairs_from_ascends}
use Rattle.lol_base.specs.MemberLaws.{Among, among_filter, among_from_contains, among_map, contains_from_among, filter_among, map_among}
use Rattle.lol_instructions.specs.Tests.{Element}
use Rattle.lol_program.specs.Paths.{Path, Selectors}
use Rattle.lol_machine.specs.Matching.{matches}
use Rattle.lol_machine.specs.Answers.{matching_ids, report}
use Rattle.lol_machine.specs.Laws.{IsReport, ids_of}

abbrev ids_matching : List (Path × ℕ) → Element → List Element → List ℕ
ids_matching pairs e outer = map (λ (p : Path × ℕ). p.1) (filter (λ (p : Path × ℕ). matches p.0 e outer) pairs)

-- a path under an id that matches
abbrev Matching : List (Path × ℕ) → Element → List Element → ℕ → Type 0
Matching pairs e outer id = (path : Path) × Among pairs (path, id) × (matches path e outer ≡ true)

module _ (e : Element) (outer : List Element) where
  found : (pairs : List (Path × ℕ)) (id : ℕ) → Among (ids_matching pairs e outer) id → Matching pairs e outer id
  found pairs id h =
      let at = among_map (λ (p : Path × ℕ). p.1) (filter (λ (p : Path × ℕ). matches p.0 e outer) pairs) id h in
      let pair = among_filter (λ (p : Path × ℕ). matches p.0 e outer) pairs at.0 at.1 in
      (at.0.0, subst (λ n. Among pairs (at.0.0, n)) at.2 pair.0, pair.1)

  kept : (pairs : List (Path × ℕ)) (path : Path) (id : ℕ) → Among pairs (path, id) → matches path e outer ≡ true → Among (ids_matching pairs e outer) id
  kept pairs path id h fits = map_among (λ (p : Path × ℕ). p.1) (filter (λ (p : Path × ℕ). matches p.0 e outer) pairs) (path, id) (filter_among (λ (p : Path × ℕ). matches p.0 e outer) pairs (path, id) h fits)

  pub among_matching_ids : (pairs : List (Path × ℕ)) (id : ℕ) → Among (matching_ids pairs e outer) id → Matching pairs e outer id
  among_matching_ids pairs id h = found pairs id (among_ascending _ id h)

  pub matching_ids_among : (pairs : List (Path × ℕ)) (path : Path) (id : ℕ) → Among pairs (path, id) → matches path e outer ≡ true → Among (matching_ids pairs e outer) id
  matching_ids_among pairs path id h fits = ascending_among _ id (kept pairs path id h fits)

  -- Pairs with the same members have the same matching ids.
  pub matching_ids-same : (ps qs : List (Path × ℕ)) → ((p : Path × ℕ) → Among ps p → Among qs p) → ((p : Path × ℕ) → Among qs p → Among ps p) → matching_ids ps e outer ≡ matching_ids qs e outer
  matching_ids-same ps qs to from =
      determined _ _ (ascending_ascends (ids_matching ps e outer)) (ascending_ascends (ids_matching qs e outer))
      (λ id h. let m = among_matching_ids ps id h in matching_ids_among qs m.0 id (to (m.0, id) m.1) m.2)
      (λ id h. let m = among_matching_ids qs id h in matching_ids_among ps m.0 id (from (m.0, id) m.1) m.2)

  pub matching_ids_ascend : (pairs : List (Path × ℕ)) → IsStrictlyAscending (matching_ids pairs e outer)
  matching_ids_ascend pairs = pairs_from_ascends _ (ascending_ascends (ids_matching pairs e outer))

ids_of_matches : (ids : List ℕ) (content : Bool) → ids_of (map (λ (id : ℕ). record { id = id; with_content = content }) ids) ≡ ids
ids_of_matches [] content = refl
ids_of_matches (id ∷ ids) content = ap (λ more. id ∷ more) (ids_of_matches ids content)

pub every_report : (s : Selectors) (esi : Bool) (e : Element) (outer : List Element) → IsReport s esi e outer
every_report s esi e outer =
    let ids : ids_of (report s esi e outer) ≡ matching_ids s.pairs e outer = ids_of_matches (matching_ids s.pairs e outer) _ in
    record {
      ascending = subst IsStrictlyAscending (sym ids) (pairs_from_ascends _ (ascending_ascends (ids_matching s.pairs e outer)));
      members = λ id. (
        λ h. let m = among_matching_ids e outer s.pairs id (among_from_contains _ id (subst (λ ns. Contains ns id) ids h)) in (m.0, contains_from_among s.pairs (m.0, id) m.1, m.2),
        λ m. subst (λ ns. Contains ns id) (sym ids) (contains_from_among _ id (matching_ids_among e outer s.pairs m.0 id (among_from_contains s.pairs (m.0, id) m.1) m.2)),
      );
    }
