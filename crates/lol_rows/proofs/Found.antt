-- What is found for each hash in turn.
use Rattle.std.proofs.Common.{◌≡◌, ℕ, ◌+◌, ◌-◌, ◌<◌, ◌≤◌, Bool, true, List, [], ◌∷◌, ◌++◌, length, map, filter, take, get_or, Some, Contains, ◌↔◌, ◌⊎◌, inl, inr, IsPermutation, refl, sym, ap, ◌∙◌, subst, eqb, arith, append_assoc}
use Rattle.std.specs.Prelude.{slice_get}
use Rattle.std.specs.List.{dedup}
use Rattle.std.specs.declared.ops.Range.{Range}
use Rattle.std.proofs.lemmas.List.{map-append, take_more}
use Rattle.std.proofs.lemmas.List.Elements.{Contains-append_left, Contains-append_right, Contains-append_cases}
use Rattle.std.proofs.lemmas.List.Kept.{Contains-dedup_nat, Contains-from_dedup}
use Rattle.std.proofs.lemmas.List.Sorted.{Contains-permutation, IsPermutation-sym}
use Rattle.lol_base.specs.Ascending.{IsStrictlyAscending}
use Rattle.lol_base.specs.AscendingLaws.{ascends_from_pairs, determined}
use Rattle.lol_base.specs.MemberLaws.{Among, among_filter, among_from_contains, among_map, contains_from_among, filter_among, map_among}
use Rattle.lol_instructions.specs.declared.instruction.Instruction.{Instruction}
use Rattle.lol_rows.specs.KeyTables.{IsEntryWithin}
use Rattle.lol_rows.specs.declared.key_table.Entry.{Entry}
use Rattle.lol_rows.specs.Rows.{addresses, passes_at, passing}
use Rattle.lol_rows.specs.KeyRows.{address_of, left_of_row}
use Rattle.lol_rows.proofs.Left.{among_range, ascends_filter, ascends_range, hashed_at, instruction_at, range_among}

-- one more address is added
pub address_added : (entries : List Entry) (i : ℕ) (d : Entry) (old before new : List ℕ) → i < length entries → before ≡ old ++ map address_of (take i entries)
    → new ≡ before ++ (get_or entries i d).address ∷ [] → new ≡ old ++ map address_of (take (i + 1) entries)
address_added entries i d old before new inside is more =
    more
    ∙ (ap (λ l. l ++ (get_or entries i d).address ∷ []) is
    ∙ (append_assoc old (map address_of (take i entries)) ((get_or entries i d).address ∷ [])
    ∙ ap (λ l. old ++ l) (sym (ap (map address_of) (take_more entries i d inside) ∙ map-append address_of (take i entries) (get_or entries i d ∷ [])))))

module _ (p : Instruction → Bool) (instructions : List Instruction) (hash_of : Instruction → ℕ) (range : Range ℕ) where
  abbrev pub all : List ℕ
  all = map hash_of instructions

  -- an address in the range whose instruction has one of these hashes, and passes
  pub record IsLeft (hashes : List ℕ) (address : ℕ) : Type 0 where
    pub hash : ℕ
    pub wanted : Contains hashes hash
    pub hashed : slice_get all address ≡ Some hash
    pub low : range.start ≤ address
    pub high : address < range.end
    pub passes : passes_at p instructions address ≡ true

  -- these are all such addresses, and no others
  abbrev pub AreLeft : List ℕ → List ℕ → Type 0
  AreLeft hashes found = (address : ℕ) → Contains found address ↔ IsLeft hashes address

  pub none_left_yet : (found : List ℕ) → found ≡ [] → AreLeft [] found
  none_left_yet found none address = (
    λ h. absurd (among_from_contains [] address (subst (λ l. Contains l address) none h)),
    λ w. absurd (among_from_contains [] w.hash w.wanted),
  )

  -- Those of one hash more are added.
  pub hash_left : (hashes : List ℕ) (old new : List ℕ) (row : List Entry) (i hash : ℕ) → i < length hashes → hash ≡ get_or hashes i 0
      → AreLeft (take i hashes) old → ((entry : Entry) → Contains row entry ↔ IsEntryWithin all hash range.start range.end entry)
      → new ≡ old ++ left_of_row p instructions row → AreLeft (take (i + 1) hashes) new
  hash_left hashes old new row i hash inside at found within is address = (
    λ h. elim (Contains-append_cases old (left_of_row p instructions row) address (subst (λ l. Contains l address) is h)) [
      | inl before ↦ more ((found address).0 before)
      | inr here ↦
          let kept = among_filter (passes_at p instructions) (map address_of row) address (among_from_contains (left_of_row p instructions row) address here) in
          let x = among_map address_of row address kept.0 in
          let w = (within x.0).0 (contains_from_among row x.0 x.1) in
          record {
            hash = hash;
            wanted = subst (λ l. Contains l hash) (sym whole) (Contains-append_right (take i hashes) (hash ∷ []) hash (contains_from_among (hash ∷ []) hash (inl refl)));
            hashed = subst (λ a. slice_get all a ≡ Some hash) x.2 (w.hashed ∙ ap Some w.same);
            low = subst (λ a. range.start ≤ a) x.2 w.low;
            high = subst (λ a. a < range.end) x.2 w.high;
            passes = kept.1;
          }
    ],
    λ w. subst (λ l. Contains l address) (sym is) (by_hash w (Contains-append_cases (take i hashes) (hash ∷ []) w.hash (subst (λ l. Contains l w.hash) whole w.wanted))),
  )
    where
      whole : take (i + 1) hashes ≡ take i hashes ++ hash ∷ []
      whole = take_more hashes i 0 inside ∙ ap (λ h. take i hashes ++ h ∷ []) (sym at)

      more : IsLeft (take i hashes) address → IsLeft (take (i + 1) hashes) address
      more w = record {
        hash = w.hash;
        wanted = subst (λ l. Contains l w.hash) (sym whole) (Contains-append_left (take i hashes) (hash ∷ []) w.hash w.wanted);
        hashed = w.hashed;
        low = w.low;
        high = w.high;
        passes = w.passes;
      }

      by_hash : (w : IsLeft (take (i + 1) hashes) address) → Contains (take i hashes) w.hash ⊎ Contains (hash ∷ []) w.hash → Contains (old ++ left_of_row p instructions row) address
      by_hash w (inl before) =
          Contains-append_left old (left_of_row p instructions row) address
          ((found address).1 (record { hash = w.hash; wanted = before; hashed = w.hashed; low = w.low; high = w.high; passes = w.passes }))
      by_hash w (inr here) =
          let same : hash ≡ w.hash = elim (among_from_contains (hash ∷ []) w.hash here) [ inl is ↦ is | inr nowhere ↦ absurd nowhere ] in
          let entry : Entry = record { hash = hash; address = address } in
          let there = (within entry).1 (record { hashed = w.hashed ∙ ap Some (sym same); same = refl; low = w.low; high = w.high }) in
          let among = map_among address_of row entry (among_from_contains row entry there) in
          Contains-append_right old (left_of_row p instructions row) address
          (contains_from_among (left_of_row p instructions row) address (filter_among (passes_at p instructions) (map address_of row) address among w.passes))

  -- Where what passes has one of the hashes, they are all that pass, ascending.
  pub all_left : (hashes found kept : List ℕ) → AreLeft hashes found → IsStrictlyAscending kept → ((address : ℕ) → Contains kept address ↔ Contains found address)
      → ((address : ℕ) (i : Instruction) → slice_get instructions address ≡ Some i → p i ≡ true → Contains hashes (hash_of i)) → kept ≡ passing p instructions range
  all_left hashes found kept are up same wanted =
      determined kept (filter q each) (ascends_from_pairs kept up) (ascends_filter q each (ascends_range range.start (range.end - range.start))) to from
    where
      q : ℕ → Bool
      q = passes_at p instructions

      each : List ℕ
      each = addresses range

      to : (n : ℕ) → Among kept n → Among (filter q each) n
      to n a =
          let w = (are n).0 ((same n).0 (contains_from_among kept n a)) in
          filter_among q each n (range_among range.start (range.end - range.start) n w.low (omega (arith, w.low, w.high))) w.passes

      from : (n : ℕ) → Among (filter q each) n → Among kept n
      from n a =
          let parts = among_filter q each n a in
          let bounds = among_range range.start (range.end - range.start) n parts.0 in
          let at = instruction_at p (slice_get instructions n) parts.1 in
          let there = (are n).1 (record { hash = hash_of at.0; wanted = wanted n at.0 at.1 at.2; hashed = hashed_at hash_of instructions n at.0 at.1; low = bounds.0; high = omega (arith, bounds.0, bounds.1); passes = parts.1 }) in
          among_from_contains kept n ((same n).1 there)

-- Sorted, and without those that stand twice, they have the same members.
pub same_members : (found sorted : List ℕ) → IsPermutation found sorted → (address : ℕ) → Contains (dedup eqb sorted) address ↔ Contains found address
same_members found sorted same address = (
  λ h. Contains-permutation sorted found address (IsPermutation-sym found sorted same) (Contains-from_dedup eqb sorted address h),
  λ h. Contains-dedup_nat sorted address (Contains-permutation found sorted address same h),
)
