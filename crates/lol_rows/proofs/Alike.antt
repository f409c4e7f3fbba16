-- Instructions of one hash are alike, since those whose entries stand side by side are.
use Rattle.std.proofs.Common.{◌≡◌, ℕ, zero, suc, ◌+◌, ◌-◌, ◌<◌, ◌≤◌, Bool, true, false, cond, List, [], ◌∷◌, length, map, filter, get_or, Option, Some, None, Contains, ◌⊎◌, inl, inr, refl, sym, ap, ◌∙◌, subst, arith}
use Rattle.std.specs.Prelude.{slice_get}
use Rattle.std.specs.Option.{option_map}
use Rattle.std.proofs.lemmas.Bool.{cases_lt}
use Rattle.std.proofs.lemmas.Option.{slice_get-map}
use Rattle.lol_base.specs.ListLaws.{get_or-any}
use Rattle.lol_base.specs.MemberLaws.{Among, among_map, contains_from_among}
use Rattle.lol_base.specs.PlaceLaws.{some_is}
use Rattle.lol_instructions.specs.declared.instruction.Instruction.{Instruction}
use Rattle.lol_rows.specs.KeyTables.{IsTableOf}
use Rattle.lol_rows.specs.declared.key_table.Entry.{Entry}
use Rattle.lol_rows.specs.declared.key_table.KeyTable.{KeyTable}
use Rattle.lol_rows.specs.Rows.{hash_by, keys_by, passes, passes_at, AreAlikeAt, AreAlikeUnless}
use Rattle.lol_rows.specs.KeyRows.{address_of, left_of_row, AreBesideAlike, AreOfOneHash}
use Rattle.lol_rows.specs.declared.row_kind.RowKind.{RowKind}

module _ (kind : RowKind) (instructions : List Instruction) where
  abbrev pub hashes : List ℕ
  hashes = map (hash_by kind) instructions

  -- 1. Side by side

  -- two entries that stand side by side
  abbrev pub BesideAlike : List ℕ → Entry → Entry → Type 0
  BesideAlike shared one other = one.hash ≡ other.hash → Contains shared one.hash ⊎ AreAlikeAt kind instructions one.address other.address

  -- those before an index
  abbrev pub AreAlikeSoFar : List ℕ → List Entry → ℕ → Type 0
  AreAlikeSoFar shared entries n = (k : ℕ) (d : Entry) → k + 1 < n → k + 1 < length entries → BesideAlike shared (get_or entries k d) (get_or entries (k + 1) d)

  pub next_alike : (shared more : List ℕ) (entries : List Entry) (n : ℕ) (e : Entry) → 0 < n → n < length entries → AreAlikeSoFar shared entries n
      → ((x : ℕ) → Contains shared x → Contains more x) → BesideAlike more (get_or entries (n - 1) e) (get_or entries n e) → AreAlikeSoFar more entries (n + 1)
  next_alike shared more entries n e some within before grows here k d low inside same = by_order (cases_lt (k + 1) n)
    where
      by_order : (k + 1 < n) ⊎ (n ≤ k + 1) → Contains more (get_or entries k d).hash ⊎ AreAlikeAt kind instructions (get_or entries k d).address (get_or entries (k + 1) d).address
      by_order (inl less) = elim (before k d less inside same) [ inl known ↦ inl (grows (get_or entries k d).hash known) | inr alike ↦ inr alike ]
      by_order (inr most) =
          let at : n ≡ k + 1 = omega (arith, low, most) in
          let at_one : n - 1 ≡ k = omega (arith, at) in
          let one : get_or entries (n - 1) e ≡ get_or entries k d = ap (λ j. get_or entries j e) at_one ∙ get_or-any entries k e d (omega (arith, inside)) in
          let other : get_or entries n e ≡ get_or entries (k + 1) d = ap (λ j. get_or entries j e) at ∙ get_or-any entries (k + 1) e d inside in
          subst (BesideAlike more (get_or entries k d)) other (subst (λ x. BesideAlike more x (get_or entries n e)) one here) same

  -- 2. Of one hash

  -- an instruction with a hash
  pub hashed_instruction : (o : Option Instruction) (hash : ℕ) → option_map (hash_by kind) o ≡ Some hash → (i : Instruction) × (o ≡ Some i)
  hashed_instruction None hash is = cc
  hashed_instruction (Some i) hash is = (i, refl)

  pub instruction_of : (address hash : ℕ) → slice_get hashes address ≡ Some hash → (i : Instruction) × (slice_get instructions address ≡ Some i)
  instruction_of address hash at = hashed_instruction (slice_get instructions address) hash (sym (slice_get-map (hash_by kind) instructions address) ∙ at)

  alike_sym : (a b : ℕ) → AreAlikeAt kind instructions a b → AreAlikeAt kind instructions b a
  alike_sym a b alike i j at_i at_j = sym (alike j i at_j at_i)

  module _ (shared : List ℕ) (table : KeyTable) (is : IsTableOf hashes table) (beside : AreBesideAlike kind instructions shared table.entries.items) where
    abbrev pub entries : List Entry
    entries = table.entries.items

    far : (i m : ℕ) (d : Entry) → i + m < length entries → (get_or entries i d).hash ≡ (get_or entries (i + m) d).hash
        → Contains shared (get_or entries i d).hash ⊎ AreAlikeAt kind instructions (get_or entries i d).address (get_or entries (i + m) d).address
    far i zero d within same =
        let here : i ≡ i + 0 = omega arith in
        inr (subst (λ n. AreAlikeAt kind instructions (get_or entries i d).address (get_or entries n d).address) here (λ x y at_x at_y. ap (keys_by kind) (some_is (sym at_x ∙ at_y))))
    far i (suc m) d within same =
        let step : i + m + 1 ≡ i + suc m = omega arith in
        let before = is.by_hash i (i + m) d (omega arith) (omega (arith, within)) in
        let after = is.by_hash (i + m) (i + suc m) d (omega arith) within in
        let equal : (get_or entries i d).hash ≡ (get_or entries (i + m) d).hash = omega (arith, before, after, same) in
        let last : (get_or entries (i + m) d).hash ≡ (get_or entries (i + m + 1) d).hash = sym equal ∙ (same ∙ ap (λ k. (get_or entries k d).hash) (sym step)) in
        let inside : i + m + 1 < length entries = omega (arith, within) in
        by_parts equal (far i m d (omega (arith, within)) equal) (beside (i + m) d inside last)
      where
        by_parts : (get_or entries i d).hash ≡ (get_or entries (i + m) d).hash
            → Contains shared (get_or entries i d).hash ⊎ AreAlikeAt kind instructions (get_or entries i d).address (get_or entries (i + m) d).address
            → Contains shared (get_or entries (i + m) d).hash ⊎ AreAlikeAt kind instructions (get_or entries (i + m) d).address (get_or entries (i + m + 1) d).address
            → Contains shared (get_or entries i d).hash ⊎ AreAlikeAt kind instructions (get_or entries i d).address (get_or entries (i + suc m) d).address
        by_parts equal (inl known) later = inl known
        by_parts equal (inr front) (inl known) = inl (subst (Contains shared) (sym equal) known)
        by_parts equal (inr front) (inr back) =
            let middle = get_or entries (i + m) d in
            let there : i + m < length entries = omega (arith, within) in
            let mid = instruction_of middle.address middle.hash ((is.members middle).0 (i + m, there, get_or-any entries (i + m) middle d there)) in
            let step : i + m + 1 ≡ i + suc m = omega arith in
            inr (subst (λ n. AreAlikeAt kind instructions (get_or entries i d).address (get_or entries n d).address) step
            (λ x y at_x at_y. front x mid.0 at_x mid.1 ∙ back mid.0 y mid.1 at_y))

    in_order : (a b hash i j : ℕ) → i ≤ j → j < length entries → get_or entries i (record { hash = hash; address = a }) ≡ record { hash = hash; address = a }
        → get_or entries j (record { hash = hash; address = b }) ≡ record { hash = hash; address = b } → Contains shared hash ⊎ AreAlikeAt kind instructions a b
    in_order a b hash i j low high at_i at_j =
        elim (far i (j - i) d (omega (arith, low, high)) (ap (λ (e : Entry). e.hash) first ∙ sym (ap (λ (e : Entry). e.hash) last))) [
          | inl known ↦ inl (subst (Contains shared) (ap (λ (e : Entry). e.hash) first) known)
          | inr alike ↦ inr (subst (AreAlikeAt kind instructions a) (ap (λ (e : Entry). e.address) last) (subst (λ x. AreAlikeAt kind instructions x (get_or entries (i + (j - i)) d).address) (ap (λ (e : Entry). e.address) first) alike))
        ]
      where
        d : Entry
        d = record { hash = hash; address = a }

        first : get_or entries i d ≡ d
        first = at_i

        whole : i + (j - i) ≡ j
        whole = omega (arith, low)

        last : get_or entries (i + (j - i)) d ≡ record { hash = hash; address = b }
        last = ap (λ k. get_or entries k d) whole ∙ (get_or-any entries j d (record { hash = hash; address = b }) high ∙ at_j)

    pub alike_unless : AreAlikeUnless shared kind instructions
    alike_unless a b hash at_a at_b =
        let one = (is.members (record { hash = hash; address = a })).1 at_a in
        let other = (is.members (record { hash = hash; address = b })).1 at_b in
        elim (cases_lt one.0 other.0) [
          | inl less ↦ in_order a b hash one.0 other.0 (omega (arith, less)) other.1 one.2 other.2
          | inr most ↦ elim (in_order b a hash other.0 one.0 most one.1 other.2 one.2) [ inl known ↦ inl known | inr alike ↦ inr (alike_sym b a alike) ]
        ]

  -- 3. Rows

  -- of a list whose members all pass, or all fail
  filter_alike : (q : ℕ → Bool) (xs : List ℕ) (b : Bool) → ((x : ℕ) → Among xs x → q x ≡ b) → filter q xs ≡ cond b xs []
  filter_alike q [] true same = refl
  filter_alike q [] false same = refl
  filter_alike q (x ∷ xs) b same = by_test b (q x) (same x (inl refl)) (filter_alike q xs b (λ y a. same y (inr a)))
    where
      by_test : (own first : Bool) → first ≡ own → filter q xs ≡ cond own xs [] → cond first (x ∷ filter q xs) (filter q xs) ≡ cond own (x ∷ xs) []
      by_test true true is later = ap (λ l. x ∷ l) later
      by_test false false is later = later
      by_test true false is later = cc
      by_test false true is later = cc

  pub all_or_none : (p : Instruction → Bool) (shared : List ℕ) (row : List Entry) (hash : ℕ) (first : Entry) → AreAlikeUnless shared kind instructions
      → ((i j : Instruction) → keys_by kind i ≡ keys_by kind j → p i ≡ p j) → AreOfOneHash kind instructions hash row → Contains row first → (Contains shared first.hash → ⊥)
      → left_of_row p instructions row ≡ cond (passes_at p instructions first.address) (map address_of row) []
  all_or_none p shared row hash first alike decided of_one has not_shared =
      filter_alike (passes_at p instructions) (map address_of row) (passes_at p instructions first.address) (λ x among.
      let there = among_map address_of row x among in
      let own = (of_one there.0 (contains_from_among row there.0 there.1)).0 in
      let its = of_one first has in
      let i = instruction_of there.0.address hash own in
      let j = instruction_of first.address hash its.0 in
      let same : p i.0 ≡ p j.0 =
      elim (alike there.0.address first.address hash own its.0) [
        | inl known ↦ absurd (not_shared (subst (Contains shared) (sym its.1) known))
        | inr are ↦ decided i.0 j.0 (are i.0 j.0 i.1 j.1)
      ] in
      sym (ap (λ a. passes_at p instructions a) there.2) ∙ (ap (passes p) i.1 ∙ (same ∙ sym (ap (passes p) j.1))))
