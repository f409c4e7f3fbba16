-- Laws of what is left: it is no more than its range has addresses, and the hashes of a name hold those of what the name leaves.
use Rattle.std.proofs.Common.{◌≡◌, ℕ, suc, ◌-◌, ◌≤◌, Bool, true, false, cond, not, ◌⊎◌, inl, inr, Option, Some, None, Contains, List, [], ◌∷◌, length, filter, arith, refl, sym, ap}
use Rattle.std.specs.Str.{bytes_eq}
use Rattle.std.proofs.lemmas.Slice.Eq.{bytes_eq-Decides}
use Rattle.lol_base.specs.MemberLaws.{Among, contains_from_among}
use Rattle.lol_instructions.specs.Keys.{is_another_name}
use Rattle.lol_rows.specs.KeyHashes.{hash_of_name, name_hashes}
use Rattle.lol_rows.specs.declared.row_kind.RowKind.TheVariants.{Names}
use Rattle.std.specs.declared.ops.Range.{Range}
use Rattle.std.proofs.lemmas.List.FromFn.{length-range_with_len}
use Rattle.lol_instructions.specs.declared.instruction.Instruction.{Instruction}
use Rattle.lol_rows.specs.Rows.{keys_of, name_hash_of, is_left_by_name, HoldEach, passes_at, addresses, passing}

filter_most : (q : ℕ → Bool) (xs : List ℕ) → length (filter q xs) ≤ length xs
filter_most q [] = omega arith
filter_most q (x ∷ xs) = by_test (q x) (filter_most q xs)
  where
    by_test : (b : Bool) → length (filter q xs) ≤ length xs → length (cond b (x ∷ filter q xs) (filter q xs)) ≤ suc (length xs)
    by_test true later = omega (arith, later)
    by_test false later = omega (arith, later)

pub passing_most : (p : Instruction → Bool) (instructions : List Instruction) (r : Range ℕ) → length (passing p instructions r) ≤ r.end - r.start
passing_most p instructions r = omega (arith, filter_most (passes_at p instructions) (addresses r), length-range_with_len r.start (r.end - r.start))

-- Hashes of names

abbrev pub unnamed_or : Option (List ℕ) → List ℕ → Type 0
unnamed_or key name = (key ≡ None) ⊎ (key ≡ Some name)

pub key_is : (key : Option (List ℕ)) (name : List ℕ) → not (is_another_name key name) ≡ true → unnamed_or key name
key_is None name h = inl refl
key_is (Some own) name h = inr (ap Some (sym ((bytes_eq-Decides name own).0 (twice (bytes_eq name own) h))))
  where
    twice : (b : Bool) → not (not b) ≡ true → b ≡ true
    twice true h = refl
    twice false h = h

-- the hash of an instruction that tests no other name
pub hash_is : (name : List ℕ) (i : Instruction) → is_left_by_name name i ≡ true → (name_hash_of i ≡ hash_of_name None (keys_of i).opens) ⊎ (name_hash_of i ≡ hash_of_name (Some name) (keys_of i).opens)
hash_is name i h = by_key (key_is (keys_of i).name name h)
  where
    by_key : unnamed_or (keys_of i).name name → (name_hash_of i ≡ hash_of_name None (keys_of i).opens) ⊎ (name_hash_of i ≡ hash_of_name (Some name) (keys_of i).opens)
    by_key (inl is) = inl (ap (λ o. hash_of_name o (keys_of i).opens) is)
    by_key (inr is) = inr (ap (λ o. hash_of_name o (keys_of i).opens) is)

-- it is one of four
pub hash_among : (name : List ℕ) (i : Instruction) → is_left_by_name name i ≡ true → Contains (name_hashes name) (name_hash_of i)
hash_among name i h = contains_from_among (name_hashes name) (name_hash_of i) (by_opens (keys_of i).opens (hash_is name i h))
  where
    by_opens : (opens : Bool) → (name_hash_of i ≡ hash_of_name None opens) ⊎ (name_hash_of i ≡ hash_of_name (Some name) opens) → Among (name_hashes name) (name_hash_of i)
    by_opens false (inl is) = inl (sym is)
    by_opens true (inl is) = inr (inl (sym is))
    by_opens false (inr is) = inr (inr (inl (sym is)))
    by_opens true (inr is) = inr (inr (inr (inl (sym is))))

pub names_hold : (name : List ℕ) (instructions : List Instruction) → HoldEach (name_hashes name) Names (is_left_by_name name) instructions
names_hold name instructions address i at left = hash_among name i left
