-- The hashes of a tag's keys, part by part.
use Rattle.std.proofs.Common.{◌≡◌, ℕ, zero, suc, ◌+◌, ◌<◌, ◌≤◌, arith, Bool, true, false, not, List, [], ◌∷◌, ◌++◌, length, map, take, drop, get_or, Option, Some, None, Result, Ok, Err, Contains, ◌⊎◌, inl, inr, refl, sym, ap, ◌∙◌, subst, append_assoc, append-nil}
use Rattle.std.specs.Prelude.{⊤, IsErr, OnOk, flat_map, fold, codes, option_to_list, slice_get}
use Rattle.std.specs.Option.{option_map}
use Rattle.std.specs.declared.hash.DefaultHasher.{DefaultHasher}
use Rattle.std.specs.declared.alloc.AllocError.{AllocError}
use Rattle.std.proofs.lemmas.Grind.{flat_map-append}
use Rattle.std.proofs.lemmas.List.{take_more, take-append-drop, map-append}
use Rattle.std.proofs.lemmas.List.Elements.{Contains-append_cases, Contains-append_left, Contains-append_right}
use Rattle.std.proofs.lemmas.Result.{on_ok_weaker}
use Rattle.lol_base.specs.Names.{lowercased}
use Rattle.lol_base.specs.StartTags.{Attribute}
use Rattle.lol_base.specs.BoolLaws.{and_parts}
use Rattle.lol_base.specs.PlaceLaws.{some_is}
use Rattle.lol_base.specs.MemberLaws.{Among, contains_from_among, map_among, flat_map_among}
use Rattle.lol_instructions.specs.Attributes.{TagAttributes, value_in}
use Rattle.lol_instructions.specs.Keys.{AttributeKey, ById, ByClass, ByAttribute, words_of, keys_seen}
use Rattle.lol_instructions.specs.CompiledKeys.{is_key_there, lacks_key}
use Rattle.lol_instructions.specs.declared.instruction.Instruction.{Instruction}
use Rattle.std.specs.Hash.DefaultHasher as sip
use Rattle.lol_rows.specs.KeyHashes.{byte_hashed, after_name, hash_after}
use Rattle.lol_rows.specs.TagHashes.{both_hashes, pair_hashes, Adds, AreAmong}
use Rattle.lol_rows.specs.Rows.{keys_of, pair_hash_of, is_left_by_name, is_left_by_keys}
use Rattle.lol_rows.specs.LeftLaws.{unnamed_or, key_is}
use Rattle.lol_rows.specs.KeyLaws.{key_among, IsWhole}

-- 1. Lists

module _ {A B : Type 0} (f : A → List B) where
  pub flat_mapped : {C : Type 0} (g : C → A) (xs : List C) → flat_map f (map g xs) ≡ flat_map (λ x. f (g x)) xs
  flat_mapped g [] = refl
  flat_mapped g (x ∷ xs) = ap (λ l. f (g x) ++ l) (flat_mapped g xs)

  -- what the next one gives is added
  pub flat_more : (xs : List A) (i : ℕ) (x : A) (old before : List B) → i < length xs → x ≡ get_or xs i x → before ≡ old ++ flat_map f (take i xs) → before ++ f x ≡ old ++ flat_map f (take (i + 1) xs)
  flat_more xs i x old before within is so =
      ap (λ l. l ++ f x) so
      ∙ (append_assoc old (flat_map f (take i xs)) (f x)
      ∙ ap (λ l. old ++ l) (sym (ap (flat_map f) (take_more xs i x within ∙ ap (λ y. take i xs ++ y ∷ []) (sym is)) ∙ (flat_map-append f (take i xs) (x ∷ []) ∙ ap (λ l. flat_map f (take i xs) ++ l) (append-nil (f x))))))

  -- those of the first are the first of all
  pub flat_first : (xs : List A) (i : ℕ) (old before : List B) → before ≡ old ++ flat_map f (take i xs) → before ++ flat_map f (drop i xs) ≡ old ++ flat_map f xs
  flat_first xs i old before so =
      ap (λ l. l ++ flat_map f (drop i xs)) so
      ∙ (append_assoc old (flat_map f (take i xs)) (flat_map f (drop i xs))
      ∙ ap (λ l. old ++ l) (sym (flat_map-append f (take i xs) (drop i xs)) ∙ ap (flat_map f) (take-append-drop i xs)))

-- 2. Hashes are added

pub same_among : (some all : List ℕ) → some ≡ all → AreAmong some all
same_among some all is hash = subst (λ (l : List ℕ). Contains l hash) is

-- among the first of a list
pub within : (some first rest all : List ℕ) → AreAmong some first → first ++ rest ≡ all → AreAmong some all
within some first rest all only is hash has = subst (λ (l : List ℕ). Contains l hash) is (Contains-append_left first rest hash (only hash has))

-- what is added to hashes that are among others
pub added_among : (old added new all : List ℕ) → AreAmong old all → AreAmong added all → AreAmong new (old ++ added) → AreAmong new all
added_among old added new all so_far these only hash has = elim (Contains-append_cases old added hash (only hash has)) [ inl before ↦ so_far hash before | inr this ↦ these hash this ]

-- and is added after others
pub among_after : (old first new before added : List ℕ) → AreAmong first (old ++ before) → AreAmong new (first ++ added) → AreAmong new (old ++ (before ++ added))
among_after old first new before added so_far =
    added_among first added new (old ++ (before ++ added)) (within first (old ++ before) added (old ++ (before ++ added)) so_far (append_assoc old before added))
    (λ hash has. Contains-append_right old (before ++ added) hash (Contains-append_right before added hash has))

pub all_added : (old new added : List ℕ) → new ≡ old ++ added → Adds (Ok tt) old new added
all_added old new added is = record { all = is; only = same_among new (old ++ added) is }

-- where memory is refused
pub some_added : (r : Result (Unit {0}) AllocError) (old new first rest added : List ℕ) → IsErr r → AreAmong new first → first ++ rest ≡ old ++ added → Adds r old new added
some_added r old new first rest added refused only is = record { all = by_result r refused; only = within new first rest (old ++ added) only is }
  where
    by_result : (s : Result (Unit {0}) AllocError) → IsErr s → OnOk s (new ≡ old ++ added)
    by_result (Ok done) h = cc
    by_result (Err error) h = tt

-- and others would be added next
pub added_before : (r s : Result (Unit {0}) AllocError) (old new added rest : List ℕ) → IsErr r → Adds s old new added → Adds r old new (added ++ rest)
added_before r s old new added rest refused adds = some_added r old new (old ++ added) rest (added ++ rest) refused adds.only (append_assoc old added rest)

-- after others
pub added_after : (r : Result (Unit {0}) AllocError) (old first new before added : List ℕ) → first ≡ old ++ before → Adds r first new added → Adds r old new (before ++ added)
added_after r old first new before added is adds = record {
  all = on_ok_weaker r (λ so. so ∙ (ap (λ l. l ++ added) is ∙ append_assoc old before added)) adds.all;
  only = among_after old first new before added (same_among first (old ++ before) is) adds.only;
}

-- 3. The hashes

module _ (both : Option AttributeKey → List ℕ) (seen : TagAttributes) where
  abbrev ids : List (List ℕ)
  ids = option_to_list (value_in (codes "id") seen)

  abbrev classes : List (List ℕ)
  classes = words_of (value_in (codes "class") seen)

  abbrev name_of : Attribute → AttributeKey
  name_of a = ByAttribute (lowercased a.name)

  -- those of no key, of the id, of the classes, and of the names of attributes
  pub pairs_are : flat_map both (None ∷ map Some (keys_seen seen))
      ≡ both None ++ (flat_map (λ id. both (Some (ById id))) ids ++ (flat_map (λ name. both (Some (ByClass name))) classes ++ flat_map (λ a. both (Some (name_of a))) seen.attributes))
  pairs_are = ap (λ l. both None ++ l) parts
    where
      part : {C : Type 0} (g : C → AttributeKey) (xs : List C) → flat_map both (map Some (map g xs)) ≡ flat_map (λ x. both (Some (g x))) xs
      part g xs = flat_mapped both Some (map g xs) ∙ flat_mapped (λ k. both (Some k)) g xs

      joined : (xs ys : List AttributeKey) → flat_map both (map Some (xs ++ ys)) ≡ flat_map both (map Some xs) ++ flat_map both (map Some ys)
      joined xs ys = ap (flat_map both) (map-append Some xs ys) ∙ flat_map-append both (map Some xs) (map Some ys)

      parts : flat_map both (map Some (keys_seen seen)) ≡ flat_map (λ id. both (Some (ById id))) ids ++ (flat_map (λ name. both (Some (ByClass name))) classes ++ flat_map (λ a. both (Some (name_of a))) seen.attributes)
      parts =
          joined (map ById ids) (map ByClass classes ++ map name_of seen.attributes)
          ∙ λ i. part ById ids i ++ (joined (map ByClass classes) (map name_of seen.attributes) ∙ λ j. part ByClass classes j ++ part name_of seen.attributes j) i

-- 4. A key that isn't lacking is among those that are seen, unless it is a part

negated : (b : Bool) → not b ≡ true → b ≡ false
negated true h = sym h
negated false h = refl

there : (b : Bool) → not b ≡ false → b ≡ true
there true h = refl
there false h = sym h

abbrev pub IsWholeOrNone : Option AttributeKey → Type 0
IsWholeOrNone None = ⊤
IsWholeOrNone (Some key) = IsWhole key

optional_among : (key : Option AttributeKey) (seen : TagAttributes) → IsWholeOrNone key → lacks_key key seen ≡ false → Among (None ∷ map Some (keys_seen seen)) key
optional_among None seen whole h = inl refl
optional_among (Some key) seen whole h = inr (map_among Some (keys_seen seen) key (key_among key seen whole (there (is_key_there key seen) h)))

-- 5. What is left by keys has one of the hashes

pub named_hasher : (name : List ℕ) (i : Instruction) → is_left_by_name name i ≡ true → (after_name (keys_of i).name ≡ after_name None) ⊎ (after_name (keys_of i).name ≡ after_name (Some name))
named_hasher name i h = by_key (key_is (keys_of i).name name h)
  where
    by_key : unnamed_or (keys_of i).name name → (after_name (keys_of i).name ≡ after_name None) ⊎ (after_name (keys_of i).name ≡ after_name (Some name))
    by_key (inl is) = inl (ap after_name is)
    by_key (inr is) = inr (ap after_name is)

pub whole_among : (name : List ℕ) (seen : TagAttributes) (i : Instruction) → is_left_by_keys name seen i ≡ true → IsWholeOrNone (keys_of i).attribute → Contains (pair_hashes name seen) (pair_hash_of i)
whole_among name seen i h whole =
    let parts = and_parts (is_left_by_name name i) (not (lacks_key (keys_of i).attribute seen)) h in
    let key = optional_among (keys_of i).attribute seen whole (negated (lacks_key (keys_of i).attribute seen) parts.1) in
    contains_from_among (pair_hashes name seen) (pair_hash_of i)
    (flat_map_among (both_hashes (after_name None) (after_name (Some name))) (None ∷ map Some (keys_seen seen)) (keys_of i).attribute (pair_hash_of i) key (by_hasher (named_hasher name i parts.0)))
  where
    by_hasher : (after_name (keys_of i).name ≡ after_name None) ⊎ (after_name (keys_of i).name ≡ after_name (Some name)) → Among (both_hashes (after_name None) (after_name (Some name)) (keys_of i).attribute) (pair_hash_of i)
    by_hasher (inl is) = inl (sym (ap (λ h. hash_after h (keys_of i).attribute) is))
    by_hasher (inr is) = inr (inl (sym (ap (λ h. hash_after h (keys_of i).attribute) is)))

-- 6. Bytes that are given one by one

pub bytes_hashed : (hasher : DefaultHasher) (bytes : List ℕ) → fold byte_hashed hasher bytes ≡ sip.write hasher bytes
unfolding sip.write
bytes_hashed hasher [] = refl
bytes_hashed hasher (byte ∷ bytes) = bytes_hashed (byte_hashed hasher byte) bytes

pub byte_more : (hasher : DefaultHasher) (bytes : List ℕ) (byte : ℕ) → fold byte_hashed hasher (bytes ++ byte ∷ []) ≡ byte_hashed (fold byte_hashed hasher bytes) byte
byte_more hasher [] byte = refl
byte_more hasher (first ∷ bytes) byte = byte_more (byte_hashed hasher first) bytes byte

-- 7. Attributes by their indices

abbrev pub name_there : List Attribute → ℕ → Option (List ℕ)
name_there attributes index = option_map (λ (a : Attribute). a.name) (slice_get attributes index)

pub attribute_at : (attributes : List Attribute) (index : ℕ) (name : List ℕ) → name_there attributes index ≡ Some name → (a : Attribute) × (index < length attributes) × (a ≡ get_or attributes index a) × (a.name ≡ name)
attribute_at [] index name h = cc
attribute_at (a ∷ more) zero name h = (a, omega arith, refl, some_is h)
attribute_at (a ∷ more) (suc k) name h = let r = attribute_at more k name h in (r.0, omega (arith, r.1), r.2, r.3)

pub none_there : (attributes : List Attribute) (index : ℕ) → name_there attributes index ≡ None → length attributes ≤ index
none_there [] index h = omega arith
none_there (a ∷ more) zero h = cc
none_there (a ∷ more) (suc k) h = let r = none_there more k h in omega (arith, r)

-- both hashes of a name are added
pub name_added : (unnamed named : DefaultHasher) (attributes : List Attribute) (index : ℕ) (name : List ℕ) (one other : ℕ) (old before : List ℕ) → name_there attributes index ≡ Some name
    → before ≡ old ++ flat_map (λ (a : Attribute). both_hashes unnamed named (Some (ByAttribute (lowercased a.name)))) (take index attributes)
    → one ≡ hash_after unnamed (Some (ByAttribute (lowercased name))) → other ≡ hash_after named (Some (ByAttribute (lowercased name)))
    → before ++ one ∷ other ∷ [] ≡ old ++ flat_map (λ (a : Attribute). both_hashes unnamed named (Some (ByAttribute (lowercased a.name)))) (take (index + 1) attributes)
name_added unnamed named attributes index name one other old before there so is_one is_other =
    let at = attribute_at attributes index name there in
    (λ i. before ++ is_one i ∷ is_other i ∷ [])
    ∙ ap (λ n. before ++ both_hashes unnamed named (Some (ByAttribute (lowercased n)))) (sym at.3)
    ∙ flat_more (λ (a : Attribute). both_hashes unnamed named (Some (ByAttribute (lowercased a.name)))) attributes index at.0 old before at.1 at.2 so

-- 8. All hashes of a tag, added part by part

pub pairs_added : (r : Result (Unit {0}) AllocError) (unnamed named : DefaultHasher) (name : List ℕ) (seen : TagAttributes) (id class : Option (List ℕ)) (old new : List ℕ)
    → unnamed ≡ after_name None → named ≡ after_name (Some name) → id ≡ value_in (codes "id") seen → class ≡ value_in (codes "class") seen
    → Adds r old new (both_hashes unnamed named None ++ (flat_map (λ value. both_hashes unnamed named (Some (ById value))) (option_to_list id)
    ++ (flat_map (λ word. both_hashes unnamed named (Some (ByClass word))) (words_of class) ++ flat_map (λ (a : Attribute). both_hashes unnamed named (Some (ByAttribute (lowercased a.name)))) seen.attributes)))
    → Adds r old new (pair_hashes name seen)
pairs_added r unnamed named name seen id class old new is_unnamed is_named is_id is_class =
    subst (λ l. Adds r old new l)
    ((λ i. both_hashes (is_unnamed i) (is_named i) None ++ (flat_map (λ value. both_hashes (is_unnamed i) (is_named i) (Some (ById value))) (option_to_list (is_id i))
    ++ (flat_map (λ word. both_hashes (is_unnamed i) (is_named i) (Some (ByClass word))) (words_of (is_class i)) ++ flat_map (λ (a : Attribute). both_hashes (is_unnamed i) (is_named i) (Some (ByAttribute (lowercased a.name)))) seen.attributes)))
    ∙ sym (pairs_are (both_hashes (after_name None) (after_name (Some name))) seen))
