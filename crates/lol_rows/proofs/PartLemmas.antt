-- The hashes of a tag hold that of each instruction that it leaves.
use Rattle.std.proofs.Common.{Bor, ◌≡◌, ℕ, ◌+◌, ◌<◌, arith, Bool, true, false, not, cond, nat_lt, List, [], ◌∷◌, ◌++◌, length, map, take, Option, Some, None, Contains, ◌⊎◌, inl, inr, refl, sym, ap, ◌∙◌, subst}
use Rattle.std.specs.Prelude.{⊤, flat_map, slice_get, unwrap_or}
use Rattle.std.specs.Str.{bytes_eq}
use Rattle.std.specs.Option.{option_copied, option_map}
use Rattle.std.specs.declared.hash.DefaultHasher.{DefaultHasher}
use Rattle.std.proofs.lemmas.Bool.Decides.{nat_tests}
use Rattle.std.proofs.lemmas.List.{take_more}
use Rattle.std.proofs.lemmas.List.Elements.{Contains-append_cases, Contains-append_right}
use Rattle.std.proofs.lemmas.Option.{slice_get-get_or}
use Rattle.std.proofs.lemmas.Slice.Eq.{bytes_eq-Decides}
use Rattle.lol_base.specs.Names.{lowercased}
use Rattle.lol_base.specs.StartTags.{Attribute}
use Rattle.lol_base.specs.BoolLaws.{and_parts}
use Rattle.lol_base.specs.PlaceLaws.{at_among, at_within, some_is}
use Rattle.lol_base.specs.MemberLaws.{Among, among_any, among_from_contains, contains_from_among, flat_map_among, map_among}
use Rattle.lol_instructions.specs.Tests.{find_attribute, has_value, operator_holds}
use Rattle.lol_base.specs.declared.comparison.AttrSelectorOperator.TheVariants.{Substring}
use Rattle.lol_instructions.specs.Attributes.{TagAttributes}
use Rattle.lol_instructions.specs.ValueParts.{last_stands, part_is_one}
use Rattle.lol_instructions.specs.Keys.{AttributeKey, ById, ByClass, ByPart, ByAttribute, KeyTest, IsAny, IsNamed, HasKey, IsOfAttributes, SaysNothing, HasItsLength, counts_case, last_part, part_length, part_or_name, parts_of}
use Rattle.lol_instructions.specs.Compiled.{tests_in}
use Rattle.lol_instructions.specs.CompiledKeys.{attribute_expr_key_test, compiled_key_test, is_key_there, lacks_key, name_expr_key_test, operands_key}
use Rattle.lol_instructions.specs.declared.attribute_matcher.AttrExprOperands.{AttrExprOperands}
use Rattle.lol_instructions.specs.declared.compiled_expr.LocalNameExprTest.{LocalNameExprTest}
use Rattle.lol_instructions.specs.declared.compiled_expr.LocalNameExprTest.TheVariants as names
use Rattle.lol_instructions.specs.declared.compiled_expr.AttributeExprTest.{AttributeExprTest}
use Rattle.lol_instructions.specs.declared.compiled_expr.AttributeExprTest.TheVariants as attributes
use Rattle.lol_instructions.specs.declared.compiled_predicate.CompiledTest.{CompiledTest, Name, Attribute as OfAttribute, NoneOf', SomeOf'}
use Rattle.lol_instructions.specs.declared.instruction.Instruction.{Instruction}
use Rattle.lol_rows.specs.KeyHashes.{after_attribute, after_name, hash_after, hash_of_part}
use Rattle.lol_rows.specs.KeyLaws.{key_of_one}
use Rattle.lol_rows.specs.TagHashes.{all_part_hashes, pair_hashes, part_hashes, AreAmong, HoldsBothParts, HoldsParts}
use Rattle.lol_rows.specs.Rows.{AreRowsOf, HoldEach, is_left_by_keys, is_left_by_name, keys_of, parted_after, parted_of}
use Rattle.lol_rows.specs.declared.row_kind.RowKind.TheVariants.{Pairs}
use Rattle.lol_rows.specs.declared.rows.Rows.{Rows}
use Rattle.lol_rows.specs.declared.sorted_hashes.SortedHashes.{SortedHashes}
use Rattle.lol_rows.proofs.PairLemmas.{added_among, name_there, named_hasher, whole_among, IsWholeOrNone}

-- 1. A part of compiled tests has its length

abbrev Sized : KeyTest → Type 0
Sized (HasKey key) = HasItsLength key
Sized IsAny = ⊤
Sized (IsNamed name) = ⊤
Sized IsOfAttributes = ⊤
Sized SaysNothing = ⊤

part_sized : (name operand : List ℕ) (o : Option (List ℕ)) → ((part : List ℕ) → o ≡ Some part → length part ≡ part_length) → HasItsLength (part_or_name name o)
part_sized name operand None h = tt
part_sized name operand (Some part) h = h part refl

operands_sized : (operands : AttrExprOperands) → HasItsLength (operands_key operands)
operands_sized operands = by_case (counts_case operands.case_sensitivity)
  where
    by_case : (b : Bool) → HasItsLength (part_or_name operands.name.items (cond b (last_part operands.value.items) None))
    by_case true = part_sized operands.name.items operands.value.items (last_part operands.value.items) (λ part is. (last_stands operands.value.items part is).1)
    by_case false = tt

name_sized : (test : LocalNameExprTest) → Sized (name_expr_key_test test)
name_sized names.Any = tt
name_sized names.Never = tt
name_sized (names.LocalName name) = tt
name_sized (names.NthChild nth) = tt
name_sized (names.NthOfType nth) = tt

attribute_sized : (test : AttributeExprTest) → Sized (attribute_expr_key_test test)
attribute_sized attributes.Never = tt
attribute_sized (attributes.Id id) = tt
attribute_sized (attributes.Class name) = tt
attribute_sized (attributes.Exists name) = tt
attribute_sized (attributes.Equal operands) = operands_sized operands
attribute_sized (attributes.Includes operands) = operands_sized operands
attribute_sized (attributes.DashMatch operands) = operands_sized operands
attribute_sized (attributes.Prefix operands) = operands_sized operands
attribute_sized (attributes.Suffix operands) = operands_sized operands
attribute_sized (attributes.Substring operands) = operands_sized operands

test_sized : (test : CompiledTest) → Sized (compiled_key_test test)
test_sized (Name expr) = name_sized expr.test
test_sized (OfAttribute expr) = attribute_sized expr.test
test_sized (NoneOf' shape row) = tt
test_sized (SomeOf' shape row) = tt

among_sized : (tests : List CompiledTest) (key : AttributeKey) → Among (map compiled_key_test tests) (HasKey key) → HasItsLength key
among_sized [] key one = absurd one
among_sized (test ∷ tests) key (inl is) = subst Sized is (test_sized test)
among_sized (test ∷ tests) key (inr one) = among_sized tests key one

key_sized : (i : Instruction) (key : AttributeKey) → (keys_of i).attribute ≡ Some key → HasItsLength key
key_sized i key h = among_sized (tests_in i.predicate) key (key_of_one (map compiled_key_test (tests_in i.predicate)) key h)

-- 2. A part that is there is one of the parts of an attribute of that name

record HasPart (attributes : List Attribute) (name part : List ℕ) : Type 0 where
  attribute : Attribute
  among : Among attributes attribute
  named : lowercased attribute.name ≡ name
  holds : operator_holds Substring (unwrap_or attribute.value []) part ≡ true

attribute_there : (attributes : List Attribute) (name part : List ℕ)
    → has_value (option_map (λ (a : Attribute). unwrap_or a.value []) (find_attribute name attributes)) (λ value. operator_holds Substring value part) ≡ true → HasPart attributes name part
attribute_there [] name part h = cc
attribute_there (a ∷ more) name part h = by_name (bytes_eq (lowercased a.name) name) refl h (attribute_there more name part)
  where
    by_name : (b : Bool) → bytes_eq (lowercased a.name) name ≡ b
        → has_value (option_map (λ (x : Attribute). unwrap_or x.value []) (cond b (Some a) (find_attribute name more))) (λ value. operator_holds Substring value part) ≡ true
        → (has_value (option_map (λ (x : Attribute). unwrap_or x.value []) (find_attribute name more)) (λ value. operator_holds Substring value part) ≡ true → HasPart more name part)
        → HasPart (a ∷ more) name part
    by_name true is has later = record { attribute = a; among = inl refl; named = (bytes_eq-Decides (lowercased a.name) name).0 is; holds = has }
    by_name false is has later = let found = later has in record { attribute = found.attribute; among = inr found.among; named = found.named; holds = found.holds }

part_contained : (value part : List ℕ) → length part ≡ part_length → operator_holds Substring value part ≡ true → Contains (parts_of value) part
part_contained value [] long h = absurd (omega (arith, long))
part_contained value (b ∷ part) long h =
    let found = among_any (λ other. bytes_eq other (b ∷ part)) (parts_of value) (sym (part_is_one value (b ∷ part) long) ∙ h) in
    subst (Contains (parts_of value)) ((bytes_eq-Decides found.0 (b ∷ part)).0 found.2) (contains_from_among (parts_of value) found.0 found.1)

-- 3. What is left by keys has its hash

module _ (name : List ℕ) (seen : TagAttributes) (instructions : List Instruction) (rows : Rows) (after : List ℕ) where
  abbrev unnamed : DefaultHasher
  unnamed = after_name None

  abbrev named : DefaultHasher
  named = after_name (Some name)

  pub hold_each : AreAmong (pair_hashes name seen) after
      → ((a : Attribute) → Contains seen.attributes a → HoldsBothParts rows.parted unnamed named after a)
      → AreRowsOf instructions rows → HoldEach after Pairs (is_left_by_keys name seen) instructions
  hold_each kept parts own address i at left = by_key (keys_of i).attribute refl
    where
      split : (is_left_by_name name i ≡ true) × (not (lacks_key (keys_of i).attribute seen) ≡ true)
      split = and_parts (is_left_by_name name i) (not (lacks_key (keys_of i).attribute seen)) left

      whole : IsWholeOrNone (keys_of i).attribute → Contains after (hash_after (after_name (keys_of i).name) (keys_of i).attribute)
      whole it = kept _ (whole_among name seen i left it)

      there : (b : Bool) → not (not b) ≡ true → b ≡ true
      there true h = refl
      there false h = h

      by_part : (attribute part : List ℕ) → (keys_of i).attribute ≡ Some (ByPart attribute part) → Contains after (hash_after (after_name (keys_of i).name) (Some (ByPart attribute part)))
      by_part attribute part is =
          let has = there (is_key_there (ByPart attribute part) seen) (sym (ap (λ key. not (lacks_key key seen)) is) ∙ split.1) in
          let found = attribute_there seen.attributes attribute part has in
          let both = parts found.attribute (contains_from_among seen.attributes found.attribute found.among) in
          let one = part_contained (unwrap_or found.attribute.value []) part (key_sized i (ByPart attribute part) is) found.holds in
          elim (named_hasher name i split.0) [
            | inl is ↦ by_hasher found.attribute unnamed found.named one is both.unnamed_parts
            | inr is ↦ by_hasher found.attribute named found.named one is both.named_parts
          ]
        where
          parted : Contains (flat_map parted_of instructions) (hash_after (after_name (keys_of i).name) (Some (ByAttribute attribute)))
          parted =
              contains_from_among (flat_map parted_of instructions) _
              (flat_map_among parted_of instructions i _ (at_among instructions address i at) (subst (λ key. Among (parted_after (after_name (keys_of i).name) key) (hash_after (after_name (keys_of i).name) (Some (ByAttribute attribute)))) (sym is) (inl refl)))

          by_hasher : (a : Attribute) (hasher : DefaultHasher) → lowercased a.name ≡ attribute → Contains (parts_of (unwrap_or a.value [])) part
              → after_name (keys_of i).name ≡ hasher → HoldsParts rows.parted hasher a.name (unwrap_or a.value []) after → Contains after (hash_of_part (after_attribute (after_name (keys_of i).name) attribute) part)
          by_hasher a hasher same one is holds =
              subst (Contains after) (λ j. hash_of_part (after_attribute (sym is j) (same j)) part)
              (holds _ own.parted (subst (Contains (flat_map parted_of instructions)) (λ j. hash_after (is j) (Some (ByAttribute (sym same j)))) parted) _
              (contains_from_among (part_hashes hasher a.name (unwrap_or a.value [])) _
              (map_among (hash_of_part (after_attribute hasher (lowercased a.name))) (parts_of (unwrap_or a.value [])) part (among_from_contains (parts_of (unwrap_or a.value [])) part one))))

      by_key : (o : Option AttributeKey) → (keys_of i).attribute ≡ o → Contains after (hash_after (after_name (keys_of i).name) (keys_of i).attribute)
      by_key None is = whole (subst IsWholeOrNone (sym is) tt)
      by_key (Some (ById id)) is = whole (subst IsWholeOrNone (sym is) tt)
      by_key (Some (ByClass class)) is = whole (subst IsWholeOrNone (sym is) tt)
      by_key (Some (ByPart attribute part)) is = subst (λ key. Contains after (hash_after (after_name (keys_of i).name) key)) (sym is) (by_part attribute part is)
      by_key (Some (ByAttribute attribute)) is = whole (subst IsWholeOrNone (sym is) tt)

-- 4. The hashes of parts are added

-- a value that is too short has no parts
pub no_parts : (value : List ℕ) → length value < part_length → parts_of value ≡ []
no_parts [] short = refl
no_parts (b ∷ value) short = by_length (nat_lt (length (b ∷ value)) part_length) refl
  where
    by_length : (t : Bool) → nat_lt (length (b ∷ value)) part_length ≡ t → cond t [] (take part_length (b ∷ value) ∷ parts_of value) ≡ []
    by_length true is = refl
    by_length false is = absurd (grind (arith, nat_tests, short, is))

pub each_added : (table : SortedHashes) (hasher after : DefaultHasher) (name value old new : List ℕ) → after ≡ after_attribute hasher (lowercased name)
    → new ≡ old ++ map (hash_of_part after) (parts_of value) → HoldsParts table hasher name value new
each_added table hasher after name value old new is added all own known hash has =
    subst (λ (l : List ℕ). Contains l hash) (sym added)
    (Contains-append_right old (map (hash_of_part after) (parts_of value)) hash (subst (λ h. Contains (map (hash_of_part h) (parts_of value)) hash) (sym is) has))

-- what is kept still holds the parts
pub parts_kept : (table : SortedHashes) (hasher : DefaultHasher) (name value old new : List ℕ) → AreAmong old new → HoldsParts table hasher name value old → HoldsParts table hasher name value new
parts_kept table hasher name value old new keeps holds parted own known part one = keeps _ (holds parted own known part one)

-- the attribute of an index
pub record IsAttribute (attributes : List Attribute) (index : ℕ) (name value : List ℕ) : Type 0 where
  pub attribute : Attribute
  pub at : slice_get attributes index ≡ Some attribute
  pub named : attribute.name ≡ name
  pub valued : unwrap_or attribute.value [] ≡ value

pub attribute_found : (attributes : List Attribute) (index : ℕ) (name : List ℕ) (o : Option (Bor (List ℕ))) (d r : Bor (List ℕ)) → name_there attributes index ≡ Some name
    → option_copied o ≡ option_map (λ (a : Attribute). unwrap_or a.value []) (slice_get attributes index) → r ≡ unwrap_or o d → IsAttribute attributes index name r.now
attribute_found attributes index name o d r there copied is = by_get (slice_get attributes index) o refl there copied is
  where
    by_get : (found : Option Attribute) (given : Option (Bor (List ℕ))) → slice_get attributes index ≡ found → option_map (λ (a : Attribute). a.name) found ≡ Some name
        → option_copied given ≡ option_map (λ (a : Attribute). unwrap_or a.value []) found → r ≡ unwrap_or given d → IsAttribute attributes index name r.now
    by_get None given at of to so = cc
    by_get (Some a) None at of to so = cc
    by_get (Some a) (Some value) at of to so = record { attribute = a; at = at; named = some_is of; valued = sym (some_is to) ∙ ap (λ (v : Bor (List ℕ)). v.now) (sym so) }

-- an attribute before the next index is one before this index, or the one of this name and value
pub next_attribute : (attributes : List Attribute) (index : ℕ) (name value : List ℕ) → IsAttribute attributes index name value → (a : Attribute) → Contains (take (index + 1) attributes) a
    → Contains (take index attributes) a ⊎ ((a.name ≡ name) × (unwrap_or a.value [] ≡ value))
next_attribute attributes index name value found a has =
    let inside = at_within attributes index found.attribute found.at in
    let last = some_is (sym (slice_get-get_or attributes index found.attribute inside) ∙ found.at) in
    elim (Contains-append_cases (take index attributes) (found.attribute ∷ []) a
    (subst (λ (l : List Attribute). Contains l a) (take_more attributes index found.attribute inside ∙ ap (λ x. take index attributes ++ x ∷ []) last) has)) [
      | inl before ↦ inl before
      | inr this ↦ elim (among_from_contains (found.attribute ∷ []) a this) [
        | inl is ↦ inr (subst (λ x. (x.name ≡ name) × (unwrap_or x.value [] ≡ value)) is (found.named, found.valued))
        | inr none ↦ absurd none
      ]
    ]

-- hashes of the parts of its value are those of an attribute
pub parts_only : (hasher : DefaultHasher) (attributes : List Attribute) (index : ℕ) (name value old before new : List ℕ) → IsAttribute attributes index name value
    → AreAmong before (old ++ all_part_hashes hasher attributes) → AreAmong new (before ++ part_hashes hasher name value) → AreAmong new (old ++ all_part_hashes hasher attributes)
parts_only hasher attributes index name value old before new found so_far =
    added_among before (part_hashes hasher name value) new (old ++ all_part_hashes hasher attributes) so_far
    (λ hash has.
    Contains-append_right old (all_part_hashes hasher attributes) hash
    (contains_from_among (all_part_hashes hasher attributes) hash
    (flat_map_among (λ (a : Attribute). part_hashes hasher a.name (unwrap_or a.value [])) attributes found.attribute hash (at_among attributes index found.attribute found.at)
    (among_from_contains (part_hashes hasher found.attribute.name (unwrap_or found.attribute.value [])) hash (subst (λ (l : List ℕ). Contains l hash) (λ i. part_hashes hasher (sym found.named i) (sym found.valued i)) has)))))

-- where there are none, nothing has to be held
pub none_parted : (table : SortedHashes) (hasher : DefaultHasher) (name value hashes : List ℕ) → length table.sorted.items ≡ 0 → HoldsParts table hasher name value hashes
none_parted table hasher name value hashes empty all own known part one =
    let has = (own.members (hash_after hasher (Some (ByAttribute (lowercased name))))).1 known in
    absurd (omega (arith, empty, has.1))
