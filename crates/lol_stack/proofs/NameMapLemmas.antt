-- Slots and blocks of names, after a change at one name.
use Rattle.std.proofs.Common.{◌≡◌, ◌≢◌, ◌∙◌, refl, sym, ap, subst, ℕ, zero, suc, ◌<◌, arith, true, false, cond, nat_eq, List, [], ◌∷◌, length, Option, Some, None}
use Rattle.std.specs.Prelude.{slice_set, slice_index_or}
use Rattle.std.specs.Option.{option_or}
use Rattle.std.proofs.lemmas.Bool.{eqb-true, eq-eqb}
use Rattle.std.proofs.lemmas.List.{get_or-set_same, get_or-set_other}
use Rattle.std.proofs.lemmas.Option.{slice_get_read, get_or_from_slice_get, slice_get_within}
use Rattle.lol_base.specs.LocalNames.{Name, same_local_name}
use Rattle.lol_base.specs.NameLaws.{same_lowercased}
use Rattle.lol_stack.specs.NameBlocks as blocks
use Rattle.lol_stack.specs.NameBlocks.{is_named}
use Rattle.lol_stack.specs.NameMaps.{SlottedNames, slot_of, in_slot, value_if, value_in_slot, AreApart, StandsInMap, IsPutAt}
use Rattle.lol_stack.specs.declared.name_map.NamePlace.{NamePlace}
use Rattle.lol_stack.specs.declared.name_map.NamePlace.TheVariants.{Slot, Overflow}
use Rattle.lol_stack.specs.declared.name_blocks.BlockPlace.{BlockPlace}
use Rattle.lol_stack.proofs.NameOrder.{same-tested, same-alike}

-- 1. Equal names

pub slot-same : (a b : Name) → same_local_name a b ≡ true → slot_of b ≡ slot_of a
slot-same a b same = sym (ap (λ bytes. slot_of (record { lowercased = bytes; spelling = None })) (same_lowercased a b same))

module _ {V : Type 0} where
  -- equal names find the same, in blocks and in slots
  pub blocks-same : (m : List (List (Name × V))) (a b : Name) → same_local_name a b ≡ true → blocks.value_in_blocks m b ≡ blocks.value_in_blocks m a
  blocks-same m a b same = sym (ap (λ bytes. blocks.value_in_blocks m (record { lowercased = bytes; spelling = None })) (same_lowercased a b same))

  pub slots-same : (slots : List (Option (Name × V))) (a b : Name) → same_local_name a b ≡ true → value_in_slot slots b ≡ value_in_slot slots a
  slots-same slots a b same = sym (ap (λ bytes. value_in_slot slots (record { lowercased = bytes; spelling = None })) (same_lowercased a b same))

  -- 2. What stands in a slot

  -- an entry that is this name's is no other's
  pub if-named : (o : Option (Name × V)) (name q : Name) → is_named o name ≡ true → same_local_name name q ≡ false → value_if q o ≡ None
  if-named None name q named other = refl
  if-named (Some e) name q named other = ap (λ same. cond same (Some e.1) None) (same-alike e.0 name q (same-tested e.0 name named) ∙ other)

  -- an entry that is this name's, with a value
  pub if-put : (e : Name × V) (v : V) (name q : Name) → is_named (Some e) name ≡ true → value_if q (Some (e.0, v)) ≡ cond (same_local_name name q) (Some v) None
  if-put e v name q named = ap (λ same. cond same (Some v) None) (same-alike e.0 name q (same-tested e.0 name named))

  pub if-none : (name q : Name) → value_if {V = V} q None ≡ cond (same_local_name name q) None None
  if-none name q = elim (same_local_name name q) as (λ same. ◌≡◌ {A = Option V} None (cond same None None)) [ true ↦ refl | false ↦ refl ]

  -- the entry of a name that stands in its slot
  pub entry_of : (o : Option (Name × V)) (name : Name) → is_named o name ≡ true → (e : Name × V) × (o ≡ Some e)
  entry_of None name named = cc
  entry_of (Some e) name named = (e, refl)

  pub value-named : (o : Option (Name × V)) (name : Name) (e : Name × V) → o ≡ Some e → is_named o name ≡ true → value_if name o ≡ Some e.1
  value-named o name e is named =
      ap (value_if name) is ∙ ap (λ same. cond same (Some e.1) None) (ap (λ (x : Option (Name × V)). is_named x name) (sym is) ∙ named)

  pub within-named : (slots : List (Option (Name × V))) (slot : ℕ) (name : Name) → is_named (in_slot slots slot) name ≡ true → slot < length slots
  within-named [] zero name named = cc
  within-named [] (suc k) name named = cc
  within-named (o ∷ slots) zero name named = omega arith
  within-named (o ∷ slots) (suc k) name named = let h = within-named slots k name named in omega (arith, h)

  -- what is read at an index is what stands in the slot
  pub in_slot-read : (slots : List (Option (Name × V))) (slot : ℕ) (o : Option (Name × V)) → slot < length slots → o ≡ slice_index_or slots slot o → in_slot slots slot ≡ o
  in_slot-read slots slot o within read = get_or_from_slice_get slots slot o None (slice_get_read slots (length slots) slot o refl within read)

  -- a name that stands in its slot doesn't stand in the blocks
  pub named-apart : (slots : List (Option (Name × V))) (overflow : List (List (Name × V))) (slot : ℕ) (name : Name) → AreApart slots overflow
      → slot ≡ slot_of name → is_named (in_slot slots slot) name ≡ true → blocks.value_in_blocks overflow name ≡ None
  named-apart slots overflow slot name apart is named =
      let e = entry_of (in_slot slots slot) name named in
      apart name e.0.1 (ap (λ k. value_if name (in_slot slots k)) (sym is) ∙ value-named (in_slot slots slot) name e.0 e.1 named)

  -- 3. A change in a slot

  or-none : (o : Option V) → option_or o None ≡ o
  or-none None = refl
  or-none (Some x) = refl

  module _ (slots : List (Option (Name × V))) (overflow : List (List (Name × V))) (slot : ℕ) (name : Name) (y : Option (Name × V)) (v : Option V) where
    -- what another name's entry in the slot, and this one's, are before and after
    pub record IsSlotPut : Type 0 where
      pub is : slot ≡ slot_of name
      pub within : slot < length slots
      pub alone : blocks.value_in_blocks overflow name ≡ None
      pub puts : (q : Name) → value_if q y ≡ cond (same_local_name name q) v None
      pub holds : (q : Name) → same_local_name name q ≡ false → value_if q (in_slot slots slot) ≡ None

    value-there : slot < length slots → (q : Name) → slot_of q ≡ slot → value_in_slot (slice_set slots slot y) q ≡ value_if q y
    value-there within q at = ap (λ k. value_if q (in_slot (slice_set slots slot y) k)) at ∙ ap (value_if q) (get_or-set_same slots slot y None within)

    value-elsewhere : (q : Name) → slot_of q ≢ slot → value_in_slot (slice_set slots slot y) q ≡ value_in_slot slots q
    value-elsewhere q other = ap (value_if q) (get_or-set_other slots slot (slot_of q) y None other)

    -- what other names have in their slots stays
    value-other : IsSlotPut → (q : Name) → same_local_name name q ≡ false → value_in_slot (slice_set slots slot y) q ≡ value_in_slot slots q
    value-other p q other =
        elim (nat_eq (slot_of q) slot) as (λ at. nat_eq (slot_of q) slot ≡ at → value_in_slot (slice_set slots slot y) q ≡ value_in_slot slots q) [
          | true ↦ λ at.
              let is = eqb-true (slot_of q) slot at in
              value-there p.within q is
              ∙ (p.puts q ∙ (ap (λ same. cond same v None) other
              ∙ sym (ap (λ k. value_if q (in_slot slots k)) is ∙ p.holds q other)))
          | false ↦ λ apart. value-elsewhere q (λ is. cc (sym (eq-eqb (slot_of q) slot is) ∙ apart))
        ] refl

    value-here : IsSlotPut → (q : Name) → same_local_name name q ≡ true → value_in_slot (slice_set slots slot y) q ≡ v
    value-here p q same = value-there p.within q (slot-same name q same ∙ sym p.is) ∙ (p.puts q ∙ ap (λ test. cond test v None) same)

    pub slot-apart : IsSlotPut → AreApart slots overflow → AreApart (slice_set slots slot y) overflow
    slot-apart p apart q value found =
        elim (same_local_name name q) as (λ test. same_local_name name q ≡ test → blocks.value_in_blocks overflow q ≡ None) [
          | true ↦ λ same. blocks-same overflow name q same ∙ p.alone
          | false ↦ λ other. apart q value (sym (value-other p q other) ∙ found)
        ] refl

    pub slot-put : IsSlotPut → IsPutAt name v (record { slots = slots; overflow = overflow }) (record { slots = slice_set slots slot y; overflow = overflow })
    slot-put p q =
        elim (same_local_name name q) as
        (λ test. same_local_name name q ≡ test
        → option_or (value_in_slot (slice_set slots slot y) q) (blocks.value_in_blocks overflow q) ≡ cond test v (option_or (value_in_slot slots q) (blocks.value_in_blocks overflow q))) [
          | true ↦ λ same.
              ap (λ o. option_or o (blocks.value_in_blocks overflow q)) (value-here p q same)
              ∙ (ap (option_or v) (blocks-same overflow name q same ∙ p.alone) ∙ or-none v)
          | false ↦ λ other. ap (λ o. option_or o (blocks.value_in_blocks overflow q)) (value-other p q other)
        ] refl

  -- 4. A change in the blocks

  module _ (slots : List (Option (Name × V))) (old new : List (List (Name × V))) (name : Name) (v : Option V) where
    pub blocks-apart : value_in_slot slots name ≡ None → blocks.IsPutAt name v old new → AreApart slots old → AreApart slots new
    blocks-apart none put apart q value found =
        put q
        ∙ elim (same_local_name name q) as (λ test. same_local_name name q ≡ test → cond test v (blocks.value_in_blocks old q) ≡ None) [
          | true ↦ λ same. cc (sym none ∙ (sym (slots-same slots name q same) ∙ found))
          | false ↦ λ other. apart q value found
        ] refl

    pub blocks-put : value_in_slot slots name ≡ None → blocks.IsPutAt name v old new
        → IsPutAt name v (record { slots = slots; overflow = old }) (record { slots = slots; overflow = new })
    blocks-put none put q =
        ap (option_or (value_in_slot slots q)) (put q)
        ∙ elim (same_local_name name q) as
        (λ test. same_local_name name q ≡ test
        → option_or (value_in_slot slots q) (cond test v (blocks.value_in_blocks old q)) ≡ cond test v (option_or (value_in_slot slots q) (blocks.value_in_blocks old q))) [
          | true ↦ λ same. ap (λ o. option_or o v) (slots-same slots name q same ∙ none)
          | false ↦ λ other. refl
        ] refl

  -- 5. What stands at a place

  pub slot-stands : (map : SlottedNames V) (slots : List (Option (Name × V))) (overflow : List (List (Name × V))) (place : NamePlace) (slot : ℕ) (name : Name)
      → record { slots = slots; overflow = overflow } ≡ map → place ≡ Slot slot → StandsInMap map name place
      → (slot ≡ slot_of name) × (is_named (in_slot slots slot) name ≡ true)
  slot-stands map slots overflow place slot name view is stands =
      subst (λ (m : SlottedNames V). StandsInMap m name (Slot slot)) (sym view) (subst (StandsInMap map name) is stands)

  pub overflow-stands : (map : SlottedNames V) (slots : List (Option (Name × V))) (overflow : List (List (Name × V))) (place : NamePlace) (at : BlockPlace) (name : Name)
      → record { slots = slots; overflow = overflow } ≡ map → place ≡ Overflow at → StandsInMap map name place
      → (value_in_slot slots name ≡ None) × blocks.StandsInBlocks overflow name at
  overflow-stands map slots overflow place at name view is stands =
      subst (λ (m : SlottedNames V). StandsInMap m name (Overflow at)) (sym view) (subst (StandsInMap map name) is stands)

  pub overflow-within : (overflow : List (List (Name × V))) (at : BlockPlace) (name : Name) → blocks.StandsInBlocks overflow name at
      → at.at < length (blocks.block_at overflow at.block)
  overflow-within overflow at name s = slice_get_within (blocks.block_at overflow at.block) at.at s.entry s.at

  module _ (slots : List (Option (Name × V))) (overflow : List (List (Name × V))) (slot : ℕ) (name : Name) where
    pub slot-removed : AreApart slots overflow → (slot ≡ slot_of name) × (is_named (in_slot slots slot) name ≡ true)
        → IsSlotPut slots overflow slot name None None
    slot-removed apart s = record {
      is = s.0;
      within = within-named slots slot name s.1;
      alone = named-apart slots overflow slot name apart s.0 s.1;
      puts = λ q. if-none name q;
      holds = λ q other. if-named (in_slot slots slot) name q s.1 other;
    }

    module _ (o y : Option (Name × V)) (v : V) (s : (slot ≡ slot_of name) × (is_named (in_slot slots slot) name ≡ true))
        (read : o ≡ slice_index_or slots slot o) (put : (e : Name × V) → o ≡ Some e → y ≡ Some (e.0, v)) where
      -- the entry that stands there, and the one that is put there
      there : (e : Name × V) × (in_slot slots slot ≡ Some e) × (y ≡ Some (e.0, v))
      there =
          let e = entry_of (in_slot slots slot) name s.1 in
          (e.0, e.1, put e.0 (sym (in_slot-read slots slot o (within-named slots slot name s.1) read) ∙ e.1))

      named : (e : Name × V) → in_slot slots slot ≡ Some e → is_named (Some e) name ≡ true
      named e is = ap (λ (x : Option (Name × V)). is_named x name) (sym is) ∙ s.1

      pub slot-replaced : AreApart slots overflow → IsSlotPut slots overflow slot name y (Some v)
      slot-replaced apart =
          let e = there in record {
            is = s.0;
            within = within-named slots slot name s.1;
            alone = named-apart slots overflow slot name apart s.0 s.1;
            puts = λ q. ap (value_if q) e.2 ∙ if-put e.0 v name q (named e.0 e.1);
            holds = λ q other. if-named (in_slot slots slot) name q s.1 other;
          }

      -- the name stands there still
      pub slot-still : (slot ≡ slot_of name) × (is_named (in_slot (slice_set slots slot y) slot) name ≡ true)
      slot-still =
          let e = there in (
            s.0,
            ap (λ (x : Option (Name × V)). is_named x name) (get_or-set_same slots slot y None (within-named slots slot name s.1) ∙ e.2) ∙ named e.0 e.1,
          )
