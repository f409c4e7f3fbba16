-- What rows find of ranges, one range after the other.
use Rattle.lol_machine.proofs.Common.{◌≡◌, ℕ, ◌+◌, ◌-◌, ◌<◌, ◌≤◌, Bool, false, ◌||◌, list_any, List, [], ◌∷◌, ◌++◌, length, take, drop, get_or, sym, ap, ◌∙◌, arith, Range, append-nil, take-append-drop, take_all, addresses, all_addresses}
use Rattle.std.proofs.lemmas.List.{length-append, take_more}
use Rattle.std.proofs.lemmas.Grind.{flat_map-append}
use Rattle.std.proofs.lemmas.Result.{on_ok_weaker}
use Rattle.std.proofs.lemmas.List.FromFn.{length-range_with_len}
use Rattle.lol_instructions.specs.declared.instruction.Instruction.{Instruction}
use Rattle.std.proofs.Common.{true, Option, Some, None, Result, Ok, Err, Contains, subst, Bor}
use Rattle.std.specs.Prelude.{OnOk}
use Rattle.std.specs.Result.{is_ok}
use Rattle.std.specs.Bool.{then_some}
use Rattle.std.specs.Prelude.{slice_get}
use Rattle.std.specs.Option.{option_copied}
use Rattle.lol_base.specs.PlaceLaws.{some_is}
use Rattle.lol_instructions.specs.Attributes.{TagAttributes}
use Rattle.lol_rows.specs.KeyHashes.{name_hashes}
use Rattle.lol_rows.specs.LeftLaws.{names_hold}
use Rattle.lol_base.specs.LocalNames.{Name}
use Rattle.lol_rows.specs.declared.rows.Rows.{Rows}
use Rattle.lol_rows.specs.declared.tag_keys.TagKeys.{TagKeys}
use Rattle.lol_rows.specs.Rows.{hash_by, is_left_by_keys, kind_for, leaves_seen, name_hash_of, passing, some_pass, AreItsHashes, AreRowsOf, HoldEach}
use Rattle.lol_stack.specs.WithRange.{no_range}
use Rattle.lol_machine.specs.SparedRuns.{all_passing}
use Rattle.lol_machine.specs.SparedLaws.{any_append, passing_few}
use Rattle.lol_machine.proofs.RangeSteps.{first_left}

module _ (p : Instruction → Bool) (instructions : List Instruction) (ranges : List (Range ℕ)) where
  pub found_all : (i : ℕ) → length ranges ≤ i → all_passing p instructions (take i ranges) ≡ all_passing p instructions ranges
  found_all i all = ap (all_passing p instructions) (take_all i ranges all)

  module _ (i : ℕ) (r : Range ℕ) (within : i < length ranges) (at : r ≡ get_or ranges i no_range) where
    parts : ranges ≡ take i ranges ++ r ∷ drop (i + 1) ranges
    parts = sym (take-append-drop i ranges) ∙ ap (λ rs. take i ranges ++ rs) (first_left ranges i r within at)

    pub found_more : all_passing p instructions (take (i + 1) ranges) ≡ all_passing p instructions (take i ranges) ++ passing p instructions r
    found_more =
        ap (all_passing p instructions) (take_more ranges i no_range within ∙ ap (λ x. take i ranges ++ x ∷ []) (sym at))
        ∙ (flat_map-append (passing p instructions) (take i ranges) (r ∷ []) ∙ ap (λ xs. all_passing p instructions (take i ranges) ++ xs) (append-nil (passing p instructions r)))

    -- there is room for the rest of what is found
    pub found_room : length (all_passing p instructions (take i ranges)) + (r.end - r.start) ≤ length (all_addresses ranges)
    found_room =
        let front = passing_few p instructions (take i ranges) in
        let here = length-range_with_len r.start (r.end - r.start) in
        let all = ap (λ rs. length (all_addresses rs)) parts ∙ ap length (flat_map-append addresses (take i ranges) (r ∷ drop (i + 1) ranges)) ∙ length-append (all_addresses (take i ranges)) (all_addresses (r ∷ drop (i + 1) ranges)) in
        let back = length-append (addresses r) (all_addresses (drop (i + 1) ranges)) in
        omega (arith, front, here, all, back)

    -- where none of the ranges before has one that passes, nor has this one
    pub none_more : list_any (some_pass p instructions) (take i ranges) ≡ false → some_pass p instructions r ≡ false → list_any (some_pass p instructions) (take (i + 1) ranges) ≡ false
    none_more before here =
        ap (list_any (some_pass p instructions)) (take_more ranges i no_range within ∙ ap (λ x. take i ranges ++ x ∷ []) (sym at))
        ∙ (any_append (some_pass p instructions) (take i ranges) (r ∷ []) ∙ λ j. before j || (here j || false))

-- What rows are given of a tag are its hashes

held_by_name : (instructions : List Instruction) (name : List ℕ) (o : Option TagAttributes) (hashes : List ℕ) → o ≡ None → hashes ≡ name_hashes name
    → (address : ℕ) (i : Instruction) → slice_get instructions address ≡ Some i → leaves_seen name o i ≡ true → Contains hashes (hash_by (kind_for o) i)
held_by_name instructions name None hashes none are address i at left = subst (λ (l : List ℕ). Contains l (name_hash_of i)) (sym are) (names_hold name instructions address i at left)
held_by_name instructions name (Some seen) hashes none are address i at left = cc

held_by_keys : (instructions : List Instruction) (name : List ℕ) (o : Option TagAttributes) (seen : TagAttributes) (hashes : List ℕ) → o ≡ Some seen → HoldEach hashes (kind_for (Some seen)) (is_left_by_keys name seen) instructions
    → (address : ℕ) (i : Instruction) → slice_get instructions address ≡ Some i → leaves_seen name o i ≡ true → Contains hashes (hash_by (kind_for o) i)
held_by_keys instructions name None seen hashes some hold address i at left = cc
held_by_keys instructions name (Some given) seen hashes some hold address i at left = hold address i at (subst (λ (s : TagAttributes). is_left_by_keys name s i ≡ true) (some_is some) left)

pub its_by_name : (instructions : List Instruction) (keys : TagKeys) (hashes : List ℕ) → option_copied keys.attributes ≡ None → option_copied keys.hashes ≡ Some hashes → hashes ≡ name_hashes keys.name.now.lowercased → AreItsHashes instructions keys
its_by_name instructions keys hashes none given are others is address i at left =
    held_by_name instructions keys.name.now.lowercased (option_copied keys.attributes) others none (some_is (sym is ∙ given) ∙ are) address i at left

pub its_by_keys : (instructions : List Instruction) (keys : TagKeys) (seen : TagAttributes) → option_copied keys.attributes ≡ Some seen
    → ((hashes : List ℕ) → option_copied keys.hashes ≡ Some hashes → HoldEach hashes (kind_for (Some seen)) (is_left_by_keys keys.name.now.lowercased seen) instructions) → AreItsHashes instructions keys
its_by_keys instructions keys seen given hold others is address i at left =
    held_by_keys instructions keys.name.now.lowercased (option_copied keys.attributes) seen others given (hold others is) address i at left

-- hashes are given where none was refused
pub held_if_ok : {T X : Type 0} (r : Result T X) (ok : Bool) (P : List ℕ → Type 0) (slice : Bor (List ℕ)) (given : Option (Bor (List ℕ))) (items others : List ℕ)
    → ok ≡ is_ok r → given ≡ then_some ok slice → slice.now ≡ items → OnOk r (P items) → option_copied given ≡ Some others → P others
held_if_ok (Ok v) ok P slice given items others told is are hold same =
    subst P (sym are ∙ some_is (ap option_copied (sym (is ∙ ap (λ (b : Bool). then_some b slice) told)) ∙ same)) hold
held_if_ok (Err error) ok P slice given items others told is are hold same = absurd (none_some (ap option_copied (sym (is ∙ ap (λ (b : Bool). then_some b slice) told)) ∙ same))
  where
    none_some : None ≡ Some others → ⊥
    none_some h = let it = h in cc

-- what rows were given after their hashes were added
pub its_by_added : {T X : Type 0} (instructions : List Instruction) (rows : Rows) (keys : TagKeys) (name : Name) (seen : TagAttributes) (r : Result T X) (ok : Bool) (slice : Bor (List ℕ)) (given : Option (Bor (List ℕ))) (items : List ℕ)
    → keys.name.now ≡ name → option_copied keys.attributes ≡ Some seen → option_copied keys.hashes ≡ option_copied given → ok ≡ is_ok r → given ≡ then_some ok slice → slice.now ≡ items
    → OnOk r ((all : List Instruction) → AreRowsOf all rows → HoldEach items (kind_for (Some seen)) (is_left_by_keys name.lowercased seen) all) → AreRowsOf instructions rows → AreItsHashes instructions keys
its_by_added instructions rows keys name seen r ok slice given items named seen_are given_are told is are each own =
    its_by_keys instructions keys seen seen_are
    (λ others same. held_if_ok r ok (λ l. HoldEach l (kind_for (Some seen)) (is_left_by_keys keys.name.now.lowercased seen) instructions) slice given items others told is are
    (on_ok_weaker r (λ hold. subst (λ (n : Name). HoldEach items (kind_for (Some seen)) (is_left_by_keys n.lowercased seen) instructions) (sym named) (hold instructions own)) each)
    (sym given_are ∙ same))
