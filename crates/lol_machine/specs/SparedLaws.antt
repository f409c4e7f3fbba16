-- What passes of ranges, and how much.
use Rattle.std.proofs.Common.{◌≡◌, ℕ, ◌≤◌, Bool, true, false, ◌||◌, cond, List, [], ◌∷◌, ◌++◌, length, filter, refl, sym, ap, ◌∙◌, arith}
use Rattle.std.proofs.lemmas.List.Elements.{filter-append}
use Rattle.std.specs.List.{list_any}
use Rattle.std.specs.declared.ops.Range.{Range}
use Rattle.lol_instructions.specs.declared.instruction.Instruction.{Instruction}
use Rattle.lol_program.specs.Programs.{addresses, all_addresses}
use Rattle.lol_rows.specs.Rows.{passes_at, passing}
use Rattle.lol_machine.specs.SparedRuns.{all_passing}

-- what passes range by range is what passes of all addresses
pub passing_all : (left : Instruction → Bool) (instructions : List Instruction) (ranges : List (Range ℕ)) → all_passing left instructions ranges ≡ filter (passes_at left instructions) (all_addresses ranges)
passing_all left instructions [] = refl
passing_all left instructions (r ∷ ranges) =
    ap (λ xs. passing left instructions r ++ xs) (passing_all left instructions ranges) ∙ sym (filter-append (passes_at left instructions) (addresses r) (all_addresses ranges))

pub any_append : {T : Type 0} (q : T → Bool) (xs ys : List T) → list_any q (xs ++ ys) ≡ (list_any q xs || list_any q ys)
any_append q [] ys = refl
any_append q (x ∷ xs) ys = by_test (q x) (any_append q xs ys)
  where
    by_test : (b : Bool) → list_any q (xs ++ ys) ≡ (list_any q xs || list_any q ys) → (b || list_any q (xs ++ ys)) ≡ ((b || list_any q xs) || list_any q ys)
    by_test true more = refl
    by_test false more = more

filter_few : (q : ℕ → Bool) (xs : List ℕ) → length (filter q xs) ≤ length xs
filter_few q [] = omega arith
filter_few q (x ∷ xs) = by_test (q x) (filter_few q xs)
  where
    by_test : (b : Bool) → length (filter q xs) ≤ length xs → length (cond b (x ∷ filter q xs) (filter q xs)) ≤ length (x ∷ xs)
    by_test true few = omega (arith, few)
    by_test false few = omega (arith, few)

-- no more passes than there is
pub passing_few : (left : Instruction → Bool) (instructions : List Instruction) (ranges : List (Range ℕ)) → length (all_passing left instructions ranges) ≤ length (all_addresses ranges)
passing_few left instructions ranges =
    let found = ap length (passing_all left instructions ranges) in
    let few = filter_few (passes_at left instructions) (all_addresses ranges) in
    omega (arith, found, few)
