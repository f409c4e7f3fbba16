-- Lists that a stack keeps.
use Rattle.std.proofs.Common.{◌≡◌, ◌∙◌, sym, ap, refl, ℕ, Bool, true, false, nat_lt, List, [], ◌∷◌, ◌++◌, length, take, Some, None, append_assoc}
use Rattle.std.specs.Bool.{if◌then◌else◌}
use Rattle.std.proofs.lemmas.List.{append-nil}
use Rattle.std.proofs.Math.Seq.{take-append_seam}
use Rattle.std.specs.declared.ops.Range.{Range}
use Rattle.lol_stack.specs.Active.{activated, is_range_active}
use Rattle.lol_stack.specs.Levels.{without_last}
use Rattle.lol_stack.specs.Stacks.{last_below}
use Rattle.lol_stack.specs.TypedListLaws.{without_last-push}

pub last_below-push : (n : ℕ) (depths : List ℕ) (depth : ℕ) → last_below n (depths ++ depth ∷ []) ≡ (if nat_lt depth n then Some depth else None)
last_below-push n [] depth = refl
last_below-push n (p ∷ []) depth = refl
last_below-push n (p ∷ q ∷ depths) depth = last_below-push n (q ∷ depths) depth

-- active ranges are only added after those that were there
pub record Extends (active more : List (Range ℕ × ℕ)) : Type 0 where
  pub added : List (Range ℕ × ℕ)
  pub whole : more ≡ active ++ added

pub activated-extends : (active : List (Range ℕ × ℕ)) (depth : ℕ) (ranges : List (Range ℕ)) → Extends active (activated active depth ranges)
activated-extends active depth [] = record { added = []; whole = sym (append-nil active) }
activated-extends active depth (r ∷ ranges) =
    elim (is_range_active active r) as
    (λ there. Extends active (activated (if there then active else active ++ (r, depth) ∷ []) depth ranges)) [
      | true ↦ activated-extends active depth ranges
      | false ↦
          let more = activated-extends (active ++ (r, depth) ∷ []) depth ranges in
          record { added = (r, depth) ∷ more.added; whole = more.whole ∙ append_assoc active ((r, depth) ∷ []) more.added }
    ]

-- so that what was added can be dropped again
pub take-activated : (active : List (Range ℕ × ℕ)) (depth : ℕ) (ranges : List (Range ℕ)) → take (length active) (activated active depth ranges) ≡ active
take-activated active depth ranges =
    let more = activated-extends active depth ranges in
    ap (take (length active)) more.whole ∙ take-append_seam active more.added

-- a depth that was added and taken off again
pub depth-undone : (own : Bool) (old added removed : List ℕ) (depth : ℕ) → added ≡ (if own then old ++ depth ∷ [] else old)
    → removed ≡ (if own then without_last added else added) → removed ≡ old
depth-undone true old added removed depth adds removes = removes ∙ (ap without_last adds ∙ without_last-push old depth)
depth-undone false old added removed depth adds removes = removes ∙ adds
