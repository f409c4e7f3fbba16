-- A list with room, once a handler was called at one item more.
use Rattle.std.proofs.Common.{◌≡◌, ℕ, ◌≤◌, List, [], ◌∷◌, ◌++◌, length, ap, ◌∙◌, arith, length-append, Vec, vec_capacity}
use Rattle.lol_machine.specs.ReportRoom.{TakesInRoom}

-- it has these items, in the room that it had, if they fit
abbrev pub HasTaken : {T A : Type 0} → ℕ → List T → Vec T A → Type 0
HasTaken room xs v = length xs ≤ room → (v.items ≡ xs) × (vec_capacity v ≡ room)

pub takes_on : {T A : Type 0} (room : ℕ) (xs : List T) (x : T) (old new : Vec T A) → HasTaken room xs old → TakesInRoom old x new → HasTaken room (xs ++ x ∷ []) new
takes_on room xs x old new has takes within =
    let size = length-append xs (x ∷ []) in
    let before = has (omega (arith, within, size)) in
    let as_long = ap length before.0 in
    let after = takes (omega (arith, within, size, as_long, before.1)) in
    (after.0 ∙ ap (λ ys. ys ++ x ∷ []) before.0, after.1 ∙ before.1)
