-- What a contract sees of a `Drain`.
use Rattle.std.specs.Prelude.{◌≡◌, List, [], ◌∷◌, take, drop, reverse, Option, MatchOption}
use Rattle.std.specs.Borrow.{GName}
use Rattle.std.specs.Iterator.{Yields}
use Rattle.lol_memory.specs.LimitedVec.{LimitedVec, with_items}
use Rattle.lol_memory.specs.declared.limited_vec.Drain.{Drain}

module _ {T : Type 0} where
  -- the elements that are still to come
  abbrev pub drain_rest : Drain T → List T
  drain_rest d = reverse (drop d.keep d.vec.now.items)

  -- the list once the `Drain` is dropped
  abbrev pub drain_left : Drain T → LimitedVec T
  drain_left d = with_items d.vec.now (take d.keep d.vec.now.items)

  -- the ghost name of the reference to the list
  abbrev pub drain_lender : Drain T → GName
  drain_lender d = d.vec.ghost_name

  -- old and new borrow the same list, and leave it the same
  abbrev pub DrainKeeps : Drain T → Drain T → Type 0
  DrainKeeps old new = (drain_lender new ≡ drain_lender old) × (drain_left new ≡ drain_left old)

  -- `next` took old to new, and returned the first element
  abbrev pub DrainSteps : Drain T → Option T → Drain T → Type 0
  DrainSteps old item new =
      MatchOption item ((drain_rest old ≡ []) × (new ≡ old)) (λ x. (drain_rest old ≡ x ∷ drain_rest new) × DrainKeeps old new)

  -- each state that calls of `next` lead to keeps what the first keeps
  abbrev pub DrainKeepsAlong : Drain T → Type 0
  DrainKeepsAlong first = (items : List T) (later : Drain T) → Yields DrainSteps first items later → DrainKeeps first later
