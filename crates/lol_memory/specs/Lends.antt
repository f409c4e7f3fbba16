-- What a `LimitedVec` ends as, where a `&mut` to its elements is returned.
use Rattle.std.specs.Prelude.{◌-◌, List, Option, length, slice_set}
use Rattle.std.specs.List.{refill}
use Rattle.std.specs.Borrow.{Lends, LendsIf, Fml, RattleType, MutBor, Array}
use Rattle.lol_memory.specs.LimitedVec.{LimitedVec, with_items}
use Rattle.lol_memory.specs.contracts.limited_vec.LimitedVec.{the_row}

module _ (T : RattleType) (v : MutBor (LimitedVec T.Denot)) where
  -- once the borrow r ends, the last element is what r shows last, and at `None` the vector stays as it is
  abbrev pub lends_last : Option (MutBor T.Denot) → Fml
  lends_last r =
      LendsIf (the_row T) T v r (λ x. with_items v.now (slice_set v.now.items (length v.now.items - 1) x)) v.now

  -- once the borrow r ends, the elements are those that r shows last
  abbrev pub lends_slice : MutBor (List T.Denot) → Fml
  lends_slice r = Lends (the_row T) (Array T 0) v r (λ xs. with_items v.now (refill (length v.now.items) v.now.items xs))
