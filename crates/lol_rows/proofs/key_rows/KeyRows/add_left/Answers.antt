use Rattle.std.proofs.Common.{◌≡◌, ◌++◌, Bool, true, Result, Ok, Err, List, ℕ, ap, sym, ◌∙◌, arith, length, refl}
use Rattle.std.specs.Prelude.{OnOk, is_ok, if◌then◌else◌}
use Rattle.std.specs.Option.{option_copied}
use Rattle.lol_rows.specs.Rows.{leaves, passing}
use Rattle.lol_rows.proofs.key_rows.KeyRows.add_left.Goals as goal

from_ok : {T X : Type 0} (r : Result T X) (P : Type 0) → OnOk r P → is_ok r ≡ true → P
from_ok (Ok v) P h is = h
from_ok (Err error) P h is = cc

where_ok : {T X : Type 0} (r : Result T X) (P : Type 0) → (is_ok r ≡ true → P) → OnOk r P
where_ok (Ok v) P h = h refl
where_ok (Err error) P h = tt

pub returns-then-is_ok-clause-left : goal.returns-then-is_ok-clause-left
returns-then-is_ok-clause-left c = where_ok c.extend_from_slice.result _ (λ done kind can.
    let old = c.args.left.now.items in
    let found = from_ok c.find_left.result _ c.find_left.ensures (sym c.if-is_ok.ensures.value) kind can (ap option_copied c.in-Some.is) in
    c.extend_from_slice.ensures.items
    ∙ (ap (λ (b : Bool). if b then old ++ c.deref.result.now else old) done ∙ ap (λ (l : List ℕ). old ++ l) (c.deref.ensures.value ∙ found)))

pub returns-then-is_ok-clause-no_memory : goal.returns-then-is_ok-clause-no_memory
returns-then-is_ok-clause-no_memory c = λ kind can room.
    let found = from_ok c.find_left.result _ c.find_left.ensures (sym c.if-is_ok.ensures.value) kind can (ap option_copied c.in-Some.is) in
    let many : length c.deref.result.now ≡ length (passing (leaves c.args.keys.now) c.args.instructions.now c.args.range.now) = ap length (c.deref.ensures.value ∙ found) in
    c.extend_from_slice.ensures.succeeds (omega (arith, room, many))
