-- A slot with a session and the parts of a box own what a box owns.
use Rattle.std.proofs.Common.{◌≡◌, [], refl, subst}
use mathlib.Core.Bool.{Bool, true, not}
use lib.Dec.{T}
use Rattle.std.specs.Prelude.{Option, Some, None, is_some}
use mir.Syntax.{impl, tnil, dnil}
use denote.RattleType.{RattleType}
use Rattle.std.proofs.BoxSteps.Form.{Bx}
use Rattle.std.specs.contracts.alloc.Global as heap
use Rattle.std.specs.contracts.impls.GlobalAllocator.TheImpl.{ghosts, dict}
use Rattle.std.proofs.alloc.Global.TheLaws as heap_laws
use Rattle.zugrenja_c.specs.contracts.session.Session as Session
use Rattle.zugrenja_c.proofs.session.Session.TheLaws as session_laws
use Rattle.zugrenja_c.specs.contracts.raw_box.RawBox as RawBox
use Rattle.zugrenja_c.specs.contracts.handle.Slot as SlotRow

abbrev pub E : Bx
E = record { row = Session.the_row; laws = session_laws.the_row_laws; al = record { row = heap.the_row; laws = heap_laws.the_row_laws; g = ghosts; d = dict; drops = impl [] tnil dnil } }

abbrev pub Slotted : RattleType
Slotted = SlotRow.the_row

abbrev pub Raw : RattleType
Raw = RawBox.the_row Session.the_row heap.the_row ghosts

pub some_of : {X : Type 0} (v : Option X) → is_some v ≡ true → (x : X) × (v ≡ Some x)
some_of (Some x) e = (x, refl)
some_of None e = absurd (subst (λ (y : Bool). T (not y)) e tt)
