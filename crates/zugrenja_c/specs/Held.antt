-- What stands behind a slot that C keeps: a session in a box of its own, or nothing.
use Rattle.std.specs.Prelude.{Option, Some, None}
use base.Fml.{Fml, ftrue}
use denote.RawPtr.{Ptr}
use Rattle.std.specs.declared.alloc.Global.{Global}
use Rattle.std.specs.contracts.impls.GlobalAllocator.TheImpl.{ghosts}
use Rattle.std.specs.Box.Ownership.{box_owns}
use Rattle.zugrenja_c.specs.contracts.session.Session.{the_row}
use Rattle.zugrenja_c.specs.declared.session.Session.{Session}

abbrev pub held : Global → Ptr → Option Session → Fml
held a p (Some x) = box_owns (ghosts.dealloc_token a) the_row p x
held a p None = ftrue
