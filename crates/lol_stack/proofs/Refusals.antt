-- Facts of refused calls.
use Rattle.std.proofs.Common.{OnErr, OnOk, Result, Ok, Err}

-- what holds anyway holds after a refusal
pub on_err : {T E : Type 0} {P : Type 0} (r : Result T E) → P → OnErr r P
on_err (Ok x) p = tt
on_err (Err e) p = p

-- what follows from what holds after a refusal
pub on_err_then : {T E : Type 0} {P Q : Type 0} (r : Result T E) → OnErr r P → (P → Q) → OnErr r Q
on_err_then (Ok x) p f = tt
on_err_then (Err e) p f = f p

-- and from what holds where nothing was refused
pub on_ok_then : {T E : Type 0} {P Q : Type 0} (r : Result T E) → OnOk r P → (P → Q) → OnOk r Q
on_ok_then (Ok x) p f = f p
on_ok_then (Err e) p f = tt
