-- The bounds of a part, by those of all parts.
use Rattle.std.proofs.Common.{add-one}
use Rattle.lol_references.proofs.Parts.{bounds_of_parts}
use Rattle.lol_references.proofs.named.bounds.Goals as goal

pub returns-clause-rise : goal.returns-clause-rise
returns-clause-rise c =
    let place = c.args.place in
    let b = bounds_of_parts place (rw (← add-one place) c.requires) in
    rw (c.from.ensures, c.from-2.ensures, add-one place) b.rise

pub returns-clause-within : goal.returns-clause-within
returns-clause-within c =
    let place = c.args.place in
    let b = bounds_of_parts place (rw (← add-one place) c.requires) in
    rw (c.from-2.ensures, add-one place) b.within
