-- One part more is decoded.
use Rattle.std.proofs.Common.{◌∙◌, ◌+◌, ap, drop, add-one}
use Rattle.std.proofs.lemmas.List.{take_rest}
use Rattle.lol_references.proofs.Pieces.{part_added}
use Rattle.lol_references.proofs.decode.append_part.Goals as goal

pub returns-clause-decoded : goal.returns-clause-decoded
returns-clause-decoded c =
    let rest = c.args.rest.now in
    let place = c.args.place in
    let taken = c.in_ok-taken.taken in
    part_added c.args.into.now.items _ _ rest _ _ place taken c.requires
    c.in_ok-extend_from_slice.ensures.items c.in_ok-taken.ensures.characters
    (take_rest rest (place + 1) ∙ ap (λ n. drop n rest) (add-one place)) c.in_ok-taken.ensures.taken (take_rest _ taken)
