-- What is behind the last ampersand.
use Rattle.lol_references.proofs.Pieces.{rest_added}
use Rattle.lol_references.proofs.decode.append_parts.Goals as goal

pub returns-clause-decoded : goal.returns-clause-decoded
returns-clause-decoded c =
    rest_added c.extend_from_slice.result c.loop-place.into.items c.extend_from_slice.new.self.items c.loop-place.rest.now _
    c.in_default.ensures c.extend_from_slice.ensures.items c.loop-place.invariant.decoded
