use Rattle.std.proofs.Common.{◌≡◌, map, Bor}
use Rattle.std.specs.Prelude.{fold}
use Rattle.lol_css.specs.declared.selector.SimpleSelector.{SimpleSelector}
use Rattle.lol_program.specs.NodeKeys.{byte_hashed, test_hashed}
use Rattle.lol_program.proofs.Tests.{test_in}
use Rattle.lol_program.proofs.node_key.node_key.Given as goal

abbrev pub invariant-loop-part : goal.invariant-loop-part
invariant-loop-part l =
    l.hasher ≡ fold test_hashed (byte_hashed l.list l.salt) (map test_in (map (λ (part : Bor SimpleSelector). part.now) l.yielded))
