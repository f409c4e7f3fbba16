use Rattle.lol_base.specs.ListLaws.{reverse-map}
use Rattle.std.proofs.Common.{map, reverse, sym, ap, ◌∙◌}
use Rattle.std.specs.Prelude.{fold}
use Rattle.std.specs.Hash.DefaultHasher as sip
use Rattle.std.proofs.lemmas.Iterator.Adapters.{YieldsList-from_rev_slice}
use Rattle.std.proofs.lemmas.Iterator.Consumers.{YieldsList-end}
use Rattle.lol_program.specs.NodeKeys.{byte_hashed, test_hashed, compound_hashed}
use Rattle.lol_program.proofs.Keys.{all_hashed}
use Rattle.lol_program.proofs.Tests.{test_in, compound_tests-parts}
use Rattle.lol_program.proofs.node_key.node_key.Goals as goal

pub returns : goal.returns
returns c =
    let parts = c.args.compound.now.parts.items in
    let start = byte_hashed c.args.list.now c.args.salt in
    let all = YieldsList-end (YieldsList-from_rev_slice parts (cc)) c.loop-part.yielded _ c.loop-part.yielded_by _ _ c.in-None.is c.next.ensures.steps in
    let hashed = c.loop-part.invariant ∙ ap (fold test_hashed start) (ap (map test_in) all.0 ∙ sym (reverse-map test_in parts)) in
    c.finish.ensures ∙ ap sip.finish (c.write_u8-2.ensures ∙ ap (λ h. byte_hashed h 255) hashed ∙ sym (all_hashed start (reverse (map test_in parts))) ∙ ap (compound_hashed start) (sym (compound_tests-parts parts)))
