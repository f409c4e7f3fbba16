use Rattle.lol_base.specs.ListLaws.{reverse-map}
use Rattle.std.proofs.Common.{[], ◌∷◌, ◌++◌, map, sym, ap, ◌∙◌, Bor}
use Rattle.std.proofs.lemmas.List.{map-append}
use Rattle.std.proofs.lemmas.Iterator.Adapters.{YieldsList-from_rev_slice}
use Rattle.std.proofs.lemmas.Iterator.Consumers.{YieldsList-end}
use Rattle.lol_css.specs.declared.selector.SimpleSelector.{SimpleSelector}
use Rattle.lol_instructions.specs.Compounds.{all_of}
use Rattle.lol_program.specs.Predicates.{test_shown}
use Rattle.lol_program.proofs.Tests.{test_in, compound_tests-parts}
use Rattle.lol_program.proofs.predicate.Predicate.from_compound.Goals as goal

pub loop-part-preserved : goal.loop-part-preserved
loop-part-preserved c =
    let now = λ (part : Bor SimpleSelector). part.now in
    ap (map test_shown) c.in_ok-push.ensures.items ∙ map-append test_shown c.loop-part.tests.items _ ∙ (λ i. c.loop-part.invariant i ++ c.in_ok-from_part.ensures i ∷ [])
    ∙ sym (ap (map test_in) (map-append now c.loop-part.yielded _) ∙ map-append test_in (map now c.loop-part.yielded) _)

pub returns : goal.returns
returns c =
    let parts = c.args.compound.now.parts.items in
    let all = YieldsList-end (YieldsList-from_rev_slice parts (cc)) c.loop-part.yielded _ c.loop-part.yielded_by _ _ c.in-None.is c.next.ensures.steps in
    ap all_of (c.loop-part.invariant ∙ ap (map test_in) all.0 ∙ sym (reverse-map test_in parts)) ∙ sym (compound_tests-parts parts)
