use Rattle.lol_base.specs.ListLaws.{agreed, agreed_more, at_place, same_length, reverse-map}
use Rattle.std.proofs.Common.{◌≡◌, ℕ, ◌-◌, ◌<◌, List, true≢false, refl, arith, length, get_or, reverse, ap, sym, ◌∙◌}
use Rattle.lol_css.specs.declared.selector.SimpleSelector.{SimpleSelector}
use Rattle.std.proofs.lemmas.List.{length-reverse, get_or-reverse}
use Rattle.lol_instructions.specs.Compounds.{all_of}
use Rattle.lol_program.specs.Predicates.{test_shown}
use Rattle.lol_program.proofs.Tests.{test_in, all_of-equal, compound_tests-parts}
use Rattle.lol_program.proofs.predicate.are_of_reversed.Goals as goal

-- the part that is compared at i is the one at i from the right
turned : (parts : List SimpleSelector) (i : ℕ) (part : SimpleSelector) → i < length parts → part ≡ get_or parts (length parts - 1 - i) part → part ≡ get_or (reverse parts) i part
turned parts i part within at = at ∙ sym (get_or-reverse parts i part within)

pub loop-i-preserved : goal.loop-i-preserved
loop-i-preserved c =
    let parts = c.args.parts.now in
    agreed_more test_shown test_in c.args.tests.now (reverse parts) c.loop-i.i c.index-tests-i.result c.index-parts-parts.result c.loop-i-test.true (c.if-tests-parts.false ∙ sym (length-reverse parts)) c.index-tests-i.is
    (turned parts c.loop-i.i c.index-parts-parts.result (omega (arith, c.loop-i-test.true, c.if-tests-parts.false)) c.index-parts-parts.is) (c.is_of.ensures.0 c.if-not-is_of.false) c.loop-i.invariant

pub returns : goal.returns
returns c =
    let tests = c.args.tests.now in
    let parts = c.args.parts.now in (
      λ u. ap all_of (agreed test_shown test_in tests (reverse parts) (c.if-tests-parts.false ∙ sym (length-reverse parts)) (λ k a b within. c.loop-i.invariant k a b (omega (arith, within, c.loop-i-test.false))) ∙ sym (reverse-map test_in parts)) ∙ sym (compound_tests-parts parts),
      λ u. refl,
    )

pub returns-then-not-is_of : goal.returns-then-not-is_of
returns-then-not-is_of c =
    let tests = c.args.tests.now in
    let parts = c.args.parts.now in
    let at = turned parts c.loop-i.i c.index-parts-parts.result (omega (arith, c.loop-i-test.true, c.if-tests-parts.false)) c.index-parts-parts.is in (
      λ u. absurd (true≢false (sym u)),
      λ e. absurd (true≢false (sym (c.is_of.ensures.1
          (ap test_shown c.index-tests-i.is ∙ at_place test_shown test_in tests (reverse parts) c.loop-i.i c.index-tests-i.result c.index-parts-parts.result (all_of-equal _ _ (e ∙ compound_tests-parts parts) ∙ reverse-map test_in parts) c.loop-i-test.true ∙ ap test_in (sym at)))
          ∙ c.if-not-is_of.true)),
    )

pub returns-then-tests-parts : goal.returns-then-tests-parts
returns-then-tests-parts c =
    let parts = c.args.parts.now in (
      λ u. absurd (true≢false (sym u)),
      λ e. absurd (c.if-tests-parts.true (same_length test_shown test_in c.args.tests.now (reverse parts) (all_of-equal _ _ (e ∙ compound_tests-parts parts) ∙ reverse-map test_in parts) ∙ length-reverse parts)),
    )
