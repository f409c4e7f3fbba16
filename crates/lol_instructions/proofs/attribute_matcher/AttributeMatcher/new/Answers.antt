use Rattle.lol_instructions.proofs.MatcherLemmas.{Walked-init, Walked-more, Walked-all, walked_marked}
use Rattle.lol_instructions.proofs.attribute_matcher.AttributeMatcher.new.Goals as goal

pub loop-outline-init : goal.loop-outline-init
loop-outline-init c = Walked-init _ c.args.attributes.now.items _

pub loop-outline-preserved : goal.loop-outline-preserved
loop-outline-preserved c =
    let before = rw (← c.deref-outline-items.ensures.value) at c.loop-outline.invariant in
    rw (← c.deref-outline-items.ensures.value)
    (Walked-more c.as_slice-input.result.now c.deref-outline-items.result.now c.loop-outline.outline-index _ c.loop-outline.marks c.of_name.result c.with-marks.result _ _ _ _
    c.loop-outline-test.true before c.of_name.ensures c.with-marks.ensures c.first_value-id.ensures c.first_value-class.ensures)

pub invariant_of-result : goal.invariant_of-result
invariant_of-result c =
    let before = rw (← c.deref-outline-items.ensures.value) at c.loop-outline.invariant in
    let walked = Walked-all c.as_slice-input.result.now c.deref-outline-items.result.now c.loop-outline.outline-index c.loop-outline.marks _ _ c.loop-outline-test.false before in
    let all = rw c.deref-outline-items.ensures.value at walked in
    record {
      inside = rw c.as_slice-input.ensures c.requires;
      id = all.id_value;
      class = all.class_value;
      marked = walked_marked c.as_slice-input.result.now c.args.attributes.now.items c.args.ns c.with_words.result c.loop-outline.marks c.with_id.result _ _ all c.with_id.ensures.before c.with_id.ensures.id c.with_words.ensures.before c.with_words.ensures.words;
    }
