-- A part more is read.
use Rattle.std.proofs.Common.{◌≡◌, ◌++◌, Option, [], sym, ap, ◌∙◌, arith}
use Rattle.std.proofs.lemmas.List.{append-nil}
use Rattle.lol_base.specs.declared.start_tag.AttributeOutline.{AttributeOutline}
use Rattle.lol_tags.specs.Runs.{with_some}
use Rattle.lol_tags.specs.Attributes.{attribute_step, attribute_ended}
use Rattle.lol_tags.proofs.Steps.{run-part, given-behind, begins-with, part-within}
use Rattle.lol_tags.proofs.attributes.push_found.Goals as goal

-- an outline was added
pub loop-i-preserved-in-Continue-1 : goal.loop-i-preserved-in-Continue-1
loop-i-preserved-in-Continue-1 c =
    let part = c.read_part-taken in
    let so_far = c.loop-i.outlines.items in
    let added : c.push.new.self.items ≡ so_far ++ with_some part.result.1 [] =
    c.in_ok-push.ensures.items ∙ ap (λ (x : Option AttributeOutline). so_far ++ with_some x []) (sym c.in-Some.is) in
    let told = added
    ∙ given-behind attribute_step attribute_ended c.args.reader c.loop-i.reader c.args.rest.now c.loop-i.i part.result.0 c.args.outlines.now.items
    so_far (with_some part.result.1 []) c.loop-i.invariant.stands c.loop-i.invariant.read part.ensures.outline in
    record {
      within = part-within c.args.rest.now c.loop-i.i part.result.0 c.loop-i.invariant.within part.ensures.within;
      stands = run-part attribute_step c.args.reader c.loop-i.reader part.new.self c.args.rest.now c.loop-i.i part.result.0
          c.loop-i.invariant.stands part.ensures.after;
      read = told;
      kept = begins-with c.args.outlines.now.items _ c.push.new.self.items told;
      at = omega (arith, part.ensures.at, c.loop-i.invariant.at);
    }

-- none was
pub loop-i-preserved : goal.loop-i-preserved
loop-i-preserved c =
    let part = c.read_part-taken in
    let so_far = c.loop-i.outlines.items in
    let added : so_far ≡ so_far ++ with_some part.result.1 [] =
    sym (ap (λ (x : Option AttributeOutline). so_far ++ with_some x []) c.in_default.is ∙ append-nil so_far) in
    record {
      within = part-within c.args.rest.now c.loop-i.i part.result.0 c.loop-i.invariant.within part.ensures.within;
      stands = run-part attribute_step c.args.reader c.loop-i.reader part.new.self c.args.rest.now c.loop-i.i part.result.0
          c.loop-i.invariant.stands part.ensures.after;
      read = added
          ∙ given-behind attribute_step attribute_ended c.args.reader c.loop-i.reader c.args.rest.now c.loop-i.i part.result.0 c.args.outlines.now.items
          so_far (with_some part.result.1 []) c.loop-i.invariant.stands c.loop-i.invariant.read part.ensures.outline;
      kept = c.loop-i.invariant.kept;
      at = omega (arith, part.ensures.at, c.loop-i.invariant.at);
    }
